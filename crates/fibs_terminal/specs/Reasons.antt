-- Which reason is said of a decision that was refused (the project's own).
use Rattle.std.specs.Prelude.{◌≡◌, ℕ, Bool, true, false, not, if◌then◌else◌, List, codes, Option, Some}
use Rattle.fibs_fields.specs.Board.{BoardFields}
use Rattle.fibs_game.specs.declared.refusal.Refusal.{Refusal}
use Rattle.fibs_game.specs.declared.refusal.Refusal.TheVariants.{NoBoard, NotYours, WrongKind, IllegalPlay}
use Rattle.fibs_position.specs.DecisionValue.{DecisionValue, double}
use Rattle.fibs_session.specs.declared.histories.refusal.PlainRefusal.{PlainRefusal}
use Rattle.fibs_session.specs.declared.histories.refusal.PlainRefusal.TheVariants.{NotOn}
use Rattle.fibs_advice.specs.Doubling.{NamesNoDouble}
use Rattle.fibs_advice.specs.Standings.{is_in_match, is_told_by_text}
use Rattle.fibs_advice.specs.declared.standing.Standing.{Standing}
use Rattle.fibs_terminal.specs.declared.telling.Reason.{Reason}
use Rattle.fibs_terminal.specs.declared.telling.Reason.TheVariants as R

-- a refusal of what the board allows
abbrev pub is_of_board : Refusal → Bool
is_of_board NotYours = true
is_of_board WrongKind = true
is_of_board IllegalPlay = true
is_of_board why = false

-- to a user who is in no match it is said that he is in none; else the rule that is broken, if one is known
abbrev pub of_board : Refusal → Bool → Standing → Reason
of_board why has_rule standing =
    if not (is_in_match standing) then R.Words NoBoard else if has_rule then R.Rule else R.Words why

-- the reason: of a decision for which a text has called, that no board shows it; in a match of which no board has come,
-- that it will come
abbrev pub reason_of : Refusal → Bool → Standing → Reason
reason_of NoBoard has_rule standing = if is_in_match standing then R.ToCome else R.Words NoBoard
reason_of NotYours has_rule standing =
    if is_told_by_text standing then R.Unshown else of_board NotYours has_rule standing
reason_of WrongKind has_rule standing = of_board WrongKind has_rule standing
reason_of IllegalPlay has_rule standing = of_board IllegalPlay has_rule standing
reason_of why has_rule standing = R.Words why

-- a decision is a double that the client refuses for what the board shows
abbrev pub is_no_double : DecisionValue → Option Refusal → Bool
is_no_double double (Some NotYours) = true
is_no_double double (Some WrongKind) = true
is_no_double d why = false

-- of such a double it is kept why none can be made on the board that is shown; of any other decision nothing is
abbrev pub NotesNoDouble : Bool → Option BoardFields → List ℕ → List ℕ → Type 0
NotesNoDouble true (Some b) before after = NamesNoDouble b before after
NotesNoDouble is_refused shown before after = after ≡ before

-- what is said if there is no board of the user's own game, and what to type: he has no connection, or is in no match
abbrev pub no_game_words : Bool → List ℕ
no_game_words true = codes "There is no connection: type open."
no_game_words false = codes "You are in no match: invite NAME 5 begins one."

-- what is advised follows if a plain command was not sent since what it turns off is not on
abbrev pub asks_advice : PlainRefusal → Bool
asks_advice NotOn = true
asks_advice why = false
