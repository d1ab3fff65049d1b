-- What is remembered on a connection, each part in the box of what it is of (the project's own).
use Rattle.std.specs.Prelude.{◌≡◌, ◌≢◌, ◌⊎◌, ◌++◌, ◌==◌, ◌&&◌, ◌||◌, ℕ, ℤ, pos, int_le, List, [], codes, Bool, not, true, false, Option, Some, None, is_some, if◌then◌else◌}
use Rattle.std.specs.Ordering.{int_eq}
use Rattle.std.specs.Str.{bytes_eq}
use Rattle.fibs_fields.specs.Board.{BoardFields, field_of}
use Rattle.fibs_fields.specs.Split.{before}
use Rattle.arrayvec.specs.ArrayVec.{ArrayVec, array_vec_len}
use Rattle.fibs_events.specs.declared.told.Told.{Told}
use Rattle.fibs_events.specs.declared.told.Told.TheVariants as T
use Rattle.fibs_position.specs.Phases.{phase_of}
use Rattle.fibs_position.specs.declared.phase.Phase.{Phase}
use Rattle.fibs_position.specs.declared.phase.Phase.TheVariants as P
use Rattle.fibs_advice.specs.Standings.{has_offer, is_in_match, owes_answer}
use Rattle.fibs_advice.specs.declared.situation.BoardAsked.TheVariants as B
use Rattle.fibs_advice.specs.declared.situation.Game.{Game}
use Rattle.fibs_advice.specs.declared.situation.Inviter.{Inviter}
use Rattle.fibs_advice.specs.declared.situation.Kept.{Kept}
use Rattle.fibs_advice.specs.declared.situation.Left.{Left}
use Rattle.fibs_advice.specs.declared.situation.Left.TheVariants as L
use Rattle.fibs_advice.specs.declared.situation.Opponent.{Opponent}
use Rattle.fibs_advice.specs.declared.situation.Situation.{Situation}
use Rattle.fibs_advice.specs.declared.situation.Turn.{Turn}
use Rattle.fibs_advice.specs.declared.situation.Waiting.{Waiting}
use Rattle.fibs_advice.specs.declared.situation.Waiting.TheVariants as W
use Rattle.fibs_advice.specs.declared.standing.Shown.{Shown}
use Rattle.fibs_advice.specs.declared.standing.Shown.TheVariants as H
use Rattle.fibs_advice.specs.declared.standing.Standing.{Standing}
use Rattle.fibs_advice.specs.declared.standing.Standing.TheVariants as S

-- a match of this length is over, in which the sides have these points: 9999 is no length
abbrev pub is_won : ℤ → ℤ → ℤ → Bool
is_won length own other = not (int_eq length (pos 9999)) && (int_le length own || int_le length other)

-- the match of a board is over
abbrev pub is_match_over : BoardFields → Bool
is_match_over b = is_won (field_of b 4) (field_of b 5) (field_of b 6)

-- what a board says to who waits, by its phase, whether its match is over, and which decision waits
abbrev pub shown_of : Phase → Bool → Waiting → Shown
shown_of P.Over true waiting = H.MatchOver
shown_of P.Over false waiting = H.GameOver
shown_of P.AnswerDouble over W.Nothing = H.Double
shown_of P.AnswerDouble over waiting = H.DoubleStands
shown_of phase over W.Nothing = H.Plain
shown_of phase over W.Offer = H.OfferStands
shown_of phase over W.Other = H.Stands

-- the same of a board
abbrev pub shown_on : BoardFields → Waiting → Shown
shown_on b waiting = shown_of (phase_of b) (is_match_over b) waiting

-- no name
abbrev pub no_name : ArrayVec ℕ
no_name = record { items = [] }

-- a turn of which nothing is known
abbrev pub new_turn : Turn
new_turn = record { shown = None; is_due = false }

-- a game of which no board has come
abbrev pub new_game : Game
new_game = record { refuses_double = false; is_followed = false; is_his = false; turn = new_turn }

-- a match of which nothing is known but the opponent, and the offer that was left open in it
abbrev pub opponent_of : ArrayVec ℕ → Left → Opponent
opponent_of name left = record { name = name; is_here = false; left = left; game = new_game }

-- an invitation of which nothing was said
abbrev pub inviter_of : ArrayVec ℕ → Inviter
inviter_of name = record { name = name; is_told = false }

-- what the user waits for on a new connection: it depends on whether there was an opponent before
abbrev pub opened_standing : ArrayVec ℕ → Standing
opened_standing name = if array_vec_len name == 0 then S.Free else S.Reopened

-- a new connection, after one of which this is kept: nothing else of that one is in it
abbrev pub opened_with : Kept → Situation
opened_with kept = record {
  standing = opened_standing kept.opponent;
  opponent = opponent_of kept.opponent kept.left;
  inviter = inviter_of no_name;
  asked = B.Nothing;
  waiting = W.Nothing;
  logs_in = true;
  hears_others = false;
  is_motd = false;
}

-- the offer that is open in a state, or of which nothing is known any more
abbrev pub offer_in : Standing → Waiting → Left → Left
offer_in S.Offered waiting left = L.Own
offer_in S.Asked W.Offer left = L.Own
offer_in standing waiting left = if has_offer standing then L.Theirs else left

-- the same of a situation
abbrev pub open_offer : Situation → Left
open_offer s = offer_in s.standing s.waiting s.opponent.left

-- what outlives a connection: with whom the user played, and the offer that was open
abbrev pub kept_of : Situation → Kept
kept_of s = record { opponent = s.opponent.name; left = open_offer s }

-- the state before the first board of another opponent
abbrev pub after_another : Standing → Standing
after_another standing = if is_in_match standing then S.Fresh else S.Free

-- another opponent, by this name: of the one before nothing is left
abbrev pub met : Situation → ArrayVec ℕ → Situation
met s name = record s { opponent = opponent_of name L.Nothing; standing = after_another s.standing }

-- a text says who has the turn
abbrev pub tells_turn : Told → Bool
tells_turn T.ToRoll = true
tells_turn T.ToMove = true
tells_turn T.Plays = true
tells_turn told = false

-- a decision was refused: it is the one that waits, unless none does or an offer was just answered, and then the user
-- has the turn again; else that stays as it is
abbrev pub due_again : Standing → Waiting → Bool → Bool
due_again S.Answered waiting due = due
due_again standing W.Nothing due = due
due_again standing W.Offer due = true
due_again standing W.Other due = true

-- the user has the turn after a text, and has not decided: no offer that was open has given it away if the server says
-- that there is none
abbrev pub due_after : Told → Standing → Waiting → Turn → Bool
due_after T.ToRoll standing waiting turn = true
due_after T.ToMove standing waiting turn = true
due_after T.Refused standing waiting turn = due_again standing waiting turn.is_due
due_after T.NoDouble standing waiting turn = due_again standing waiting turn.is_due
due_after T.MustAnswer standing waiting turn = due_again standing waiting turn.is_due
due_after T.NoOffer standing waiting turn = if has_offer standing then is_some turn.shown else turn.is_due
due_after T.Plays standing waiting turn = false
due_after told standing waiting turn = turn.is_due

-- the turn that was shown is over if the opponent plays
abbrev pub shown_after : Told → Option Told → Option Told
shown_after T.Plays shown = None
shown_after told shown = shown

-- a game after a text of its turn
abbrev pub game_after : Told → Standing → Waiting → Game → Game
game_after told standing waiting g = record g {
  turn = record { shown = shown_after told g.turn.shown; is_due = due_after told standing waiting g.turn };
  is_followed = tells_turn told || g.is_followed;
  is_his = not (tells_turn told) && g.is_his;
}

-- so in a situation: all else of it stays
abbrev pub turn_noted : Told → Situation → Situation
turn_noted told s = record s {
  opponent = record s.opponent { game = game_after told s.standing s.waiting s.opponent.game };
}

-- the offer of which nothing is known after a text, of this name: the one that was open if the match is saved, or none
-- is played; what was so if it is resumed with the same opponent, or the text is of an invitation; else none
abbrev pub left_told : Told → List ℕ → Situation → Left
left_told T.Saved name s = open_offer s
left_told T.NotPlaying name s = open_offer s
left_told T.Resumes name s = if bytes_eq s.opponent.name.items name then s.opponent.left else L.Nothing
left_told T.Invited name s = s.opponent.left
left_told T.NotInvited name s = s.opponent.left
left_told told name s = L.Nothing

-- a text, of this name, denies a match or an invitation of another player than is known: then it changes nothing
abbrev pub denies_another : Told → List ℕ → Situation → Bool
denies_another T.NoMatch name s = not (bytes_eq s.opponent.name.items name)
denies_another T.NotInvited name s = not (bytes_eq name []) && not (bytes_eq s.inviter.name.items name)
denies_another told name s = false

-- the name that a text has is kept: a match begins or is resumed; the user is invited now; any other text changes what
-- he waits for
abbrev pub KeepsName : Told → Standing → Standing → Type 0
KeepsName T.Begins standing after = Unit {0}
KeepsName T.Resumes standing after = Unit {0}
KeepsName T.Invited standing after = after ≡ S.Invited
KeepsName told standing after = after ≢ standing

-- nothing but the name of the opponent changes, who was not known
abbrev pub NamedAlone : Situation → Situation → Type 0
NamedAlone old new = new ≡ record old { opponent = record old.opponent { name = new.opponent.name } }

-- a game goes on in this phase, and no double is to be answered
abbrev pub goes_on : Phase → Bool
goes_on P.Over = false
goes_on P.AnswerDouble = false
goes_on phase = true

-- a board may show an offer to resign as a turn given away, to roll: one is open or was just answered
abbrev pub may_give : Standing → Bool
may_give S.Answered = true
may_give standing = owes_answer standing

-- so a board does not say who has the turn: the user's dice alone do; and no board without dice does so before a text
-- has said it, since an offer that was open when a match was resumed is told after its board
abbrev pub hides_turn_shown : Option Told → Bool → Standing → Bool
hides_turn_shown (Some T.ToMove) followed standing = false
hides_turn_shown (Some T.ToRoll) false standing = true
hides_turn_shown shown followed standing = may_give standing

-- in a state of a game
abbrev pub hides_turn : Standing → Game → Bool
hides_turn standing g = hides_turn_shown g.turn.shown g.is_followed standing

-- what follows a beginning is a name, and perhaps a stop
abbrev pub IsNamed : List ℕ → List ℕ → Type 0
IsNamed rest name = (rest ≡ name) ⊎ (rest ≡ name ++ codes ".")

-- a text says that a player has the turn in a match that is resumed
abbrev pub SaysTurnOf : List ℕ → List ℕ → Type 0
SaysTurnOf text name = (rest : List ℕ) × (text ≡ codes "turn: " ++ rest) × IsNamed rest name

-- an offer of the opponent may be open if the server has said that he has the turn, and a board gives it to the user
-- before the dice; else what may be open is what was
abbrev pub left_by : Bool → Phase → Left → Left
left_by true P.RollOrDouble left = L.Theirs
left_by his phase left = left

-- an offer to resign is named with what the board allows as well
abbrev pub names_turn : Standing → Bool
names_turn S.Resigned = true
names_turn S.Owed = true
names_turn standing = false

-- a turn to roll is named beside an open offer only if the user is known to have it
abbrev pub GivesNoTurn : Situation → Type 0
GivesNoTurn s = names_turn s.standing ≡ true → s.opponent.game.turn.shown ≡ Some T.ToRoll
    → s.opponent.game.turn.is_due ≡ true

-- nothing is known of an opponent that was known of the one before him: not that he is here, nor an offer, nor that the
-- server refuses a double
pub record IsNewOpponent (o : Opponent) : Type 0 where
  pub here : o.is_here ≡ false
  pub left : o.left ≡ L.Nothing
  pub double : o.game.refuses_double ≡ false

-- what waits after a command: an offer, which changes no board, or another decision; None if it is no decision
abbrev pub waiting_after : List ℕ → Option Waiting
waiting_after line =
    if bytes_eq (codes "double") (before 32 line) || bytes_eq (codes "resign") (before 32 line) then Some W.Offer else
    if bytes_eq (codes "roll") (before 32 line) || (bytes_eq (codes "move") (before 32 line)
    || (bytes_eq (codes "accept") (before 32 line) || bytes_eq (codes "reject") (before 32 line)))
    then Some W.Other else None

-- an answer to an offer
abbrev pub is_answer_line : List ℕ → Bool
is_answer_line line = bytes_eq line (codes "accept") || bytes_eq line (codes "reject")
