-- What events remember (the project's own).
use Rattle.std.specs.Prelude.{◌≡◌, ◌==◌, ℕ, List, length, Option, Some, None, true, false, option_map, IfSome, ⊤, if◌then◌else◌}
use Rattle.std.specs.Str.{bytes_eq}
use Rattle.fibs_fields.specs.Board.{BoardFields}
use Rattle.fibs_position.specs.GameOf.{game_of}
use Rattle.fibs_messages.specs.Line.{ReadingValue, numbered_line, board_line, text_line, malformed_line}
use Rattle.fibs_rules.specs.Hop.{Hop}
use Rattle.fibs_rules.specs.PlayValue.{hops_of}
use Rattle.fibs_position.specs.GamePart.{same_game}
use Rattle.fibs_position.specs.GoodBoard as goods
use Rattle.fibs_events.specs.Ends.{is_next_game, is_same_match}
use Rattle.fibs_events.specs.Happenings.{LegalFrom, PlayedFrom, RollShown}
use Rattle.fibs_events.specs.declared.event.Side.{Side}
use Rattle.fibs_events.specs.declared.event.Side.TheVariants as S
use Rattle.fibs_events.specs.declared.happened.Happened.{Happened}
use Rattle.fibs_events.specs.declared.happened.Rolled.{Rolled}
use Rattle.fibs_events.specs.declared.memory.Events.{Events}

-- the board of the user's game that is known: the one that came last, with what texts have added to it
abbrev pub known_of : Events → Option BoardFields
known_of e = option_map game_of e.known

-- the name of the opponent that is kept, of the match that is played or was played last; empty if none is known
abbrev pub opponent_of : Events → List ℕ
opponent_of e = e.opponent.items

-- the side of a name that a text has: none is the user, and another player than the opponent has no side
abbrev pub side_in : List ℕ → Events → Option Side
side_in name e =
    if length name == 0 then Some S.Own else if bytes_eq e.opponent.items name then Some S.Other else None

-- who has doubled and was not answered, as far as it is known
abbrev pub doubler_of : Events → Option Side
doubler_of e = e.game.doubled

-- a good board goes on from the one that is known: in the same match and game, and something has changed
pub record IsGoingOn (e : Events) (before after : BoardFields) : Type 0 where
  pub known : known_of e ≡ Some before
  pub good : goods.good after ≡ true
  pub changed : same_game before after ≡ false
  pub same_match : is_same_match before after ≡ true
  pub same : is_next_game before after e.game.is_over ≡ false

-- a play that is reported at a line: of a board, from the board that is known; of a text, legal on it; of no other line
abbrev pub IsHeard : Option BoardFields → ReadingValue → Side → List Hop → Type 0
IsHeard known (board_line b) side steps = PlayedFrom known side steps b
IsHeard known (text_line t) side steps = LegalFrom known side steps
IsHeard known (numbered_line m) side steps = ⊥
IsHeard known (malformed_line n k f) side steps = ⊥

-- a roll that is reported at a line: of a board, what it shows; of a text, which says it; of no other line
abbrev pub IsRollHeard : ReadingValue → Rolled → Type 0
IsRollHeard (board_line b) rolled = RollShown b rolled
IsRollHeard (text_line t) rolled = ⊤
IsRollHeard (numbered_line m) rolled = ⊥
IsRollHeard (malformed_line n k f) rolled = ⊥

-- what has happened by a line that reads so: a play and a roll that are reported there; and a board says nothing else
pub record IsHeardBy (known : Option BoardFields) (reading : ReadingValue) (happened : Happened) : Type 0 where
  pub played : IfSome happened.played (λ turned. IsHeard known reading turned.who (hops_of turned.play))
  pub rolled : IfSome happened.rolled (λ rolled. IsRollHeard reading rolled)
  pub said : (b : BoardFields) → reading ≡ board_line b → happened.said ≡ None
