-- The joint statement of server, wires and client, of backgammon.
use Rattle.std.specs.Prelude.{ℕ, Bool, List, Option}
use Rattle.fibs_fields.specs.Board.{BoardFields}
use Rattle.fibs_game.specs.Joint as A
use Rattle.fibs_position.specs.DecisionValue.{DecisionValue}
use Rattle.fibs_position.specs.GoodBoard.{IsGood}
use Rattle.fibs_commands.specs.Logins.{IsLogin, login_text}
use Rattle.fibs_session.specs.Fibs.{fibs}
use Rattle.fibs_session.specs.History.Words.{Ask}
use Rattle.fibs_model.specs.Acts.{Act, acts_after}
use Rattle.fibs_model.specs.Events.{Event}
use Rattle.fibs_model.specs.Runs.{MayBe, world_after}
use Rattle.fibs_model.specs.World.{World}
pub use Rattle.fibs_game.specs.Joint.{Carried, AreLines, at_most_one, SameUntilServed, Steady, served_by, served, served_at}

-- the decisions without their boards
abbrev pub decisions_of : List Ask → List DecisionValue
decisions_of = A.decisions_of fibs

-- none of the lines is a decision on the board
abbrev pub NoDecision : BoardFields → List (List ℕ) → Type 0
NoDecision = A.NoDecision fibs

-- just one of the lines is a decision on the board: the command of this one
abbrev pub OneDecision : BoardFields → DecisionValue → List (List ℕ) → Type 0
OneDecision b d lines = A.OneDecision fibs b d lines

-- of the lines at most one is a decision on the server's board: the one that is not served
abbrev pub AtMostThis : Bool → BoardFields → Option Ask → List (List ℕ) → Type 0
AtMostThis = A.AtMostThis fibs

-- what is left on the wire of a connection to the server
abbrev pub Left : ℕ → Option Ask → World → Type 0
Left c unserved w = A.Left c unserved w

-- at most the last of what was sent on a connection was not served
abbrev pub LastUnserved : ℕ → List Act → World → Type 0
LastUnserved c acts w = A.LastUnserved c acts w

-- the four facts about the server's acts on each connection, and about the world after them
abbrev pub Joint : (ℕ → List Act) → World → Type 0
Joint acts w = A.Joint acts w

-- they hold after every list of events none of which is refused, from every good first board on, for every login
abbrev pub JointStatement : Type 0
JointStatement =
    (name password : List ℕ) (first : BoardFields) (events : List Event) → IsLogin name password → IsGood first
    → MayBe (login_text name password) first events
    → Joint (acts_after (login_text name password) first events) (world_after (login_text name password) first events)
