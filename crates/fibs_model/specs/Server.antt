-- The model server, of backgammon: what it answers to a line.
use Rattle.std.specs.Prelude.{ℕ, Bool, List, Option}
use Rattle.fibs_fields.specs.Board.{BoardFields}
use Rattle.fibs_position.specs.DecisionValue.{DecisionValue}
use Rattle.fibs_session.specs.Fibs.{fibs}
use Rattle.fibs_game.specs.Server as A
use Rattle.fibs_game.specs.declared.world_refusal.WorldRefusal.{WorldRefusal}
pub use Rattle.fibs_game.specs.Server.{TakenLine, Stale, LoggedIn, Took, Undone, Answered, answered}

-- the board's phase is one in which the user decides
abbrev pub user_decides : BoardFields → Bool
user_decides = fibs.decides

-- why the board `now` may not become the board b by itself, the first that fits
abbrev pub own_refusal : BoardFields → BoardFields → Option WorldRefusal
own_refusal = A.own_refusal fibs

-- the board to which a decision leads with two dice, if it is carried out
abbrev pub effect : BoardFields → DecisionValue → ℕ → ℕ → Option BoardFields
effect = fibs.effect

-- the decision that a line says, in the direction of the server's board
abbrev pub decision_in : BoardFields → List ℕ → Option DecisionValue
decision_in = fibs.decision_in

-- the command of a decision on a board
abbrev pub command : BoardFields → DecisionValue → List ℕ
command = fibs.command

-- a server: a good board, and the connection that is logged in, or 0
abbrev pub ServerValue : Type 0
ServerValue = A.ServerValue fibs

-- the server's answer to a line
abbrev pub Served : Type 0
Served = A.Served fibs

-- a decision is carried out if it leads to a board
abbrev pub carried : DecisionValue → Option BoardFields → Served
carried = A.carried

-- a later line of the connection that is logged in, by the decision that it says
abbrev pub obeyed : BoardFields → ℕ → ℕ → Option DecisionValue → Served
obeyed = A.obeyed
