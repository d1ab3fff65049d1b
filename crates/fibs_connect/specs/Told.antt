-- What is reported to a front end (the project's own).
use Rattle.std.specs.Prelude.{ℕ, List, [], ◌++◌, Option}
use Rattle.std.specs.declared.io.ErrorKind.{ErrorKind}
use Rattle.fibs_lines.specs.Lines.{ReadLine}
use Rattle.fibs_messages.specs.Line.{ReadingValue}
use Rattle.fibs_messages.specs.Message.{MessageValue}
use Rattle.fibs_position.specs.declared.phase.Phase.{Phase}
use Rattle.fibs_messages.specs.declared.directory.fault.DirectoryFault.{DirectoryFault}
use Rattle.fibs_game.specs.declared.refusal.Refusal.{Refusal}
use Rattle.fibs_session.specs.declared.histories.refusal.PlainRefusal.{PlainRefusal}
use Rattle.fibs_session.specs.History.Words.{Ask}

-- one thing that happened
pub data SaidValue : Type 0 where
  opened_said : SaidValue  -- a connection was made
  no_connection_said : ErrorKind → SaidValue  -- no connection can be made, for this reason
  heard_said : ReadLine → ReadingValue → SaidValue  -- the server sent a line, which is read so
  phase_said : Phase → SaidValue  -- the board that it says is in this phase
  confirmed_said : Ask → SaidValue  -- it confirms a decision
  sent_said : List ℕ → SaidValue  -- a command was sent
  rolled_said : SaidValue  -- a standing order sent its `roll`
  passed_said : List ℕ → SaidValue  -- a line was sent as it is
  ordered_said : SaidValue  -- a standing order was given
  withdrawn_said : SaidValue  -- it was withdrawn
  refused_said : Refusal → SaidValue  -- the client refuses a decision, an order or its withdrawal
  not_sent_said : PlainRefusal → SaidValue  -- it refuses a plain command
  unknown_said : SaidValue  -- what was typed is no command
  lost_said : Option Ask → SaidValue  -- the connection is over, with this decision unconfirmed
  unnoted_said : DirectoryFault → SaidValue  -- the directory took no note of a message
  player_said : MessageValue → SaidValue  -- a player is known, by the message that listed him

-- how a front end comes from one state to another as things are reported to it, one after another: if nothing is
-- reported it may stay as it is, and what is reported may come in parts
pub record Joins {F : Type 0} (Tells : F → List SaidValue → F → Type 0) : Type 0 where
  pub nothing : (a : F) → Tells a [] a
  pub joined : (a b c : F) (xs ys : List SaidValue) → Tells a xs b → Tells b ys c → Tells a (xs ++ ys) c
