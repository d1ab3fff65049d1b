-- What a history of entries says of a connection, of backgammon (the project's own).
use Rattle.std.specs.Prelude.{ℕ, Bool, List, Option}
use Rattle.fibs_fields.specs.Board.{BoardFields as Board}
use Rattle.fibs_position.specs.DecisionValue.{DecisionValue as Decision}
use Rattle.fibs_game.specs.declared.refusal.Refusal.{Refusal}
use Rattle.fibs_session.specs.Fibs.{fibs}
use Rattle.fibs_session.specs.History.Log.{Entry, Flags}
use Rattle.fibs_game.specs.Words as A
pub use Rattle.fibs_game.specs.Lawful.{IsLikeness}
pub use Rattle.fibs_game.specs.Words.{one_if, is_empty, last, each, is_given, plays_itself}

-- a decision with the board that it is about
abbrev pub Ask : Type 0
Ask = A.Ask fibs

-- the answer on the board shown last: no board, a stretch that is spent, what the board allows
abbrev pub if_board : Bool → Decision → Option Board → Option Refusal
if_board = A.if_board fibs

-- the connection that is open after more entries
abbrev pub open_from : ℕ → List Entry → ℕ
open_from = A.open_from

-- the connection that is open; 0 if none is open
abbrev pub open_now : List Entry → ℕ
open_now = A.open_now

-- the connection that an entry opens
abbrev pub opened_by : Entry → List ℕ
opened_by = A.opened_by

-- the board that an entry shows on a connection
abbrev pub shown_by : ℕ → Entry → List Board
shown_by = A.shown_by

-- the decision that it sends there
abbrev pub sent_by : ℕ → Entry → List Ask
sent_by = A.sent_by

-- the decision that takes effect there
abbrev pub took_by : ℕ → Entry → List Ask
took_by = A.took_by

-- a message 1 there
abbrev pub welcomed_by : ℕ → Entry → List ℕ
welcomed_by = A.welcomed_by

-- what a message 2 there says that the server plays by itself
abbrev pub informed_by : ℕ → Entry → List Flags
informed_by = A.informed_by

-- whether a standing order was given or withdrawn there
abbrev pub orders_by : ℕ → Entry → List Bool
orders_by = A.orders_by

-- how many connections were opened: they are numbered from 1
abbrev pub connections : List Entry → ℕ
connections = A.connections

-- the boards shown on a connection
abbrev pub shown : ℕ → List Entry → List Board
shown = A.shown

-- the decisions sent on a connection, with their boards
abbrev pub sent : ℕ → List Entry → List Ask
sent = A.sent

-- the decisions that took effect on a connection, with their boards
abbrev pub took : ℕ → List Entry → List Ask
took = A.took

-- the messages 1 of a connection
abbrev pub welcomed : ℕ → List Entry → List ℕ
welcomed = A.welcomed

-- what the messages 2 of a connection say that the server plays by itself
abbrev pub informed : ℕ → List Entry → List Flags
informed = A.informed

-- the standing orders of a connection: given or withdrawn
abbrev pub orders : ℕ → List Entry → List Bool
orders = A.orders

-- a standing order is in force on the connection
abbrev pub is_ordered : ℕ → List Entry → Bool
is_ordered = A.is_ordered

-- something was sent since the last block of boards of one game began that were shown one after another
abbrev pub is_spent : ℕ → List Entry → Bool
is_spent = A.is_spent

-- what is unconfirmed: the last that was sent, if that is so
abbrev pub unconfirmed : ℕ → List Entry → Option Ask
unconfirmed = A.unconfirmed

-- the answer to a decision, by the history: the first refusal that fits; None means yes
abbrev pub answer : List Entry → Decision → Option Refusal
answer = A.answer
