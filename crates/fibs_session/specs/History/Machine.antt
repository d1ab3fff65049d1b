-- The client as a machine over its inputs, of backgammon (the project's own): its history, the bytes of the open
-- connection, and the commands handed out on it.
use Rattle.std.specs.Prelude.{ℕ, List}
use Rattle.fibs_game.specs.Machine as A
use Rattle.fibs_lines.specs.Lines.{ReadLine}
use Rattle.fibs_messages.specs.Line.{ReadingValue}
use Rattle.fibs_session.specs.Fibs.{fibs}
use Rattle.fibs_session.specs.History.Hearing.{Heard, heard}
use Rattle.fibs_session.specs.History.Words.{open_now}
pub use Rattle.fibs_game.specs.Machine.{Open, Lose, Piece, Click, PlainInput, Order, Withdraw, start, step, open_connection, is_online, noted, does, stays, on_wire, wire_of, open_refusal, opened, opens, unconfirmed_now, loses, hears, then_also, with_bytes, reads, line_heard, shown_now, answer_now, decides_on, clicks_by, clicks, was_sent, flag_is_on, is_on, may_send_if, may_send, plain_refusal, sends_plain, plains, ordered_now, order_refusal, withdraw_refusal, notes_if, orders_on, withdraws}
unfoldable pub use Rattle.fibs_game.specs.Machine.{hears_all, run}

-- a client: its history, and what it has of the open connection
abbrev pub Talk : Type 0
Talk = A.Talk fibs

-- a step's outcome: the machine after it, and the commands that it hands out
abbrev pub Outcome : Type 0
Outcome = A.Outcome fibs

-- an input of a client
abbrev pub InputValue : Type 0
InputValue = A.InputValue fibs

-- what a line says now
abbrev pub heard_by : Talk → ReadingValue → Heard
heard_by t r = heard (open_now t.log) t.log r

-- the lines that more bytes give
abbrev pub gained : List ℕ → List ℕ → List ReadLine
gained before more = A.gained fibs before more

-- the bytes that a client hands out
abbrev pub Out : List ℕ → List InputValue → List ℕ
Out login inputs = A.Out login inputs
