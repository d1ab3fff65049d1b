-- What an answer of the client calls for: bytes that are written to the server, what is reported to the front end
-- once they were written, and messages for the directory.
use Rattle.std.specs.Prelude.{ℕ, List, [], ◌∷◌, map, Option, Some, None}
use Rattle.fibs_messages.specs.Message.{MessageValue}
use Rattle.fibs_session.specs.History.Machine.{wire_of}
use Rattle.fibs_connect.specs.Told.{SaidValue, sent_said}

pub record Act : Type 0 where
  pub writes : List ℕ
  pub tells : List SaidValue
  pub notes : List MessageValue

-- only one thing is reported
abbrev pub only_tell : SaidValue → Act
only_tell said = record { writes = []; tells = said ∷ []; notes = [] }

-- a command was typed: it is answered so, or these commands are handed out, written and reported as sent
abbrev pub answer_act : Option SaidValue → List (List ℕ) → Act
answer_act None send = record { writes = wire_of send; tells = map sent_said send; notes = [] }
answer_act (Some said) send = only_tell said
