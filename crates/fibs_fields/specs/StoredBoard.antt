-- Boards as values.
use Rattle.std.specs.Prelude.{Result, Ok, Err}
use Rattle.fibs_fields.specs.StoredParts.{parts}
use Rattle.fibs_fields.specs.Board.{BoardFields}
use Rattle.fibs_fields.specs.declared.boards.board.Board.{Board}
use Rattle.fibs_fields.specs.declared.fault.FieldFault.{FieldFault}

-- the 53 fields of a board
abbrev pub fields_of : Board → BoardFields
fields_of b = parts b.player b.opponent b.numbers

-- what reading a board answered
abbrev pub read_fields : Result Board FieldFault → Result BoardFields FieldFault
read_fields (Ok b) = Ok (fields_of b)
read_fields (Err e) = Err e
