-- What checking a board's line answered.
use Rattle.std.specs.Prelude.{ℕ, List, Result, Ok, Err}
use Rattle.std.specs.Borrow.{Bor}
use Rattle.fibs_fields.specs.declared.fault.FieldFault.{FieldFault}

-- the line that is printed for the board, or the fault
abbrev pub line_checked : Result (Bor (List ℕ)) FieldFault → Result (List ℕ) FieldFault
line_checked (Ok line) = Ok line.now
line_checked (Err e) = Err e
