-- Names that are kept in place, and the parts of a board that has such names and numbers.
use Rattle.std.specs.Prelude.{ℕ, List, take}
use Rattle.fibs_fields.specs.Board.{BoardFields}
use Rattle.fibs_fields.specs.StoredNumbers.{numbers_of}
use Rattle.fibs_fields.specs.declared.boards.numbers.Numbers.{Numbers}
use Rattle.fibs_fields.specs.declared.boards.stored_name.StoredName.{StoredName}

-- the bytes of a stored name
abbrev pub name_of : StoredName → List ℕ
name_of n = take n.len n.bytes

-- the fields of a board whose names and numbers are stored
abbrev pub parts : StoredName → StoredName → Numbers → BoardFields
parts player opponent numbers =
    record { player = name_of player; opponent = name_of opponent; numbers = numbers_of numbers }
