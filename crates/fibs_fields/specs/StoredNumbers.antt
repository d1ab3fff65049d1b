-- Numbers that are kept in few bytes.
use Rattle.std.specs.Prelude.{ℤ, List, ◌++◌}
use Rattle.fibs_fields.specs.declared.boards.numbers.Numbers.{Numbers}

-- the numbers in order
unfoldable pub numbers_of : Numbers → List ℤ
numbers_of n = n.first ++ (n.small ++ n.last)
