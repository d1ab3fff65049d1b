-- The words of the user's own settings (the project's own).
use Rattle.std.specs.Prelude.{ℕ, Bool, true, false, List, codes, Option, Some, None, if◌then◌else◌}
use Rattle.std.specs.Str.{bytes_eq}
use Rattle.fibs_position.specs.declared.numbers.Numbers.{Numbers}
use Rattle.fibs_position.specs.declared.numbers.Numbers.TheVariants.{TheOwn, TheServers}

-- whose numbers a word says
abbrev pub numbers_in : List ℕ → Option Numbers
numbers_in word =
    if bytes_eq word (codes "own") then Some TheOwn else
    if bytes_eq word (codes "server") then Some TheServers else None

-- whether a word says that the newest board stands above what is said, or below
abbrev pub place_in : List ℕ → Option Bool
place_in word =
    if bytes_eq word (codes "above") then Some true else
    if bytes_eq word (codes "below") then Some false else None
