-- How bytes of a server are shown at a terminal (the project's own).
use Rattle.std.specs.Prelude.{◌≡◌, ◌++◌, ℕ, List}

-- what is shown comes behind what is there
abbrev pub AddsShown : List ℕ → List ℕ → Type 0
AddsShown before after = (shown : List ℕ) × (after ≡ before ++ shown)
