-- A text is split at the first byte of a kind.
use Rattle.std.specs.Prelude.{ℕ, ◌==◌, List, [], ◌∷◌, Option, Some, None, if◌then◌else◌}
use Rattle.std.specs.Borrow.{Bor}

-- what comes before the first c, or all if there is no c
abbrev pub before : ℕ → List ℕ → List ℕ
before c [] = []
before c (b ∷ s) = if b == c then [] else b ∷ before c s

-- what comes after the first c, if there is one
abbrev pub after : ℕ → List ℕ → Option (List ℕ)
after c [] = None
after c (b ∷ s) = if b == c then Some s else after c s

-- a text that is borrowed, if there is one
abbrev pub seen : Option (Bor (List ℕ)) → Option (List ℕ)
seen None = None
seen (Some text) = Some text.now
