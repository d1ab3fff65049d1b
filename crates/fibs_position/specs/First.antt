-- The first line of a table that fits.
use Rattle.std.specs.Prelude.{◌≡◌, ◌⊎◌, List, [], ◌∷◌}

-- x is the first element of a list for which a fact holds: the head if it holds of the head, else the first of the
-- others
abbrev pub IsFirst : {X : Type 0} → (X → Type 0) → List X → X → Type 0
IsFirst fits [] x = ⊥
IsFirst fits (y ∷ ys) x = (fits y × (x ≡ y)) ⊎ (¬ fits y × IsFirst fits ys x)
