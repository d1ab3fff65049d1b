-- Names and rows that a terminal keeps in lists (the project's own).
use Rattle.std.specs.Prelude.{◌≡◌, ◌≢◌, ◌⊎◌, ◌++◌, ◌∷◌, ◌-◌, ◌≤◌, ℕ, not, List, [], All, drop, length, Vec}
use Rattle.std.specs.List.{Any, filter}
use Rattle.std.specs.Str.{bytes_eq}
use Rattle.std.specs.declared.alloc.Global.{Global}

-- a name is in a list
abbrev pub IsAmong : List ℕ → List (Vec ℕ Global) → Type 0
IsAmong name kept = Any (λ (v : Vec ℕ Global). v.items ≡ name) kept

-- it is not
abbrev pub IsNotAmong : List ℕ → List (Vec ℕ Global) → Type 0
IsNotAmong name kept = All (λ (v : Vec ℕ Global). v.items ≢ name) kept

-- the last of a list, so many at most
abbrev pub last_of : {X : Type 0} → ℕ → List X → List X
last_of most xs = drop (length xs - most) xs

-- a list has one more at its end, and of all of them the last ones are kept
pub record KeepsLast {X : Type 0} (most : ℕ) (old : List X) (x : X) (new : List X) : Type 0 where
  pub last : length old ≤ most → new ≡ last_of most (old ++ x ∷ [])

-- so of bytes
pub record KeepsBytes (most : ℕ) (old : List (Vec ℕ Global)) (bytes : List ℕ) (new : List (Vec ℕ Global)) : Type 0 where
  pub kept : Vec ℕ Global
  pub same : kept.items ≡ bytes
  pub last : length old ≤ most → new ≡ last_of most (old ++ kept ∷ [])

-- a name is in a list already, and that stays; or it is new, and the last ones are kept
abbrev pub KeepsName : ℕ → List (Vec ℕ Global) → List ℕ → List (Vec ℕ Global) → Type 0
KeepsName most old name new =
    (IsAmong name old × (new ≡ old)) ⊎ (IsNotAmong name old × KeepsBytes most old name new)

-- it is in a list already, or is put at its end
pub record Adds (old : List (Vec ℕ Global)) (name : List ℕ) (new : List (Vec ℕ Global)) : Type 0 where
  pub kept : Vec ℕ Global
  pub same : kept.items ≡ name
  pub last : new ≡ old ++ kept ∷ []

-- a name is added to a list, if it is not there
abbrev pub AddsName : List (Vec ℕ Global) → List ℕ → List (Vec ℕ Global) → Type 0
AddsName old name new = (IsAmong name old × (new ≡ old)) ⊎ (IsNotAmong name old × Adds old name new)

-- a list without a name
abbrev pub without : List ℕ → List (Vec ℕ Global) → List (Vec ℕ Global)
without name kept = filter (λ (v : Vec ℕ Global). not (bytes_eq v.items name)) kept
