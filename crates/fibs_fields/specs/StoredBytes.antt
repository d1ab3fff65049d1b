-- How a name is kept in 64 bytes. No public contract rests on this.
use Rattle.std.specs.Prelude.{◌≡◌, ◌≤◌, take, ◌-◌, ◌++◌, ℕ, List, length, replicate}

-- the name, and zeros up to 64 bytes
abbrev pub padded : List ℕ → List ℕ
padded name = name ++ replicate (64 - length name) 0

-- the first len bytes are a name of at most 64 bytes, and the others are 0
abbrev pub IsStored : List ℕ → ℕ → Type 0
IsStored bytes len = (length (take len bytes) ≡ len) × (len ≤ 64) × (padded (take len bytes) ≡ bytes)
