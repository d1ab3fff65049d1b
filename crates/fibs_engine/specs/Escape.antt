-- How bytes are shown on one line.
use Rattle.std.specs.Prelude.{◌==◌, ◌||◌, ℕ, Bool, nat_lt, List, [], ◌∷◌, if◌then◌else◌}
use Rattle.std.specs.List.{flat_map}
use Rattle.fibs_fields.specs.Hex.{hex_escape}

-- a byte that is not shown as it is: one outside 32 to 126, or `\`
abbrev pub is_escaped : ℕ → Bool
is_escaped b = nat_lt b 32 || nat_lt 126 b || b == 92

-- the bytes, each by its escape or as it is
abbrev pub escaped : List ℕ → List ℕ
escaped bytes = flat_map (λ b. if is_escaped b then hex_escape b else b ∷ []) bytes
