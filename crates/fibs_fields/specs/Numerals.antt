-- A stepping stone of printing. No public contract rests on this.
use Rattle.std.specs.Prelude.{◌∷◌, List, ℕ, ℤ}
use Rattle.std.specs.Fmt.{signed_decimal}
use Rattle.std.specs.List.{flat_map}

-- numbers, each after a colon
abbrev pub after_colons : List ℤ → List ℕ
after_colons zs = flat_map (λ z. 58 ∷ signed_decimal z) zs
