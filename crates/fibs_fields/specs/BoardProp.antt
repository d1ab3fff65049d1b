-- A board's fact has one proof. No public contract rests on this.
use Rattle.std.specs.Prelude.{◌≡◌, List, [], ◌∷◌, ℤ, true, Bool}
use Rattle.std.proofs.Props.{props}
use Rattle.std.specs.Coded.{×_prop, Unit-prop, Coded-set, coded_bool}
use Rattle.fibs_fields.specs.Decimal.{allows}
use Rattle.fibs_fields.specs.declared.values.Values.{Values}
use Rattle.fibs_fields.specs.Board.{BoardFields, Fit, IsBoard}

-- that a test passes has one proof
true-prop : (b : Bool) → IsProp (b ≡ true)
true-prop b = Coded-set coded_bool b true

-- that numbers fit their fields has one proof
pub Fit-prop : (vs : List Values) (zs : List ℤ) → IsProp (Fit vs zs)
Fit-prop [] [] = Unit-prop
Fit-prop [] (z ∷ zs) = λ a b. absurd (a)
Fit-prop (v ∷ vs) [] = λ a b. absurd (a)
Fit-prop (v ∷ vs) (z ∷ zs) = ×_prop (true-prop (allows v z)) (Fit-prop vs zs)

-- that fields are a board has one proof
pub IsBoard-prop : (b : BoardFields) → IsProp (IsBoard b)
IsBoard-prop b = Prim.hlevel (props, Fit-prop)
