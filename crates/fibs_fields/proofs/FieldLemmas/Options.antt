-- Options that are one.
use Rattle.std.proofs.Common.{◌≡◌, Some, None}

-- what is in one option is one
pub option_same : {A : Type 0} (x y : A) → Some x ≡ Some y → x ≡ y
option_same x y h = cc

-- something is not nothing
pub some_none : {A : Type 0} (x : A) → Some x ≡ None → ⊥
some_none x h = cc
