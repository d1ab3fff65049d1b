-- The error of a result.
use Rattle.std.proofs.Common.{◌≡◌, Some, ◌↔◌}
use Rattle.std.specs.Prelude.{Result, Ok, Err}
use Rattle.std.specs.Result.{result_err}

-- what is exact of a result is so of its error
pub error_is : {A E : Type 0} (r : Result A E) (P : E → Type 0) → ((f : E) → (r ≡ Err f) ↔ P f) → (f : E)
    → (result_err r ≡ Some f) ↔ P f
error_is (Ok x) P h f = (λ e. absurd cc, λ p. let e = (h f).1 p in absurd cc)
error_is (Err g) P h f = (λ e. (h f).0 cc, λ p. let e = (h f).1 p in cc)
