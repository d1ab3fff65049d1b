-- Texts that grow by three pieces.
use Rattle.std.proofs.Common.{◌≡◌, ◌∙◌, ◌++◌, List, ℕ, ap, append_assoc}
use Rattle.std.specs.Prelude.{Result, Ok, Err, OnOk, is_ok, if◌then◌else◌}

-- a text to which three pieces were appended, one after another, ends with them joined
pub three-appended : {T E : Type 0} (r : Result T E) (old a x b first second third : List ℕ)
    → first ≡ old ++ a → second ≡ first ++ x → third ≡ (if is_ok r then second ++ b else second)
    → OnOk r (third ≡ old ++ (a ++ (x ++ b)))
three-appended (Ok t) old a x b first second third p q s =
    s ∙ ap (λ y. y ++ b) (q ∙ ap (λ y. y ++ x) p) ∙ append_assoc (old ++ a) x b ∙ append_assoc old a (x ++ b)
three-appended (Err e) old a x b first second third p q s = tt

-- the same of three pieces of which the last is appended by a call that may fail
pub three-joined : {T E : Type 0} (r : Result T E) (old a x b first second third : List ℕ)
    → first ≡ old ++ a → second ≡ first ++ x → OnOk r (third ≡ second ++ b)
    → OnOk r (third ≡ old ++ (a ++ (x ++ b)))
three-joined (Ok t) old a x b first second third p q s =
    s ∙ ap (λ y. y ++ b) (q ∙ ap (λ y. y ++ x) p) ∙ append_assoc (old ++ a) x b ∙ append_assoc old a (x ++ b)
three-joined (Err e) old a x b first second third p q s = tt
