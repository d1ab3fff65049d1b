-- What is before the first line end.
use Rattle.std.proofs.Common.{◌≡◌, ◌==◌, ℕ, Bool, true, false, List, [], ◌∷◌, refl, ap}
use Rattle.std.specs.Io.BufRead.{take_through}
use Rattle.fibs_fields.specs.Split.{before}

-- what is in front of the first such byte is the same in a text up to it, whether or not it begins with it
through-cases : (c x : ℕ) (xs : List ℕ) (t : Bool) → (x == c) ≡ t → before c (take_through c xs) ≡ before c xs
    → before c (take_through c (x ∷ xs)) ≡ before c (x ∷ xs)
through-cases c x xs true e inner = rw e (rw e refl)
through-cases c x xs false e inner = rw e (rw e (ap (λ l. x ∷ l) inner))

-- what is before the first byte of a kind, if a text was cut after that
pub before_through : (c : ℕ) (xs : List ℕ) → before c (take_through c xs) ≡ before c xs
before_through c [] = refl
before_through c (x ∷ xs) = through-cases c x xs (x == c) refl (before_through c xs)
