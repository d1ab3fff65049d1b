-- The first element of a list for which a fact holds.
use Rattle.std.proofs.Common.{◌≡◌, Bool, true, false, cond, List, [], ◌∷◌, ◌++◌, ◌⊎◌, inl, inr, Option, Some, sym, ap, refl}
use Rattle.std.specs.Prelude.{◌↔◌, find}
use Rattle.std.specs.Bool.{Decides}
use Rattle.std.proofs.lemmas.Bool.{false≢true}
use Rattle.fibs_position.specs.First.{IsFirst}

-- what a search by tests finds, if each test decides the fact
by_test : {A : Type 0} (t : Bool) (Q : Type 0) → Decides t Q → (y x : A) (o : Option A) (R : Type 0) → (o ≡ Some x) ↔ R
    → (cond t (Some y) o ≡ Some x) ↔ ((Q × (x ≡ y)) ⊎ (¬ Q × R))
by_test true Q d y x o R h = (
  λ e. inl (d.0 refl, cc),
  λ f. elim f [ inl both ↦ ap Some (sym both.1) | inr later ↦ absurd (later.0 (d.0 refl)) ],
)
by_test false Q d y x o R h = (
  λ e. inr (λ q. false≢true (d.1 q), h.0 e),
  λ f. elim f [ inl both ↦ absurd (false≢true (d.1 both.0)) | inr later ↦ h.1 later.1 ],
)

-- what a search by the test finds is the first that fits
pub find_first : {A : Type 0} (test : A → Bool) (fits : A → Type 0) → ((y : A) → Decides (test y) (fits y))
    → (ys : List A) (x : A) → (find test ys ≡ Some x) ↔ IsFirst fits ys x
find_first test fits d [] x = (λ e. absurd cc, λ h. absurd h)
find_first test fits d (y ∷ ys) x =
    by_test (test y) (fits y) (d y) y x (find test ys) (IsFirst fits ys x) (find_first test fits d ys x)

-- a search that finds something after a test finds something
picked : {A : Type 0} (t : Bool) (y : A) (o : Option A) → (x : A) × (o ≡ Some x)
    → (x : A) × (cond t (Some y) o ≡ Some x)
picked true y o found = (y, refl)
picked false y o found = found

-- if the last passes the test, one is found
pub find_some : {A : Type 0} (test : A → Bool) (ys : List A) (z : A) → test z ≡ true
    → (x : A) × (find test (ys ++ z ∷ []) ≡ Some x)
find_some test [] z passes = (z, rw passes refl)
find_some test (y ∷ ys) z passes = picked (test y) y (find test (ys ++ z ∷ [])) (find_some test ys z passes)
