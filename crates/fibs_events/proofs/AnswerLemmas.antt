-- What calls that answer nothing, or something, say.
use Rattle.std.proofs.Common.{◌≡◌, ◌≢◌, ◌++◌, ◌∙◌, ℕ, List, MatchOption, Option, Some, None, Result, Ok, Err, Bor, ap, subst, sym}
use Rattle.std.specs.Result.{OkIff, result_ok}
use Rattle.std.specs.Prelude.{IfNone, IsOk, OnOk}

-- nothing is answered
pub none_told : {X : Type 0} (answer : Option X) (A : Type 0) (B : X → Type 0) → answer ≡ None → A
    → MatchOption answer A B
none_told answer A B none is = subst (λ o. MatchOption o A B) (sym none) is

-- the same of a fact for nothing
pub if_none : {X : Type 0} (answer : Option X) (A : Type 0) → answer ≡ None → A → IfNone answer A
if_none answer A none is = subst (λ o. IfNone o A) (sym none) is

-- a number that fits is what it was
pub fits_narrow : {E : Type 0} (r : Result ℕ E) (P : Type 0) (v n : ℕ) → OkIff r P v → P → v ≡ n
    → result_ok r ≡ Some n
fits_narrow (Ok x) P v n h p is = ap Some (h.1 ∙ is)
fits_narrow (Err e) P v n h p is = absurd (h p)

-- what a text is from which its front was cut
pub was_cut : (text front : List ℕ) (cut : Option (Bor (List ℕ))) (rest : Bor (List ℕ)) → cut ≡ Some rest
    → MatchOption cut ((other : List ℕ) → text ≢ front ++ other) (λ x. text ≡ front ++ x.now)
    → text ≡ front ++ rest.now
was_cut text front cut rest is tells =
    subst (λ r. MatchOption r ((other : List ℕ) → text ≢ front ++ other) (λ x. text ≡ front ++ x.now)) is tells

-- and one from which it was not
pub not_cut : (text front : List ℕ) (cut : Option (Bor (List ℕ))) → cut ≡ None
    → MatchOption cut ((other : List ℕ) → text ≢ front ++ other) (λ x. text ≡ front ++ x.now)
    → (other : List ℕ) → text ≢ front ++ other
not_cut text front cut is tells =
    subst (λ r. MatchOption r ((other : List ℕ) → text ≢ front ++ other) (λ x. text ≡ front ++ x.now)) is tells

-- the same of a text from which its end was cut
pub was_cut_off : (text end : List ℕ) (cut : Option (Bor (List ℕ))) (front : Bor (List ℕ)) → cut ≡ Some front
    → MatchOption cut ((other : List ℕ) → text ≢ other ++ end) (λ x. text ≡ x.now ++ end)
    → text ≡ front.now ++ end
was_cut_off text end cut front is tells =
    subst (λ r. MatchOption r ((other : List ℕ) → text ≢ other ++ end) (λ x. text ≡ x.now ++ end)) is tells

-- and one from which it was not
pub not_cut_off : (text end : List ℕ) (cut : Option (Bor (List ℕ))) → cut ≡ None
    → MatchOption cut ((other : List ℕ) → text ≢ other ++ end) (λ x. text ≡ x.now ++ end)
    → (other : List ℕ) → text ≢ other ++ end
not_cut_off text end cut is tells =
    subst (λ r. MatchOption r ((other : List ℕ) → text ≢ other ++ end) (λ x. text ≡ x.now ++ end)) is tells

-- what is true of a call that was answered
pub as_answered : {T E : Type 0} (r : Result T E) (o : Option T) (x : T) (P : Type 0) → o ≡ result_ok r
    → o ≡ Some x → OnOk r P → P
as_answered (Ok y) o x P is some p = p
as_answered (Err e) o x P is some p = absurd cc

-- a call that was not answered did not succeed
pub not_answered : {T E : Type 0} (r : Result T E) (o : Option T) → o ≡ result_ok r → o ≡ None → ¬ IsOk r
not_answered (Ok y) o is none ok = cc
not_answered (Err e) o is none ok = cc
