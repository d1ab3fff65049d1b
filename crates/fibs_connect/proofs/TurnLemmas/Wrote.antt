-- What was written, piece by piece.
use Rattle.std.proofs.Common.{◌≡◌, ℕ, List, [], ◌∷◌, ◌++◌, Option, sym, ap, subst, ◌∙◌, append_assoc, append-nil, take}
use Rattle.std.specs.Io.KnownBytes.{Appends, Consumes}
use Rattle.std.proofs.KnownBytes.{Appends-trans, Consumes-trans}
use Rattle.fibs_engine.specs.Writing.{Wrote, Progress, Whole, Broken}

-- after what was written whole
pub wrote_more : (p : Progress) (a b c : Option (List ℕ)) (xs ys : List ℕ) → Appends a b xs → Wrote p b c ys
    → Wrote p a c (xs ++ ys)
wrote_more Whole a b c xs ys h w = Appends-trans a b c xs ys h w
wrote_more Broken a b c xs ys h w = (
  xs ++ w.0,
  w.1,
  w.2,
  ap (λ l. xs ++ l) w.3
      ∙ sym (append_assoc xs w.0 (w.2 ∷ w.1)),
  Appends-trans a b c xs w.0 h w.4,
)

-- more was to come
pub wrote_front : (a b : Option (List ℕ)) (xs ys : List ℕ) → Wrote Broken a b xs → Wrote Broken a b (xs ++ ys)
wrote_front a b xs ys w = (w.0, w.1 ++ ys, w.2, ap (λ l. l ++ ys) w.3 ∙ append_assoc w.0 (w.2 ∷ w.1) ys, w.4)

-- a read of no bytes
pub consumes_none : (a b c : Option (List ℕ)) (s : List ℕ) (n : ℕ) (buf : List ℕ) → Consumes a b s
    → Consumes b c (take n buf) → n ≡ 0 → Consumes a c s
consumes_none a b c s n buf p q e = subst (Consumes a c) (append-nil s)
    (Consumes-trans a b c s [] p (subst (λ k. Consumes b c (take k buf)) e q))
