-- Arrangements as a map tells them apart. Only private functions and proofs use this file: no public clause rests on
-- it.
use Rattle.std.specs.Prelude.{◌≡◌, ◌&&◌, nat_eq, Bool, true}
use Rattle.std.proofs.Common.{refl, subst}
use Rattle.std.specs.Cmp.{IsEquivalence, decided}
use Rattle.std.specs.Cmp.Lexicographic.{pointwise}
use Rattle.std.proofs.lemmas.Bool.{and_parts, and_from}
use Rattle.std.proofs.lemmas.Slice.Eq.{bytes_eq-Decides}
use Rattle.fibs_rules.specs.Checkers.{Checkers}

-- arrangements with the same counts
abbrev pub checkers_eq : Checkers → Checkers → Bool
checkers_eq p q = pointwise nat_eq p.own q.own && pointwise nat_eq p.other q.other

-- they are one
pub same_checkers : (p q : Checkers) → checkers_eq p q ≡ true → p ≡ q
same_checkers p q e =
    let (own, other) = and_parts (pointwise nat_eq p.own q.own) (pointwise nat_eq p.other q.other) e in
    λ i. record { own = (bytes_eq-Decides p.own q.own).0 own i; other = (bytes_eq-Decides p.other q.other).0 other i }

-- each has the same counts as itself
pub itself_eq : (p : Checkers) → checkers_eq p p ≡ true
itself_eq p =
    and_from (pointwise nat_eq p.own p.own) (pointwise nat_eq p.other p.other)
    ((bytes_eq-Decides p.own p.own).1 refl) ((bytes_eq-Decides p.other p.other).1 refl)

-- so that they have the same counts is an equality
pub checkers_equiv : IsEquivalence checkers_eq
checkers_equiv = decided checkers_eq
    (λ p q. (same_checkers p q, λ e. subst (λ c. checkers_eq p c ≡ true) e (itself_eq p)))
