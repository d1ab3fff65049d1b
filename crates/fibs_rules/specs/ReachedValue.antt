-- The keys of the map of plays. Only private functions and proofs use this file: no public clause rests on it.
use Rattle.std.specs.Prelude.{◌≡◌, ◌∷◌, [], Bool, IsTrue}
use Rattle.std.specs.Cmp.{IsEquivalence, on_equiv}
use Rattle.fibs_rules.specs.Reached.{checkers_eq, same_checkers, checkers_equiv}
use Rattle.fibs_rules.specs.declared.reached.Reached.{Reached}

-- keys for the same arrangement
abbrev pub reached_eq : Reached → Reached → Bool
reached_eq a b = checkers_eq a.at b.at

-- an equality
pub reached_equiv : IsEquivalence reached_eq
reached_equiv = on_equiv (λ (r : Reached). r.at) checkers_equiv

-- whose sides have the same counts
pub same_counts : (a b : Reached) → IsTrue (reached_eq a b)
    → (a.at.own ∷ a.at.other ∷ []) ≡ (b.at.own ∷ b.at.other ∷ [])
same_counts a b e = λ i. let c = same_checkers a.at b.at e i in c.own ∷ c.other ∷ []
