-- The first shape that a text has.
use Rattle.std.proofs.Common.{◌≡◌, ◌∙◌, ℕ, zero, suc, ◌<◌, List, [], ◌∷◌, ◌++◌, length, get_or, take, All, refl, sym, arith, inl, inr}
use Rattle.std.proofs.lemmas.List.{append_cancel_left}
use Rattle.std.proofs.lemmas.List.Elements.{All-head, All-tail}
use Rattle.fibs_position.specs.First.{IsFirst}
use Rattle.fibs_events.specs.Told.{HasFirst, HasNone, HasShape, IsShaped, Shape}

-- an element for which a fact holds is the first such one, if it holds of none of those before
first_at : {X : Type 0} (P : X → Type 0) (xs : List X) (k : ℕ) (d : X) → All (λ y. ¬ P y) (take k xs)
    → k < length xs → P (get_or xs k d) → IsFirst P xs (get_or xs k d)
first_at P [] k d none within has = absurd (omega arith)
first_at P (y ∷ ys) zero d none within has = inl (has, refl)
first_at P (y ∷ ys) (suc k) d none within has =
    inr (
      All-head (λ z. ¬ P z) y (take k ys) none,
      first_at P ys k d (All-tail (λ z. ¬ P z) y (take k ys) none) (omega arith) has,
    )

-- the shape at a place is the first one that a text has, if it has none of those before
pub has_first : (text : List ℕ) (shapes : List Shape) (k : ℕ) (d : Shape) (rest : List ℕ)
    → HasNone text (take k shapes) → k < length shapes → HasShape text (get_or shapes k d) rest
    → HasFirst text shapes (get_or shapes k d).3 (get_or shapes k d).4 rest
has_first text shapes k d rest none within has = record {
  shape = get_or shapes k d;
  first = first_at (IsShaped text) shapes k d none within (rest, has);
  has = has;
  says = refl;
  happens = refl;
}

-- what follows how a shape begins is one text
pub same_rest : (text : List ℕ) (shape : Shape) (rest other : List ℕ) → text ≡ shape.0.now ++ rest
    → HasShape text shape other → other ≡ rest
same_rest text shape rest other is has =
    append_cancel_left shape.0.now other rest (sym has.begins ∙ is)
