-- A text is tested by windows. The last may begin within another.
use Rattle.std.proofs.Common.{◌≡◌, ◌∙◌, ℕ, ◌+◌, ◌-◌, ◌≤◌, Bool, true, false, List, take, drop, refl, sym, ap, arith, take-append-drop}
use Rattle.std.specs.Prelude.{◌||◌}
use Rattle.std.specs.List.{list_any}
use Rattle.std.proofs.Math.Bool.{or_assoc}
use Rattle.std.proofs.Math.Seq.{take-add}
use Rattle.std.proofs.lemmas.List.Folds.{list_any-append}

-- one window more
pub window_more : (p : ℕ → Bool) (xs : List ℕ) (at n : ℕ) (last found now : Bool)
    → found ≡ (last || list_any p (take at xs)) → now ≡ (found || list_any p (take n (drop at xs)))
    → now ≡ (last || list_any p (take (at + n) xs))
window_more p xs at n last found now before step =
    step ∙ (ap (λ (b : Bool). b || list_any p (take n (drop at xs))) before
    ∙ (or_assoc last (list_any p (take at xs)) (list_any p (take n (drop at xs)))
    ∙ ap (λ (b : Bool). last || b)
    (sym (ap (list_any p) (take-add at n xs) ∙ list_any-append p (take at xs) (take n (drop at xs))))))

-- what two parts that overlap have is what all has
covered : (a m d : Bool) → ((m || d) || (a || m)) ≡ (a || (m || d))
covered true true d = refl
covered true false true = refl
covered true false false = refl
covered false true d = refl
covered false false true = refl
covered false false false = refl

-- windows up to a place, and what is from an earlier one on, are all
pub windows_cover : (p : ℕ → Bool) (xs : List ℕ) (from at : ℕ) (found : Bool) → from ≤ at
    → found ≡ (list_any p (drop from xs) || list_any p (take at xs)) → found ≡ list_any p xs
windows_cover p xs from at found reach is =
    let a = list_any p (take from xs) in
    let m = list_any p (take (at - from) (drop from xs)) in
    let d = list_any p (drop (at - from) (drop from xs)) in
    let there : from + (at - from) ≡ at = omega arith in
    let front : list_any p (take at xs) ≡ (a || m) =
    ap (λ (n : ℕ). list_any p (take n xs)) (sym there)
    ∙ (ap (list_any p) (take-add from (at - from) xs)
    ∙ list_any-append p (take from xs) (take (at - from) (drop from xs))) in
    let back : list_any p (drop from xs) ≡ (m || d) =
    ap (list_any p) (sym (take-append-drop (at - from) (drop from xs)))
    ∙ list_any-append p (take (at - from) (drop from xs)) (drop (at - from) (drop from xs)) in
    let all : list_any p xs ≡ (a || (m || d)) =
    ap (list_any p) (sym (take-append-drop from xs))
    ∙ (list_any-append p (take from xs) (drop from xs) ∙ ap (λ (b : Bool). a || b) back) in
    is ∙ (ap (λ (b : Bool). b || list_any p (take at xs)) back ∙ (ap (λ (b : Bool). (m || d) || b) front
    ∙ (covered a m d ∙ sym all)))
