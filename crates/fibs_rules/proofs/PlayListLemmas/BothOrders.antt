-- What is kept after the runs in each order of the dice.
use Rattle.std.proofs.Common.{◌≡◌, ℕ, ◌++◌, true, false, sym, ap, ap₂, ◌∙◌}
use Rattle.std.specs.Prelude.{◌&&◌, ◌==◌}
use Rattle.std.specs.List.{fold}
use Rattle.std.proofs.lemmas.Bool.{cond-true, cond-false}
use Rattle.std.proofs.lemmas.List.Sums.{fold-append}
use Rattle.fibs_rules.specs.Runs.{Standing, most_of}
use Rattle.fibs_rules.specs.LegalPlays.{are_two, larger_first}
use Rattle.fibs_rules.specs.Search.{Kept, nothing, noted, all_in_order, all_of}

-- no die is forced
abbrev pub Free : Standing → Type 0
Free p = ((most_of p == 1) && larger_first p) ≡ false

-- of dice that are not two different ones all runs are those in one order
pub kept_one : (p : Standing) (a b : ℕ) (none one : Kept) → Free p → are_two p.first p.second ≡ false → a ≡ p.first
    → b ≡ p.second → none ≡ nothing → one ≡ fold noted none (all_in_order p a b) → one ≡ fold noted nothing (all_of p)
kept_one p a b none one free alike l r n o =
    o ∙ ap (λ k. fold noted k (all_in_order p a b)) n ∙ ap (fold noted nothing) (ap₂ (all_in_order p) l r
    ∙ sym (cond-false ((most_of p == 1) && larger_first p) _ _ free ∙ cond-false _ _ _ alike))

-- of two different ones those in both
pub kept_both : (p : Standing) (a b : ℕ) (none one both : Kept) → Free p → are_two p.first p.second ≡ true
    → a ≡ p.first → b ≡ p.second → none ≡ nothing → one ≡ fold noted none (all_in_order p a b)
    → both ≡ fold noted one (all_in_order p b a) → both ≡ fold noted nothing (all_of p)
kept_both p a b none one both free two l r n o t =
    t ∙ ap (λ k. fold noted k (all_in_order p b a)) (o ∙ ap (λ k. fold noted k (all_in_order p a b)) n)
    ∙ sym (fold-append noted nothing (all_in_order p a b) (all_in_order p b a))
    ∙ ap (fold noted nothing) (ap₂ (λ xs ys. xs ++ ys) (ap₂ (all_in_order p) l r) (ap₂ (all_in_order p) r l)
    ∙ sym (cond-false ((most_of p == 1) && larger_first p) _ _ free ∙ cond-true _ _ _ two))
