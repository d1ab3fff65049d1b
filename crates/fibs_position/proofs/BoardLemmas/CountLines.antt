-- Lists of 26 counts: the 24 places between two others.
use Rattle.std.proofs.Common.{◌≡◌, ℕ, ◌+◌, List, [], ◌∷◌, ◌++◌, sum, ap, ◌∙◌}
use Rattle.std.proofs.lemmas.List.Sums.{sum_by_push, sum_by-cons}

-- the checkers of a line are those of its three parts
pub line_sum : (line places : List ℕ) (low high : ℕ) → line ≡ low ∷ (places ++ high ∷ [])
    → sum line ≡ low + (sum places + high)
line_sum line places low high is =
    ap sum is ∙ sum_by-cons (λ x. x) low (places ++ high ∷ []) ∙ ap (λ n. low + n) (sum_by_push (λ x. x) places high)
