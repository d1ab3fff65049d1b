-- The loop that looks for the most dice that can be played.
use Rattle.std.proofs.Common.{take, take_all, length-drop, ◌≡◌, ℕ, suc, ◌+◌, ◌-◌, ◌<◌, ◌≤◌, max, List, [], ◌∷◌, length, get_or, drop, Some, None, refl, sym, ap, ◌∙◌, arith, add-one}
use Rattle.fibs_rules.specs.Checkers.{Checkers}
use Rattle.fibs_rules.specs.OneChecker.{one_of}
use Rattle.fibs_rules.specs.Runs.{best_of, score}
use Rattle.fibs_rules.specs.Search.{longest_by, longest_tried, next_top}
use Rattle.fibs_rules.proofs.SearchLemmas.BestSteps.{best_of-mono, best_of-most}

-- one place more
best_of_more : (worth : ℕ → Checkers → ℕ) (p : Checkers) (die n : ℕ)
    → best_of worth p die (n + 1) ≡ max (best_of worth p die n) (score (worth (n + 1)) (one_of p (n + 1) die))
unfolding best_of
best_of_more worth p die n = rw (add-one n) refl

-- no place
pub best_of_none : (p : Checkers) (die : ℕ) (dice : List ℕ) → longest_by p die dice 0 ≡ 0
unfolding longest_by best_of
best_of_none p die dice = refl

-- a place from which a checker goes
pub best_of_some : (p q : Checkers) (die : ℕ) (dice : List ℕ) (n : ℕ) → one_of p (n + 1) die ≡ Some q
    → longest_by p die dice (n + 1)
    ≡ max (longest_by p die dice n) (1 + longest_tried q dice (next_top die dice (n + 1)))
unfolding longest_by
best_of_some p q die dice n e =
    let worth : ℕ → Checkers → ℕ = λ source q. suc (longest_tried q dice (next_top die dice source)) in
    best_of_more worth p die n ∙ ap (λ o. max (best_of worth p die n) (score (worth (n + 1)) o)) e ∙ omega arith

-- a place from which none goes
pub best_of_skip : (p : Checkers) (die : ℕ) (dice : List ℕ) (n : ℕ) → one_of p (n + 1) die ≡ None
    → longest_by p die dice (n + 1) ≡ longest_by p die dice n
unfolding longest_by
best_of_skip p die dice n e =
    let worth : ℕ → Checkers → ℕ = λ source q. suc (longest_tried q dice (next_top die dice source)) in
    best_of_more worth p die n ∙ ap (λ o. max (best_of worth p die n) (score (worth (n + 1)) o)) e ∙ omega arith

-- with a die, the best over all places that are tried
pub longest_more : (p : Checkers) (dice : List ℕ) (top : ℕ) → 0 < length dice
    → longest_tried p dice top ≡ longest_by p (get_or dice 0 0) (drop 1 dice) top
unfolding longest_by
longest_more p [] top h = absurd (omega arith)
longest_more p (die ∷ dice) top h = refl

-- without a die none is played
pub longest_none : (p : Checkers) (dice : List ℕ) (top : ℕ) → length dice ≡ 0 → longest_tried p dice top ≡ 0
longest_none p [] top h = refl
longest_none p (die ∷ dice) top h = absurd (omega arith)

-- no more dice are played than there are
tried_short : (p : Checkers) (dice : List ℕ) (top : ℕ) → longest_tried p dice top ≤ length dice
tried_short p [] top = omega arith
tried_short p (die ∷ dice) top =
    best_of-most (λ source q. suc (longest_tried q dice (next_top die dice source))) p die top (suc (length dice))
    (λ source q. let h = tried_short q dice (next_top die dice source) in omega (arith, h))

-- from more places no fewer are played
by_more : (p : Checkers) (die : ℕ) (dice : List ℕ) (n top : ℕ) → n ≤ top
    → longest_by p die dice n ≤ longest_by p die dice top
unfolding longest_by
by_more p die dice n top le =
    best_of-mono (λ source q. suc (longest_tried q dice (next_top die dice source))) p die n top le

-- if all dice are played, no other place gives more
pub all_played : (p : Checkers) (dice : List ℕ) (best n top : ℕ) → 0 < length dice
    → best ≡ longest_by p (get_or dice 0 0) (drop 1 dice) n → best ≡ length dice → n ≤ top
    → best ≡ longest_tried p dice top
all_played p dice best n top some b all le =
    let least = by_more p (get_or dice 0 0) (drop 1 dice) n top le in
    let most = tried_short p dice top in
    let whole = longest_more p dice top some in
    omega (arith, b, all, least, most, whole)

-- what the slice of the rest is
pub rest_whole : {X : Type 0} (dice : List X) → take (length dice - 1) (drop 1 dice) ≡ drop 1 dice
rest_whole dice = take_all (length dice - 1) (drop 1 dice) (omega (arith, length-drop 1 dice))

-- one more source, which leads on
pub best_taken : (p q : Checkers) (die : ℕ) (dice : List ℕ) (n best more top : ℕ)
    → best ≡ longest_by p die (drop 1 dice) n → best ≤ length dice → 0 < length dice → one_of p (n + 1) die ≡ Some q
    → top ≡ next_top die (take (length dice - 1) (drop 1 dice)) (n + 1)
    → more ≡ longest_tried q (take (length dice - 1) (drop 1 dice)) top
    → more ≤ length (take (length dice - 1) (drop 1 dice))
    → (max best (1 + more) ≡ longest_by p die (drop 1 dice) (n + 1)) × (max best (1 + more) ≤ length dice)
best_taken p q die dice n best more top b short some o t e s =
    let f : more ≡ longest_tried q (drop 1 dice) (next_top die (drop 1 dice) (n + 1)) =
    e ∙ ap (longest_tried q (take (length dice - 1) (drop 1 dice))) t
    ∙ ap (λ ds. longest_tried q ds (next_top die ds (n + 1))) (rest_whole dice) in
    let l = ap length (rest_whole dice) in (
      ap (λ k. max k (1 + more)) b ∙ ap (λ k. max (longest_by p die (drop 1 dice) n) (1 + k)) f
          ∙ sym (best_of_some p q die (drop 1 dice) n o),
      omega (arith, l, s, length-drop 1 dice),
    )
