-- The runs that are tried are as long as any: if one die follows an equal one, the higher source may be first.
use Rattle.std.proofs.Common.{◌≡◌, ℕ, suc, ◌≤◌, List, [], ◌∷◌, ◌++◌, length, subst, sym, arith}
use Rattle.std.proofs.lemmas.Bool.{cond_both}
use Rattle.fibs_rules.specs.Hop.{Hop}
use Rattle.fibs_rules.specs.Checkers.{Checkers}
use Rattle.fibs_rules.specs.Runs.{Run, longest}
use Rattle.fibs_rules.specs.Search.{AreDice, longest_tried, next_top}
use Rattle.fibs_rules.proofs.RuleLemmas.OneChecker.{one_complete}
use Rattle.fibs_rules.proofs.RuleLemmas.HighestFirst.{fallen, front_dice}
use Rattle.fibs_rules.proofs.SearchLemmas.BestSteps.{best_of-least, best_of-below}
use Rattle.fibs_rules.proofs.SearchLemmas.LongestRuns.{longest-reached, run_long}
use Rattle.fibs_rules.proofs.PlayListLemmas.Reaches.{Tried}

-- no run that is tried is longer
tried_most : (p q : Checkers) (dice rest : List ℕ) (top : ℕ) (steps : List Hop) → Run p dice steps q
    → Tried top dice steps → length steps ≤ longest_tried p (dice ++ rest) top
tried_most p q [] rest top [] run tried = omega arith
tried_most p q [] rest top (step ∷ steps) run tried = absurd run
tried_most p q (die ∷ dice) rest top [] run tried = absurd run
tried_most p q (die ∷ []) rest top (step ∷ []) (r, one, run) (low, tried) =
    let (at, found) = one_complete p r step.source step.target die one in
    let least =
    best_of-least (λ source q. suc (longest_tried q rest (next_top die rest source))) p r die step.source top
    one.source.0 low found in
    omega (arith, least)
tried_most p q (die ∷ []) rest top (step ∷ next ∷ steps) (r, one, run) tried = absurd run
tried_most p q (die ∷ d ∷ dice) rest top (step ∷ steps) (r, one, run) (low, tried) =
    let ih = tried_most r q (d ∷ dice) rest (next_top die (d ∷ dice) step.source) steps run tried in
    let (at, found) = one_complete p r step.source step.target die one in
    let least =
    best_of-least (λ source q. suc (longest_tried q (d ∷ dice ++ rest) (next_top die (d ∷ dice ++ rest) source))) p r
    die step.source top one.source.0 low found in
    omega (arith, ih, least)

-- the next place is one of a board
top_low : (die : ℕ) (dice : List ℕ) (source : ℕ) → source ≤ 25 → next_top die dice source ≤ 25
top_low die [] source le = omega arith
top_low die (next ∷ dice) source le = cond_both _ source 25 (λ k. k ≤ 25) (λ e. le) (λ e. omega arith)

-- not more is found than there is
tried_least : (p : Checkers) (dice : List ℕ) (top : ℕ) → top ≤ 25 → longest_tried p dice top ≤ longest p dice
tried_least p [] top le = omega arith
tried_least p (die ∷ dice) top le =
    best_of-below (λ source q. suc (longest_tried q dice (next_top die dice source)))
    (λ source q. suc (longest q dice)) p die top 25 le
    (λ source q low.
    let ih = tried_least q dice (next_top die dice source) (top_low die dice source (omega (arith, low, le))) in
    omega (arith, ih))

-- so as many are found
pub tried_is_longest : (p : Checkers) (dice : List ℕ) → AreDice dice → longest_tried p dice 25 ≡ longest p dice
tried_is_longest p dice ok =
    let r = longest-reached p dice ok in
    let f = fallen p r.to r.used r.steps (front_dice r.used r.rest (subst AreDice (sym r.front) ok)) r.run in
    let most : length f.play ≤ longest_tried p dice 25 =
    subst (λ ds. length f.play ≤ longest_tried p ds 25) r.front
    (tried_most p r.to r.used r.rest 25 f.play f.run f.tried)
    in
    let least = tried_least p dice 25 (omega arith) in
    let one = run_long p r.to r.used f.play f.run in
    let other = run_long p r.to r.used r.steps r.run in
    let long = r.long in
    omega (arith, most, least, one, other, long)
