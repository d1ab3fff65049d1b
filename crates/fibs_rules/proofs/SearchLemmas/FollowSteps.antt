-- The loop that looks whether steps can be played by given dice.
use Rattle.std.proofs.Common.{◌≡◌, ◌≢◌, ℕ, suc, zero, ◌-◌, ◌<◌, ◌≤◌, List, [], ◌∷◌, length, map, take, drop, get_or, Some, None, false, refl, sym, ap, ◌∙◌, arith, eq-eqb}
use Rattle.std.specs.Prelude.{◌&&◌, ◌==◌}
use Rattle.std.proofs.lemmas.Bool.{and_left, and_right, ne_eqb}
use Rattle.fibs_rules.specs.Checkers.{Checkers}
use Rattle.fibs_rules.specs.Hop.{hop_of}
use Rattle.fibs_rules.specs.OneChecker.{one_of}
use Rattle.fibs_rules.specs.Search.{AreDice}
use Rattle.fibs_rules.specs.Runs.{follows, passes}
use Rattle.fibs_rules.specs.declared.step.Step.{Step}
use Rattle.fibs_rules.proofs.SearchLemmas.LongestLoop.{rest_whole}

-- the first of some dice, and of some steps, and the others
follows_step : (p : Checkers) (dice : List ℕ) (steps : List Step) (step : Step) → 0 < length dice → 0 < length steps
    → step ≡ get_or steps 0 step
    → follows p dice (map hop_of steps)
    ≡ ((step.target == step.source - get_or dice 0 0)
    && passes (λ q. follows q (drop 1 dice) (map hop_of (drop 1 steps))) (one_of p step.source (get_or dice 0 0)))
follows_step p [] steps step d s e = absurd (omega arith)
follows_step p (die ∷ dice) [] step d s e = absurd (omega arith)
follows_step p (die ∷ dice) (first ∷ steps) step d s e =
    ap (λ (h : Step). (h.target == h.source - die)
    && passes (λ q. follows q dice (map hop_of steps)) (one_of p h.source die)) (sym e)

-- without a die no step is played
pub follows_none : (p : Checkers) (dice : List ℕ) (steps : List Step) → length dice ≡ 0 → 0 < length steps
    → false ≡ follows p dice (map hop_of steps)
follows_none p [] [] d s = absurd (omega arith)
follows_none p [] (step ∷ steps) d s = refl
follows_none p (die ∷ dice) steps d s = absurd (omega arith)

-- nor one to another place than its die gives
pub follows_astray : (p : Checkers) (dice : List ℕ) (steps : List Step) (step : Step) → 0 < length dice
    → 0 < length steps → step ≡ get_or steps 0 step
    → step.target ≢ step.source - get_or dice 0 0 → false ≡ follows p dice (map hop_of steps)
follows_astray p dice steps step d s e apart =
    sym (follows_step p dice steps step d s e ∙ and_left _ _ (ne_eqb step.target (step.source - get_or dice 0 0) apart))

-- nor one that the rules forbid
pub follows_stuck : (p : Checkers) (dice : List ℕ) (steps : List Step) (step : Step) → 0 < length dice
    → 0 < length steps → step ≡ get_or steps 0 step
    → None ≡ one_of p step.source (get_or dice 0 0) → false ≡ follows p dice (map hop_of steps)
follows_stuck p dice steps step d s e none =
    sym (follows_step p dice steps step d s e
    ∙ and_right _ _ (ap (passes (λ q. follows q (drop 1 dice) (map hop_of (drop 1 steps)))) (sym none)))

-- after a step the others follow by the other dice
pub follows_on : (p q : Checkers) (dice : List ℕ) (steps : List Step) (step : Step) → 0 < length dice → 0 < length steps
    → step ≡ get_or steps 0 step
    → step.target ≡ step.source - get_or dice 0 0 → Some q ≡ one_of p step.source (get_or dice 0 0)
    → follows q (take (length dice - 1) (drop 1 dice)) (map hop_of (take (length steps - 1) (drop 1 steps))) ≡ follows p
    dice (map hop_of steps)
follows_on p q dice steps step d s e at some =
    let l = rest_whole dice in let r = rest_whole steps in
    ap (λ ds. follows q ds (map hop_of (take (length steps - 1) (drop 1 steps)))) l
    ∙ ap (λ xs. follows q (drop 1 dice) (map hop_of xs)) r
    ∙ sym (follows_step p dice steps step d s e
    ∙ ap (λ b. b && passes (λ q. follows q (drop 1 dice) (map hop_of (drop 1 steps)))
    (one_of p step.source (get_or dice 0 0))) (eq-eqb step.target (step.source - get_or dice 0 0) at)
    ∙ ap (passes (λ q. follows q (drop 1 dice) (map hop_of (drop 1 steps)))) (sym some))

-- the other dice are dice
pub dice_rest : (dice : List ℕ) → AreDice dice → AreDice (take (length dice - 1) (drop 1 dice))
dice_rest [] ok = tt
dice_rest (die ∷ dice) ok = rw rest_whole ok.2

-- a front of dice
pub dice_front : (xs : List ℕ) (n count : ℕ) → AreDice (take count xs) → n ≤ count → AreDice (take n xs)
dice_front xs zero count ok le = tt
dice_front [] (suc n) count ok le = tt
dice_front (x ∷ xs) (suc n) zero ok le = absurd (omega arith)
dice_front (x ∷ xs) (suc n) (suc count) ok le = (ok.0, ok.1, dice_front xs n count ok.2 (omega arith))
