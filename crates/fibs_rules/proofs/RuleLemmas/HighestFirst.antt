-- Steps by equal dice that follow each other may be played from the highest place down: to the same arrangement, by a
-- play that is no less.
use Rattle.std.proofs.Common.{◌≡◌, ◌≢◌, ℕ, ◌<◌, ◌≤◌, inl, inr, List, [], ◌∷◌, ◌++◌, false, refl, sym, ap, subst, ◌∙◌, arith, eq-eqb}
use Rattle.std.specs.Ordering.{is_gt, ordering_then, nat_cmp}
use Rattle.std.specs.declared.cmp.Ordering.TheVariants.{Less}
use Rattle.std.proofs.lemmas.Bool.{cases_eq, cases_lt, lt-ltb, cond-true, cond-false, cond_both, ne_eqb}
use Rattle.std.proofs.lemmas.Cmp.{upto, tied_itself}
use Rattle.fibs_rules.specs.Hop.{Hop}
use Rattle.fibs_rules.specs.Checkers.{Checkers}
use Rattle.fibs_rules.specs.OneChecker.{One}
use Rattle.fibs_rules.specs.Runs.{Run}
use Rattle.fibs_rules.specs.LegalPlays.{hop_cmp, play_cmp}
use Rattle.fibs_rules.specs.Search.{AreDice, next_top}
use Rattle.fibs_rules.proofs.PlayListLemmas.PlayOrder.{hop_total, play_total, itself}
use Rattle.fibs_rules.proofs.PlayListLemmas.Reaches.{Tried}
use Rattle.fibs_rules.proofs.RuleLemmas.StepsSwap.{steps_swap}

-- a run that is tried, by the same dice, and that is no less than another play
pub record Fallen (p q : Checkers) (dice : List ℕ) (top : ℕ) (than : List Hop) : Type 0 where
  pub play : List Hop
  pub run : Run p dice play q
  pub tried : Tried top dice play
  pub no_less : is_gt (play_cmp than play) ≡ false

-- a play that begins lower is not above
pub lower_first : (low high : Hop) (xs ys : List Hop) → low.source < high.source
    → is_gt (play_cmp (low ∷ xs) (high ∷ ys)) ≡ false
lower_first low high xs ys lt =
    let first : hop_cmp low high ≡ Less =
    ap (λ o. ordering_then o (nat_cmp low.target high.target))
    (cond-true _ _ _ (lt-ltb low.source high.source lt)) in
    ap (λ o. is_gt (ordering_then o (play_cmp xs ys))) first

-- with the same first step the others decide
same_first : (step : Hop) (xs ys : List Hop) → is_gt (play_cmp xs ys) ≡ false
    → is_gt (play_cmp (step ∷ xs) (step ∷ ys)) ≡ false
same_first step xs ys e = ap (λ o. is_gt (ordering_then o (play_cmp xs ys))) (tied_itself hop_total step) ∙ e

-- before an equal die the next step is from no higher place
pub top_equal : (die next : ℕ) (dice : List ℕ) (source : ℕ) → next ≡ die → next_top die (next ∷ dice) source ≡ source
top_equal die next dice source same = cond-true _ _ _ (eq-eqb next die same)

-- before another die it is from any place
top_other : (die next : ℕ) (dice : List ℕ) (source : ℕ) → next ≢ die → next_top die (next ∷ dice) source ≡ 25
top_other die next dice source apart = cond-false _ _ _ (ne_eqb next die apart)

-- from any place, if any place may come before
top_whole : (die : ℕ) (dice : List ℕ) → next_top die dice 25 ≡ 25
top_whole die [] = refl
top_whole die (next ∷ dice) = cond_both _ 25 25 (λ k. k ≡ 25) (λ e. refl) (λ e. refl)

-- a step by the same die as the next of others that are tried
inserted_equal : (p r s q : Checkers) (die : ℕ) (dice : List ℕ) (top : ℕ) (step next : Hop) (steps : List Hop)
    → 0 < die → One p step.source step.target die r → One r next.source next.target die s → Run s dice steps q
    → next.source ≤ top → Tried (next_top die dice next.source) dice steps → step.source ≤ top
    → ((other : Checkers) → One other step.source step.target die s → step.source ≤ next.source
    → Fallen other q (die ∷ dice) next.source (step ∷ steps)) → Fallen p q (die ∷ die ∷ dice) top (step ∷ next ∷ steps)
inserted_equal p r s q die dice top step next steps pos one two run high tried le more =
    elim (cases_lt step.source next.source) [
      | inl lower ↦
          let (other, first, second) =
          steps_swap p r s step.source step.target next.source next.target die pos lower one two in
          let f = more other second (omega arith) in
          record {
            play = next ∷ f.play;
            run = (other, first, f.run);
            tried = (
              high,
              subst (λ k. Tried k (die ∷ dice) f.play) (sym (top_equal die die dice next.source refl))
                  f.tried,
            );
            no_less = lower_first step next (next ∷ steps) f.play lower;
          }
      | inr no_lower ↦
          record {
            play = step ∷ next ∷ steps;
            run = (r, one, (s, two, run));
            tried = (
              le,
              subst (λ k. Tried k (die ∷ dice) (next ∷ steps)) (sym (top_equal die die dice step.source refl))
                  (no_lower, tried),
            );
            no_less = itself (step ∷ next ∷ steps);
          }
    ]

-- a step before others that are tried
inserted : (p r q : Checkers) (die : ℕ) (dice : List ℕ) (top : ℕ) (step : Hop) (steps : List Hop) → 0 < die
    → One p step.source step.target die r → Run r dice steps q → Tried (next_top die dice top) dice steps
    → step.source ≤ top → Fallen p q (die ∷ dice) top (step ∷ steps)
inserted p r q die [] top step [] pos one run tried le =
    record { play = step ∷ []; run = (r, one, run); tried = (le, tt); no_less = itself (step ∷ []) }
inserted p r q die (d ∷ dice) top step [] pos one run tried le = absurd run
inserted p r q die [] top step (next ∷ steps) pos one run tried le = absurd run
inserted p r q die (d ∷ dice) top step (next ∷ steps) pos one (s, two, run) (high, tried) le =
    elim (cases_eq d die) [
      | inl same ↦
          subst (λ k. Fallen p q (die ∷ k ∷ dice) top (step ∷ next ∷ steps)) (sym same)
          (inserted_equal p r s q die dice top step next steps pos one
          (subst (λ k. One r next.source next.target k s) same two) run
          (subst (λ k. next.source ≤ k) (top_equal die d dice top same) high)
          (subst (λ k. Tried (next_top k dice next.source) dice steps) same tried) le
          (λ other second low. inserted other s q die dice next.source step steps pos second run
          (subst (λ k. Tried (next_top k dice next.source) dice steps) same tried) low))
      | inr apart ↦
          record {
            play = step ∷ next ∷ steps;
            run = (r, one, (s, two, run));
            tried = (
              le,
              subst (λ k. Tried k (d ∷ dice) (next ∷ steps))
                  (top_other die d dice top apart ∙ sym (top_other die d dice step.source apart)) (high, tried),
            );
            no_less = itself (step ∷ next ∷ steps);
          }
    ]

-- each run has such a play
pub fallen : (p q : Checkers) (dice : List ℕ) (steps : List Hop) → AreDice dice → Run p dice steps q
    → Fallen p q dice 25 steps
fallen p q [] [] ok run = record { play = []; run = run; tried = tt; no_less = refl }
fallen p q [] (step ∷ steps) ok run = absurd run
fallen p q (die ∷ dice) [] ok run = absurd run
fallen p q (die ∷ dice) (step ∷ steps) ok (r, one, run) =
    let others = fallen r q dice steps ok.2 run in
    let tried = subst (λ k. Tried k dice others.play) (sym (top_whole die dice)) others.tried in
    let all = inserted p r q die dice 25 step others.play ok.0 one others.run tried one.source.1 in
    record {
      play = all.play;
      run = all.run;
      tried = all.tried;
      no_less =
          upto play_total (step ∷ steps) (step ∷ others.play) all.play
          (same_first step steps others.play others.no_less) all.no_less;
    }

-- a front of dice is of dice
pub front_dice : (dice rest : List ℕ) → AreDice (dice ++ rest) → AreDice dice
front_dice [] rest ok = tt
front_dice (die ∷ dice) rest ok = (ok.0, ok.1, front_dice dice rest ok.2)
