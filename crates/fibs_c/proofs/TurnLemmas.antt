-- Why the steps that are tried are all that may follow.
use Rattle.std.proofs.Common.{◌≡◌, ◌≢◌, cond, ◌⊎◌, ◌<◌, ◌≤◌, ◌+◌, ◌-◌, ◌==◌, ℕ, suc, Bool, true, false, not, inl, inr, List, [], ◌∷◌, ◌++◌, length, Option, Some, None, refl, sym, ap, subst, ◌∙◌, arith, nat_lt, append_assoc, append-nil, length-append, map, min, max}
use Rattle.std.specs.Prelude.{unwrap_or}
use Rattle.std.proofs.lemmas.Bool.{cases_eq, cases_lt, cond-true, cond-false, lt-ltb, le-ltb, ne_eqb}
use Rattle.std.specs.List.{Contains}
use Rattle.std.proofs.lemmas.List.{get_or-map, length-map}
use Rattle.fibs_fields.specs.Board.{BoardFields}
use Rattle.fibs_position.specs.Allowed.{IsAllowed}
use Rattle.fibs_position.specs.BoardEffect.{AreThrown, Effect, after_move}
use Rattle.fibs_position.specs.DecisionValue.{move}
use Rattle.fibs_position.specs.GoodBoard.{IsGood}
use Rattle.fibs_position.specs.Laws.{AllowedIsCarriedOut}
use Rattle.fibs_position.specs.OwnView.{own_view, first_die, second_die}
use Rattle.fibs_position.specs.PositionValue.{position_of}
use Rattle.fibs_rules.specs.Hop.{Hop}
use Rattle.fibs_rules.specs.Checkers.{Checkers}
use Rattle.fibs_rules.specs.LaxPlays.{LaxRun}
use Rattle.fibs_rules.specs.LegalPlays.{LegalPlay}
use Rattle.fibs_rules.specs.OneChecker.{One}
use Rattle.fibs_rules.specs.PlayValue.{hops_of}
use Rattle.fibs_rules.specs.declared.play.Play.{Play}
use Rattle.fibs_rules.specs.Runs.{IsMost, IsPart, Run, Standing, held, held_of}
use Rattle.fibs_rules.proofs.RuleLemmas.DiceParts as D
use Rattle.fibs_rules.proofs.RuleLemmas.DiceParts.{none, single, different, equal}
use Rattle.fibs_rules.proofs.SearchLemmas.LongestRuns.{run_long}
use Rattle.fibs_c.specs.TurnDoor.{GoesOn, GoesOnBy, IsCarriedOut, IsNext, IsNextBy, step_by, step_tried}

-- what is carried out begins with what is carried out
lax_front : (p q : Checkers) (xs ys : List Hop) → LaxRun p (xs ++ ys) q → (r : Checkers) × LaxRun p xs r
lax_front p q [] ys run = (p, refl)
lax_front p q (x ∷ xs) ys (r, one, run) = let (s, front) = lax_front r q xs ys run in (s, (r, one, front))

-- and so does a move
carried_front : (b after : BoardFields) (xs ys : List Hop) (dice : List ℕ) → Effect b (move (xs ++ ys)) dice after
    → (led : BoardFields) × Effect b (move xs) dice led
carried_front b after xs ys dice (good, (turn, (q, run, is))) =
    let (r, front) = lax_front (own_view b) q xs ys run in (after_move b r, (good, (turn, (r, front, refl))))

-- two dice of 1
pub ones : AreThrown (1 ∷ 1 ∷ [])
ones = ((omega arith, omega arith), (omega arith, omega arith))

-- steps with which a move goes on are carried out
pub going_is_carried_out : (b : BoardFields) (n : ℕ) (steps : List Hop) → AllowedIsCarriedOut → IsGood b
    → GoesOnBy n b steps → IsCarriedOut b steps
going_is_carried_out b n steps law good (rest, long, allowed) =
    let (after, effect) = law b (move (steps ++ rest)) (1 ∷ 1 ∷ []) good allowed ones in
    carried_front b after steps rest (1 ∷ 1 ∷ []) effect

-- dice each of which is one of two that are shown
abbrev pub AreShown : ℕ → ℕ → List ℕ → Type 0
AreShown a b [] = Unit {0}
AreShown a b (die ∷ dice) = ((die ≡ a) ⊎ (die ≡ b)) × (0 < die) × AreShown a b dice

-- the first of them
shown_front : (a b : ℕ) (dice rest : List ℕ) → AreShown a b (dice ++ rest) → AreShown a b dice
shown_front a b [] rest shown = tt
shown_front a b (die ∷ dice) rest (is, pos, shown) = (is, pos, shown_front a b dice rest shown)

-- in either order
shown_turned : (a b : ℕ) (dice : List ℕ) → AreShown a b dice → AreShown b a dice
shown_turned a b [] shown = tt
shown_turned a b (die ∷ dice) (inl is, pos, shown) = (inr is, pos, shown_turned a b dice shown)
shown_turned a b (die ∷ dice) (inr is, pos, shown) = (inl is, pos, shown_turned a b dice shown)

-- the dice held
held_shown : (a b : ℕ) → AreShown a b (held_of a b)
held_shown a b = elim (D.held a b) [
  | none e f ↦ subst (AreShown a b) (sym e) tt
  | single d is pos e f ↦ subst (AreShown a b) (sym e) (is, pos, tt)
  | different apart l r e f ↦ subst (AreShown a b) (sym e) (inl refl, l, (inr refl, r, tt))
  | equal pos e f ↦ subst (AreShown a b) (sym e)
      (inl refl, pos, (inl refl, pos, (inl refl, pos, (inl refl, pos, tt))))
]

-- and a part of them
part_shown : (a b : ℕ) (dice : List ℕ) → IsPart dice (held_of a b) → AreShown a b dice
part_shown a b dice part = elim (D.front_from_part a b dice part) [
  | inl front ↦ shown_front a b dice front.0 (subst (AreShown a b) (sym front.1) (held_shown a b))
  | inr front ↦
      shown_front a b dice front.0
      (subst (AreShown a b) (sym front.1) (shown_turned b a (held_of b a) (held_shown b a)))
]

-- a step by a die
abbrev pub IsStepBy : ℕ → Hop → Type 0
IsStepBy die step = (0 < die) × (0 < step.source) × (step.source ≤ 25) × (step.target ≡ step.source - die)

-- where a checker comes to
one_target : (p q : Checkers) (from to die : ℕ) → One p from to die q → to ≡ from - die
one_target p q from to die one = elim one.goes [
  | inl h ↦ omega (arith, h.from_bar, h.onto)
  | inr (inl h) ↦ omega (arith, h.onto)
  | inr (inr (inl h)) ↦ omega (arith, h.exact, h.off)
  | inr (inr (inr h)) ↦ omega (arith, h.larger, h.off)
]

-- a step of a run is by one of the dice
step_in_run : (a b : ℕ) (p q : Checkers) (dice : List ℕ) (before : List Hop) (step : Hop) (rest : List Hop)
    → AreShown a b dice → Run p dice (before ++ step ∷ rest) q → IsStepBy a step ⊎ IsStepBy b step
step_in_run a b p q [] [] step rest shown run = absurd run
step_in_run a b p q [] (x ∷ before) step rest shown run = absurd run
step_in_run a b p q (die ∷ dice) (x ∷ before) step rest (is, pos, shown) (r, one, run) =
    step_in_run a b r q dice before step rest shown run
step_in_run a b p q (die ∷ dice) [] step rest (inl is, pos, shown) (r, one, run) =
    inl (subst (λ d. IsStepBy d step) is
    (pos, one.source.0, one.source.1, one_target p r step.source step.target die one))
step_in_run a b p q (die ∷ dice) [] step rest (inr is, pos, shown) (r, one, run) =
    inr (subst (λ d. IsStepBy d step) is
    (pos, one.source.0, one.source.1, one_target p r step.source step.target die one))

-- and so each step of a legal play
step_of_legal : (p : Standing) (before : List Hop) (step : Hop) (rest : List Hop)
    → LegalPlay p (before ++ step ∷ rest) → IsStepBy p.first step ⊎ IsStepBy p.second step
step_of_legal p before step rest legal =
    let (q, (dice, part, run)) = legal.run in
    step_in_run p.first p.second p.checkers q dice before step rest (part_shown p.first p.second dice part) run

-- a step with which a move goes on is by one of the dice
pub next_by_die : (b : BoardFields) (n : ℕ) (made : List Hop) (step : Hop) → IsNextBy n b made step
    → IsStepBy (first_die b) step ⊎ IsStepBy (second_die b) step
next_by_die b n made step (rest, long, allowed) =
    step_of_legal (position_of b).standing made step rest
    (subst (LegalPlay (position_of b).standing) (append_assoc made (step ∷ []) rest) allowed.legal)

-- two steps from and to the same places are one
same_hop : (source target : ℕ) (step : Hop) → source ≡ step.source → target ≡ step.target
    → record { source = source; target = target } ≡ step
same_hop source target step s t = λ i. record { source = s i; target = t i }

-- a step by a die is the one that its place has
pub by_its_die : (die : ℕ) (step : Hop) → IsStepBy die step → step_by step.source die ≡ Some step
by_its_die die step (pos, low, high, to) =
    cond-false (die == 0) None (Some (record { source = step.source; target = step.source - die }))
    (ne_eqb die 0 (omega arith))
    ∙ ap Some (same_hop step.source (step.source - die) step refl (sym to))

-- each step by the first die is tried
by_first : (a b : ℕ) (step : Hop) → IsStepBy a step → (n : ℕ) × (n < 50) × (step_tried a b n ≡ Some step)
by_first a b step by =
    let (pos, low, high, to) = by in
    let n = step.source - 1 in (
      n,
      omega (arith, low, high),
      cond-true (nat_lt n 25) (step_by (n + 1) a) (cond (a == b) None (step_by (n - 24) b))
          (lt-ltb n 25 (omega (arith, low, high)))
          ∙ ap (λ s. step_by s a) (omega (arith, low)) ∙ by_its_die a step by,
    )

-- and each by the second, if it is another
by_second : (a b : ℕ) (step : Hop) → a ≢ b → IsStepBy b step → (n : ℕ) × (n < 50) × (step_tried a b n ≡ Some step)
by_second a b step other by =
    let (pos, low, high, to) = by in
    let n = step.source + 24 in (
      n,
      omega (arith, high),
      cond-false (nat_lt n 25) (step_by (n + 1) a) (cond (a == b) None (step_by (n - 24) b))
          (le-ltb n 25 (omega (arith, low)))
          ∙ cond-false (a == b) None (step_by (n - 24) b) (ne_eqb a b other)
          ∙ ap (λ s. step_by s b) (omega arith) ∙ by_its_die b step by,
    )

-- each step by one of the dice is tried
pub by_number : (a b : ℕ) (step : Hop) → IsStepBy a step ⊎ IsStepBy b step
    → (n : ℕ) × (n < 50) × (step_tried a b n ≡ Some step)
by_number a b step (inl by) = by_first a b step by
by_number a b step (inr by) = elim (cases_eq a b) [
  | inl same ↦ by_first a b step (subst (λ die. IsStepBy die step) (sym same) by)
  | inr other ↦ by_second a b step other by
]

-- what goes on after one step more goes on
pub one_more : (b : BoardFields) (n left : ℕ) (made : List Hop) (step : Hop) → suc n ≡ left → IsNextBy n b made step
    → GoesOnBy left b made
one_more b n left made step is (rest, long, allowed) = (
  step ∷ rest,
  ap suc long ∙ is,
  subst (λ steps. IsAllowed b (move steps)) (append_assoc made (step ∷ []) rest) allowed,
)

-- what goes on goes on after a next step
pub next_of_going : (b : BoardFields) (n left : ℕ) (made : List Hop) → suc n ≡ left → GoesOnBy left b made
    → (step : Hop) × IsNextBy n b made step
next_of_going b n left made is ([], long, allowed) = absurd (omega (arith, long, is))
next_of_going b n left made is (step ∷ rest, long, allowed) = (
  step,
  (
    rest,
    omega (arith, long, is),
    subst (λ steps. IsAllowed b (move steps)) (sym (append_assoc made (step ∷ []) rest)) allowed,
  ),
)

-- if no step more is left, a move goes on that is allowed
pub none_left : (b : BoardFields) (left : ℕ) (made : List Hop) → left ≡ 0 → IsAllowed b (move made)
    → GoesOnBy left b made
none_left b left made nil allowed =
    ([], sym nil, subst (λ steps. IsAllowed b (move steps)) (sym (append-nil made)) allowed)

-- and no other
pub left_none : (b : BoardFields) (left : ℕ) (made : List Hop) → left ≡ 0 → GoesOnBy left b made
    → IsAllowed b (move made)
left_none b left made nil ([], long, allowed) =
    subst (λ steps. IsAllowed b (move steps)) (append-nil made) allowed
left_none b left made nil (step ∷ rest, long, allowed) = absurd (omega (arith, long, nil))

-- what is there is one thing
pub same_some : {X : Type 0} (o : Option X) (s t : X) → Some s ≡ o → o ≡ Some t → s ≡ t
same_some o s t is so = ap (λ o. unwrap_or o s) (is ∙ so)

-- a test that is turned
pub turned_true : (same differ : Bool) → differ ≡ not same → same ≡ true → not differ ≡ true
turned_true same differ is so = ap not (is ∙ ap not so)

-- and back
pub true_turned : (same differ : Bool) → differ ≡ not same → not differ ≡ true → same ≡ true
true_turned true differ is so = refl
true_turned false differ is so = absurd cc

-- no step goes on that was tried in vain, and so none does
pub none_goes_on : (b : BoardFields) (left tried : ℕ) (made : List Hop) → 0 < left → 50 ≤ tried
    → ((n : ℕ) → n < tried → (step : Hop) → step_tried (first_die b) (second_die b) n ≡ Some step
    → ¬ GoesOnBy (left - 1) b (made ++ step ∷ []))
    → ¬ GoesOnBy left b made
none_goes_on b left tried made some all in_vain going =
    let (step, next) = next_of_going b (left - 1) left made (omega arith) going in
    let (n, low, is) = by_number (first_die b) (second_die b) step (next_by_die b (left - 1) made step next) in
    in_vain n (omega (arith, low)) step is next

-- one of two dice is the smaller or the larger
pub smaller_or_larger : (a b low high die : ℕ) → low ≡ min a b → high ≡ max a b → (die ≡ a) ⊎ (die ≡ b)
    → (die ≡ low) ⊎ (die ≡ high)
smaller_or_larger a b low high die l h (inl is) = elim (cases_lt a b) [
  | inl lt ↦ inl (omega (arith, is, l))
  | inr ge ↦ inr (omega (arith, is, h))
]
smaller_or_larger a b low high die l h (inr is) = elim (cases_lt a b) [
  | inl lt ↦ inr (omega (arith, is, h))
  | inr ge ↦ inl (omega (arith, is, l))
]

-- at most four dice are held
held_few : (a b : ℕ) → length (held_of a b) ≤ 4
held_few a b = elim (D.held a b) [
  | none e f ↦ omega (arith, ap length e)
  | single d is pos e f ↦ omega (arith, ap length e)
  | different apart l r e f ↦ omega (arith, ap length e)
  | equal pos e f ↦ omega (arith, ap length e)
]

-- a part of them is at most four
part_few : (a b : ℕ) (dice : List ℕ) → IsPart dice (held_of a b) → length dice ≤ 4
part_few a b dice part = elim (D.front_from_part a b dice part) [
  | inl front ↦ omega (arith, length-append dice front.0, ap length front.1, held_few a b)
  | inr front ↦ omega (arith, length-append dice front.0, ap length front.1, held_few b a)
]

-- a longest run has at most four steps
pub most_few : (p : Standing) (n : ℕ) → IsMost p n → n ≤ 4
most_few p n most =
    let (steps, q, run, long) = most.reached in
    let (dice, part, played) = run in
    omega (arith, long, run_long p.checkers q dice steps played, part_few p.first p.second dice part)

-- a legal play is as long as a longest run
legal_is_most : (p : Standing) (n : ℕ) (steps : List Hop) → IsMost p n → LegalPlay p steps → length steps ≡ n
legal_is_most p n steps most legal =
    let (other, q, run, long) = most.reached in
    let (r, own) = legal.run in
    omega (arith, long, legal.longest other q run, most.most steps r own)

-- a move that goes on has as many steps more as the longest run has
pub going_by : (b : BoardFields) (n : ℕ) (made : List Hop) → IsMost (position_of b).standing n → GoesOn b made
    → (length made ≤ n) × GoesOnBy (n - length made) b made
going_by b n made most (rest, allowed) =
    let long = legal_is_most (position_of b).standing n (made ++ rest) most allowed.legal in
    let parts = length-append made rest in
    (omega (arith, long, parts), (rest, omega (arith, long, parts), allowed))

-- and goes on
pub goes_by : (b : BoardFields) (n : ℕ) (made : List Hop) → GoesOnBy n b made → GoesOn b made
goes_by b n made (rest, long, allowed) = (rest, allowed)

-- the same of a next step
pub next_by : (b : BoardFields) (n : ℕ) (made : List Hop) (step : Hop) → IsMost (position_of b).standing n
    → IsNext b made step → (length made < n) × IsNextBy (n - length made - 1) b made step
next_by b n made step most next =
    let (few, going) = going_by b n (made ++ step ∷ []) most next in
    let long = length-append made (step ∷ []) in (
      omega (arith, few, long),
      subst (λ k. GoesOnBy k b (made ++ step ∷ [])) (omega (arith, long)) going,
    )

-- a play of a list is one of the plays as values
pub value_in : (plays : List Play) (play : Play) → Contains plays play → Contains (map hops_of plays) (hops_of play)
value_in plays play (k, lt, e) =
    let long = length-map plays hops_of in
    (k, omega (arith, lt, long), get_or-map hops_of plays k play (hops_of play) lt ∙ ap hops_of e)
