-- Plays as the server carries them out: the function is the relation, and each legal play is carried out.
use Rattle.std.proofs.Common.{suc, ◌+◌, ◌≡◌, ℕ, ◌<◌, ◌≤◌, inl, inr, List, [], ◌∷◌, length, map, drop, get_or, Option, Some, None, Bool, refl, sym, ap, subst, ◌∙◌, drop-cons, add-one}
use Rattle.std.proofs.lemmas.List.{drop_all}
use Rattle.std.specs.Prelude.{◌&&◌, ◌||◌, ◌==◌, nat_lt, slice_index}
use Rattle.std.proofs.lemmas.Bool.{and_parts, and_from, cond-true, ltb-true, lt-ltb}
use Rattle.fibs_rules.specs.Hop.{Hop, hop_of}
use Rattle.fibs_rules.specs.declared.step.Step.{Step}
use Rattle.fibs_rules.specs.Checkers.{Checkers, moved}
use Rattle.fibs_rules.specs.Runs.{Run}
use Rattle.fibs_rules.specs.LaxPlays.{LaxOne, LaxRun, lax_one, lax_then, lax_of}
use Rattle.fibs_rules.specs.Laws.{LegalIsCarriedOut}
use Rattle.fibs_rules.proofs.RuleLemmas.OneChecker.{Goes, chosen_some, opens, open_is}

-- what is asked of a step
abbrev may : Checkers → Hop → Bool
may p step =
    nat_lt 0 (slice_index p.own step.source) && (nat_lt (slice_index p.other step.target) 2 || (step.target == 0))

-- what the function gives of a step is in the relation
lax_one_sound : (p q : Checkers) (step : Hop) → lax_one p step ≡ Some q → LaxOne p step q
lax_one_sound p q step e =
    let (test, is) = chosen_some (may p step) (moved p step.source step.target) q e in
    let (some, free) =
    and_parts (nat_lt 0 (slice_index p.own step.source))
    (nat_lt (slice_index p.other step.target) 2 || (step.target == 0)) test in
    record {
      occupied = ltb-true 0 (slice_index p.own step.source) some;
      free = opens p step.target free;
      leads =
          sym is;
    }

-- and the other way round
lax_one_complete : (p q : Checkers) (step : Hop) → LaxOne p step q → lax_one p step ≡ Some q
lax_one_complete p q step h =
    cond-true (may p step) _ _
    (and_from _ _ (lt-ltb 0 (slice_index p.own step.source) h.occupied) (open_is p step.target h.free))
    ∙ ap Some (sym h.leads)

-- what goes on goes on from an arrangement
lax_some : (more : Checkers → Option Checkers) (o : Option Checkers) (q : Checkers) → lax_then more o ≡ Some q
    → (r : Checkers) × (o ≡ Some r) × (more r ≡ Some q)
lax_some more None q e = absurd cc
lax_some more (Some r) q e = (r, refl, e)

-- what the function gives is in the relation
pub lax_sound : (p q : Checkers) (steps : List Hop) → lax_of p steps ≡ Some q → LaxRun p steps q
lax_sound p q [] e = cc
lax_sound p q (step ∷ steps) e =
    let (r, one, more) = lax_some (λ q. lax_of q steps) (lax_one p step) q e in
    (r, lax_one_sound p r step one, lax_sound r q steps more)

-- and the other way round
pub lax_complete : (p q : Checkers) (steps : List Hop) → LaxRun p steps q → lax_of p steps ≡ Some q
lax_complete p q [] run = ap Some run
lax_complete p q (step ∷ steps) (r, one, run) =
    ap (lax_then (λ q. lax_of q steps)) (lax_one_complete p r step one) ∙ lax_complete r q steps run

-- a checker that goes is at its source
goes_from : (p : Checkers) (f t d : ℕ) → f ≤ 25 → Goes p f t d → 0 < slice_index p.own f
goes_from p f t d hi (inl h) = subst (λ k. 0 < slice_index p.own k) (sym h.from_bar) h.barred
goes_from p f t d hi (inr (inl h)) = h.occupied
goes_from p f t d hi (inr (inr (inl h))) = h.occupied
goes_from p f t d hi (inr (inr (inr h))) = h.occupied

-- each run is carried out
run_lax : (p q : Checkers) (dice : List ℕ) (steps : List Hop) → Run p dice steps q → LaxRun p steps q
run_lax p q [] [] run = run
run_lax p q [] (step ∷ steps) run = absurd run
run_lax p q (die ∷ dice) [] run = absurd run
run_lax p q (die ∷ dice) (step ∷ steps) (r, one, run) = (
  r,
  record {
    occupied = goes_from p step.source step.target die one.source.1 one.goes;
    free = one.free;
    leads =
        one.leads;
  },
  run_lax r q dice steps run,
)

-- and so each legal play
pub legal_lax : LegalIsCarriedOut
legal_lax p steps h = let (q, (dice, part, run)) = h.run in (q, run_lax p.checkers q dice steps run)

-- a loop's step
hops_from : (steps : List Step) (step : Step) (i : ℕ) → i < length steps → step ≡ get_or steps i step
    → map hop_of (drop i steps) ≡ hop_of step ∷ map hop_of (drop (i + 1) steps)
hops_from steps step i lt is =
    rw (add-one, drop-cons steps i step) (ap (λ s. hop_of s ∷ map hop_of (drop (suc i) steps)) (sym is))

-- the next step of a list
lax_next : (p : Checkers) (steps : List Step) (step : Step) (i : ℕ) → i < length steps → step ≡ get_or steps i step
    → lax_of p (map hop_of (drop i steps)) ≡ lax_then (λ q. lax_of q (map hop_of (drop (i + 1) steps)))
    (lax_one p (hop_of step))
lax_next p steps step i lt is = ap (lax_of p) (hops_from steps step i lt is)

-- after the last step
pub lax_end : (p : Checkers) (steps : List Step) (i : ℕ) → length steps ≤ i
    → lax_of p (map hop_of (drop i steps)) ≡ Some p
lax_end p steps i le = ap (λ xs. lax_of p (map hop_of xs)) (drop_all i steps le)

-- after one more step
pub lax_on : (p q : Checkers) (all : Option Checkers) (steps : List Step) (step : Step) (i : ℕ) → i < length steps
    → step ≡ get_or steps i step
    → lax_of p (map hop_of (drop i steps)) ≡ all → Some q ≡ lax_one p (hop_of step)
    → lax_of q (map hop_of (drop (i + 1) steps)) ≡ all
lax_on p q all steps step i lt is so one =
    ap (lax_then (λ q. lax_of q (map hop_of (drop (i + 1) steps)))) one ∙ sym (lax_next p steps step i lt is) ∙ so

-- at a step that is not carried out
pub lax_stuck : (p : Checkers) (all : Option Checkers) (steps : List Step) (step : Step) (i : ℕ) → i < length steps
    → step ≡ get_or steps i step
    → lax_of p (map hop_of (drop i steps)) ≡ all → None ≡ lax_one p (hop_of step) → None ≡ all
lax_stuck p all steps step i lt is so none =
    ap (lax_then (λ q. lax_of q (map hop_of (drop (i + 1) steps)))) none ∙ sym (lax_next p steps step i lt is) ∙ so
