-- What is allowed is a decision of the user's, which a player can make, and which is carried out.
use Rattle.std.proofs.Common.{◌≡◌, ◌∷◌, Bool, true, false, not, cond, Option, [], None, Some, refl}
use Rattle.std.specs.Prelude.{find}
use Rattle.fibs_fields.specs.Board.{BoardFields}
use Rattle.fibs_fields.specs.FieldRanges.{FieldRanges}
use Rattle.fibs_position.specs.OwnView.{standing_of}
use Rattle.fibs_position.specs.PositionValue.{position_of}
use Rattle.fibs_position.specs.DecisionValue.{DecisionValue, roll, double, accept, reject, move, resign, IsDecision}
use Rattle.fibs_position.specs.Phases.{phase_in, decides}
use Rattle.fibs_position.specs.Allowed.{IsAllowed, refusal_of, forbids}
use Rattle.fibs_position.specs.Laws.{AllowedDecides, AllowedIsADecision, DecisionsAreValid, AllowedActs}
use Rattle.fibs_position.specs.declared.decision.Decision.TheVariants.{Roll, Double, Accept, Reject, Move, Resign}
use Rattle.fibs_position.specs.declared.disallowed.Disallowed.{Disallowed}
use Rattle.fibs_position.specs.declared.disallowed.Disallowed.TheVariants as D
use Rattle.fibs_rules.proofs.LawLemmas.PlaySteps.{legal_plays_are_steps, plays_are_steps}
use Rattle.fibs_position.proofs.BoardLemmas.GoodTest.{BoardTest, good_tells, good_from}
use Rattle.fibs_position.proofs.BoardLemmas.SameGameTest.{same_game_is_exact}
use Rattle.fibs_position.proofs.LawLemmas.CarriedOut.{allowed_is, allowed_carried, effect_is, effect_good_differs}

-- if there is no first reason, there is no reason
first_test : (p : Bool) (x : Disallowed) (o : Option Disallowed) → cond (not p) (Some x) o ≡ None → p ≡ true
first_test true x o h = refl
first_test false x o h = absurd cc

-- if nothing is against a decision, the first reason is not
pub allowed_decides : AllowedDecides
unfolding refusal_of
allowed_decides b d h =
    let p = position_of b in
    first_test (decides (phase_in p)) D.NotYours (find (forbids p d) (D.WrongKind ∷ D.IllegalPlay ∷ [])) h

-- what the rules allow is a decision that a player can make
decision_valid : (b : BoardFields) (d : DecisionValue) → IsAllowed b d → IsDecision d
decision_valid b roll h = tt
decision_valid b double h = tt
decision_valid b accept h = tt
decision_valid b reject h = tt
decision_valid b (move steps) h = legal_plays_are_steps (standing_of b) steps h.legal
decision_valid b (resign stake) h = tt

-- what the function allows is, too
pub allowed_is_a_decision : BoardTest → FieldRanges → AllowedIsADecision
allowed_is_a_decision test ranges b d g h = decision_valid b d ((allowed_is ranges b d (good_tells test b g)).0.0 h)

-- each value of the type is, too
pub decisions_are_valid : DecisionsAreValid
decisions_are_valid Roll = tt
decisions_are_valid Double = tt
decisions_are_valid Accept = tt
decisions_are_valid Reject = tt
decisions_are_valid (Move play) = plays_are_steps play
decisions_are_valid (Resign stake) = tt

-- what is allowed is carried out, to a good board that differs
pub allowed_acts : BoardTest → FieldRanges → AllowedActs
allowed_acts test ranges b d d1 d2 g h l1 m1 l2 m2 =
    let is = good_tells test b g in
    let dice = d1 ∷ d2 ∷ [] in
    let acts = allowed_carried ranges b d dice is ((allowed_is ranges b d is).0.0 h) ((l1, m1), (l2, m2)) in
    let after = effect_good_differs ranges b d dice acts.0 acts.1 in
    let gives = (effect_is test b d dice acts.0).1 acts.1 in
    (acts.0, gives, good_from test acts.0 after.0, (same_game_is_exact b acts.0).1 after.1)
