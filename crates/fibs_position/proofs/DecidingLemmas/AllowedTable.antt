-- The function of refusals is the table: the tests of a decision decide its rules.
use Rattle.std.proofs.Common.{◌≡◌, ◌⊎◌, inl, inr, Bool, true, false, Some, None, cond, refl, ap, ◌∙◌}
use Rattle.std.specs.Prelude.{pos, ◌↔◌, ◌&&◌, not, int_le}
use Rattle.std.specs.Bool.{Decides}
use Rattle.std.specs.Ordering.{int_eq}
use Rattle.std.proofs.lemmas.Bool.{false≢true}
use Rattle.std.proofs.lemmas.Bool.Decides.{Decides-and, Decides-not, Decides-int_eq}
use Rattle.fibs_position.specs.PositionValue.{PositionValue}
use Rattle.fibs_position.specs.DecisionValue.{DecisionValue, roll, double, accept, reject, move, resign}
use Rattle.fibs_position.specs.Phases.{InPhase, decides, phase_in}
use Rattle.fibs_position.specs.Allowed.{UserDecides, IsForPhase, CubeAllows, IsRightKind, IsLegal, Forbids, reasons, IsRefused, MayDecide, is_for, cube_allows, is_legal, forbids, refusal_of}
use Rattle.fibs_position.specs.declared.phase.Phase.{Phase}
use Rattle.fibs_position.specs.declared.phase.Phase.TheVariants.{Over, AnswerDouble, OpponentActs, RollOrDouble, Move, Passing}
use Rattle.fibs_position.specs.declared.disallowed.Disallowed.{Disallowed}
use Rattle.fibs_position.specs.declared.disallowed.Disallowed.TheVariants.{NotYours, WrongKind, IllegalPlay}
use Rattle.fibs_position.proofs.DecidingLemmas.FirstFit.{find_first}
use Rattle.fibs_rules.proofs.SearchLemmas.LegalTest.{legal_sound, legal_complete}
use Rattle.fibs_position.proofs.DecidingLemmas.PhaseTable.{SmallDice, phase_exact}
use Rattle.fibs_position.proofs.BoardLemmas.EffectTable.{int_le_decides}

-- the phases in which the user decides
deciding : (phase : Phase) → Decides (decides phase) ((phase ≡ AnswerDouble) ⊎ (phase ≡ RollOrDouble) ⊎ (phase ≡ Move))
deciding Over = (λ e. absurd cc, λ h. elim h [ inl e ↦ absurd cc | inr (inl e) ↦ absurd cc | inr (inr e) ↦ absurd cc ])
deciding AnswerDouble = (λ e. inl refl, λ h. refl)
deciding OpponentActs =
    (λ e. absurd cc, λ h. elim h [ inl e ↦ absurd cc | inr (inl e) ↦ absurd cc | inr (inr e) ↦ absurd cc ])
deciding RollOrDouble = (λ e. inr (inl refl), λ h. refl)
deciding Move = (λ e. inr (inr refl), λ h. refl)
deciding Passing =
    (λ e. absurd cc, λ h. elim h [ inl e ↦ absurd cc | inr (inl e) ↦ absurd cc | inr (inr e) ↦ absurd cc ])

-- in one of the three phases in which the user decides, he does
user_from : (p : PositionValue) → SmallDice p.standing
    → (phase_in p ≡ AnswerDouble) ⊎ (phase_in p ≡ RollOrDouble) ⊎ (phase_in p ≡ Move) → UserDecides p
user_from p small (inl e) = inl ((phase_exact p AnswerDouble small).0 e)
user_from p small (inr (inl e)) = inr (inl ((phase_exact p RollOrDouble small).0 e))
user_from p small (inr (inr e)) = inr (inr ((phase_exact p Move small).0 e))

-- if the user decides it is one of these phases
user_to : (p : PositionValue) → SmallDice p.standing → UserDecides p
    → (phase_in p ≡ AnswerDouble) ⊎ (phase_in p ≡ RollOrDouble) ⊎ (phase_in p ≡ Move)
user_to p small (inl h) = inl ((phase_exact p AnswerDouble small).1 h)
user_to p small (inr (inl h)) = inr (inl ((phase_exact p RollOrDouble small).1 h))
user_to p small (inr (inr h)) = inr (inr ((phase_exact p Move small).1 h))

-- the test of the phase is true exactly if the user decides
pub user_decides : (p : PositionValue) → SmallDice p.standing → Decides (decides (phase_in p)) (UserDecides p)
user_decides p small = let d = deciding (phase_in p) in (λ e. user_from p small (d.0 e), λ h. d.1 (user_to p small h))

-- the phases of each kind of decision
abbrev IsOneFor : DecisionValue → Phase → Type 0
IsOneFor roll phase = phase ≡ RollOrDouble
IsOneFor double phase = phase ≡ RollOrDouble
IsOneFor accept phase = phase ≡ AnswerDouble
IsOneFor reject phase = phase ≡ AnswerDouble
IsOneFor (move steps) phase = phase ≡ Move
IsOneFor (resign stake) phase = (phase ≡ RollOrDouble) ⊎ (phase ≡ Move)

-- the test of a kind holds only of its phases
for_sound : (d : DecisionValue) (phase : Phase) → is_for d phase ≡ true → IsOneFor d phase
for_sound roll RollOrDouble e = refl
for_sound double RollOrDouble e = refl
for_sound accept AnswerDouble e = refl
for_sound reject AnswerDouble e = refl
for_sound (move steps) Move e = refl
for_sound (resign stake) RollOrDouble e = inl refl
for_sound (resign stake) Move e = inr refl
for_sound d phase e = absurd (false≢true e)

-- if it holds of only one phase, it decides whether a position is in it
one_decides : (p : PositionValue) (d : DecisionValue) (phase : Phase) → SmallDice p.standing
    → ((other : Phase) → is_for d other ≡ true → other ≡ phase) → is_for d phase ≡ true
    → Decides (is_for d (phase_in p)) (InPhase p phase)
one_decides p d phase small alone own =
    let exact = phase_exact p phase small in
    (λ e. exact.0 (alone (phase_in p) e), λ h. ap (is_for d) (exact.1 h) ∙ own)

-- a player resigns before the roll and before the move
resign_sound : (p : PositionValue) → SmallDice p.standing → (phase_in p ≡ RollOrDouble) ⊎ (phase_in p ≡ Move)
    → InPhase p RollOrDouble ⊎ InPhase p Move
resign_sound p small (inl e) = inl ((phase_exact p RollOrDouble small).0 e)
resign_sound p small (inr e) = inr ((phase_exact p Move small).0 e)

-- in both phases in which a player resigns the test of the phase holds
resign_complete : (p : PositionValue) (d : DecisionValue) → SmallDice p.standing → is_for d RollOrDouble ≡ true
    → is_for d Move ≡ true → InPhase p RollOrDouble ⊎ InPhase p Move → is_for d (phase_in p) ≡ true
resign_complete p d small rolls moves (inl h) = ap (is_for d) ((phase_exact p RollOrDouble small).1 h) ∙ rolls
resign_complete p d small rolls moves (inr h) = ap (is_for d) ((phase_exact p Move small).1 h) ∙ moves

-- the test of kind and phase
phase_decides : (p : PositionValue) (d : DecisionValue) → SmallDice p.standing
    → Decides (is_for d (phase_in p)) (IsForPhase p d)
phase_decides p roll small = one_decides p roll RollOrDouble small (for_sound roll) refl
phase_decides p double small = one_decides p double RollOrDouble small (for_sound double) refl
phase_decides p accept small = one_decides p accept AnswerDouble small (for_sound accept) refl
phase_decides p reject small = one_decides p reject AnswerDouble small (for_sound reject) refl
phase_decides p (move steps) small = one_decides p (move steps) Move small (for_sound (move steps)) refl
phase_decides p (resign stake) small = (
  λ e. resign_sound p small (for_sound (resign stake) (phase_in p) e),
  resign_complete p (resign stake) small refl refl,
)

-- the test of the cube
cube_decides : (p : PositionValue) (d : DecisionValue) → Decides (cube_allows p d) (CubeAllows p d)
cube_decides p roll = (λ _. tt, λ _. refl)
cube_decides p double =
    Decides-and (not (int_eq p.may_double (pos 0))) (int_le p.cube (pos 524288))
    (Decides-not (int_eq p.may_double (pos 0)) (Decides-int_eq p.may_double (pos 0)))
    (int_le_decides p.cube (pos 524288))
cube_decides p accept = int_le_decides p.cube (pos 524288)
cube_decides p reject = (λ _. tt, λ _. refl)
cube_decides p (move steps) = (λ _. tt, λ _. refl)
cube_decides p (resign stake) = (λ _. tt, λ _. refl)

-- the test of the right kind
kind_decides : (p : PositionValue) (d : DecisionValue) → SmallDice p.standing
    → Decides (is_for d (phase_in p) && cube_allows p d) (IsRightKind p d)
kind_decides p d small =
    Decides-and (is_for d (phase_in p)) (cube_allows p d) (phase_decides p d small) (cube_decides p d)

-- the test of legal moves
pub legal_decides : (p : PositionValue) (d : DecisionValue) → SmallDice p.standing
    → Decides (is_legal p d) (IsLegal p d)
legal_decides p roll small = (λ _. tt, λ _. refl)
legal_decides p double small = (λ _. tt, λ _. refl)
legal_decides p accept small = (λ _. tt, λ _. refl)
legal_decides p reject small = (λ _. tt, λ _. refl)
legal_decides p (move steps) small =
    (legal_sound p.standing steps small.first small.second, legal_complete p.standing steps small.first small.second)
legal_decides p (resign stake) small = (λ _. tt, λ _. refl)

-- the test of each reason
forbids_decides : (p : PositionValue) (d : DecisionValue) → SmallDice p.standing → (why : Disallowed)
    → Decides (forbids p d why) (Forbids p d why)
forbids_decides p d small NotYours = Decides-not (decides (phase_in p)) (user_decides p small)
forbids_decides p d small WrongKind = Decides-not (is_for d (phase_in p) && cube_allows p d) (kind_decides p d small)
forbids_decides p d small IllegalPlay = Decides-not (is_legal p d) (legal_decides p d small)

-- the function is the relation
pub disallowed_exact : (p : PositionValue) (d : DecisionValue) (why : Disallowed) → SmallDice p.standing
    → (refusal_of p d ≡ Some why) ↔ IsRefused p d why
unfolding refusal_of
disallowed_exact p d why small = find_first (forbids p d) (Forbids p d) (forbids_decides p d small) reasons why

-- if no reason is found, all tests hold
none_of : (a b c : Bool) (x y z : Disallowed)
    → cond (not a) (Some x) (cond (not b) (Some y) (cond (not c) (Some z) None)) ≡ None → (a ≡ true) × (b ≡ true)
    × (c ≡ true)
none_of true true true x y z e = (refl, refl, refl)
none_of true true false x y z e = absurd cc
none_of true false c x y z e = absurd cc
none_of false b c x y z e = absurd cc

-- no reason is found exactly if the player may decide so
pub allowed_exact : (p : PositionValue) (d : DecisionValue) → SmallDice p.standing
    → (refusal_of p d ≡ None) ↔ MayDecide p d
unfolding refusal_of
allowed_exact p d small = (
  λ e. let (yours, right, legal) =
      none_of (decides (phase_in p)) (is_for d (phase_in p) && cube_allows p d) (is_legal p d) NotYours WrongKind
      IllegalPlay e in
      record {
        yours = (user_decides p small).0 yours;
        right = (kind_decides p d small).0 right;
        legal =
            (legal_decides p d small).0 legal;
      },
  λ h. rw ((user_decides p small).1 h.yours, (kind_decides p d small).1 h.right, (legal_decides p d small).1 h.legal)
      refl,
)

-- the reasons, one after another
pub refuses_other : (p : PositionValue) (d : DecisionValue) → decides (phase_in p) ≡ false
    → refusal_of p d ≡ Some NotYours
unfolding refusal_of
refuses_other p d yours = rw yours refl

-- then the kind
pub refuses_kind : (p : PositionValue) (d : DecisionValue) → decides (phase_in p) ≡ true
    → (is_for d (phase_in p) && cube_allows p d) ≡ false → refusal_of p d ≡ Some WrongKind
unfolding refusal_of
refuses_kind p d yours right = rw (yours, right) refl

-- then the move
pub refuses_move : (p : PositionValue) (d : DecisionValue) → decides (phase_in p) ≡ true
    → (is_for d (phase_in p) && cube_allows p d) ≡ true → is_legal p d ≡ false → refusal_of p d ≡ Some IllegalPlay
unfolding refusal_of
refuses_move p d yours right legal = rw (yours, right, legal) refl

-- and then none
pub refuses_none : (p : PositionValue) (d : DecisionValue) → decides (phase_in p) ≡ true
    → (is_for d (phase_in p) && cube_allows p d) ≡ true → is_legal p d ≡ true → refusal_of p d ≡ None
unfolding refusal_of
refuses_none p d yours right legal = rw (yours, right, legal) refl
