-- The lines of the table of phases, one after another.
use Rattle.std.proofs.Common.{◌≡◌, ◌≢◌, arith, true, false, refl}
use Rattle.std.specs.Prelude.{ℤ}
use Rattle.std.specs.Ordering.{int_eq}
use Rattle.std.proofs.lemmas.Bool.Decides.{nat_tests}
use Rattle.fibs_position.specs.PositionValue.{PositionValue}
use Rattle.fibs_position.specs.Phases.{phase_in, phase_fits}
use Rattle.fibs_position.specs.declared.phase.Phase.TheVariants.{Over, AnswerDouble, OpponentActs, RollOrDouble, Move, Passing}

-- numbers that are one
pub same_int : (x y : ℤ) → x ≡ y → int_eq x y ≡ true
same_int x y e = grind (arith, nat_tests)

-- numbers that are not
pub other_int : (x y : ℤ) → x ≢ y → int_eq x y ≡ false
other_int x y e = grind (arith, nat_tests)

-- the first line
pub phase_over : (p : PositionValue) → phase_fits p Over ≡ true → phase_in p ≡ Over
unfolding phase_in
phase_over p here = rw here refl

-- the second
pub phase_answer : (p : PositionValue) → phase_fits p Over ≡ false → phase_fits p AnswerDouble ≡ true
    → phase_in p ≡ AnswerDouble
unfolding phase_in
phase_answer p over here = rw (over, here) refl

-- the third
pub phase_opponent : (p : PositionValue) → phase_fits p Over ≡ false → phase_fits p AnswerDouble ≡ false
    → phase_fits p OpponentActs ≡ true → phase_in p ≡ OpponentActs
unfolding phase_in
phase_opponent p over answer here = rw (over, answer, here) refl

-- the fourth
pub phase_roll : (p : PositionValue) → phase_fits p Over ≡ false → phase_fits p AnswerDouble ≡ false
    → phase_fits p OpponentActs ≡ false → phase_fits p RollOrDouble ≡ true → phase_in p ≡ RollOrDouble
unfolding phase_in
phase_roll p over answer opponent here = rw (over, answer, opponent, here) refl

-- the fifth
pub phase_move : (p : PositionValue) → phase_fits p Over ≡ false → phase_fits p AnswerDouble ≡ false
    → phase_fits p OpponentActs ≡ false → phase_fits p RollOrDouble ≡ false → phase_fits p Move ≡ true
    → phase_in p ≡ Move
unfolding phase_in
phase_move p over answer opponent roll here = rw (over, answer, opponent, roll, here) refl

-- the last
pub phase_passing : (p : PositionValue) → phase_fits p Over ≡ false → phase_fits p AnswerDouble ≡ false
    → phase_fits p OpponentActs ≡ false → phase_fits p RollOrDouble ≡ false → phase_fits p Move ≡ false
    → phase_in p ≡ Passing
unfolding phase_in
phase_passing p over answer opponent roll move = rw (over, answer, opponent, roll, move) refl
