use Rattle.std.proofs.Common.{arith, sym, ◌∙◌, ◌≡◌, ◌≢◌, false, not, ap}
use Rattle.std.specs.Prelude.{pos}
use Rattle.std.proofs.lemmas.Int.{ints}
use Rattle.fibs_position.specs.PositionValue.{position_value}
use Rattle.fibs_position.specs.Phases.{phase_fits}
use Rattle.fibs_position.specs.declared.phase.Phase.TheVariants.{Over, AnswerDouble, OpponentActs}
use Rattle.fibs_position.proofs.DecidingLemmas.PhaseLines.{same_int, other_int, phase_over, phase_answer, phase_opponent, phase_roll, phase_move, phase_passing}
use Rattle.fibs_position.proofs.position.Position.phase_by_table.Goals as goal
use Rattle.fibs_position.proofs.position.Position.phase_by_table.Goals.{Else-self-eq0, Else-self-eq1, Else-self}

-- the tests that failed before
not_over : (c : Else-self-eq0) → phase_fits (position_value c.args.self.now) Over ≡ false
unfolding position_value
not_over c =
    let apart : c.args.self.now.turn ≢ pos 0 = λ e. c.if-self-eq0.false (omega (arith, ints)) in other_int _ _ apart

not_doubled : (c : Else-self-eq1) → phase_fits (position_value c.args.self.now) AnswerDouble ≡ false
unfolding position_value
not_doubled c =
    let apart : c.args.self.now.was_doubled ≢ pos 1 = λ e. c.if-self-eq1.false (omega (arith, ints)) in
    other_int _ _ apart

own_turn : (c : Else-self) → phase_fits (position_value c.args.self.now) OpponentActs ≡ false
unfolding position_value
own_turn c =
    let same : c.args.self.now.turn ≡ c.args.self.now.colour = omega (arith, ints) in ap not (same_int _ _ same)

pub returns-then-self-eq0 : goal.returns-then-self-eq0
unfolding position_value
returns-then-self-eq0 c =
    let here : c.args.self.now.turn ≡ pos 0 = omega (arith, ints) in
    sym (phase_over (position_value c.args.self.now) (same_int _ _ here))

pub returns-then-self-eq1 : goal.returns-then-self-eq1
unfolding position_value
returns-then-self-eq1 c =
    let here : c.args.self.now.was_doubled ≡ pos 1 = omega (arith, ints) in
    sym (phase_answer (position_value c.args.self.now) (not_over (goal.at.returns-then-self-eq1 c).Else-self-eq0)
    (same_int _ _ here))

pub returns-then-self : goal.returns-then-self
unfolding position_value
returns-then-self c =
    let apart : c.args.self.now.turn ≢ c.args.self.now.colour = λ e. c.if-self.true (omega (arith, ints)) in
    sym (phase_opponent (position_value c.args.self.now) (not_over (goal.at.returns-then-self c).Else-self-eq0)
    (not_doubled (goal.at.returns-then-self c).Else-self-eq1) (ap not (other_int _ _ apart)))

pub returns-then-no_dice : goal.returns-then-no_dice
unfolding position_value
returns-then-no_dice c =
    sym (phase_roll (position_value c.args.self.now) (not_over (goal.at.returns-then-no_dice c).Else-self-eq0)
    (not_doubled (goal.at.returns-then-no_dice c).Else-self-eq1) (own_turn (goal.at.returns-then-no_dice c).Else-self)
    (sym c.no_dice.ensures ∙ c.if-no_dice.true))

pub returns-then-can_move : goal.returns-then-can_move
unfolding position_value
returns-then-can_move c =
    sym (phase_move (position_value c.args.self.now) (not_over (goal.at.returns-then-can_move c).Else-self-eq0)
    (not_doubled (goal.at.returns-then-can_move c).Else-self-eq1) (own_turn (goal.at.returns-then-can_move c).Else-self)
    (sym c.no_dice.ensures ∙ c.if-no_dice.false) (sym c.can_move.ensures ∙ c.if-can_move.true))

pub returns : goal.returns
unfolding position_value
returns c =
    sym (phase_passing (position_value c.args.self.now) (not_over (goal.at.returns c).Else-self-eq0)
    (not_doubled (goal.at.returns c).Else-self-eq1) (own_turn (goal.at.returns c).Else-self)
    (sym c.no_dice.ensures ∙ c.if-no_dice.false) (sym c.can_move.ensures ∙ c.if-can_move.false))
