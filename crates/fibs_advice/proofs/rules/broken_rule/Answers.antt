use Rattle.std.proofs.Common.{refl, take, arith, sym, ◌∙◌}
use Rattle.fibs_position.specs.PositionValue.{position_value}
use Rattle.fibs_rules.specs.PlayValue.{hops_of}
use Rattle.fibs_advice.proofs.BrokenRuleLemmas.{of_step, one_more}
use Rattle.fibs_advice.proofs.rules.broken_rule.Goals as goal

pub returns-then-is_some : goal.returns-then-is_some
returns-then-is_some c =
    of_step (position_value c.args.position.now).standing c.args.dice.0 c.args.dice.1 c.loop-place.place
    c.broken_by-found.result c.steps-steps.result.now (take c.loop-place.place c.steps-steps.result.now)
    c.index-steps-place.result (hops_of c.args.play.now) c.steps-steps.ensures.value (omega arith) refl
    c.index-steps-place.is c.loop-place.invariant c.broken_by-found.ensures (sym c.is_some.ensures ∙ c.if-is_some.true)

pub loop-place-preserved : goal.loop-place-preserved
loop-place-preserved c =
    one_more (position_value c.args.position.now).standing.checkers c.args.dice.0 c.args.dice.1 c.loop-place.place
    c.broken_by-found.result c.steps-steps.result.now (take c.loop-place.place c.steps-steps.result.now)
    c.index-steps-place.result (omega arith) refl c.index-steps-place.is c.loop-place.invariant
    c.broken_by-found.ensures (sym c.is_some.ensures ∙ c.if-is_some.false)
