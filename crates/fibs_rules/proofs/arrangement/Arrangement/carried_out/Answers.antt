use Rattle.std.proofs.Common.{◌<◌, ◌≤◌, length, map, rules, sym, ◌∙◌}
use Rattle.fibs_rules.specs.Hop.{hop_of}
use Rattle.fibs_rules.specs.LaxPlays.{lax_of}
use Rattle.fibs_rules.proofs.RuleLemmas.LaxPlays.{lax_on, lax_stuck, lax_end}
use Rattle.fibs_rules.proofs.arrangement.Arrangement.carried_out.Goals as goal

pub returns-in-None : goal.returns-in-None
returns-in-None c =
    let lt : c.loop-step.step-index < length c.args.steps.now = search rules in
    lax_stuck c.loop-step.at (lax_of c.args.self.now (map hop_of c.args.steps.now)) c.args.steps.now c.step-item.result
    c.loop-step.step-index lt c.step-item.is c.loop-step.invariant c.in-None.ensures

pub loop-step-preserved : goal.loop-step-preserved
loop-step-preserved c =
    let lt : c.loop-step.step-index < length c.args.steps.now = search rules in
    lax_on c.loop-step.at c.in-Some.next (lax_of c.args.self.now (map hop_of c.args.steps.now)) c.args.steps.now
    c.step-item.result c.loop-step.step-index lt c.step-item.is c.loop-step.invariant c.in-Some.ensures

pub returns : goal.returns
returns c =
    let le : length c.args.steps.now ≤ c.loop-step.step-index = search rules in
    sym (lax_end c.loop-step.at c.args.steps.now c.loop-step.step-index le) ∙ c.loop-step.invariant
