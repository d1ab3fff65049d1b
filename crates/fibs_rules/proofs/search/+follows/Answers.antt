use Rattle.std.proofs.Common.{rules, ◌≡◌, ◌-◌, get_or, ◌∙◌}
use Rattle.fibs_rules.proofs.SearchLemmas.FollowSteps.{follows_none, follows_astray, follows_stuck, follows_on, dice_rest}
use Rattle.fibs_rules.proofs.search.+follows.Goals as goal

pub returns-then-is_empty-2 : goal.returns-then-is_empty-2
returns-then-is_empty-2 t c = follows_none c.args.p.now c.args.dice.now c.args.steps.now (search rules) (search rules)

pub returns-then-target-saturating_sub : goal.returns-then-target-saturating_sub
returns-then-target-saturating_sub t c =
    follows_astray c.args.p.now c.args.dice.now c.args.steps.now c.index-steps-0.result (search rules) (search rules)
    c.index-steps-0.is (search rules)

pub follows-requires : goal.follows-requires
follows-requires t c = (search rules, dice_rest c.args.dice.now c.requires)

pub returns-in-Some : goal.returns-in-Some
returns-in-Some t c =
    let aim : c.index-steps-0.result.target ≡ c.index-steps-0.result.source - get_or c.args.dice.now 0 0 =
    search rules in
    c.follows.ensures ∙ follows_on c.args.p.now c.in-Some.next c.args.dice.now c.args.steps.now c.index-steps-0.result
    (search rules) (search rules) c.index-steps-0.is aim (rw c.source-source.ensures.value at c.in-Some.ensures)

pub returns-in-None : goal.returns-in-None
returns-in-None t c =
    follows_stuck c.args.p.now c.args.dice.now c.args.steps.now c.index-steps-0.result (search rules) (search rules)
    c.index-steps-0.is (rw c.source-source.ensures.value at c.in-None.ensures)
