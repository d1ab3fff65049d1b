use Rattle.std.proofs.Common.{ap₂, ◌∙◌, rules}
use Rattle.std.specs.Ordering.{nat_cmp}
use Rattle.fibs_rules.specs.LegalPlays.{play_cmp}
use Rattle.fibs_rules.proofs.PlayListLemmas.PlayOrder.{cmp_hops}
use Rattle.fibs_rules.proofs.PlayListLemmas.PlayNumbers.{plays_cmp}
use Rattle.fibs_rules.proofs.play.Play.order.Goals as goal

pub returns-then-self-other : goal.returns-then-self-other
returns-then-self-other c =
    c.cmp.ensures ∙ ap₂ nat_cmp c.number.ensures c.number-then-self-other.ensures
    ∙ plays_cmp c.args.self.now c.args.other.now (search rules)

pub returns-else-self-other : goal.returns-else-self-other
returns-else-self-other c =
    c.cmp-else-self-other.ensures ∙ cmp_hops c.steps.result.now c.steps-else-self-other.result.now
    ∙ ap₂ play_cmp c.steps.ensures.value c.steps-else-self-other.ensures.value
