use Rattle.std.proofs.Common.{arith}
use Rattle.fibs_rules.specs.PlayValue.{hops_of}
use Rattle.fibs_advice.specs.Spelling.{ChangesSame}
use Rattle.fibs_advice.proofs.SpellingLemmas.{first_alone, one_further}
use Rattle.fibs_advice.proofs.spelling.moves.+leads_same_to.Goals as goal

pub returns-then-place-eq0 : goal.returns-then-place-eq0
returns-then-place-eq0 t c same =
    first_alone (λ p. ChangesSame p (hops_of c.args.one.now) (hops_of c.args.other.now)) c.args.place
    (omega (arith, c.if-place-eq0.true)) (c.changes_same.ensures c.if-not-changes_same.false)

pub returns : goal.returns
returns t c same =
    one_further (λ p. ChangesSame p (hops_of c.args.one.now) (hops_of c.args.other.now)) c.args.place
    (c.changes_same.ensures c.if-not-changes_same.false) (c.leads_same_to.ensures same)
