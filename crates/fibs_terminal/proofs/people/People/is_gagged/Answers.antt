use Rattle.std.proofs.Common.{arith, sym, ◌∙◌}
use Rattle.fibs_terminal.proofs.KeptListLemmas.{found_now, not_at_all, not_yet}
use Rattle.fibs_terminal.proofs.people.People.is_gagged.Goals as goal

pub loop-gagged-preserved : goal.loop-gagged-preserved
loop-gagged-preserved c =
    not_yet c.args.name.now c.args.self.now.gagged.items c.deref-gagged-items.result.now c.loop-gagged.gagged-index
    c.gagged-item.result c.as_slice.result.now c.deref-gagged-items.ensures.value
    (omega (arith, c.loop-gagged-test.true)) c.gagged-item.is c.as_slice.ensures.value
    (sym c.eq.ensures ∙ c.if-eq.false) c.loop-gagged.invariant

pub returns-then-eq-clause-gagged : goal.returns-then-eq-clause-gagged
returns-then-eq-clause-gagged c so =
    found_now c.args.name.now c.args.self.now.gagged.items c.deref-gagged-items.result.now c.loop-gagged.gagged-index
    c.gagged-item.result c.as_slice.result.now c.deref-gagged-items.ensures.value
    (omega (arith, c.loop-gagged-test.true)) c.gagged-item.is c.as_slice.ensures.value
    (sym c.eq.ensures ∙ c.if-eq.true)

pub returns-clause-heard : goal.returns-clause-heard
returns-clause-heard c not_so =
    not_at_all c.args.name.now c.args.self.now.gagged.items c.deref-gagged-items.result.now c.loop-gagged.gagged-index
    c.deref-gagged-items.ensures.value (omega (arith, c.loop-gagged-test.false)) c.loop-gagged.invariant
