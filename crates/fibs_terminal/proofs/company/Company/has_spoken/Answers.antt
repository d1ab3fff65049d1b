use Rattle.std.proofs.Common.{arith, sym, ◌∙◌}
use Rattle.fibs_terminal.proofs.KeptListLemmas.{found_now, not_at_all, not_yet}
use Rattle.fibs_terminal.proofs.company.Company.has_spoken.Goals as goal

pub loop-spoken-preserved : goal.loop-spoken-preserved
loop-spoken-preserved c =
    not_yet c.args.name.now c.args.self.now.spoken.items c.deref-spoken-items.result.now c.loop-spoken.spoken-index
    c.spoken-item.result c.as_slice.result.now c.deref-spoken-items.ensures.value
    (omega (arith, c.loop-spoken-test.true)) c.spoken-item.is c.as_slice.ensures.value
    (sym c.eq.ensures ∙ c.if-eq.false) c.loop-spoken.invariant

pub returns-then-eq-clause-spoken : goal.returns-then-eq-clause-spoken
returns-then-eq-clause-spoken c so =
    found_now c.args.name.now c.args.self.now.spoken.items c.deref-spoken-items.result.now c.loop-spoken.spoken-index
    c.spoken-item.result c.as_slice.result.now c.deref-spoken-items.ensures.value
    (omega (arith, c.loop-spoken-test.true)) c.spoken-item.is c.as_slice.ensures.value
    (sym c.eq.ensures ∙ c.if-eq.true)

pub returns-clause-silent : goal.returns-clause-silent
returns-clause-silent c not_so =
    not_at_all c.args.name.now c.args.self.now.spoken.items c.deref-spoken-items.result.now c.loop-spoken.spoken-index
    c.deref-spoken-items.ensures.value (omega (arith, c.loop-spoken-test.false)) c.loop-spoken.invariant
