use Rattle.std.proofs.Common.{arith}
use Rattle.fibs_wording.proofs.BrokenLemmas.{ended-alike}
use Rattle.fibs_wording.proofs.environment.broken.end_row.Goals as goal

pub returns-then-index-eq32 : goal.returns-then-index-eq32
returns-then-index-eq32 c =
    let len = c.len.ensures in
    let low = c.if-place-len.true in
    let there = c.index.ensures in
    let is = c.if-index-eq32.true in
    ended-alike c.args.text.now.items c.args.place c.index.result.now (grind arith) (grind arith)
