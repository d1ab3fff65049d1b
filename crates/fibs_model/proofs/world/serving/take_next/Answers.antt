use Rattle.std.proofs.Common.{arith}
use Rattle.fibs_model.proofs.Likeness.Taking.{taken_next}
use Rattle.fibs_model.proofs.world.serving.take_next.Goals as goal

pub returns-clause-takes : goal.returns-clause-takes
returns-clause-takes c =
    let all = c.args.links.now.ok.0 in
    taken_next c.args.links.now.items c.args.conn c.index_mut-link.result.now _ (omega (arith, c.requires.some))
    (omega (arith, all, c.requires.known)) c.index_mut-link.ensures.value
    c.args.server.now _ c.unwrap-len.result _ _ _ c.whole_line.result _ c.bytes.ensures c.whole_line.ensures.line
    c.unwrap-len.ensures c.take_line.ensures.takes
