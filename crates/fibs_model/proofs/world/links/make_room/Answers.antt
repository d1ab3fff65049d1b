use Rattle.std.proofs.Common.{arith}
use Rattle.fibs_model.proofs.Likeness.Links.{same_seen}
use Rattle.fibs_model.proofs.world.links.make_room.Goals as goal

pub returns-clause-same : goal.returns-clause-same
returns-clause-same c =
    let all = c.args.links.now.ok.0 in
    same_seen c.args.links.now.items c.args.conn c.index_mut.result.now _ (omega (arith, c.if-conn-eq0.false))
    (omega (arith, all, c.requires.known))
    c.index_mut.ensures.value c.widen.ensures.same
