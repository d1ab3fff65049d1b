use Rattle.std.proofs.Common.{arith}
use Rattle.fibs_model.proofs.Likeness.Delivering.{heard_next, room_next}
use Rattle.fibs_model.proofs.world.delivering.hear_next.Goals as goal

pub hear_link-requires-clause-room : goal.hear_link-requires-clause-room
hear_link-requires-clause-room c =
    let all = c.args.links.now.ok.0 in
    room_next c.args.links.now.items c.args.conn c.index_mut.result.now c.requires.some
    (omega (arith, all, c.requires.known)) c.index_mut.ensures.value c.args.client.now c.args.n _ _ c.requires.room

pub returns-clause-hears : goal.returns-clause-hears
returns-clause-hears c =
    let all = c.args.links.now.ok.0 in
    heard_next c.args.links.now.items c.args.conn c.index_mut.result.now _ c.requires.some
    (omega (arith, all, c.requires.known)) c.index_mut.ensures.value
    c.args.client.now _ c.args.n _ _ c.hear_link.ensures.hears c.hear_link.ensures.left c.hear_link.ensures.fresh
