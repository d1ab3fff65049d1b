use Rattle.std.proofs.Common.{refl, arith}
use Rattle.fibs_session.specs.History.Machine.{on_wire}
use Rattle.fibs_model.proofs.Likeness.Links.{coming_seen}
use Rattle.fibs_model.proofs.world.links.put_to_client.Goals as goal

pub returns-clause-value : goal.returns-clause-value
returns-clause-value c =
    let all = c.args.links.now.ok.0 in
    coming_seen c.args.links.now.items c.args.conn c.index_mut-link.result.now _ c.requires.some
    (omega (arith, all, c.requires.known)) c.index_mut-link.ensures.value
    (on_wire c.args.text.now) c.put.ensures.items refl refl
