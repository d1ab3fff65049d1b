use Rattle.std.proofs.Common.{refl, arith}
use Rattle.fibs_model.proofs.Likeness.Links.{cut_seen}
use Rattle.fibs_model.proofs.world.links.cut.Goals as goal

pub returns-clause-value : goal.returns-clause-value
returns-clause-value c =
    let all = c.args.links.now.ok.0 in
    cut_seen c.args.links.now.items c.args.conn c.index_mut-link.result.now _ c.requires.some
    (omega (arith, all, c.requires.known)) c.index_mut-link.ensures.value
    c.args.kept c.cut.ensures.items c.cut-2.ensures.items refl
