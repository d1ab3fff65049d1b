use Rattle.std.proofs.Common.{sym, ap, subst, ◌∙◌, arith}
use Rattle.std.specs.Prelude.{OnOk}
use Rattle.fibs_model.specs.declared.world.link.Link.{Link}
use Rattle.fibs_model.proofs.Likeness.Crossing.{line_cross}
use Rattle.fibs_model.proofs.world.crossing.cross_line.Goals as goal

pub returns-clause-carries : goal.returns-clause-carries
returns-clause-carries g c =
    subst (λ xs. OnOk c.cross.result (g.C.Carrier.carries c.args.carrier.now xs c.cross.new.self))
    (line_cross c.args.links.now c.args.conn c.index-links-conn.result c.requires.some c.requires.known
    c.index-links-conn.is c.bytes-bytes.result.now c.whole_line.result c.unwrap-len.result c.args.current
    (grind (arith, c.if-conn-current.false)) (c.bytes-bytes.ensures
    ∙ ap (λ (l : Link). l.to_server.items) (sym c.index-links-conn.is))
    c.whole_line.ensures.line c.whole_line.ensures.ends
    c.unwrap-len.ensures)
    c.cross.ensures.carries
