use Rattle.std.proofs.Common.{◌∷◌, [], take, sym, ap, subst, ◌∙◌}
use Rattle.fibs_model.specs.Carrying.{crossed, closed}
use Rattle.fibs_model.specs.declared.world.link.Link.{Link}
use Rattle.fibs_model.specs.declared.carriers.carrier.Way.TheVariants.{ToServer}
use Rattle.fibs_model.proofs.Likeness.Crossing.{carried_both, kept_cross}
use Rattle.fibs_model.proofs.world.crossing.hang_up.Goals as goal

pub returns-clause-carries : goal.returns-clause-carries
returns-clause-carries g c =
    carried_both g.C.Carrier.carries g.met.C.Carrier.joins c.args.carrier.now c.cross.new.self c.close.new.self _
    (closed ∷ []) c.close.result
    (subst (λ xs. g.C.Carrier.carries c.args.carrier.now (crossed ToServer xs ∷ []) c.cross.new.self)
    (kept_cross c.args.links.now c.args.conn c.index-links-conn.result c.requires.some c.requires.known
    c.index-links-conn.is c.args.kept c.next.result.now
    (c.next.ensures ∙ ap (λ (l : Link). take c.args.kept l.to_server.items) (sym c.index-links-conn.is)))
    c.in_ok-cross.ensures.carries)
    c.close.ensures.carries
