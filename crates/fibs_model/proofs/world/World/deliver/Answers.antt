use Rattle.std.proofs.Common.{map, refl, ap, arith}
use Rattle.fibs_model.specs.EntryOf.{entry_of}
use Rattle.fibs_model.specs.Events.{Deliver}
use Rattle.fibs_model.specs.WorldOf.{world_of}
use Rattle.fibs_model.proofs.Likeness.Events.{kept_on, goes_seen, may_seen}
use Rattle.fibs_model.proofs.Likeness.Delivering.{heard_stands, heard_after}
use Rattle.fibs_model.proofs.world.World.deliver.Goals as goal

pub invariant_of-self-2 : goal.invariant_of-self-2
invariant_of-self-2 g c =
    let all = c.hear_next.new.links.ok.0 in
    let e = Deliver c.args.n in
    kept_on c.self.inside _ e c.self.invariant
    (heard_stands (world_of c.self.inside) _ c.args.n refl
    (heard_after _ _ _ _ _ _ _ _ _ _ c.make_room.ensures.same (ap (map entry_of) c.reserve.ensures.items)
    c.hear_next.ensures.hears) refl
    (may_seen _ _ e c.self.view_is c.requires.may))
    (omega (arith, all, c.hear_next.ensures.len, c.make_room.ensures.len, c.self.invariant.known))

pub returns-clause-ok : goal.returns-clause-ok
returns-clause-ok g c =
    let e = Deliver c.args.n in
    goes_seen _ _ _ e c.self.view_is
    (heard_stands (world_of c.self.inside) _ c.args.n refl
    (heard_after _ _ _ _ _ _ _ _ _ _ c.make_room.ensures.same (ap (map entry_of) c.reserve.ensures.items)
    c.hear_next.ensures.hears) refl
    (may_seen _ _ e c.self.view_is c.requires.may))
