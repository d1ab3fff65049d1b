use Rattle.std.proofs.Common.{refl, arith}
use Rattle.fibs_model.specs.Events.{Lose}
use Rattle.fibs_model.specs.WorldOf.{world_of}
use Rattle.fibs_model.proofs.Likeness.Events.{kept_on, goes_seen, may_seen, logged}
use Rattle.fibs_model.proofs.Likeness.Losing.{lost_stands}
use Rattle.fibs_model.proofs.world.World.lose.Goals as goal

pub invariant_of-self-2 : goal.invariant_of-self-2
invariant_of-self-2 g c =
    let e = Lose c.args.kept in
    kept_on c.self.inside _ e c.self.invariant
    (lost_stands (world_of c.self.inside) _ c.args.kept _ refl c.cut.ensures.value
    (logged _ _ _ _ c.reserve.ensures.items c.push_reserved.ensures.items)
    c.lose-unconfirmed.ensures.unconfirmed refl c.lose-unconfirmed.ensures.does
    (may_seen _ _ e c.self.view_is c.requires.may))
    (omega arith)

pub returns-clause-ok : goal.returns-clause-ok
returns-clause-ok g c =
    let e = Lose c.args.kept in
    goes_seen _ _ _ e c.self.view_is
    (lost_stands (world_of c.self.inside) _ c.args.kept _ refl c.cut.ensures.value
    (logged _ _ _ _ c.reserve.ensures.items c.push_reserved.ensures.items)
    c.lose-unconfirmed.ensures.unconfirmed refl c.lose-unconfirmed.ensures.does
    (may_seen _ _ e c.self.view_is c.requires.may))
