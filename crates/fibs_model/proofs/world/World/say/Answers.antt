use Rattle.std.proofs.Common.{refl, arith}
use Rattle.fibs_commands.specs.PlainOf.{plain_value}
use Rattle.fibs_model.specs.Events.{Plain}
use Rattle.fibs_model.specs.WorldOf.{world_of}
use Rattle.fibs_model.proofs.Likeness.Events.{kept_on, goes_seen}
use Rattle.fibs_model.proofs.Likeness.Asking.{said_stands, asked_after}
use Rattle.fibs_model.proofs.world.World.say.Goals as goal

pub invariant_of-self-2 : goal.invariant_of-self-2
invariant_of-self-2 c =
    let all = c.hand_out.new.links.ok.0 in
    let p = plain_value c.args.plain.now in
    kept_on c.self.inside _ (Plain p) c.self.invariant
    (said_stands (world_of c.self.inside) _ _ refl
    (asked_after _ _ _ _ _ c.make_room.ensures.same c.hand_out.ensures.value) refl
    p refl c.plain-answer.ensures.does)
    (omega (arith, all, c.hand_out.ensures.len, c.make_room.ensures.len, c.self.invariant.known))

pub returns-clause-ok : goal.returns-clause-ok
returns-clause-ok c =
    let p = plain_value c.args.plain.now in
    goes_seen _ _ _ (Plain p) c.self.view_is
    (said_stands (world_of c.self.inside) _ _ refl
    (asked_after _ _ _ _ _ c.make_room.ensures.same c.hand_out.ensures.value) refl
    p refl c.plain-answer.ensures.does)
