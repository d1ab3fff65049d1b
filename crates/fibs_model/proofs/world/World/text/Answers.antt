use Rattle.std.proofs.Common.{refl, arith}
use Rattle.fibs_model.specs.Events.{Text}
use Rattle.fibs_model.specs.WorldOf.{world_of}
use Rattle.fibs_model.proofs.Likeness.Events.{kept_on, goes_seen, may_seen}
use Rattle.fibs_model.proofs.Likeness.Sending.{text_stands, sent_after}
use Rattle.fibs_model.proofs.world.World.text.Goals as goal

pub invariant_of-self-2 : goal.invariant_of-self-2
invariant_of-self-2 c =
    let all = c.send_line.new.links.ok.0 in
    let e = Text c.args.line.now in
    kept_on c.self.inside _ e c.self.invariant
    (text_stands c.servers_entries_are_silent.ensures (world_of c.self.inside) _ _ refl
    (sent_after _ _ _ _ _ _ _ c.make_room.ensures.same c.logged_in.ensures c.send_line.ensures.value) refl refl refl
    refl
    (may_seen _ _ e c.self.view_is c.requires.may))
    (omega (arith, all, c.send_line.ensures.len, c.make_room.ensures.len, c.self.invariant.known))

pub returns-clause-ok : goal.returns-clause-ok
returns-clause-ok c =
    let e = Text c.args.line.now in
    goes_seen _ _ _ e c.self.view_is
    (text_stands c.servers_entries_are_silent.ensures (world_of c.self.inside) _ _ refl
    (sent_after _ _ _ _ _ _ _ c.make_room.ensures.same c.logged_in.ensures c.send_line.ensures.value) refl refl refl
    refl
    (may_seen _ _ e c.self.view_is c.requires.may))
