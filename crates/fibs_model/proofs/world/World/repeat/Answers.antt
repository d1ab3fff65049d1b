use Rattle.std.proofs.Common.{refl, ap, ◌∙◌, arith}
use Rattle.fibs_fields.specs.Board.{spelling}
use Rattle.fibs_model.specs.Events.{Repeat}
use Rattle.fibs_model.specs.WorldOf.{world_of}
use Rattle.fibs_model.proofs.Likeness.Events.{kept_on, goes_seen}
use Rattle.fibs_model.proofs.Likeness.Sending.{repeat_stands, sent_after}
use Rattle.fibs_model.proofs.world.World.repeat.Goals as goal

pub invariant_of-self-2 : goal.invariant_of-self-2
invariant_of-self-2 c =
    let all = c.send_line.new.links.ok.0 in
    kept_on c.self.inside _ Repeat c.self.invariant
    (repeat_stands c.servers_entries_are_silent.ensures (world_of c.self.inside) _ _ refl
    (sent_after _ _ _ _ _ _ _ c.make_room.ensures.same c.logged_in.ensures c.send_line.ensures.value) refl refl refl
    refl
    (c.deref.ensures.0 ∙ c.print-line.ensures.text ∙ ap spelling c.board.ensures.value))
    (omega (arith, all, c.send_line.ensures.len, c.make_room.ensures.len, c.self.invariant.known))

pub returns-clause-ok : goal.returns-clause-ok
returns-clause-ok c =
    goes_seen _ _ _ Repeat c.self.view_is
    (repeat_stands c.servers_entries_are_silent.ensures (world_of c.self.inside) _ _ refl
    (sent_after _ _ _ _ _ _ _ c.make_room.ensures.same c.logged_in.ensures c.send_line.ensures.value) refl refl refl
    refl
    (c.deref.ensures.0 ∙ c.print-line.ensures.text ∙ ap spelling c.board.ensures.value))
