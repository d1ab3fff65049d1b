use Rattle.std.proofs.Common.{refl, ap, ◌∙◌, arith}
use Rattle.std.specs.Prelude.{option_map}
use Rattle.fibs_fields.specs.StoredBoard.{fields_of}
use Rattle.fibs_position.specs.DecisionValue.{decision_of}
use Rattle.fibs_model.specs.Events.{Click}
use Rattle.fibs_model.specs.WorldOf.{world_of}
use Rattle.fibs_model.proofs.Likeness.Events.{kept_on, goes_seen}
use Rattle.fibs_model.proofs.Likeness.Asking.{clicked_stands, asked_after, noted_after}
use Rattle.fibs_model.proofs.world.World.click.Goals as goal

pub invariant_of-self-2 : goal.invariant_of-self-2
invariant_of-self-2 c =
    let all = c.hand_out.new.links.ok.0 in
    let d = decision_of c.args.decision.now in
    kept_on c.self.inside _ (Click d) c.self.invariant
    (clicked_stands (world_of c.self.inside) _ _ refl
    (asked_after _ _ _ _ _ c.make_room.ensures.same c.hand_out.ensures.value) refl
    d _ _ (noted_after _ _ _ _ c.reserve.ensures.items c.note_click.ensures)
    c.decide-answer.ensures.refusal (λ t h. ap (option_map fields_of) c.copied-shown.ensures ∙ c.shown.ensures t h)
    c.decide-answer.ensures.does)
    (omega (arith, all, c.hand_out.ensures.len, c.make_room.ensures.len, c.self.invariant.known))

pub returns-clause-ok : goal.returns-clause-ok
returns-clause-ok c =
    let d = decision_of c.args.decision.now in
    goes_seen _ _ _ (Click d) c.self.view_is
    (clicked_stands (world_of c.self.inside) _ _ refl
    (asked_after _ _ _ _ _ c.make_room.ensures.same c.hand_out.ensures.value) refl
    d _ _ (noted_after _ _ _ _ c.reserve.ensures.items c.note_click.ensures)
    c.decide-answer.ensures.refusal (λ t h. ap (option_map fields_of) c.copied-shown.ensures ∙ c.shown.ensures t h)
    c.decide-answer.ensures.does)
