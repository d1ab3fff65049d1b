use Rattle.std.proofs.Common.{◌++◌, map, refl, ap, ◌∙◌, arith}
use Rattle.fibs_model.specs.EntryOf.{entry_of}
use Rattle.fibs_model.specs.Events.{Withdraw}
use Rattle.fibs_model.specs.WorldOf.{world_of}
use Rattle.fibs_model.proofs.Likeness.Asking.{withdrawn_stands, noted_after}
use Rattle.fibs_model.proofs.Likeness.Events.{kept_on, goes_seen}
use Rattle.fibs_model.proofs.world.World.withdraw.Goals as goal

pub invariant_of-self-2 : goal.invariant_of-self-2
invariant_of-self-2 c =
    kept_on c.self.inside _ Withdraw c.self.invariant
    (withdrawn_stands (world_of c.self.inside) _ _ refl refl refl refl _
    (noted_after _ _ _ _ c.reserve.ensures.items
    (c.note.ensures.items ∙ ap (λ es. map entry_of c.reserve.new.self.items ++ es) c.unless_refused.ensures))
    c.withdraw_roll-answer.ensures.refusal c.withdraw_roll-answer.ensures.does)
    (let all = c.self.inside.links.ok.0 in omega (arith, all, c.self.invariant.known))

pub returns-clause-ok : goal.returns-clause-ok
returns-clause-ok c =
    goes_seen _ _ _ Withdraw c.self.view_is
    (withdrawn_stands (world_of c.self.inside) _ _ refl refl refl refl _
    (noted_after _ _ _ _ c.reserve.ensures.items
    (c.note.ensures.items ∙ ap (λ es. map entry_of c.reserve.new.self.items ++ es) c.unless_refused.ensures))
    c.withdraw_roll-answer.ensures.refusal c.withdraw_roll-answer.ensures.does)
