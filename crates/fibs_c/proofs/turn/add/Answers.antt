-- What is added is a next step.
use Rattle.std.proofs.Common.{inl, inr, sym, subst, ◌∙◌}
use Rattle.fibs_position.specs.GameOf.{game_of}
use Rattle.fibs_rules.specs.PlayValue.{hops_of}
use Rattle.fibs_c.specs.TurnDoor.{GoesOnBy, IsNextBy}
use Rattle.fibs_c.proofs.turn.add.Goals as goal

pub returns-then-goes_on-clause-only : goal.returns-then-goes_on-clause-only
returns-then-goes_on-clause-only c s is =
    let b = game_of c.args.game.now in
    let next = subst (GoesOnBy c.args.left b) c.longer.ensures (c.goes_on.ensures.0 c.if-goes_on.true) in
    elim (c.push.ensures.only s is) [
      | inl old ↦ inl old
      | inr same ↦
          inr (subst (IsNextBy c.args.left b (hops_of c.args.made.now)) (sym c.step_record.ensures ∙ same) next)
    ]
