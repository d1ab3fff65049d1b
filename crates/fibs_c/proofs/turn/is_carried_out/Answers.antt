-- The effect of the move is there, or is not.
use Rattle.std.proofs.Common.{[], ◌∷◌, refl, sym, subst}
use Rattle.fibs_fields.specs.StoredBoard.{fields_of}
use Rattle.fibs_position.specs.BoardEffect.{Effect}
use Rattle.fibs_position.specs.DecisionValue.{move}
use Rattle.fibs_rules.specs.PlayValue.{hops_of}
use Rattle.fibs_c.proofs.turn.is_carried_out.Goals as goal

pub returns-in-None : goal.returns-in-None
returns-in-None c = (
  λ t. absurd cc,
  λ carried.
      let none = (c.in-None.ensures.carried carried.0).1
      (subst (λ b. Effect b (move (hops_of c.args.play.now)) (1 ∷ 1 ∷ []) carried.0) (sym c.board.ensures.value)
      carried.1) in
      absurd cc,
)

pub returns-in-Some : goal.returns-in-Some
returns-in-Some c = (
  λ t. (
    fields_of c.in-Some._led,
    subst (λ b. Effect b (move (hops_of c.args.play.now)) (1 ∷ 1 ∷ []) (fields_of c.in-Some._led))
        c.board.ensures.value ((c.in-Some.ensures.carried (fields_of c.in-Some._led)).0 refl),
  ),
  λ carried. refl,
)
