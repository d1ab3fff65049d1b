-- The effect of the play is there and does not differ, or it is not there.
use Rattle.std.proofs.Common.{[], ◌∷◌, true, ◌≡◌, refl, sym, subst}
use Rattle.fibs_fields.specs.StoredBoard.{fields_of}
use Rattle.fibs_position.specs.BoardEffect.{Effect}
use Rattle.fibs_position.specs.DecisionValue.{move}
use Rattle.fibs_position.specs.GamePart.{same_game}
use Rattle.fibs_rules.specs.PlayValue.{hops_of}
use Rattle.fibs_c.proofs.TurnLemmas.{same_some, true_turned, turned_true}
use Rattle.fibs_c.proofs.turn.leads_to.Goals as goal

pub returns-in-None : goal.returns-in-None
returns-in-None c = (
  λ t. absurd cc,
  λ leads.
      let none = (c.in-None.ensures.carried leads.0).1
      (subst (λ b. Effect b (move (hops_of c.args.play.now)) (1 ∷ 1 ∷ []) leads.0) (sym c.board.ensures.value)
      leads.1) in
      absurd cc,
)

pub returns-in-Some : goal.returns-in-Some
returns-in-Some c =
    let led = fields_of c.in-Some.led in
    let after = fields_of c.args.after.now in (
      λ t. (
        led,
        subst (λ b. Effect b (move (hops_of c.args.play.now)) (1 ∷ 1 ∷ []) led) c.board.ensures.value
            ((c.in-Some.ensures.carried led).0 refl),
        true_turned (same_game led after) c.differs.result c.differs.ensures.test t,
      ),
      λ leads.
          let one = (c.in-Some.ensures.carried leads.0).1
          (subst (λ b. Effect b (move (hops_of c.args.play.now)) (1 ∷ 1 ∷ []) leads.0)
          (sym c.board.ensures.value) leads.1) in
          let same = same_some _ led leads.0 refl one in
          turned_true (same_game led after) c.differs.result c.differs.ensures.test
          (subst (λ b. same_game b after ≡ true) (sym same) leads.2),
    )
