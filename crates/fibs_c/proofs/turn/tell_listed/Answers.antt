-- A move that is allowed is carried out.
use Rattle.std.proofs.Common.{[], ◌∷◌, inr, refl, sym, subst}
use Rattle.fibs_fields.specs.StoredBoard.{fields_of}
use Rattle.fibs_position.specs.BoardEffect.{Effect}
use Rattle.fibs_position.specs.DecisionValue.{move}
use Rattle.fibs_position.specs.GameOf.{game_of}
use Rattle.fibs_rules.specs.PlayValue.{hops_of}
use Rattle.fibs_c.proofs.TurnLemmas.{ones}
use Rattle.fibs_c.proofs.turn.tell_listed.Goals as goal

pub returns-in-None : goal.returns-in-None
returns-in-None c =
    let b = game_of c.args.game.now in
    let made = move (hops_of c.args.made.now) in
    let good = (c.good_is_exact.ensures b).0 c.args.game.now.is_good in
    let (after, effect) = c.allowed_is_carried_out.ensures b made (1 ∷ 1 ∷ []) good
    (c.is_allowed.ensures.0 c.if-not-is_allowed.false) ones in
    let none = (c.in-None.ensures.carried after).1
    (subst (λ b. Effect b made (1 ∷ 1 ∷ []) after) (sym c.board.ensures.value) effect) in
    absurd cc

pub returns-in-Some : goal.returns-in-Some
returns-in-Some c =
    let after = fields_of c.in-Some.after in
    inr (
      after,
      subst (λ b. Effect b (move (hops_of c.args.made.now)) (1 ∷ 1 ∷ []) after) c.board.ensures.value
          ((c.in-Some.ensures.carried after).0 refl),
      c.tell_leading.ensures,
    )
