use Rattle.std.proofs.Common.{sym, ap, ◌∙◌, [], ◌∷◌, subst}
use Rattle.fibs_fields.specs.StoredBoard.{fields_of}
use Rattle.fibs_position.specs.BoardEffect.{effect_of}
use Rattle.fibs_position.specs.DecisionValue.{move}
use Rattle.fibs_rules.specs.PlayValue.{hops_of}
use Rattle.fibs_events.specs.Played.{SameCheckers}
use Rattle.fibs_events.proofs.FindingLemmas.{nothing_is_something, something_is_it}
use Rattle.fibs_events.proofs.finding.leads.Goals as goal

pub returns-in-None : goal.returns-in-None
returns-in-None c =
    let is = ap (λ b. effect_of b (move (hops_of c.args.play.now)) (0 ∷ 0 ∷ [])) (sym c.board.ensures.value)
    ∙ sym c.in-None.ensures.value in (
      λ t. absurd cc,
      λ played. absurd (nothing_is_something (sym is) played.1),
    )

pub returns-in-Some : goal.returns-in-Some
returns-in-Some c =
    let is = ap (λ b. effect_of b (move (hops_of c.args.play.now)) (0 ∷ 0 ∷ [])) (sym c.board.ensures.value)
    ∙ sym c.in-Some.ensures.value in (
      λ t. (fields_of c.in-Some.led, is, c.has_same_checkers.ensures.0 t),
      λ played. c.has_same_checkers.ensures.1
          (subst (λ b. SameCheckers b (fields_of c.args.after.now)) (something_is_it is played.1) played.2),
    )
