use Rattle.std.proofs.Common.{sym, ap, ◌∙◌}
use Rattle.fibs_fields.specs.StoredBoard.{fields_of}
use Rattle.fibs_rules.specs.PlayValue.{hops_of}
use Rattle.fibs_position.specs.DecisionValue.{roll, double, accept, reject, move, resign, decision_of}
use Rattle.fibs_position.specs.BoardEffect.{effect_of}
use Rattle.fibs_position.proofs.BoardLemmas.EffectTable.{effect_good, effect_bad}
use Rattle.fibs_position.proofs.board_effect.by_table.Goals as goal

pub returns-then-not-is_good : goal.returns-then-not-is_good
returns-then-not-is_good c =
    sym (effect_bad (fields_of c.args.board.now) (decision_of c.args.decision.now) c.args.dice
    (sym c.is_good.ensures.value ∙ c.if-not-is_good.true))

pub returns-in-Roll : goal.returns-in-Roll
returns-in-Roll c =
    let b = fields_of c.args.board.now in
    let good = sym c.is_good.ensures.value ∙ c.if-not-is_good.false in
    c.roll.ensures ∙ sym (effect_good b roll c.args.dice good)
    ∙ ap (λ d. effect_of b (decision_of d) c.args.dice) (sym c.in-Roll.is)

pub returns-in-Double : goal.returns-in-Double
returns-in-Double c =
    let b = fields_of c.args.board.now in
    let good = sym c.is_good.ensures.value ∙ c.if-not-is_good.false in
    c.double.ensures c.args.dice ∙ sym (effect_good b double c.args.dice good)
    ∙ ap (λ d. effect_of b (decision_of d) c.args.dice) (sym c.in-Double.is)

pub returns-in-Accept : goal.returns-in-Accept
returns-in-Accept c =
    let b = fields_of c.args.board.now in
    let good = sym c.is_good.ensures.value ∙ c.if-not-is_good.false in
    c.accept.ensures c.args.dice ∙ sym (effect_good b accept c.args.dice good)
    ∙ ap (λ d. effect_of b (decision_of d) c.args.dice) (sym c.in-Accept.is)

pub returns-in-Reject : goal.returns-in-Reject
returns-in-Reject c =
    let b = fields_of c.args.board.now in
    let good = sym c.is_good.ensures.value ∙ c.if-not-is_good.false in
    c.reject.ensures c.args.dice ∙ sym (effect_good b reject c.args.dice good)
    ∙ ap (λ d. effect_of b (decision_of d) c.args.dice) (sym c.in-Reject.is)

pub returns-in-Move : goal.returns-in-Move
returns-in-Move c =
    let b = fields_of c.args.board.now in
    let good = sym c.is_good.ensures.value ∙ c.if-not-is_good.false in
    c.make_steps.ensures c.args.dice ∙ sym (effect_good b (move (hops_of c.in-Move.play)) c.args.dice good)
    ∙ ap (λ d. effect_of b (decision_of d) c.args.dice) (sym c.in-Move.is)

pub returns-in-Resign : goal.returns-in-Resign
returns-in-Resign c =
    let b = fields_of c.args.board.now in
    let good = sym c.is_good.ensures.value ∙ c.if-not-is_good.false in
    c.resign.ensures c.in-Resign.field-0 c.args.dice ∙ sym (effect_good b (resign c.in-Resign.field-0) c.args.dice good)
    ∙ ap (λ d. effect_of b (decision_of d) c.args.dice) (sym c.in-Resign.is)
