use Rattle.std.proofs.Common.{sym, ◌∙◌}
use Rattle.fibs_fields.specs.StoredBoard.{fields_of}
use Rattle.fibs_position.specs.DecisionValue.{decision_of}
use Rattle.fibs_position.proofs.BoardLemmas.EffectTable.{effect_exact}
use Rattle.fibs_position.proofs.board_effect.effect.Goals as goal

pub returns-clause-carried : goal.returns-clause-carried
returns-clause-carried c = λ after.
    let exact =
    effect_exact c.is_board_is_exact.ensures (fields_of c.args.board.now) (decision_of c.args.decision.now)
    c.args.dice after in
    (λ e. exact.0 (sym c.by_table.ensures ∙ e), λ h. c.by_table.ensures ∙ exact.1 h)
