use Rattle.std.proofs.Common.{◌++◌, codes, ap, sym, ◌∙◌}
use Rattle.fibs_position.specs.DecisionValue.{decision_of}
use Rattle.fibs_position.specs.declared.decision.Decision.TheVariants.{Move}
use Rattle.fibs_session.specs.Typing.{typed_by}
use Rattle.fibs_terminal.proofs.TypedMoveLemmas.{tried_as}
use Rattle.fibs_terminal.proofs.commands.read_move.Goals as goal

pub returns-in-Decision : goal.returns-in-Decision
returns-in-Decision c =
    tried_as c.args.client.now c.args.numbers c.args.rest.now c.as_slice.result.now c.new-spelled.result.items
    c.append_spelled.new.text.items (decision_of c.in-Decision.decision)
    (c.as_slice.ensures.value ∙ c.in_ok-extend_from_slice-2.ensures.items
    ∙ ap (λ s. s ++ c.args.rest.now)
    (c.in_ok-extend_from_slice.ensures.items ∙ ap (λ s. s ++ codes "move ") c.new-typed.ensures.items))
    c.new-spelled.ensures.items c.shown_is_read.ensures (λ p. c.decisions_are_valid.ensures (Move p))
    c.in_ok-append_spelled.ensures.plain
    (λ t stands. ap (typed_by c.args.numbers t) (sym c.as_slice-3.ensures.value) ∙ sym (c.in-Decision.ensures t stands))
