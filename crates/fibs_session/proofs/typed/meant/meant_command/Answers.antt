use Rattle.std.proofs.Common.{◌∙◌, ap}
use Rattle.fibs_position.specs.DecisionValue.{decision_of}
use Rattle.fibs_commands.specs.Commands.{command_of}
use Rattle.fibs_commands.specs.TextOf.{text_of}
use Rattle.fibs_session.specs.Typing.{decided}
use Rattle.fibs_session.proofs.TypedLemmas.{decision_is_meant, other_is_meant}
use Rattle.fibs_session.proofs.typed.meant.meant_command.Goals as goal

pub returns-in-Some : goal.returns-in-Some
returns-in-Some c t stands =
    decision_is_meant c.read_command_is_exact.ensures c.args.numbers t c.args.text.now (text_of c.decision_text.result)
    (decision_of c.in-Some.decision) (c.in-Some.ensures ∙ ap decided (c.read_typed_by-typed.ensures t stands))
    (c.decision_text.ensures
    ∙ ap (λ d. command_of d (decision_of c.in-Some.decision)) (c.shown_direction.ensures t stands))

pub returns-in-None : goal.returns-in-None
returns-in-None c t stands =
    other_is_meant c.read_command_is_exact.ensures c.args.numbers t c.args.text.now
    (c.in-None.ensures ∙ ap decided (c.read_typed_by-typed.ensures t stands))
