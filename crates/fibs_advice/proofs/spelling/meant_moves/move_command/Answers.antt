use Rattle.std.proofs.Common.{ap, refl, ◌∙◌}
use Rattle.std.specs.Prelude.{option_map}
use Rattle.fibs_commands.specs.Commands.{command_of}
use Rattle.fibs_position.specs.DecisionValue.{move}
use Rattle.fibs_rules.specs.PlayValue.{hops_of}
use Rattle.fibs_session.specs.Typing.{way_now}
use Rattle.fibs_advice.specs.Spelling.{steps_shown}
use Rattle.fibs_advice.proofs.SpelledLemmas.{move_shown}
use Rattle.fibs_advice.proofs.spelling.meant_moves.move_command.Goals as goal

pub returns-in-Some : goal.returns-in-Some
returns-in-Some c = λ t stands. move_shown t (way_now c.args.numbers t) c.args.line.now _ c.in-Some.play
    (steps_shown (way_now c.args.numbers t) c.args.line.now) (option_map hops_of c.in_ok-shown_move.field-0) refl
    (c.in_ok-shown_move.ensures t stands) (ap (option_map hops_of) c.in-Some.is)
    (c.decision_text.ensures ∙ ap (λ way. command_of way (move (hops_of c.in-Some.play)))
    (c.way_now-way.ensures t stands))
