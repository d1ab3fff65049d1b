use Rattle.std.proofs.Common.{ap, ◌∙◌}
use Rattle.fibs_position.specs.DecisionValue.{move}
use Rattle.fibs_position.specs.declared.decision.Decision.TheVariants.{Move}
use Rattle.fibs_rules.specs.PlayValue.{hops_of}
use Rattle.fibs_commands.specs.Commands.{command_of}
use Rattle.fibs_session.specs.Typing.{typed_by}
use Rattle.fibs_terminal.proofs.TryingLemmas.{short}
use Rattle.fibs_terminal.proofs.commands.set_shown.Goals as goal

pub returns : goal.returns
returns c t stands =
    let same = c.as_bytes.ensures.value ∙ c.as_str.ensures.value in
    let line = c.set_line.ensures (short _ _ c.as_bytes.ensures.value c.as_str.ensures.fits) in
    ap (typed_by c.args.numbers t)
    (line ∙ same ∙ c.decision_text-command.ensures
    ∙ ap (λ way. command_of way (move (hops_of c.args.play.now))) (c.way_now.ensures t stands))
    ∙ c.shown_is_read.ensures c.args.numbers t (move (hops_of c.args.play.now))
    (c.decisions_are_valid.ensures (Move c.args.play.now))
