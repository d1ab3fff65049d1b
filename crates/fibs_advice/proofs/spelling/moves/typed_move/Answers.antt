use Rattle.std.proofs.Common.{ap, sym, ◌∙◌}
use Rattle.std.specs.Prelude.{option_map}
use Rattle.fibs_rules.specs.PlayValue.{hops_of}
use Rattle.fibs_advice.proofs.SpellingLemmas.{empty_typed, no_steps, none_typed, play_typed, with_steps}
use Rattle.fibs_advice.proofs.spelling.moves.typed_move.Goals as goal

pub returns-in_err-play : goal.returns-in_err-play
returns-in_err-play c = ap (option_map hops_of) c.from_residual.ensures
    ∙ sym (none_typed c.args.way c.args.text.now c.in_err-play.ensures)

pub returns-then-is_empty : goal.returns-then-is_empty
returns-then-is_empty c =
    empty_typed c.args.way c.args.text.now (hops_of c.in_ok-play.play) c.in_ok-play.ensures
    (no_steps c.steps.result.now (hops_of c.in_ok-play.play) c.steps.ensures.value c.if-is_empty.ensures)

pub returns : goal.returns
returns c =
    play_typed c.args.way c.args.text.now (hops_of c.in_ok-play.play) c.in_ok-play.ensures
    (with_steps c.steps.result.now (hops_of c.in_ok-play.play) c.steps.ensures.value c.if-is_empty.ensures)
