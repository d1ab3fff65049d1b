use Rattle.std.proofs.Common.{ap, sym, ◌∙◌, arith}
use Rattle.std.specs.Prelude.{option_map}
use Rattle.fibs_fields.specs.Split.{seen}
use Rattle.fibs_rules.specs.Hop.{hop_of}
use Rattle.fibs_rules.specs.PlayValue.{hops_of}
use Rattle.fibs_advice.proofs.SpellingLemmas.{names_end, names_full, names_more, names_stop, rest_shorter}
use Rattle.fibs_advice.proofs.spelling.moves.+with_names.Goals as goal

pub returns-in_err-step : goal.returns-in_err-step
returns-in_err-step t c = ap (option_map hops_of) c.from_residual.ensures
    ∙ sym (names_stop c.args.way c.args.times c.args.source c.args.cut c.args.text.now c.split.result.0.now
    (hops_of c.args.play) c.split.ensures.before c.in_err-step.ensures)

pub returns-in_err-play : goal.returns-in_err-play
returns-in_err-play t c = ap (option_map hops_of) c.from_residual-in_err-play.ensures
    ∙ sym (names_full c.args.way c.args.times c.args.source c.args.cut c.args.text.now c.split.result.0.now
    (hops_of c.args.play) (hop_of c.in_ok-step.step) c.split.ensures.before c.in_ok-step.ensures
    c.in_err-play.ensures)

pub with_names-requires : goal.with_names-requires
with_names-requires t c =
    let shorter = rest_shorter c.args.cut c.args.text.now c.in-Some.rest.now
    (sym c.split.ensures.after ∙ ap seen c.in-Some.is) in
    (omega (arith, shorter, c.decreases), omega (arith, c.target.ensures.high))

pub returns-in-None : goal.returns-in-None
returns-in-None t c =
    names_end c.args.way c.args.times c.args.source c.args.cut c.args.text.now c.split.result.0.now
    (hops_of c.args.play) (hops_of c.in_ok-play.play) (hop_of c.in_ok-step.step) c.split.ensures.before
    (sym c.split.ensures.after ∙ ap seen c.in-None.is) c.in_ok-step.ensures c.in_ok-play.ensures

pub returns-in-Some : goal.returns-in-Some
returns-in-Some t c =
    names_more c.args.way c.args.times c.args.source c.args.cut c.target.result c.args.text.now c.split.result.0.now
    c.in-Some.rest.now (hops_of c.args.play) (hops_of c.in_ok-play.play) _ (hop_of c.in_ok-step.step)
    c.split.ensures.before (sym c.split.ensures.after ∙ ap seen c.in-Some.is) c.in_ok-step.ensures
    c.in_ok-play.ensures c.target.ensures.value c.with_names.ensures
