use Rattle.std.proofs.Common.{ap, sym, ◌∙◌, arith}
use Rattle.std.specs.Prelude.{option_map}
use Rattle.fibs_fields.specs.Split.{seen}
use Rattle.fibs_rules.specs.PlayValue.{hops_of}
use Rattle.fibs_advice.proofs.SpellingLemmas.{rest_shorter, words_end, words_more, words_stop}
use Rattle.fibs_advice.proofs.spelling.moves.+with_words.Goals as goal

pub returns-in_err-play : goal.returns-in_err-play
returns-in_err-play t c = ap (option_map hops_of) c.from_residual.ensures
    ∙ sym (words_stop c.args.way c.args.text.now c.split.result.0.now (hops_of c.args.play) c.split.ensures.before
    c.in_err-play.ensures)

pub with_words-requires : goal.with_words-requires
with_words-requires t c =
    let shorter = rest_shorter 32 c.args.text.now c.in-Some.rest.now
    (sym c.split.ensures.after ∙ ap seen c.in-Some.is) in
    (omega (arith, shorter, c.decreases), tt)

pub returns-in-None : goal.returns-in-None
returns-in-None t c =
    words_end c.args.way c.args.text.now c.split.result.0.now (hops_of c.args.play) (hops_of c.in_ok-play.play)
    c.split.ensures.before (sym c.split.ensures.after ∙ ap seen c.in-None.is) c.in_ok-play.ensures

pub returns-in-Some : goal.returns-in-Some
returns-in-Some t c =
    words_more c.args.way c.args.text.now c.split.result.0.now c.in-Some.rest.now (hops_of c.args.play)
    (hops_of c.in_ok-play.play) _ c.split.ensures.before (sym c.split.ensures.after ∙ ap seen c.in-Some.is)
    c.in_ok-play.ensures c.with_words.ensures
