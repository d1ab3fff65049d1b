use Rattle.std.proofs.Common.{ap, sym, ◌∙◌}
use Rattle.std.specs.Prelude.{option_map}
use Rattle.fibs_fields.specs.Split.{seen}
use Rattle.fibs_rules.specs.PlayValue.{hops_of}
use Rattle.fibs_advice.specs.Spelling.{times_in}
use Rattle.fibs_advice.proofs.SpellingLemmas.{filler_plays, word_alone, word_goes, word_nowhere, word_unread}
use Rattle.fibs_advice.proofs.spelling.moves.with_word.Goals as goal

pub returns-then-is_filler : goal.returns-then-is_filler
returns-then-is_filler c = filler_plays c.args.way c.args.word.now (hops_of c.args.play) c.if-is_filler.ensures

pub returns-in_err-times : goal.returns-in_err-times
returns-in_err-times c = ap (option_map hops_of) c.from_residual.ensures
    ∙ sym (word_unread c.args.way c.args.word.now (hops_of c.args.play) c.if-is_filler.ensures
    (c.in_err-times.ensures ∙ ap times_in c.split.ensures.after))

pub returns-in_err-rest : goal.returns-in_err-rest
returns-in_err-rest c = ap (option_map hops_of) c.from_residual-in_err-rest.ensures
    ∙ sym (word_alone c.args.way c.args.word.now c.split.result.0.now c.cut_of-cut.result c.in_ok-times.times
    (hops_of c.args.play) c.if-is_filler.ensures c.split.ensures.before c.cut_of-cut.ensures
    (c.in_ok-times.ensures ∙ ap times_in c.split.ensures.after)
    (sym c.split-2.ensures.after ∙ ap seen c.in_err-rest.was))

pub returns-in_err-source : goal.returns-in_err-source
returns-in_err-source c = ap (option_map hops_of) c.from_residual-in_err-source.ensures
    ∙ sym (word_nowhere c.args.way c.args.word.now c.split.result.0.now c.split-2.result.0.now c.in_ok-rest.rest.now
    c.cut_of-cut.result c.in_ok-times.times (hops_of c.args.play) c.if-is_filler.ensures c.split.ensures.before
    c.cut_of-cut.ensures (c.in_ok-times.ensures ∙ ap times_in c.split.ensures.after) c.split-2.ensures.before
    (sym c.split-2.ensures.after ∙ ap seen c.in_ok-rest.was) c.in_err-source.ensures.value)

pub returns : goal.returns
returns c =
    word_goes c.args.way c.args.word.now c.split.result.0.now c.split-2.result.0.now c.in_ok-rest.rest.now
    c.cut_of-cut.result c.in_ok-times.times c.in_ok-source.source (hops_of c.args.play) _ c.if-is_filler.ensures
    c.split.ensures.before c.cut_of-cut.ensures (c.in_ok-times.ensures ∙ ap times_in c.split.ensures.after)
    c.split-2.ensures.before (sym c.split-2.ensures.after ∙ ap seen c.in_ok-rest.was) c.in_ok-source.ensures.value
    c.with_names.ensures
