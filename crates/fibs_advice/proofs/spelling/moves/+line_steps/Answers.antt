use Rattle.std.proofs.Common.{ap, sym, ◌∙◌, arith, Some, None}
use Rattle.fibs_fields.specs.Split.{seen}
use Rattle.fibs_advice.proofs.SpellingLemmas.{after_none, line_begins, line_moves, line_skips, played_none, rest_shorter}
use Rattle.fibs_advice.proofs.spelling.moves.+line_steps.Goals as goal

pub line_steps-requires : goal.line_steps-requires
line_steps-requires t c =
    let shorter = rest_shorter 32 c.args.text.now c.in-Some.rest.now
    (sym c.split.ensures.after ∙ ap seen c.in-Some.is) in
    (omega (arith, shorter, c.decreases), tt)

pub returns-in-None : goal.returns-in-None
returns-in-None t c =
    line_skips c.args.way c.args.text.now c.split.result.0.now None _ c.split.ensures.before
    (sym c.split.ensures.after ∙ ap seen c.in-None.is) (sym c.if-is_nothing.ensures)
    (played_none c.new.ensures)

pub returns-in-Some : goal.returns-in-Some
returns-in-Some t c =
    line_skips c.args.way c.args.text.now c.split.result.0.now (Some c.in-Some.rest.now) _ c.split.ensures.before
    (sym c.split.ensures.after ∙ ap seen c.in-Some.is) (sym c.if-is_nothing.ensures) c.line_steps.ensures

pub returns-in-None-rest : goal.returns-in-None-rest
returns-in-None-rest t c =
    line_moves c.args.way c.args.text.now c.split.result.0.now None _ c.split.ensures.before
    (sym c.split.ensures.after ∙ ap seen c.in-None-rest.is) (sym c.if-is_nothing.ensures) c.if-is_move_word.ensures
    (played_none c.new-in-None-rest.ensures)

pub returns-in-Some-rest : goal.returns-in-Some-rest
returns-in-Some-rest t c =
    line_moves c.args.way c.args.text.now c.split.result.0.now (Some c.in-Some-rest.rest.now) _
    c.split.ensures.before (sym c.split.ensures.after ∙ ap seen c.in-Some-rest.is) (sym c.if-is_nothing.ensures)
    c.if-is_move_word.ensures (after_none _ _ c.new-in-Some-rest.ensures c.with_words.ensures)

pub returns : goal.returns
returns t c =
    line_begins c.args.way c.args.text.now c.split.result.0.now _ c.split.ensures.before
    (sym c.if-is_nothing.ensures) c.if-is_move_word.ensures (after_none _ _ c.new-2.ensures c.with_words-2.ensures)
