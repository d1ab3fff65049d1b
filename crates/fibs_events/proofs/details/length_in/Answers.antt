use Rattle.std.proofs.Common.{◌==◌, ◌∙◌, ◌+◌, rules, tests, sym, ap, drop, length, false}
use Rattle.std.proofs.lemmas.Iterator.Consumers.{YieldsList-at, YieldsList-end}
use Rattle.std.proofs.lemmas.Iterator.Splits.{YieldsList-from_slice_split}
use Rattle.fibs_events.specs.Texts.{first_said, length_said, words, is_article}
use Rattle.fibs_events.proofs.SaidLemmas.{found_nowhere, found_there, parted, looked_later}
use Rattle.fibs_events.proofs.details.length_in.Goals as goal

pub returns-in-Some-length : goal.returns-in-Some-length
returns-in-Some-length c =
    let all = words c.args.text.now in
    let so_far = c.loop-word.yielded in
    sym (found_there length_said is_article false c.loop-word.is_next so_far c.in-Some.word.now
    (drop (length so_far + 1) all) all c.in-Some-length.length c.if-is_next.true (sym c.in-Some-length.ensures)
    (parted (YieldsList-at c.into_iter-word-iterator.ensures.into_iter_gives
    (YieldsList-from_slice_split _ (λ b. b == 32) c.args.text.now c.split-word-items.ensures.rest
    c.split-word-items.ensures.done c.split-word-items.ensures.closure (λ x b q k. search (rules, tests))))
    so_far _ c.loop-word.yielded_by _ _ c.in-Some.word c.in-Some.is c.next.ensures.steps) c.loop-word.invariant)
    ∙ ap (first_said length_said) (looked_later is_article all)

pub returns : goal.returns
returns c =
    let all = words c.args.text.now in
    let end = YieldsList-end (YieldsList-at c.into_iter-word-iterator.ensures.into_iter_gives
    (YieldsList-from_slice_split _ (λ b. b == 32) c.args.text.now c.split-word-items.ensures.rest
    c.split-word-items.ensures.done c.split-word-items.ensures.closure (λ x b q k. search (rules, tests))))
    c.loop-word.yielded _ c.loop-word.yielded_by _ _ c.in-None.is c.next.ensures.steps in
    sym (found_nowhere length_said is_article false c.loop-word.is_next c.loop-word.yielded all end.0
    c.loop-word.invariant)
    ∙ ap (first_said length_said) (looked_later is_article all)
