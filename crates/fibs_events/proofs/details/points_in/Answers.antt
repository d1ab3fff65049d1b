use Rattle.std.proofs.Common.{◌==◌, ◌∙◌, ◌+◌, rules, tests, sym, ap, drop, length, codes, true}
use Rattle.std.proofs.lemmas.Iterator.Consumers.{YieldsList-at, YieldsList-end}
use Rattle.std.proofs.lemmas.Iterator.Splits.{YieldsList-from_slice_split}
use Rattle.fibs_events.specs.Texts.{first_said, points_said, words, is_win}
use Rattle.fibs_events.proofs.SaidLemmas.{found_nowhere, found_there, parted, looked_behind}
use Rattle.fibs_events.proofs.details.points_in.Goals as goal

pub returns-in-Some-number : goal.returns-in-Some-number
returns-in-Some-number c =
    let all = words c.args.text.now in
    let so_far = c.loop-word.yielded in
    sym (found_there points_said is_win true c.loop-word.is_next so_far c.in-Some.word.now
    (drop (length so_far + 1) all) all c.in-Some-number.points c.if-is_next.true (sym c.in-Some-number.ensures)
    (parted (YieldsList-at c.into_iter-word-iterator.ensures.into_iter_gives
    (YieldsList-from_slice_split _ (λ b. b == 32) c.args.text.now c.split-word-items.ensures.rest
    c.split-word-items.ensures.done c.split-word-items.ensures.closure (λ x b q k. search (rules, tests))))
    so_far _ c.loop-word.yielded_by _ _ c.in-Some.word c.in-Some.is c.next.ensures.steps) c.loop-word.invariant)
    ∙ ap (first_said points_said) (looked_behind is_win (codes "win") all)

pub returns : goal.returns
returns c =
    let all = words c.args.text.now in
    let end = YieldsList-end (YieldsList-at c.into_iter-word-iterator.ensures.into_iter_gives
    (YieldsList-from_slice_split _ (λ b. b == 32) c.args.text.now c.split-word-items.ensures.rest
    c.split-word-items.ensures.done c.split-word-items.ensures.closure (λ x b q k. search (rules, tests))))
    c.loop-word.yielded _ c.loop-word.yielded_by _ _ c.in-None.is c.next.ensures.steps in
    sym (found_nowhere points_said is_win true c.loop-word.is_next c.loop-word.yielded all end.0 c.loop-word.invariant)
    ∙ ap (first_said points_said) (looked_behind is_win (codes "win") all)
