use Rattle.std.proofs.Common.{◌==◌, ◌∙◌, ◌+◌, rules, tests, refl, sym, ap, drop, length, true}
use Rattle.std.proofs.lemmas.Iterator.Consumers.{YieldsList-at, YieldsList-end}
use Rattle.std.proofs.lemmas.Iterator.Splits.{YieldsList-from_slice_split}
use Rattle.fibs_events.specs.Texts.{first_said, points_said, words}
use Rattle.fibs_events.proofs.SaidLemmas.{found_nowhere, found_there, parted, each_looked_at}
use Rattle.fibs_events.proofs.details.first_number.Goals as goal

pub returns-in-Some-number : goal.returns-in-Some-number
returns-in-Some-number c =
    let all = words c.args.text.now in
    let so_far = c.loop-word.yielded in
    sym (found_there points_said (λ word. true) true true so_far c.in-Some.word.now (drop (length so_far + 1) all) all
    c.in-Some-number.number refl (sym c.in-Some-number.ensures)
    (parted (YieldsList-at c.into_iter-word-iterator.ensures.into_iter_gives
    (YieldsList-from_slice_split _ (λ b. b == 32) c.args.text.now c.split-word-items.ensures.rest
    c.split-word-items.ensures.done c.split-word-items.ensures.closure (λ x b q k. search (rules, tests))))
    so_far _ c.loop-word.yielded_by _ _ c.in-Some.word c.in-Some.is c.next.ensures.steps) c.loop-word.invariant)
    ∙ ap (first_said points_said) (each_looked_at all)

pub returns : goal.returns
returns c =
    let all = words c.args.text.now in
    let end = YieldsList-end (YieldsList-at c.into_iter-word-iterator.ensures.into_iter_gives
    (YieldsList-from_slice_split _ (λ b. b == 32) c.args.text.now c.split-word-items.ensures.rest
    c.split-word-items.ensures.done c.split-word-items.ensures.closure (λ x b q k. search (rules, tests))))
    c.loop-word.yielded _ c.loop-word.yielded_by _ _ c.in-None.is c.next.ensures.steps in
    sym (found_nowhere points_said (λ word. true) true true c.loop-word.yielded all end.0 c.loop-word.invariant)
    ∙ ap (first_said points_said) (each_looked_at all)
