use Rattle.std.proofs.Common.{◌++◌, ◌∷◌, [], ◌==◌, ◌∙◌, ap, append_assoc, map, rules, subst, sym, tests, Bor, List, ℕ}
use Rattle.std.proofs.lemmas.Iterator.Consumers.{YieldsList-at, YieldsList-end}
use Rattle.std.proofs.lemmas.Iterator.Splits.{YieldsList-from_slice_split}
use Rattle.fibs_wording.specs.MatchRows.{AreSaid}
use Rattle.fibs_wording.proofs.RowLemmas.{lent_more, line_more, match_more}
use Rattle.fibs_wording.proofs.matches.push_asked_for.Goals as goal

pub loop-line-preserved-in-Continue-1 : goal.loop-line-preserved-in-Continue-1
loop-line-preserved-in-Continue-1 c =
    let (asked, so_far, said) = c.loop-line.invariant in
    let name = c.args.name.now in
    let lines = map (λ (line : Bor (List ℕ)). line.now) c.loop-line.yielded in
    let played = c.in-Some-read_match.played in
    let read = c.in-Some-read_match.ensures in (
      asked ++ played ∷ [],
      c.in_ok-push.ensures.items ∙ ap (λ l. l ++ played ∷ []) so_far
          ∙ append_assoc c.args.found.now.items asked (played ∷ []),
      subst (λ ls. AreSaid name ls (asked ++ played ∷ [])) (sym (lent_more c.loop-line.yielded c.in-Some.line))
          (match_more name lines asked c.in-Some.line.now played
          (record { date = read.date; opponent = read.opponent; played = read.played })
          (c.is_asked_for.ensures.0 c.if-is_asked_for.true) said),
    )

pub loop-line-preserved-else-is_asked_for : goal.loop-line-preserved-else-is_asked_for
loop-line-preserved-else-is_asked_for c =
    let (asked, so_far, said) = c.loop-line.invariant in
    let name = c.args.name.now in
    let lines = map (λ (line : Bor (List ℕ)). line.now) c.loop-line.yielded in (
      asked,
      so_far,
      subst (λ ls. AreSaid name ls asked) (sym (lent_more c.loop-line.yielded c.in-Some.line))
          (line_more name lines asked c.in-Some.line.now said),
    )

pub loop-line-preserved : goal.loop-line-preserved
loop-line-preserved c =
    let (asked, so_far, said) = c.loop-line.invariant in
    let name = c.args.name.now in
    let lines = map (λ (line : Bor (List ℕ)). line.now) c.loop-line.yielded in (
      asked,
      so_far,
      subst (λ ls. AreSaid name ls asked) (sym (lent_more c.loop-line.yielded c.in-Some.line))
          (line_more name lines asked c.in-Some.line.now said),
    )

pub returns : goal.returns
returns c =
    let (asked, so_far, said) = c.loop-line.invariant in
    let end = YieldsList-end (YieldsList-at c.into_iter-line-iterator.ensures.into_iter_gives
    (YieldsList-from_slice_split _ (λ b. b == 10) c.args.file.now c.split-line-items.ensures.rest
    c.split-line-items.ensures.done c.split-line-items.ensures.closure (λ x b q k. search (rules, tests))))
    c.loop-line.yielded _ c.loop-line.yielded_by _ _ c.in-None.is c.next.ensures.steps in
    (asked, so_far, subst (λ ls. AreSaid c.args.name.now ls asked) end.0 said)
