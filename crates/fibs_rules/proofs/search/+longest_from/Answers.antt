use Rattle.std.proofs.Common.{ap, ◌≡◌, ◌+◌, Some, None, arith, get_or, drop, ◌∙◌, sym, length, ◌<◌, rules}
use Rattle.fibs_rules.proofs.SearchLemmas.LongestLoop.{best_taken, best_of_skip, all_played}
use Rattle.fibs_rules.specs.Checkers.{moved}
use Rattle.fibs_rules.specs.OneChecker.{one_of}
use Rattle.fibs_rules.proofs.search.+longest_from.Goals as goal
use Rattle.fibs_rules.proofs.search.+longest_from.Goals.{then-may_go, else-may_go}

pub loop-place-preserved : goal.loop-place-preserved
loop-place-preserved t c =
    let dice = c.args.dice.now in
    let p = c.args.p.now in
    let some : 0 < length dice = search rules in
    elim c.if-may_go.branch [
      | then-may_go w ↦
          let goes : one_of p (c.loop-place.place + 1) (get_or dice 0 0) ≡ Some w.moved-next.result =
          w.if-may_go.ensures.goes ∙ ap Some (sym (w.moved-next.ensures
          ∙ ap (moved p (c.loop-place.place + 1)) w.saturating_sub.ensures)) in
          let (best, short) =
          best_taken p w.moved-next.result (get_or dice 0 0) dice c.loop-place.place c.loop-place.best
          w.longest_from.result w.next_top.result c.loop-place.invariant.best c.loop-place.invariant.short some
          goes w.next_top.ensures.value w.longest_from.ensures.result
          w.longest_from.ensures.short in
          record { best = w.best-is ∙ w.max-best.ensures ∙ best; short = rw (w.best-is, w.max-best.ensures) short }
      | else-may_go w ↦
          let stays : one_of p (c.loop-place.place + 1) (get_or dice 0 0) ≡ None = w.if-may_go.ensures.stays in
          record {
            best = w.best-is ∙ c.loop-place.invariant.best
                ∙ sym (best_of_skip p (get_or dice 0 0) (drop 1 dice) c.loop-place.place stays);
            short =
                omega arith;
          }
    ]

pub returns-then-best-dice-clause-result : goal.returns-then-best-dice-clause-result
returns-then-best-dice-clause-result t c =
    all_played c.args.p.now c.args.dice.now c.loop-place.best c.loop-place.place c.args.top (search rules)
    c.loop-place.invariant.best (search rules) (search rules)
