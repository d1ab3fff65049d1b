use Rattle.std.proofs.Common.{rules, ap, ◌≡◌, ◌+◌, Some, None, ◌<◌, length, get_or, drop, sym, ◌∙◌}
use Rattle.fibs_rules.specs.Hop.{hop_of}
use Rattle.fibs_rules.specs.Checkers.{moved}
use Rattle.fibs_rules.specs.OneChecker.{one_of}
use Rattle.fibs_rules.specs.PlayValue.{hops_of}
use Rattle.fibs_rules.specs.Search.{kept_in}
use Rattle.fibs_rules.proofs.PlayListLemmas.VisitLoop.{room_left, visited, visit_skip}
use Rattle.fibs_rules.proofs.SearchLemmas.FollowSteps.{dice_rest}
use Rattle.fibs_rules.proofs.plays.+visit.Goals as goal
use Rattle.fibs_rules.proofs.plays.+visit.Goals.{then-may_go+in_ok-visit, else-may_go}

pub visit-requires : goal.visit-requires
visit-requires t c =
    let some : 0 < length c.args.dice.now = search rules in (
      search rules,
      (
        room_left (hops_of c.args.play) (hops_of c.with-longer.result) (hop_of c.by.result) c.args.dice.now
            c.with-longer.ensures some c.requires.room,
        (dice_rest c.args.dice.now c.requires.dice, search rules),
      ),
    )

pub loop-place-preserved : goal.loop-place-preserved
loop-place-preserved t c =
    let die = get_or c.args.dice.now 0 0 in
    let kept = kept_in c.args.kept.now in
    let play = hops_of c.args.play in
    elim c.if-may_go.branch [
      | then-may_go+in_ok-visit w ↦
          let goes : one_of c.args.p.now (c.loop-place.place + 1) die ≡ Some w.moved-next.result =
          w.if-may_go.ensures.goes ∙ ap Some (sym (w.moved-next.ensures
          ∙ ap (moved c.args.p.now (c.loop-place.place + 1)) w.saturating_sub.ensures)) in
          rw w.kept-is
          (visited kept (kept_in c.loop-place.kept) (kept_in w.visit.new.kept) c.args.p.now
          w.moved-next.result die c.args.dice.now play
          (hops_of w.with-longer.result) (hop_of w.by.result) c.loop-place.place
          goes w.by.ensures w.with-longer.ensures c.loop-place.invariant
          w.in_ok-visit.ensures.ok)
      | else-may_go w ↦
          let stays : one_of c.args.p.now (c.loop-place.place + 1) die ≡ None = w.if-may_go.ensures.stays in
          rw w.kept-is
          (c.loop-place.invariant
          ∙ sym
          (visit_skip kept c.args.p.now die (drop 1 c.args.dice.now) play c.loop-place.place
          stays))
    ]
