-- Each place is passed with both dice.
use Rattle.std.proofs.Common.{◌+◌, ◌-◌, inl, inr, sym, ap, ◌∙◌, arith}
use Rattle.std.proofs.lemmas.Bool.{cases_lt}
use Rattle.fibs_fields.specs.Board.{field_of}
use Rattle.fibs_fields.specs.FieldReading.{natural}
use Rattle.fibs_position.specs.GameOf.{game_of}
use Rattle.fibs_position.specs.OwnView.{first_die, second_die}
use Rattle.fibs_rules.specs.PlayValue.{hops_of}
use Rattle.fibs_c.specs.TurnDoor.{step_by}
use Rattle.fibs_c.proofs.TurnLemmas.{by_its_die, next_by_die, smaller_or_larger}
use Rattle.fibs_c.proofs.turn.next_steps.Goals as goal

pub loop-passed-preserved : goal.loop-passed-preserved
loop-passed-preserved c =
    let so_far = c.loop-passed.invariant in
    let kept = c.add-in-loop-passed.ensures.kept in (
      omega (arith, c.add.ensures.count, c.add-in-loop-passed.ensures.count, so_far.0),
      λ s is. elim (c.add-in-loop-passed.ensures.only s is) [
        | inl old ↦ elim (c.add.ensures.only s old) [ inl older ↦ so_far.1 s older | inr next ↦ next ]
        | inr next ↦ next
      ],
      λ s die is by le past next. elim (cases_lt 25 (s.source + c.loop-passed.passed)) [
        | inl before ↦ kept s (c.add.ensures.kept s (so_far.2 s die is by le before next))
        | inr now ↦
            elim (smaller_or_larger c.die-first.result c.die-second.result c.min.result c.max.result die c.min.ensures
            c.max.ensures is) [
              | inl low ↦
                  kept s
                  (c.add.ensures.added s
                  (c.step_by.ensures ∙ ap (λ p. step_by p c.min.result) (omega (arith, le, past))
                  ∙ ap (step_by s.source) (sym low) ∙ by)
                  next)
              | inr high ↦
                  c.add-in-loop-passed.ensures.added s
                  (c.step_by-in-loop-passed.ensures ∙ ap (λ p. step_by p c.max.result) (omega (arith, le, past))
                  ∙ ap (step_by s.source) (sym high) ∙ by)
                  next
            ]
      ],
    )

pub returns-clause-each : goal.returns-clause-each
returns-clause-each c s =
    let b = game_of c.args.game.now in
    let told = c.loop-passed.invariant in
    let first = c.die-first.ensures.value ∙ ap (λ f. natural (field_of f 34)) c.board.ensures.value in
    let second = c.die-second.ensures.value ∙ ap (λ f. natural (field_of f 35)) c.board-2.ensures.value in (
      λ is. told.1 s is,
      λ next. elim (next_by_die b c.args.left (hops_of c.args.made.now) s next) [
        | inl by ↦
            told.2 s (first_die b) (inl (sym first)) (by_its_die (first_die b) s by) by.2
            (omega (arith, by.1, c.loop-passed-test.false)) next
        | inr by ↦
            told.2 s (second_die b) (inr (sym second)) (by_its_die (second_die b) s by) by.2
            (omega (arith, by.1, c.loop-passed-test.false)) next
      ],
    )
