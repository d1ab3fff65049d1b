-- A move goes on with one of the steps that are tried, or with none.
use Rattle.std.proofs.Common.{◌≡◌, ◌-◌, ◌++◌, [], ◌∷◌, Some, inl, inr, refl, sym, ap, subst, ◌∙◌, arith}
use Rattle.std.proofs.lemmas.Bool.{cases_lt}
use Rattle.fibs_position.specs.GameOf.{game_of}
use Rattle.fibs_position.specs.OwnView.{first_die, second_die}
use Rattle.fibs_rules.specs.Hop.{hop_of}
use Rattle.fibs_rules.specs.PlayValue.{hops_of}
use Rattle.fibs_c.specs.TurnDoor.{GoesOnBy, IsCarriedOut, step_tried}
use Rattle.fibs_c.proofs.TurnLemmas.{going_is_carried_out, left_none, none_goes_on, none_left, one_more, same_some}
use Rattle.fibs_c.proofs.turn.+goes_on.Goals as goal
use Rattle.fibs_c.proofs.turn.+goes_on.Goals.{in-Some+else-is_carried_out, in_default}
use Rattle.fibs_c.proofs.turn.+goes_on.Goals.{else-is_carried_out-via-then-is_carried_out+else-goes_on}
use Rattle.fibs_c.proofs.turn.+goes_on.Goals.{else-is_carried_out-via-else-is_carried_out}

pub returns-then-left-eq0 : goal.returns-then-left-eq0
returns-then-left-eq0 t c =
    let b = game_of c.args.game.now in
    let made = hops_of c.args.play.now in
    let nil : c.args.left ≡ 0 = omega (arith, c.if-left-eq0.true) in (
      λ is. none_left b c.args.left made nil (c.is_allowed.ensures.0 is),
      λ going. c.is_allowed.ensures.1 (left_none b c.args.left made nil going),
    )

pub returns-then-goes_on : goal.returns-then-goes_on
returns-then-goes_on t c =
    let b = game_of c.args.game.now in (
      λ is. one_more b (c.args.left - 1) c.args.left (hops_of c.args.play.now) (hop_of c.in-Some.step)
          (omega (arith, c.if-left-eq0.false))
          (subst (GoesOnBy (c.args.left - 1) b) c.longer-more.ensures (c.goes_on.ensures.0 c.if-goes_on.true)),
      λ going. refl,
    )

pub loop-number-preserved : goal.loop-number-preserved
loop-number-preserved t c n low step is going =
    let b = game_of c.args.game.now in
    let made = hops_of c.args.play.now in
    let tried = step_tried (first_die b) (second_die b) in
    elim (cases_lt n c.loop-number.number) [
      | inl before ↦ c.loop-number.invariant n before step is going
      | inr after ↦
          let now : tried c.loop-number.number ≡ Some step = ap tried (omega arith) ∙ is in
          elim c.match-step_tried.branch [
            | in-Some+else-is_carried_out w ↦
                let same = same_some (tried c.loop-number.number) (hop_of w.in-Some.step) step w.in-Some.ensures now in
                let more = w.longer-more.ensures ∙ ap (λ s. made ++ s ∷ []) same in
                elim w.else-is_carried_out.branch [
                  | else-is_carried_out-via-then-is_carried_out+else-goes_on v ↦
                      let goes = v.goes_on.ensures.1 (subst (GoesOnBy (c.args.left - 1) b) (sym more) going) in
                      let not = v.if-goes_on.false in
                      absurd cc
                  | else-is_carried_out-via-else-is_carried_out v ↦
                      let carried = going_is_carried_out b (c.args.left - 1) (made ++ step ∷ [])
                      c.allowed_is_carried_out.ensures ((c.good_is_exact.ensures b).0 c.args.game.now.is_good) going in
                      let is_carried = w.is_carried_out.ensures.1 (subst (IsCarriedOut b) (sym more) carried) in
                      let not = v.if-is_carried_out.false in
                      absurd cc
                ]
            | in_default w ↦ let none = w.in_default.ensures in absurd cc
          ]
    ]

pub returns : goal.returns
returns t c = (
  λ is. absurd cc,
  λ going. absurd (none_goes_on (game_of c.args.game.now) c.args.left c.loop-number.number (hops_of c.args.play.now)
      (omega (arith, c.if-left-eq0.false)) (omega (arith, c.loop-number-test.false)) c.loop-number.invariant going),
)
