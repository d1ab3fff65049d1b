-- As many steps are left as the longest run has more.
use Rattle.std.proofs.Common.{◌-◌, ◌++◌, [], ◌∷◌, inl, inr, refl, sym, subst, arith}
use Rattle.std.specs.List.{Contains}
use Rattle.fibs_position.specs.GameOf.{game_of}
use Rattle.fibs_position.specs.PositionValue.{position_of}
use Rattle.fibs_rules.specs.PlayValue.{hops_of}
use Rattle.fibs_rules.specs.Runs.{IsMost}
use Rattle.fibs_c.specs.TurnDoor.{GoesOnBy, IsNextBy}
use Rattle.fibs_c.proofs.TurnLemmas.{goes_by, going_by, most_few, next_by}
use Rattle.fibs_c.proofs.turn.tell_next.Goals as goal
use Rattle.fibs_c.proofs.turn.tell_next.Goals.{then-count-most-via-then-count-most, then-count-most-via-else-count-most+then-not-goes_on}

pub goes_on-requires : goal.goes_on-requires
goes_on-requires c =
    let most = subst (λ p. IsMost p.standing c.most_dice-most.result) c.position.ensures c.most_dice-most.ensures in
    let few = most_few (position_of (game_of c.args.game.now)).standing c.most_dice-most.result most in
    omega (arith, c.length_of-count.ensures, few, c.if-count-most.false)

pub returns-then-count-most : goal.returns-then-count-most
returns-then-count-most c =
    let b = game_of c.args.game.now in
    let made = hops_of c.args.made.now in
    let n = c.most_dice-most.result in
    let most = subst (λ p. IsMost p.standing n) c.position.ensures c.most_dice-most.ensures in
    inr (
      λ going.
          let (few, by) = going_by b n made most going in
          elim c.then-count-most.branch [
            | then-count-most-via-then-count-most w ↦
                absurd (omega (arith, few, c.length_of-count.ensures, w.if-count-most.true))
            | then-count-most-via-else-count-most+then-not-goes_on w ↦
                let goes = w.goes_on.ensures.1
                (subst (λ k. GoesOnBy (n - k) b made) (sym c.length_of-count.ensures) by) in
                let not = w.if-not-goes_on.true in
                absurd cc
          ],
      c.move_status.ensures,
      refl,
    )

pub next_steps-requires : goal.next_steps-requires
next_steps-requires c =
    let most = subst (λ p. IsMost p.standing c.most_dice-most.result) c.position.ensures c.most_dice-most.ensures in
    let few = most_few (position_of (game_of c.args.game.now)).standing c.most_dice-most.result most in
    omega (arith, c.length_of-count.ensures, few, c.if-count-most-2.true)

pub returns-then-count-most-2 : goal.returns-then-count-most-2
returns-then-count-most-2 c =
    let b = game_of c.args.game.now in
    let made = hops_of c.args.made.now in
    let n = c.most_dice-most.result in
    let most = subst (λ p. IsMost p.standing n) c.position.ensures c.most_dice-most.ensures in
    inl (
      goes_by b (n - c.length_of-count.result) made (c.goes_on.ensures.0 c.if-not-goes_on.false),
      refl,
      record {
        few = c.next_steps.ensures.few;
        each = λ s. (
          λ is. goes_by b (n - c.length_of-count.result - 1) (made ++ s ∷ []) ((c.next_steps.ensures.each s).0 is),
          λ next. (c.next_steps.ensures.each s).1
              (subst (λ k. IsNextBy (n - k - 1) b made s) (sym c.length_of-count.ensures)
              (next_by b n made s most next).1),
        );
      },
    )

pub returns-else-count-most-2 : goal.returns-else-count-most-2
returns-else-count-most-2 c =
    let b = game_of c.args.game.now in
    let made = hops_of c.args.made.now in
    let n = c.most_dice-most.result in
    let most = subst (λ p. IsMost p.standing n) c.position.ensures c.most_dice-most.ensures in
    inl (
      goes_by b (n - c.length_of-count.result) made (c.goes_on.ensures.0 c.if-not-goes_on.false),
      refl,
      record {
        few = omega (arith, c.nothing_next.ensures.count);
        each = λ s. (
          λ is. let (k, low, at) = subst (λ l. Contains l s) c.nothing_next.ensures.steps is in
              absurd (omega (arith, low)),
          λ next. absurd (omega (
            arith,
            (next_by b n made s most next).0,
            c.length_of-count.ensures,
            c.if-count-most-2.false,
          )),
        );
      },
    )
