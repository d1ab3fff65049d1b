use Rattle.std.proofs.Common.{◌≡◌, ◌≢◌, ◌⊎◌, ◌∷◌, true, inl, inr, arith, ap, sym, refl, ◌∙◌}
use Rattle.fibs_position.specs.PositionValue.{position_value}
use Rattle.fibs_rules.specs.Hop.{hop_of}
use Rattle.fibs_advice.specs.BrokenRules.{BreaksIt, is_held, is_played_by, own_after, rules_off}
use Rattle.fibs_advice.specs.declared.rules.BrokenRule.TheVariants as B
use Rattle.fibs_advice.proofs.BrokenRuleLemmas.{holds_it, is_distance, is_empty, later, no_bar, no_distance, no_empty, no_held}
use Rattle.fibs_advice.proofs.rules.broken_by.Goals.{else-source-ne-BAR-via-then-source-ne-BAR+else-checkers_on-gt0, else-source-ne-BAR-via-else-source-ne-BAR, else-not-is_played_by-via-then-not-is_played_by+else-not-is_played_by-2, else-not-is_played_by-via-else-not-is_played_by}
use Rattle.fibs_advice.proofs.rules.broken_by.Goals as goal

pub returns-then-checkers_on-eq0 : goal.returns-then-checkers_on-eq0
returns-then-checkers_on-eq0 c =
    let checkers = (position_value c.args.position.now).standing.checkers in
    let first = c.args.dice.0 in
    let second = c.args.dice.1 in
    let before = c.args.before.now in
    let step = c.args.step.now in
    let free : (c.args.step.now.source ≡ 25) ⊎ (own_after checkers c.args.before.now 25 ≡ 0) =
    elim c.else-source-ne-BAR.branch [
      | else-source-ne-BAR-via-then-source-ne-BAR+else-checkers_on-gt0 w ↦
          inr (omega (arith, w.checkers_on.ensures, w.if-checkers_on-gt0.false))
      | else-source-ne-BAR-via-else-source-ne-BAR w ↦
          inl (omega (arith, c.source-source.ensures.value, w.if-source-ne-BAR.false))
    ] in
    inr (
      no_bar checkers first second before step free,
      inl (
        is_empty checkers first second before step (ap (own_after checkers before) (sym c.source-source.ensures.value)
            ∙ sym c.checkers_on-2.ensures ∙ c.if-checkers_on-eq0.true),
        ap B.Empty c.source-source.ensures.value,
      ),
    )

pub returns-then-not-is_played_by-2 : goal.returns-then-not-is_played_by-2
returns-then-not-is_played_by-2 c =
    let checkers = (position_value c.args.position.now).standing.checkers in
    let first = c.args.dice.0 in
    let second = c.args.dice.1 in
    let before = c.args.before.now in
    let step = c.args.step.now in
    let free : (c.args.step.now.source ≡ 25) ⊎ (own_after checkers c.args.before.now 25 ≡ 0) =
    elim c.else-source-ne-BAR.branch [
      | else-source-ne-BAR-via-then-source-ne-BAR+else-checkers_on-gt0 w ↦
          inr (omega (arith, w.checkers_on.ensures, w.if-checkers_on-gt0.false))
      | else-source-ne-BAR-via-else-source-ne-BAR w ↦
          inl (omega (arith, c.source-source.ensures.value, w.if-source-ne-BAR.false))
    ] in
    let some : own_after checkers c.args.before.now c.args.step.now.source ≢ 0 =
    λ none. c.if-checkers_on-eq0.false (c.checkers_on-2.ensures
    ∙ ap (own_after checkers c.args.before.now) c.source-source.ensures.value ∙ none) in
    inr (
      no_bar checkers first second before step free,
      inr (
        no_empty checkers first second before step some,
        inl (
          is_distance checkers first second before step
              (grind (arith, c.is_played_by.ensures, c.if-not-is_played_by.true))
              (grind (arith, c.is_played_by-then-not-is_played_by.ensures, c.if-not-is_played_by-2.true)),
          refl,
        ),
      ),
    )

pub returns-then-is_held : goal.returns-then-is_held
returns-then-is_held c =
    let checkers = (position_value c.args.position.now).standing.checkers in
    let first = c.args.dice.0 in
    let second = c.args.dice.1 in
    let before = c.args.before.now in
    let step = c.args.step.now in
    let free : (c.args.step.now.source ≡ 25) ⊎ (own_after checkers c.args.before.now 25 ≡ 0) =
    elim c.else-source-ne-BAR.branch [
      | else-source-ne-BAR-via-then-source-ne-BAR+else-checkers_on-gt0 w ↦
          inr (omega (arith, w.checkers_on.ensures, w.if-checkers_on-gt0.false))
      | else-source-ne-BAR-via-else-source-ne-BAR w ↦
          inl (omega (arith, c.source-source.ensures.value, w.if-source-ne-BAR.false))
    ] in
    let some : own_after checkers c.args.before.now c.args.step.now.source ≢ 0 =
    λ none. c.if-checkers_on-eq0.false (c.checkers_on-2.ensures
    ∙ ap (own_after checkers c.args.before.now) c.source-source.ensures.value ∙ none) in
    let plays : (is_played_by c.args.dice.0 (hop_of c.args.step.now) ≡ true)
    ⊎ (is_played_by c.args.dice.1 (hop_of c.args.step.now) ≡ true) =
    elim c.else-not-is_played_by.branch [
      | else-not-is_played_by-via-then-not-is_played_by+else-not-is_played_by-2 w ↦
          inr (grind (arith, w.is_played_by-then-not-is_played_by.ensures, w.if-not-is_played_by-2.false))
      | else-not-is_played_by-via-else-not-is_played_by w ↦
          inl (grind (arith, c.is_played_by.ensures, w.if-not-is_played_by.false))
    ] in
    inr (
      no_bar checkers first second before step free,
      inr (
        no_empty checkers first second before step some,
        inr (
          no_distance checkers first second before step plays,
          inl (
            holds_it checkers first second before step (ap (is_held checkers) (sym c.target.ensures.value)
                ∙ sym c.is_held.ensures ∙ c.if-is_held.true),
            ap B.Held c.target-then-is_held.ensures.value,
          ),
        ),
      ),
    )

pub returns-then-target-eq0 : goal.returns-then-target-eq0
returns-then-target-eq0 c =
    let checkers = (position_value c.args.position.now).standing.checkers in
    let first = c.args.dice.0 in
    let second = c.args.dice.1 in
    let before = c.args.before.now in
    let step = c.args.step.now in
    let free : (c.args.step.now.source ≡ 25) ⊎ (own_after checkers c.args.before.now 25 ≡ 0) =
    elim c.else-source-ne-BAR.branch [
      | else-source-ne-BAR-via-then-source-ne-BAR+else-checkers_on-gt0 w ↦
          inr (omega (arith, w.checkers_on.ensures, w.if-checkers_on-gt0.false))
      | else-source-ne-BAR-via-else-source-ne-BAR w ↦
          inl (omega (arith, c.source-source.ensures.value, w.if-source-ne-BAR.false))
    ] in
    let some : own_after checkers c.args.before.now c.args.step.now.source ≢ 0 =
    λ none. c.if-checkers_on-eq0.false (c.checkers_on-2.ensures
    ∙ ap (own_after checkers c.args.before.now) c.source-source.ensures.value ∙ none) in
    let plays : (is_played_by c.args.dice.0 (hop_of c.args.step.now) ≡ true)
    ⊎ (is_played_by c.args.dice.1 (hop_of c.args.step.now) ≡ true) =
    elim c.else-not-is_played_by.branch [
      | else-not-is_played_by-via-then-not-is_played_by+else-not-is_played_by-2 w ↦
          inr (grind (arith, w.is_played_by-then-not-is_played_by.ensures, w.if-not-is_played_by-2.false))
      | else-not-is_played_by-via-else-not-is_played_by w ↦
          inl (grind (arith, c.is_played_by.ensures, w.if-not-is_played_by.false))
    ] in
    let fits = BreaksIt checkers first second before step in
    let off = later fits (B.Held c.args.step.now.target) rules_off _ (no_held checkers first second before step
    (ap (is_held checkers) (sym c.target.ensures.value) ∙ sym c.is_held.ensures ∙ c.if-is_held.false))
    c.broken_by_bearing_off.ensures in
    later fits B.Bar (B.Empty c.args.step.now.source ∷ B.Distance c.args.step.now ∷ B.Held c.args.step.now.target
    ∷ rules_off) _ (no_bar checkers first second before step free)
    (later fits (B.Empty c.args.step.now.source)
    (B.Distance step ∷ B.Held step.target ∷ rules_off) _ (no_empty checkers first second before step some)
    (later fits (B.Distance step) (B.Held step.target ∷ rules_off) _
    (no_distance checkers first second before step plays) off))
