use Rattle.std.proofs.Common.{◌≡◌, ◌==◌, ◌+◌, ◌-◌, sym, ap, ◌∙◌, arith, get_or, length}
use Rattle.fibs_fields.proofs.FieldLemmas.Spaces.{without_spaces_at, spaces_at, space_from_not_in, no_space_from_not_in}
use Rattle.fibs_fields.proofs.trailing_spaces.without_spaces.Goals as goal

pub returns-in-Some-clause-value : goal.returns-in-Some-clause-value
returns-in-Some-clause-value c =
    let line = c.args.line.now in
    let k = c.in-Some.last in
    sym (without_spaces_at line (k + 1) (omega (arith, c.in-Some.ensures.0.high))
    (λ j after within. space_from_not_in (get_or line j 0) (c.in-Some.ensures.0.after j after within))
    (λ some.
    let there : k + 1 - 1 ≡ k = omega arith in
    ap (λ j. get_or line j 0 == 32) there ∙ no_space_from_not_in (get_or line k 0) c.in-Some.ensures.1))

pub returns-in-Some-clause-spaces : goal.returns-in-Some-clause-spaces
returns-in-Some-clause-spaces c =
    let line = c.args.line.now in
    let k = c.in-Some.last in (
      length line - (k + 1),
      spaces_at line (k + 1) (omega (arith, c.in-Some.ensures.0.high))
          (λ j after within. space_from_not_in (get_or line j 0) (c.in-Some.ensures.0.after j after within)),
    )

pub returns-in-None-clause-value : goal.returns-in-None-clause-value
returns-in-None-clause-value c =
    let line = c.args.line.now in
    sym
    (without_spaces_at line 0 (omega arith)
    (λ j after within. space_from_not_in (get_or line j 0) (c.in-None.ensures j after within))
    (λ some. absurd (omega arith)))

pub returns-in-None-clause-spaces : goal.returns-in-None-clause-spaces
returns-in-None-clause-spaces c =
    let line = c.args.line.now in (
      length line - 0,
      spaces_at line 0 (omega arith)
          (λ j after within. space_from_not_in (get_or line j 0) (c.in-None.ensures j after within)),
    )
