use Rattle.std.proofs.Common.{◌-◌, ◌++◌, ℕ, List, length, take, drop, is_some, ap, sym, ◌∙◌}
use Rattle.fibs_fields.specs.Split.{before, after, seen}
use Rattle.fibs_connect.specs.TypedLines.{rest_or_nothing}
use Rattle.fibs_connect.proofs.TypedLemmas.Cuts.{window-rest, window-fits, take-none}
use Rattle.fibs_connect.proofs.typed.typed_lines.TypedLines.take_to_end.Goals as goal

pub invariant_of-self-in-Some : goal.invariant_of-self-in-Some
invariant_of-self-in-Some c =
    let i = c.self.inside in (
      window-fits i.taken i.filled i.portion c.split.result.0.now c.in-Some.field-0.now c.self.invariant.0
          c.split.ensures.before
          (ap seen (sym c.in-Some.is) ∙ c.split.ensures.after),
      c.self.invariant.1,
    )

pub returns-in-None-clause-found : goal.returns-in-None-clause-found
returns-in-None-clause-found c =
    ap is_some (ap seen (sym c.in-None.is) ∙ c.split.ensures.after ∙ ap (λ v. after 10 v.waiting) c.self.view_is)

pub returns-in-None-clause-waiting : goal.returns-in-None-clause-waiting
returns-in-None-clause-waiting c =
    take-none c.self.inside.filled (drop c.self.inside.filled c.self.inside.portion)
    ∙ ap rest_or_nothing (ap seen (sym c.in-None.is) ∙ c.split.ensures.after
    ∙ ap (λ v. after 10 v.waiting) c.self.view_is)

pub returns-in-None-clause-line : goal.returns-in-None-clause-line
returns-in-None-clause-line c =
    c.keep.ensures ∙ ap (λ (l : List ℕ). c.args.line.now.items ++ take (4098 - length c.args.line.now.items) l)
    (c.split.ensures.before ∙ ap (λ v. before 10 v.waiting) c.self.view_is)

pub returns-in-Some-clause-found : goal.returns-in-Some-clause-found
returns-in-Some-clause-found c =
    ap is_some (ap seen (sym c.in-Some.is) ∙ c.split.ensures.after ∙ ap (λ v. after 10 v.waiting) c.self.view_is)

pub returns-in-Some-clause-waiting : goal.returns-in-Some-clause-waiting
returns-in-Some-clause-waiting c =
    let i = c.self.inside in
    window-rest i.taken i.filled i.portion c.split.result.0.now c.in-Some.field-0.now c.split.ensures.before
    (ap seen (sym c.in-Some.is) ∙ c.split.ensures.after)
    ∙ ap rest_or_nothing (ap seen (sym c.in-Some.is) ∙ c.split.ensures.after
    ∙ ap (λ v. after 10 v.waiting) c.self.view_is)

pub returns-in-Some-clause-line : goal.returns-in-Some-clause-line
returns-in-Some-clause-line c =
    c.keep.ensures ∙ ap (λ (l : List ℕ). c.args.line.now.items ++ take (4098 - length c.args.line.now.items) l)
    (c.split.ensures.before ∙ ap (λ v. before 10 v.waiting) c.self.view_is)
