use Rattle.std.proofs.Common.{◌≡◌, true, false, min, sym, ap, subst, ◌∙◌}
use Rattle.fibs_lines.specs.Lines.{kept_limit}
use Rattle.fibs_lines.specs.Progress.{kept}
use Rattle.fibs_lines.specs.LinesValue.{StandsAfter, lines_value}
use Rattle.fibs_lines.proofs.FeedLemmas.{kept_of, KeptAfter-from_stands, value_where_lent, value_where_not_lent, held_of_head}
use Rattle.fibs_lines.proofs.lines.Lines.held.Goals as goal

pub returns-clause-value : goal.returns-clause-value
returns-clause-value c = λ s stands.
    let u = c.self.inside.unfinished in
    let now : c.args.self.now ≡ lines_value u false =
    sym c.self.view_is ∙ value_where_not_lent u c.self.inside.lent c.if-self.false in
    c.min.ensures ∙ ap (λ n. min n kept_limit) c.len.ensures.value
    ∙ held_of_head (kept u) s (KeptAfter-from_stands (lines_value u false) s (subst (λ v. StandsAfter v s) now stands))

pub returns-then-self-clause-value : goal.returns-then-self-clause-value
returns-then-self-clause-value c = λ s stands.
    let u = c.self.inside.unfinished in
    let now : c.args.self.now ≡ lines_value u true =
    sym c.self.view_is ∙ value_where_lent u c.self.inside.lent c.if-self.true in
    held_of_head (kept_of (lines_value u true)) s
    (KeptAfter-from_stands (lines_value u true) s (subst (λ v. StandsAfter v s) now stands))
