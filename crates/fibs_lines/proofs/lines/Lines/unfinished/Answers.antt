use Rattle.std.proofs.Common.{◌≡◌, take, true, false, sym, ap, subst, ◌∙◌}
use Rattle.fibs_lines.specs.Lines.{kept_limit}
use Rattle.fibs_lines.specs.Progress.{kept}
use Rattle.fibs_lines.specs.LinesValue.{StandsAfter, lines_value}
use Rattle.fibs_lines.proofs.FeedLemmas.{kept_of, KeptAfter-from_stands, value_where_lent, value_where_not_lent, bytes_of_head}
use Rattle.fibs_lines.proofs.ReturnLemmas.{take_at_limit}
use Rattle.fibs_lines.proofs.lines.Lines.unfinished.Goals as goal

pub returns : goal.returns
returns c = λ s stands.
    let u = c.self.inside.unfinished in
    let now : c.args.self.now ≡ lines_value u false =
    sym c.self.view_is ∙ value_where_not_lent u c.self.inside.lent c.if-self.false in
    take_at_limit kept_limit c.min.result c.as_slice-head.result.now c.min.ensures
    ∙ ap (take kept_limit) c.as_slice-head.ensures
    ∙ bytes_of_head (kept u) s (KeptAfter-from_stands (lines_value u false) s
    (subst (λ v. StandsAfter v s) now stands))

pub returns-then-self : goal.returns-then-self
returns-then-self c = λ s stands.
    let u = c.self.inside.unfinished in
    let now : c.args.self.now ≡ lines_value u true =
    sym c.self.view_is ∙ value_where_lent u c.self.inside.lent c.if-self.true in
    bytes_of_head (kept_of (lines_value u true)) s
    (KeptAfter-from_stands (lines_value u true) s (subst (λ v. StandsAfter v s) now stands))
