use Rattle.std.proofs.Common.{◌∙◌, ap, not, sym}
use Rattle.fibs_json.proofs.ToldLemmas.{line_found, line_missing, no_plain}
use Rattle.fibs_json.proofs.told.line_in.Goals as goal
use Rattle.fibs_json.proofs.told.line_in.Goals.{then-is_none-via-then-is_none, then-is_none-via-else-is_none+then-any_escaped}

pub returns-then-is_none : goal.returns-then-is_none
returns-then-is_none c =
    let text = c.args.text.now in
    let found = c.split.result.0.now in
    elim c.then-is_none.branch [
      | then-is_none-via-then-is_none w ↦ line_missing text c.split.result.1 c.split.ensures.after
          (c.is_none.ensures ∙ ap not w.if-is_none.true)
      | then-is_none-via-else-is_none+then-any_escaped w ↦ λ line. no_plain text found line c.split.ensures.before
          (sym w.any_escaped.ensures ∙ w.if-any_escaped.true)
    ]

pub returns : goal.returns
returns c =
    line_found c.args.text.now c.split.result.0.now c.split.result.1 c.split.ensures.before c.split.ensures.after
    (c.is_none.ensures ∙ ap not c.if-is_none.false) (sym c.any_escaped.ensures ∙ c.if-any_escaped.false)
