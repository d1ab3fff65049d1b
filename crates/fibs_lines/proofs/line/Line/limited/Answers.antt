use Rattle.std.proofs.Common.{◌≡◌, take, ap, ◌∙◌, arith}
use Rattle.std.proofs.lemmas.List.{take_rest}
use Rattle.fibs_lines.specs.Lines.{kept_limit, without_prompts}
use Rattle.fibs_lines.proofs.ReturnLemmas.{same_read_line, take_at_limit}
use Rattle.fibs_lines.proofs.line.Line.limited.Goals as goal
use Rattle.fibs_lines.proofs.line.Line.limited.Goals.{then-over, else-over}

pub returns : goal.returns
returns c =
    let line = c.args.line.now in
    let kept = take c.min.result line in
    let cut : kept ≡ take kept_limit line = take_at_limit kept_limit c.min.result line c.min.ensures in
    same_read_line _ _
    (take_rest kept c.prompts_len.result ∙ c.prompts_len.ensures.rest ∙ ap without_prompts cut)
    (elim c.if-over.branch [
      | then-over w ↦ grind arith
      | else-over w ↦ grind arith
    ])
