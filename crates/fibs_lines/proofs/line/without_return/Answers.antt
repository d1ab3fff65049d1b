use Rattle.std.proofs.Common.{arith, sym, ◌∙◌}
use Rattle.fibs_lines.proofs.ReturnLemmas.{strip-is, without_return_at, without_return_none}
use Rattle.fibs_lines.proofs.line.without_return.Goals as goal
use Rattle.fibs_lines.proofs.line.without_return.Goals.{else-len-gt0-via-then-len-gt0+else-bytes-len-eq13, else-len-gt0-via-else-len-gt0}

pub returns-then-bytes-len-eq13 : goal.returns-then-bytes-len-eq13
returns-then-bytes-len-eq13 c =
    sym (strip-is c.args.bytes.now ∙ without_return_at c.args.bytes.now c.if-len-gt0.true c.if-bytes-len-eq13.true)

pub returns : goal.returns
returns c = elim c.else-len-gt0.branch [
  | else-len-gt0-via-then-len-gt0+else-bytes-len-eq13 w ↦
      sym (strip-is c.args.bytes.now ∙ without_return_none c.args.bytes.now (λ _. w.if-bytes-len-eq13.false))
  | else-len-gt0-via-else-len-gt0 w ↦
      sym (strip-is c.args.bytes.now ∙ without_return_none c.args.bytes.now (λ some. absurd (omega arith)))
]
