use Rattle.std.proofs.Common.{length, length-append, ap, ◌∙◌, arith, ◌∷◌, []}
use Rattle.fibs_cli.proofs.LogLemmas.{without_end}
use Rattle.fibs_cli.proofs.objects.parts.without_end.Goals as goal

pub returns : goal.returns
returns c = λ text is.
    let long = ap length is ∙ length-append text (10 ∷ []) in
    without_end c.args.line.now text _ is (omega (arith, long))
