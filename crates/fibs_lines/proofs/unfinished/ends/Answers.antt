use Rattle.std.proofs.Common.{bit_or, refl, arith}
use Rattle.std.proofs.lemmas.Simd.{zip2_splat, zip2_of_maps}
use Rattle.fibs_lines.specs.Progress.{ends_run}
use Rattle.fibs_lines.proofs.LiteralLemmas.{hit, mask_is}
use Rattle.fibs_lines.proofs.unfinished.ends.Goals as goal

pub returns : goal.returns
returns c =
    let v = c.args.window in
    let long = c.fits-window.0 in
    mask_is (λ b. bit_or (hit b 10) (hit b 255)) ends_run v _ (omega arith) c.fits-window.1
    (zip2_of_maps bit_or (λ b. hit b 10) (λ b. hit b 255) v (zip2_splat hit v 64 10 long)
    (zip2_splat hit v 64 255 long)) refl
