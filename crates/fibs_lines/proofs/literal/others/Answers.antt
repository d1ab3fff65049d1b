use Rattle.std.proofs.Common.{bit_or, refl, arith}
use Rattle.std.proofs.lemmas.Simd.{zip2_splat, zip2_splat_left, zip2_of_maps}
use Rattle.fibs_lines.proofs.LiteralLemmas.{below, hit, is_other, mask_is}
use Rattle.fibs_lines.proofs.literal.others.Goals as goal

pub returns : goal.returns
returns c =
    let v = c.args.window in
    let long = c.fits-window.0 in
    mask_is (λ b. bit_or (bit_or (below b 32) (below 126 b)) (hit b 92)) is_other v _ (omega arith) c.fits-window.1
    (zip2_of_maps bit_or (λ b. bit_or (below b 32) (below 126 b)) (λ b. hit b 92) v
    (zip2_of_maps bit_or (λ b. below b 32) (below 126) v (zip2_splat below v 32 32 long)
    (zip2_splat_left below 126 32 v long))
    (zip2_splat hit v 32 92 long)) refl
