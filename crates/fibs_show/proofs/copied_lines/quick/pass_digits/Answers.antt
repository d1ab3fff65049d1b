use Rattle.std.proofs.Common.{◌+◌, [], arith, refl}
use Rattle.fibs_show.proofs.LineLemmas.RightNumbers.{digit_right, one_more_right}
use Rattle.fibs_show.proofs.copied_lines.quick.pass_digits.Goals as goal

pub loop-preserved : goal.loop-preserved
loop-preserved c = record {
  right = λ values each.
      let at = c.loop.at in
      one_more_right values c.loop.counter c.args.text.now c.args.at.now at (at + 2)
      (c.loop.invariant.right values each)
      (digit_right values c.args.text.now [] at at (at + 2) 48 c.args.most refl
      (c.digit_at.ensures c.if-not-digit_at.false)
      each refl);
  place = omega arith;
}
