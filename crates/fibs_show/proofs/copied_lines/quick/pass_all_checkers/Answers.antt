use Rattle.std.proofs.Common.{◌≡◌, arith, replicate, subst}
use Rattle.fibs_fields.specs.Board.{checkers}
use Rattle.fibs_show.specs.RightNumbers.{AreRight}
use Rattle.fibs_show.proofs.LineLemmas.RightNumbers.{one_more_right}
use Rattle.fibs_show.proofs.copied_lines.quick.pass_all_checkers.Goals as goal

pub loop-preserved : goal.loop-preserved
loop-preserved c = record {
  right =
      one_more_right checkers c.loop.counter c.args.text.now c.args.at.now c.loop.at c.pass_checkers.new.at
      c.loop.invariant.right (c.pass_checkers.ensures.right c.if-not-pass_checkers.false);
  short = omega arith;
}

pub returns-clause-right : goal.returns-clause-right
returns-clause-right c found =
    let all : c.loop.counter ≡ 5 = omega arith in
    subst (λ n. AreRight (replicate n checkers) c.args.text.now c.args.at.now c.loop.at) all c.loop.invariant.right
