use Rattle.std.proofs.Common.{◌≡◌, arith, replicate, subst}
use Rattle.fibs_fields.specs.Board.{place}
use Rattle.fibs_show.specs.RightNumbers.{AreRight}
use Rattle.fibs_show.proofs.LineLemmas.RightNumbers.{one_more_right}
use Rattle.fibs_show.proofs.copied_lines.quick.pass_places.Goals as goal

pub loop-i-preserved : goal.loop-i-preserved
loop-i-preserved c = record {
  right =
      one_more_right place c.loop-i.i c.args.text.now c.args.at.now c.loop-i.at c.pass_place.new.at
      c.loop-i.invariant.right (c.pass_place.ensures.right c.if-not-pass_place.false);
  room = omega arith;
}

pub returns-clause-right : goal.returns-clause-right
returns-clause-right c found =
    let all : c.loop-i.i ≡ 26 = omega arith in
    subst (λ n. AreRight (replicate n place) c.args.text.now c.args.at.now c.loop-i.at) all c.loop-i.invariant.right
