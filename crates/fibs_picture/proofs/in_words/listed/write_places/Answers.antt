use Rattle.std.proofs.Common.{sym, ◌∙◌}
use Rattle.fibs_position.specs.PositionValue.{position_value}
use Rattle.fibs_picture.specs.InWords.Words.{counted_by}
use Rattle.fibs_picture.proofs.WordsLemmas.Growing.{listed-none, listed-passed, listed-written}
use Rattle.fibs_picture.proofs.in_words.listed.write_places.Goals as goal
use Rattle.fibs_picture.proofs.in_words.listed.write_places.Goals.{then-has+in_ok-write_next, else-has}

pub loop-before-init : goal.loop-before-init
loop-before-init g c =
    let p = position_value c.args.position.now in
    listed-none p.standing.checkers c.args.which c.args.direction (counted_by c.args.which) _

pub loop-before-preserved : goal.loop-before-preserved
loop-before-preserved g c =
    let p = position_value c.args.position.now in
    elim c.if-has.branch [
      | then-has+in_ok-write_next w ↦
          rw (w.count-is, w.out-is)
          (listed-written p.standing.checkers c.args.which c.args.direction (counted_by c.args.which)
          c.loop-before.before c.loop-before.count _ _ _
          (sym c.has.ensures ∙ w.if-has.true) c.loop-before.invariant w.in_ok-write_next.ensures)
      | else-has w ↦
          rw (w.count-is, w.out-is)
          (listed-passed p.standing.checkers c.args.which c.args.direction (counted_by c.args.which)
          c.loop-before.before c.loop-before.count _ _
          (sym c.has.ensures ∙ w.if-has.false) c.loop-before.invariant)
    ]
