use Rattle.std.proofs.Common.{arith}
use Rattle.fibs_position.specs.PositionValue.{position_value}
use Rattle.fibs_picture.specs.InWords.Words.{listed, counted_by}
use Rattle.fibs_picture.proofs.WordsLemmas.Growing.{none-written, numbers-written}
use Rattle.fibs_picture.proofs.in_words.listed.write_numbers.Goals as goal

pub returns-then-branch-eq0 : goal.returns-then-branch-eq0
returns-then-branch-eq0 g c =
    let p = position_value c.args.position.now in
    none-written c.write_text.result c.args.direction (counted_by c.args.which) (listed p.standing.checkers
    c.args.which 24) c.in_ok-write_places.field-0 _ _ _
    c.in_ok-write_places.ensures.count (omega (arith, c.if-branch-eq0.true)) c.in_ok-write_places.ensures.text
    c.write_text.ensures

pub returns-else-branch-eq0 : goal.returns-else-branch-eq0
returns-else-branch-eq0 g c =
    let p = position_value c.args.position.now in
    numbers-written c.args.direction (counted_by c.args.which) (listed p.standing.checkers c.args.which 24)
    c.in_ok-write_places.field-0 _ _
    c.in_ok-write_places.ensures.count (omega (arith, c.if-branch-eq0.false)) c.in_ok-write_places.ensures.text
