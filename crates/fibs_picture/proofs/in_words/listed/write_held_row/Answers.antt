use Rattle.std.proofs.Common.{◌++◌, codes}
use Rattle.fibs_position.specs.PositionValue.{position_value}
use Rattle.fibs_picture.specs.InWords.Words.{held_row, numbers_of}
use Rattle.fibs_picture.specs.declared.in_words.listed.Listed.TheVariants as L
use Rattle.fibs_picture.proofs.WordsLemmas.Growing.{written-after}
use Rattle.fibs_picture.proofs.in_words.listed.write_held_row.Goals as goal

pub returns : goal.returns
unfolding held_row
returns g c =
    let p = position_value c.args.position.now in
    let said = numbers_of c.args.direction p.standing.checkers L.Held in
    let r = c.write_text-2.result in
    written-after r _ _ _ (codes "Held against you: ") (said ++ codes ".") c.in_ok-write_text.ensures
    (written-after r _ _ _ said (codes ".") c.in_ok-write_numbers.ensures c.write_text-2.ensures)
