use Rattle.fibs_fields.specs.Bytes.{name_bytes}
use Rattle.fibs_fields.specs.FieldReading.{left_of}
use Rattle.fibs_show.proofs.LineLemmas.RightNumbers.{names_then}
use Rattle.fibs_show.proofs.copied_lines.check.are_names_and_numbers.Goals as goal

pub returns : goal.returns
returns c found =
    names_then c.args.text.now c.text.result.now (name_bytes c.in-Ok._player) (name_bytes c.in-Ok-name._opponent)
    (left_of c.new-fields.result) (left_of c.name.new.self) (left_of c.name-2.new.self) (left_of c.text.new.self)
    c.new-fields.ensures c.in-Ok.ensures c.in-Ok-name.ensures (c.text.ensures 0) (c.numbers_are_right.ensures found)
