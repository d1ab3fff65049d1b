use Rattle.std.proofs.Common.{◌∙◌}
use Rattle.fibs_fields.specs.Board.{field_values}
use Rattle.fibs_fields.specs.StoredNumbers.{numbers_of}
use Rattle.fibs_fields.proofs.BoardLemmas.FieldTable.{table_long}
use Rattle.fibs_fields.proofs.BoardLemmas.OneNumberMore.{fit_long}
use Rattle.fibs_fields.proofs.BoardLemmas.SmallNumbers.{joined}
use Rattle.fibs_fields.proofs.boards.numbers.Numbers.new.Goals as goal

pub returns : goal.returns
unfolding numbers_of
returns c =
    joined c.args.numbers.now _ _ _ (fit_long field_values c.args.numbers.now c.requires ∙ table_long)
    c.copy_from_slice.ensures.after c.narrowed.ensures c.copy_from_slice-2.ensures.after
