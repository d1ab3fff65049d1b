use Rattle.std.proofs.lemmas.Option.{slice_get-get_or}
use Rattle.std.proofs.lemmas.List.Elements.{All-get_or}
use Rattle.fibs_fields.specs.Board.{field_values}
use Rattle.fibs_fields.specs.DecimalReading.{IsNarrow}
use Rattle.fibs_fields.proofs.BoardLemmas.FieldTable.{all_narrow}
use Rattle.fibs_fields.proofs.boards.field_ranges.values_of.Goals as goal

pub returns-clause-value : goal.returns-clause-value
unfolding field_values
returns-clause-value c = slice_get-get_or field_values c.args.index _ c.requires

pub returns-clause-narrow : goal.returns-clause-narrow
unfolding field_values
returns-clause-narrow c = All-get_or IsNarrow field_values c.args.index _ c.requires all_narrow
