use Rattle.std.proofs.Common.{◌-◌, ap, ◌∙◌, arith}
use Rattle.std.specs.Prelude.{pos}
use Rattle.std.specs.Int.{w32}
use Rattle.std.proofs.lemmas.Int.{to_z-of_z}
use Rattle.fibs_fields.specs.Board.{can_have, field_of, field_values}
use Rattle.fibs_fields.specs.StoredBoard.{fields_of}
use Rattle.fibs_fields.specs.StoredNumbers.{numbers_of}
use Rattle.fibs_fields.proofs.BoardLemmas.FieldGroups.{can_have_by}
use Rattle.fibs_fields.proofs.BoardLemmas.OneNumberMore.{fit_at}
use Rattle.fibs_fields.proofs.BoardLemmas.FieldTable.{table_long}
use Rattle.fibs_fields.proofs.boards.board.Board.field.Goals as goal

pub returns-clause-allowed : goal.returns-clause-allowed
returns-clause-allowed c =
    ap (can_have c.args.n) (to_z-of_z w32 c.get.result (record { sfits = c.get.type_inv }) ∙ c.get.ensures)
    ∙ can_have_by c.args.n (field_of (fields_of c.args.self.now) c.args.n) c.requires.low
    (fit_at field_values (numbers_of c.args.self.now.numbers) (c.args.n - 4) (pos 0) c.args.self.now.valid.2
    (omega (arith, table_long, c.requires.low, c.requires.high)))
