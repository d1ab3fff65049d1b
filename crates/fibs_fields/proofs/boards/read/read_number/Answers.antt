use Rattle.fibs_fields.specs.FieldReading.{left_of}
use Rattle.fibs_fields.proofs.BoardLemmas.NextFields.{number_ok, number_err}
use Rattle.fibs_fields.proofs.boards.read.read_number.Goals as goal

pub returns-clause-ok : goal.returns-clause-ok
returns-clause-ok c =
    number_ok c.args.i c.values_of.result (left_of c.args.fields.now) (left_of c.number_of.new.self) c.number_of.result
    c.values_of.ensures.narrow c.values_of.ensures.value c.requires.colon c.number_of.ensures

pub returns-clause-err : goal.returns-clause-err
returns-clause-err c =
    number_err c.args.i c.values_of.result (left_of c.args.fields.now) (left_of c.number_of.new.self) c.number_of.result
    c.values_of.ensures.value c.requires.colon c.number_of.ensures
