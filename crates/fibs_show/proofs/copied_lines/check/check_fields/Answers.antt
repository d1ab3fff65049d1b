use Rattle.std.proofs.Common.{sym, ap, ◌∙◌}
use Rattle.std.proofs.lemmas.Result.{err_from_is_err_and}
use Rattle.fibs_fields.specs.FieldReading.{left_of}
use Rattle.fibs_fields.specs.Board.{kinds}
use Rattle.fibs_fields.specs.BoardReading.{first_fault}
use Rattle.fibs_fields.proofs.BoardLemmas.BoardHeads.{begun}
use Rattle.fibs_show.proofs.copied_lines.check.check_fields.Goals as goal

pub read_names-requires : goal.read_names-requires
read_names-requires c =
    (begun c.without_spaces-kept.result.now _ (left_of c.new-fields.result) c.without_spaces-kept.ensures.value
    c.new-fields.ensures).0

pub returns-in_err-read_names-clause-fault : goal.returns-in_err-read_names-clause-fault
returns-in_err-read_names-clause-fault c =
    let p = err_from_is_err_and c.from_residual.result c.from_residual.ensures.1 in
    let start =
    begun c.without_spaces-kept.result.now _ (left_of c.new-fields.result) c.without_spaces-kept.ensures.value
    c.new-fields.ensures in
    rw (p.1, p.2) (ap (first_fault 1 kinds) (sym start.1) ∙ c.in_err-read_names.ensures.err)

pub returns-in_err-check_numbers-clause-fault : goal.returns-in_err-check_numbers-clause-fault
returns-in_err-check_numbers-clause-fault c =
    let p =
    err_from_is_err_and c.from_residual-in_err-check_numbers.result c.from_residual-in_err-check_numbers.ensures.1 in
    let start =
    begun c.without_spaces-kept.result.now _ (left_of c.new-fields.result) c.without_spaces-kept.ensures.value
    c.new-fields.ensures in
    rw (p.1, p.2)
    (ap (first_fault 1 kinds) (sym start.1) ∙ c.in_ok-read_names.ensures.ok.fault ∙ c.in_err-check_numbers.ensures)

pub returns-clause-fault : goal.returns-clause-fault
returns-clause-fault c =
    let start =
    begun c.without_spaces-kept.result.now _ (left_of c.new-fields.result) c.without_spaces-kept.ensures.value
    c.new-fields.ensures in
    ap (first_fault 1 kinds) (sym start.1) ∙ c.in_ok-read_names.ensures.ok.fault ∙ c.in_ok-check_numbers.ensures
