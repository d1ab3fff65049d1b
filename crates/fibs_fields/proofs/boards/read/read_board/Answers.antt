use Rattle.std.proofs.Common.{◌++◌, sym, ap, ◌∙◌}
use Rattle.std.proofs.lemmas.Result.{err_from_is_err_and}
use Rattle.fibs_fields.specs.FieldReading.{left_of}
use Rattle.fibs_fields.specs.Bytes.{name_bytes}
use Rattle.fibs_fields.specs.Board.{kinds, texts}
use Rattle.fibs_fields.specs.BoardReading.{first_fault, names_read}
use Rattle.fibs_fields.proofs.BoardLemmas.BoardHeads.{begun}
use Rattle.fibs_fields.proofs.boards.read.read_board.Goals as goal

pub read_names-requires : goal.read_names-requires
read_names-requires c =
    (begun c.without_spaces.result.now _ (left_of c.new-fields.result) c.without_spaces.ensures.value
    c.new-fields.ensures).0

pub returns-in_err-player-clause-err : goal.returns-in_err-player-clause-err
returns-in_err-player-clause-err c =
    let p = err_from_is_err_and c.from_residual.result c.from_residual.ensures.1 in
    let start =
    begun c.without_spaces.result.now _ (left_of c.new-fields.result) c.without_spaces.ensures.value
    c.new-fields.ensures in
    rw (p.1, p.2) (ap (first_fault 1 kinds) (sym start.1) ∙ c.in_err-player.ensures.err)

pub returns-in_err-numbers-clause-err : goal.returns-in_err-numbers-clause-err
returns-in_err-numbers-clause-err c =
    let p = err_from_is_err_and c.from_residual-in_err-numbers.result c.from_residual-in_err-numbers.ensures.1 in
    let start =
    begun c.without_spaces.result.now _ (left_of c.new-fields.result) c.without_spaces.ensures.value
    c.new-fields.ensures in
    rw (p.1, p.2)
    (ap (first_fault 1 kinds) (sym start.1) ∙ c.in_ok-player.ensures.ok.fault ∙ c.in_err-numbers.ensures.err)

pub returns-clause-ok : goal.returns-clause-ok
returns-clause-ok c =
    let start =
    begun c.without_spaces.result.now _ (left_of c.new-fields.result) c.without_spaces.ensures.value
    c.new-fields.ensures in
    sym start.1 ∙ c.in_ok-player.ensures.ok.parts
    ∙ ap (λ ps. names_read (name_bytes c.in_ok-player.player) (name_bytes c.in_ok-player.opponent) ++ ps)
    c.in_ok-numbers.ensures.ok
    ∙ sym (ap texts c.of_parts.ensures)
