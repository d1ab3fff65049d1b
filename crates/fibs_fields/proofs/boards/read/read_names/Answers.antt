use Rattle.std.proofs.Common.{[], ◌∷◌, codes, map}
use Rattle.std.proofs.lemmas.Result.{err_from_is_err_and}
use Rattle.fibs_fields.specs.Bytes.{name_bytes}
use Rattle.fibs_fields.specs.Field.{a_name, a_number_of, the_word}
use Rattle.fibs_fields.specs.FieldReading.{left_of, this_word}
use Rattle.fibs_fields.specs.Board.{field_values}
use Rattle.fibs_fields.specs.BoardReading.{pieces_left}
use Rattle.fibs_fields.proofs.BoardLemmas.BoardHeads.{word_read, name_read, name_refused}
use Rattle.fibs_fields.proofs.BoardLemmas.NextFields.{reads_board, was_wrong}
use Rattle.fibs_fields.proofs.boards.read.read_names.Goals as goal

pub returns-in_err-this_word-clause-err : goal.returns-in_err-this_word-clause-err
returns-in_err-this_word-clause-err c =
    let p = err_from_is_err_and c.from_residual.result c.from_residual.ensures.1 in
    rw (p.1, p.2)
    (was_wrong (this_word (codes "board")) (the_word (codes "board")) 1 (left_of c.args.fields.now)
    c.in_err-this_word.field-0.0 (a_name ∷ a_name ∷ map a_number_of field_values) reads_board c.requires
    c.in_err-this_word.ensures)

pub returns-in_err-player-clause-err : goal.returns-in_err-player-clause-err
returns-in_err-player-clause-err c =
    let p = err_from_is_err_and c.from_residual-in_err-player.result c.from_residual-in_err-player.ensures.1 in
    let word = word_read (left_of c.args.fields.now)
    (left_of c.this_word.new.self) c.requires c.in_ok-this_word.ensures in
    rw (p.1, p.2)
    (name_refused (pieces_left (left_of c.args.fields.now)) (codes "board" ∷ []) 2
    (a_name ∷ map a_number_of field_values)
    (left_of c.this_word.new.self) c.in_err-player.field-0.0 word c.in_err-player.ensures)

pub returns-in_err-opponent-clause-err : goal.returns-in_err-opponent-clause-err
returns-in_err-opponent-clause-err c =
    let p = err_from_is_err_and c.from_residual-in_err-opponent.result c.from_residual-in_err-opponent.ensures.1 in
    let all = pieces_left (left_of c.args.fields.now) in
    let word = word_read (left_of c.args.fields.now)
    (left_of c.this_word.new.self) c.requires c.in_ok-this_word.ensures in
    let name = name_bytes c.in_ok-player.player in
    let player =
    name_read all (codes "board" ∷ []) name 2 (a_name ∷ map a_number_of field_values) (left_of c.this_word.new.self)
    (left_of c.name.new.self) word c.in_ok-player.ensures in
    rw (p.1, p.2)
    (name_refused all (codes "board" ∷ name ∷ []) 3 (map a_number_of field_values) (left_of c.name.new.self)
    c.in_err-opponent.field-0.0 player c.in_err-opponent.ensures)

pub returns-clause-ok : goal.returns-clause-ok
returns-clause-ok c =
    let all = pieces_left (left_of c.args.fields.now) in
    let word = word_read (left_of c.args.fields.now)
    (left_of c.this_word.new.self) c.requires c.in_ok-this_word.ensures in
    let name = name_bytes c.in_ok-player.player in
    let player =
    name_read all (codes "board" ∷ []) name 2 (a_name ∷ map a_number_of field_values) (left_of c.this_word.new.self)
    (left_of c.name.new.self) word c.in_ok-player.ensures in
    name_read all (codes "board" ∷ name ∷ []) (name_bytes c.in_ok-opponent.opponent) 3 (map a_number_of field_values)
    (left_of c.name.new.self) (left_of c.name-2.new.self) player c.in_ok-opponent.ensures
