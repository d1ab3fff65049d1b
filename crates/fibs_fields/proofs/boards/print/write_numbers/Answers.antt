use Rattle.std.proofs.Common.{◌≡◌, ◌+◌, ◌-◌, [], sym, ap, ◌∙◌, arith, get_or, take, drop, take_all}
use Rattle.std.specs.Prelude.{pos}
use Rattle.std.specs.Int.{w32}
use Rattle.std.proofs.lemmas.Int.{to_z-of_z}
use Rattle.std.proofs.Math.ListN.{drop_of_length-le}
use Rattle.fibs_fields.specs.Board.{field_values}
use Rattle.fibs_fields.specs.Numerals.{after_colons}
use Rattle.fibs_fields.specs.StoredNumbers.{numbers_of}
use Rattle.fibs_fields.proofs.BoardLemmas.Backward.{room_left, text_left}
use Rattle.fibs_fields.proofs.BoardLemmas.Lengths.{total, total_table}
use Rattle.fibs_fields.proofs.BoardLemmas.OneNumberMore.{fit_long}
use Rattle.fibs_fields.proofs.BoardLemmas.FieldTable.{table_long}
use Rattle.fibs_fields.proofs.boards.print.write_numbers.Goals as goal

pub loop-left-init : goal.loop-left-init
loop-left-init c =
    let all : take 50 field_values ≡ field_values = take_all 50 field_values (omega (arith, table_long)) in
    let none : drop 50 (numbers_of c.args.numbers.now) ≡ [] =
    drop_of_length-le (numbers_of c.args.numbers.now) {i = 50}
    (omega (arith, fit_long field_values (numbers_of c.args.numbers.now) c.requires, table_long)) in
    let end : drop 329 c.args.text.now ≡ [] = drop_of_length-le c.args.text.now {i = 329} (omega arith) in
    record {
      count = omega arith;
      within = omega arith;
      room = omega (arith, ap total all, total_table);
      text = end ∙ ap after_colons (sym none);
    }

pub write_number-start-requires-clause-room : goal.write_number-start-requires-clause-room
write_number-start-requires-clause-room c =
    let i = c.loop-left.left - 1 in
    let z = get_or (numbers_of c.args.numbers.now) i (pos 0) in
    let same =
    to_z-of_z w32 c.get.result (record { sfits = c.get.type_inv }) ∙ c.get.ensures in
    let room =
    room_left 135 (numbers_of c.args.numbers.now) i c.loop-left.left c.loop-left.start _ c.requires (omega arith)
    c.loop-left.invariant.count c.loop-left.invariant.room same in
    omega (arith, room)

pub loop-left-preserved : goal.loop-left-preserved
loop-left-preserved c =
    let i = c.loop-left.left - 1 in
    let z = get_or (numbers_of c.args.numbers.now) i (pos 0) in
    let same =
    to_z-of_z w32 c.get.result (record { sfits = c.get.type_inv }) ∙ c.get.ensures in
    let there : i + 1 ≡ c.loop-left.left = omega arith in
    let room =
    room_left 135 (numbers_of c.args.numbers.now) i c.loop-left.left c.loop-left.start _ c.requires there
    c.loop-left.invariant.count c.loop-left.invariant.room same in
    record {
      count = omega arith;
      within = omega (arith, c.write_number-start.ensures.start);
      room = omega (arith, room, c.write_number-start.ensures.start);
      text = text_left (numbers_of c.args.numbers.now) i c.loop-left.left c.loop-left.start c.write_number-start.result
          _ c.loop-left.text c.write_number-start.new.text c.requires there c.loop-left.invariant.count same
          c.loop-left.invariant.text c.write_number-start.ensures.written;
    }
