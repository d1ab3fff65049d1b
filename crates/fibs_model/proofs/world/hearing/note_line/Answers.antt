use Rattle.std.proofs.Common.{◌≡◌, ◌++◌, length, map, ap, ◌∙◌, sym, arith}
use Rattle.fibs_messages.specs.Line.{reading_of}
use Rattle.fibs_model.specs.EntryOf.{entry_of, entries_of, roll_entries}
use Rattle.fibs_model.proofs.Likeness.Hearing.{many_given, many_first, rolled_noted, first_noted}
use Rattle.fibs_model.proofs.world.hearing.note_line.Goals as goal

pub note-requires : goal.note-requires
note-requires c =
    let r = reading_of c.args.reading.now in
    let first = entries_of c.of_reading.result in
    let room = c.requires.room in
    let many = many_given c.args.conn r first c.of_reading.ensures c.args.rolled room.before room.rolls in
    record { room = omega (arith, many, room.room) }

pub note-requires-then-rolled : goal.note-requires-then-rolled
note-requires-then-rolled c =
    let r = reading_of c.args.reading.now in
    let first = entries_of c.of_reading.result in
    let room = c.requires.room in
    let many = many_given c.args.conn r first c.of_reading.ensures c.args.rolled room.before room.rolls in
    let roll : length (entries_of c.of_roll.result) ≡ length (roll_entries c.args.conn r c.args.rolled) =
    ap length c.of_roll.ensures ∙ ap (λ z. length (roll_entries c.args.conn r z)) (sym c.if-rolled.true) in
    record { room = omega (arith, many, roll, room.room, c.note.ensures.len, c.note.ensures.capacity) }

pub returns-then-rolled : goal.returns-then-rolled
returns-then-rolled c =
    let r = reading_of c.args.reading.now in
    let first = entries_of c.of_reading.result in
    let log = map entry_of c.args.log.now.items in
    let roll = ap length c.of_roll.ensures in
    record {
      items = λ before rolls.
          rolled_noted c.args.conn r first c.of_reading.ensures log _
          (c.note-then-rolled.ensures.items
          ∙ ap (λ l. l ++ entries_of c.of_roll.result) c.note.ensures.items
          ∙ ap (λ es. (log ++ first) ++ es) c.of_roll.ensures)
          before (rolls ∙ c.if-rolled.true);
      len = λ before rolls.
          let many = many_given c.args.conn r first c.of_reading.ensures _ before (rolls ∙ c.if-rolled.true) in
          omega (arith, many, roll, c.note.ensures.len, c.note-then-rolled.ensures.len);
      capacity = omega (arith, c.note.ensures.capacity, c.note-then-rolled.ensures.capacity);
    }

pub returns-else-rolled : goal.returns-else-rolled
returns-else-rolled c =
    let r = reading_of c.args.reading.now in
    let first = entries_of c.of_reading.result in
    record {
      items = λ before rolls.
          first_noted c.args.conn r first c.of_reading.ensures (map entry_of c.args.log.now.items) _
          c.note.ensures.items before (rolls ∙ c.if-rolled.false);
      len = λ before rolls.
          let many = many_first c.args.conn r first c.of_reading.ensures before (rolls ∙ c.if-rolled.false) in
          omega (arith, many, c.note.ensures.len);
      capacity = c.note.ensures.capacity;
    }
