use Rattle.std.proofs.Common.{◌≤◌, ◌+◌, ◌++◌, length, ap, ◌∙◌, refl, sym, subst}
use Rattle.std.specs.Prelude.{option_map}
use Rattle.fibs_session.specs.Calls.SessionOf.{taken_of, texts_of}
use Rattle.fibs_session.specs.History.Machine.{wire_of}
use Rattle.fibs_model.proofs.Likeness.Hearing.{front, hears_none, hears_some, none_of, line_room, line_put, some_left, none_left}
use Rattle.fibs_model.proofs.world.hearing.hear_line.Goals as goal

pub note_line-requires : goal.note_line-requires
note_line-requires c =
    let old = c.args.client.now in
    let new = c.read-heard.new.self in
    let piece = c.args.piece.now in
    let shows = c.got-got.ensures.shows c.read-heard.ensures.keeps in
    let f =
    front old new piece _ _ _ _ c.got-got.ensures.used (ap (option_map taken_of) c.in-Some.is)
    (c.read-heard.ensures.answers _ shows) (c.read-heard.ensures.hands _ shows) in
    record {
      room =
          line_room old new c.args.conn piece c.got-got.result.used c.requires.some (taken_of c.in-Some.taken) f.feeds
          f.does c.lines_are_at_most_the_line_ends.ensures c.pieces_take_from_the_entries_owed.ensures _ _ _
          c.requires.room;
    }

pub put_all-requires : goal.put_all-requires
put_all-requires c =
    let old = c.args.client.now in
    let new = c.read-heard.new.self in
    let piece = c.args.piece.now in
    let shows = c.got-got.ensures.shows c.read-heard.ensures.keeps in
    let f =
    front old new piece _ _ _ _ c.got-got.ensures.used (ap (option_map taken_of) c.in-Some.is)
    (c.read-heard.ensures.answers _ shows) (c.read-heard.ensures.hands _ shows) in
    record {
      room =
          subst (λ ts. length (wire_of (texts_of ts)) ≤ c.args.wire.now.room) (sym c.as_slice.ensures.value)
          (line_put old new c.args.conn piece c.got-got.result.used c.requires.some (taken_of c.in-Some.taken) f.feeds
          f.does c.lines_are_at_most_the_line_ends.ensures c.pieces_take_from_what_is_owed.ensures _ _ _
          c.requires.room);
    }

pub returns-in-Some-clause-hears : goal.returns-in-Some-clause-hears
returns-in-Some-clause-hears c =
    let old = c.args.client.now in
    let new = c.read-heard.new.self in
    let piece = c.args.piece.now in
    let shows = c.got-got.ensures.shows c.read-heard.ensures.keeps in
    let f =
    front old new piece _ _ _ _ c.got-got.ensures.used (ap (option_map taken_of) c.in-Some.is)
    (c.read-heard.ensures.answers _ shows) (c.read-heard.ensures.hands _ shows) in
    hears_some old new c.args.conn piece c.got-got.result.used c.requires.some (taken_of c.in-Some.taken) f.feeds f.does
    _ _ _ _ c.note_line.ensures.items
    (c.put_all.ensures.items
    ∙ ap (λ ts. c.args.wire.now.items ++ wire_of (texts_of ts)) c.as_slice.ensures.value)

pub returns-in-Some-clause-room : goal.returns-in-Some-clause-room
returns-in-Some-clause-room c =
    let old = c.args.client.now in
    let new = c.read-heard.new.self in
    let piece = c.args.piece.now in
    let shows = c.got-got.ensures.shows c.read-heard.ensures.keeps in
    let f =
    front old new piece _ _ _ _ c.got-got.ensures.used (ap (option_map taken_of) c.in-Some.is)
    (c.read-heard.ensures.answers _ shows) (c.read-heard.ensures.hands _ shows) in
    some_left old new c.args.conn piece c.got-got.result.used c.requires.some (taken_of c.in-Some.taken) f.feeds f.does
    c.lines_are_at_most_the_line_ends.ensures c.pieces_take_from_what_is_owed.ensures
    c.pieces_take_from_the_entries_owed.ensures _ _ _ _ _ _ c.requires.room c.note_line.ensures.len
    c.note_line.ensures.capacity
    (subst (λ ts. c.args.wire.now.room ≤ c.put_all.new.wire.room + length (wire_of (texts_of ts)))
    c.as_slice.ensures.value c.put_all.ensures.room)

pub returns-in_default-clause-hears : goal.returns-in_default-clause-hears
returns-in_default-clause-hears c =
    let old = c.args.client.now in
    let new = c.read-heard.new.self in
    let piece = c.args.piece.now in
    let shows = c.got-got.ensures.shows c.read-heard.ensures.keeps in
    let f =
    front old new piece _ _ _ _ c.got-got.ensures.used refl (c.read-heard.ensures.answers _ shows)
    (c.read-heard.ensures.hands _ shows) in
    hears_none old new c.args.conn piece c.got-got.result.used c.requires.some _ f.feeds f.does
    (none_of taken_of c.got-got.result.taken c.in_default.not-Some) _ _

pub returns-in_default-clause-room : goal.returns-in_default-clause-room
returns-in_default-clause-room c =
    let old = c.args.client.now in
    let new = c.read-heard.new.self in
    let piece = c.args.piece.now in
    let shows = c.got-got.ensures.shows c.read-heard.ensures.keeps in
    let f =
    front old new piece _ _ _ _ c.got-got.ensures.used refl (c.read-heard.ensures.answers _ shows)
    (c.read-heard.ensures.hands _ shows) in
    none_left old new c.args.conn piece c.got-got.result.used c.requires.some
    c.lines_are_at_most_the_line_ends.ensures c.pieces_take_from_what_is_owed.ensures
    c.pieces_take_from_the_entries_owed.ensures _ f.feeds f.does
    (none_of taken_of c.got-got.result.taken c.in_default.not-Some) _ _ _ c.requires.room
