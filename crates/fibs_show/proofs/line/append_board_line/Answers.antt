use Rattle.std.proofs.Common.{◌++◌, refl, inl}
use Rattle.fibs_messages.specs.Line.{board_line, malformed_line}
use Rattle.fibs_engine.specs.Readings.{reading_text}
use Rattle.fibs_engine.proofs.OkLemmas.{on_ok_grown}
use Rattle.fibs_show.proofs.ShowLemmas.{reading_shown}
use Rattle.fibs_show.proofs.line.append_board_line.Goals as goal

pub returns-in-Ok : goal.returns-in-Ok
returns-in-Ok c =
    let says = c.in-Ok.ensures.found in
    let old = c.args.text.now.items in
    reading_shown c.extend_from_slice.result c.args.line.now old c.extend_from_slice.new.self.items c.in-Ok.board.now
    (board_line says.0) (c.requires, says.1) says.2
    (on_ok_grown c.extend_from_slice.result c.extend_from_slice.new.self.items (old ++ c.in-Ok.board.now) old
    (old ++ c.in-Ok.board.now) c.extend_from_slice.ensures.items refl)

pub returns-in-Err : goal.returns-in-Err
returns-in-Err c =
    let reading = malformed_line 0 c.in-Err.wrong.field c.in-Err.wrong.fault in
    reading_shown c.append_malformed.result c.args.line.now c.args.text.now.items c.append_malformed.new.text.items
    (reading_text reading) reading (inl (c.requires, refl, c.in-Err.ensures.wrong)) refl c.append_malformed.ensures
