use Rattle.std.proofs.Common.{◌++◌, codes, refl, ap}
use Rattle.fibs_messages.specs.Line.{numbered_line, text_line}
use Rattle.fibs_engine.specs.Escape.{escaped}
use Rattle.fibs_show.proofs.ShowLemmas.{no_board, no_number, reading_shown}
use Rattle.fibs_show.proofs.line.append_reading.Goals as goal

pub returns-then-is_none : goal.returns-then-is_none
returns-then-is_none c =
    let line = c.args.line.now in
    reading_shown c.append_text.result line c.args.text.now.items c.append_text.new.text.items
    (codes "text " ++ escaped line) (text_line line) (
      (
        no_board line _ c.is_board_line.result c.is_board_line.ensures c.if-is_board_line.false,
        no_number line c.message_number.result c.is_none.result c.is_none.ensures c.if-is_none.true
            c.message_number.ensures.number,
      ),
      refl,
    ) refl c.append_text.ensures

pub returns-in-Some : goal.returns-in-Some
returns-in-Some c =
    let says = c.in-Some.ensures in
    reading_shown c.append_canonical.result c.args.line.now c.args.text.now.items c.append_canonical.new.text.items
    (codes "message " ++ escaped c.in-Some.canonical.now) (numbered_line says.0) says.1
    (ap (λ l. codes "message " ++ escaped l) says.2) c.append_canonical.ensures
