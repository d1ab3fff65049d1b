use Rattle.std.proofs.Common.{◌++◌, codes, ap, ◌∙◌, append_assoc}
use Rattle.fibs_lines.specs.Lines.{value_of}
use Rattle.fibs_engine.specs.Escape.{escaped}
use Rattle.fibs_engine.specs.Readings.{reading_text}
use Rattle.fibs_show.proofs.ShowLemmas.{cut_line, read_line, line_more}
use Rattle.fibs_show.proofs.line.append_line.Goals.{then-line+in_ok-extend_from_slice+in_ok-append_escaped, else-line+in_ok-append_reading}
use Rattle.fibs_show.proofs.line.append_line.Goals as goal

pub returns : goal.returns
returns c =
    let line = value_of c.args.line.now in
    let before = c.args.text.now.items in
    elim c.if-line.branch [
      | then-line+in_ok-extend_from_slice+in_ok-append_escaped w ↦ (
        codes "cut " ++ escaped line.bytes,
        cut_line line w.if-line.true,
        line_more before c.if-line.text.items _ (codes "cut " ++ escaped line.bytes)
            (rw w.text-is (w.in_ok-append_escaped.ensures
            ∙ ap (λ l. l ++ escaped line.bytes) w.in_ok-extend_from_slice.ensures.items
            ∙ append_assoc before (codes "cut ") (escaped line.bytes)))
            c.in_ok-push.ensures.items,
      )
      | else-line+in_ok-append_reading w ↦ (
        reading_text w.in_ok-append_reading.ensures.0,
        read_line line w.in_ok-append_reading.ensures.0 w.if-line.false w.in_ok-append_reading.ensures.1,
        line_more before c.if-line.text.items _ (reading_text w.in_ok-append_reading.ensures.0)
            (rw w.text-is w.in_ok-append_reading.ensures.2) c.in_ok-push.ensures.items,
      )
    ]
