use Rattle.std.proofs.Common.{sym, ◌∙◌}
use Rattle.fibs_picture.specs.InWords.Tellings.{rows_before}
use Rattle.fibs_terminal.proofs.drawing.laws.tellings_tell.Goals as goal

pub returns : goal.returns
returns c = λ s before a b text good sound p q.
    let join = c.rows_join.ensures (rows_before before) s.numbers in
    c.words_tell.ensures (rows_before before) s.numbers a b good sound
    (sym ((join a).0 good) ∙ sym p.joined ∙ q.joined ∙ (join b).0 sound)
