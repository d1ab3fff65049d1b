use Rattle.std.proofs.Common.{sym, ◌∙◌}
use Rattle.fibs_picture.specs.InWords.Tellings.{rows_before}
use Rattle.fibs_terminal.proofs.drawing.laws.watched_tell.Goals as goal

pub returns : goal.returns
returns c = λ s before a b text wa wb p q.
    let join = c.rows_join.ensures (rows_before before) s.numbers in
    c.watched_words_tell.ensures (rows_before before) s.numbers a b wa wb
    (sym ((join a).1 wa) ∙ sym p.joined ∙ q.joined ∙ (join b).1 wb)
