use Rattle.fibs_picture.specs.InWords.Breaking.{AddsRows}
use Rattle.fibs_picture.specs.InWords.Rows.{told_rows}
use Rattle.fibs_picture.specs.InWords.Tellings.{row_in, rows_before}
use Rattle.fibs_picture.proofs.in_words.told.append_facts.Given as goal

-- the rows of the facts so far are added
abbrev pub invariant-loop-i : goal.invariant-loop-i
invariant-loop-i l =
    AddsRows l.columns (told_rows (rows_before l.before) (row_in l.told) l.i) l.initial.text.items l.text.items
