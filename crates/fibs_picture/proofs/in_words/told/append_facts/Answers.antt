use Rattle.fibs_picture.specs.InWords.Tellings.{row_in, rows_before}
use Rattle.fibs_picture.proofs.WordsLemmas.Breaking.{adds-first, adds-fact}
use Rattle.fibs_picture.proofs.in_words.told.append_facts.Goals as goal

pub loop-i-init : goal.loop-i-init
loop-i-init c = adds-first c.args.columns (rows_before c.args.before.now) (row_in c.args.told.now) _

pub loop-i-preserved : goal.loop-i-preserved
loop-i-preserved c =
    adds-fact c.args.columns c.loop-i.i c.fact_at.result (rows_before c.args.before.now) (row_in c.args.told.now) _ _ _
    c.fact_at.ensures c.loop-i.invariant c.in_ok-append_fact.ensures
