use Rattle.fibs_picture.proofs.WordsLemmas.Saying.{rows-first, rows-next, rows-whole}
use Rattle.fibs_picture.proofs.in_words.broken.append_rows.Goals as goal

pub loop-at-init : goal.loop-at-init
loop-at-init c = rows-first c.args.rows.now c.args.columns c.args.text.now.items

pub loop-at-preserved : goal.loop-at-preserved
loop-at-preserved c =
    rows-next c.args.rows.now c.args.columns c.loop-at.at c.row_at-row.result.now _ _ _ c.loop-at.invariant
    c.loop-at-test.true c.row_at-row.ensures c.in_ok-append_broken.ensures

pub returns : goal.returns
returns c =
    rows-whole c.args.rows.now c.args.columns c.loop-at.at _ _ c.loop-at.invariant c.loop-at-test.false
