-- One more reading keeps what was read so far.
use Rattle.fibs_c.proofs.many_lines.read_all.Goals as goal

pub loop-lines-preserved : goal.loop-lines-preserved
loop-lines-preserved c = c.read_next-told.ensures.reads c.args.lines.now c.args.rows.now c.args.text.now
    c.loop-lines.invariant
