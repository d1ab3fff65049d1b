-- A piece is read on, with and without a line end.
use Rattle.fibs_c.proofs.ManyLinesLemmas.{no_line_next, one_line_next}
use Rattle.fibs_c.proofs.many_lines.read_next.Goals as goal

pub returns-then-fed-eq0-clause-reads : goal.returns-then-fed-eq0-clause-reads
returns-then-fed-eq0-clause-reads c old rows text so =
    no_line_next old c.args.lines.now c.feed-fed.new.lines c.args.piece.now c.args.told.used c.args.told.lines
    c.args.told.bytes
    rows c.args.rows.now text c.args.text.now c.feed-fed.new.text c.feed-fed.result
    c.feed-fed.ensures.told c.feed-fed.ensures.writes c.requires.more c.feed-fed.auto.text c.if-fed-eq0.true so

pub returns-clause-reads : goal.returns-clause-reads
returns-clause-reads c old rows text so =
    one_line_next old c.args.lines.now c.feed-fed.new.lines c.args.piece.now c.args.told.used c.args.told.lines
    c.args.told.bytes
    rows c.args.rows.now text c.args.text.now c.feed-fed.new.text c.feed-fed.result c.told_line.result
    c.feed-fed.ensures.told c.feed-fed.ensures.writes c.requires.more c.requires.row c.requires.room
    c.feed-fed.auto.text
    c.if-fed-eq0.false c.told_line.ensures.place.0 c.told_line.ensures.place.1 c.told_line.ensures.place.2
    c.told_line.ensures.kind so
