use Rattle.std.proofs.lemmas.Bool.{OnTrue_at}
use Rattle.fibs_lines.proofs.WholeLemmas.{same_kept, whole_feeds, whole_stands, whole_literal}
use Rattle.fibs_lines.proofs.lines.Lines.whole_line.Goals as goal

pub returns-in-Some-clause-feeds : goal.returns-in-Some-clause-feeds
returns-in-Some-clause-feeds c = λ s stands.
    let kept = OnTrue_at c.if-not-keeps_nothing.false c.keeps_nothing.ensures in
    whole_feeds c.args.self.now c.args.piece.now c.literal_len-len.result c.in-Some.at
    (same_kept c.args.self.now kept.0 kept.1 kept.2) c.literal_len-len.ensures c.in-Some.ensures s stands
    c.limited.result c.limited.ensures

pub returns-in-Some-clause-stands : goal.returns-in-Some-clause-stands
returns-in-Some-clause-stands c = λ s stands.
    let kept = OnTrue_at c.if-not-keeps_nothing.false c.keeps_nothing.ensures in
    whole_stands c.args.self.now c.args.piece.now c.literal_len-len.result c.in-Some.at
    (same_kept c.args.self.now kept.0 kept.1 kept.2) c.literal_len-len.ensures c.in-Some.ensures s stands

pub returns-in-Some-clause-literal : goal.returns-in-Some-clause-literal
returns-in-Some-clause-literal c =
    whole_literal c.args.piece.now c.literal_len-len.result c.limited.result c.literal_len-len.ensures c.limited.ensures
