use Rattle.std.proofs.Common.{subst, refl, sym, ◌∙◌, []}
use Rattle.fibs_lines.specs.Feeding.{Feeds}
use Rattle.fibs_model.proofs.needles.BoardTexts.{two_lines, none_within, one_line, no_line}
use Rattle.fibs_model.proofs.needles.Needles.{line_end}
use Rattle.fibs_model.proofs.wire.is_read_as_board_text.Goals as goal

pub returns-then-is_some : goal.returns-then-is_some
returns-then-is_some c =
    let empty = c.empty_stream_has_no_line.ensures in
    let grow = c.lines_only_grow.ensures in
    let end = c.line_end_ends_a_line.ensures in
    two_lines c.args.text.now empty grow end c.feed.result c.feed.result.line
    (c.feed.ensures.feeds [] c.new-lines.ensures.stands) refl (sym c.is_some.ensures ∙ c.if-is_some.true)

pub returns-in-None : goal.returns-in-None
returns-in-None c =
    let empty = c.empty_stream_has_no_line.ensures in
    let grow = c.lines_only_grow.ensures in
    let end = c.line_end_ends_a_line.ensures in
    let text = c.args.text.now in
    let more = c.feed-2.result in
    let start = c.new-lines.ensures.stands in
    let none =
    none_within text empty grow end c.feed.result c.feed.result.line (c.feed.ensures.feeds [] start) refl
    (sym c.is_some.ensures ∙ c.if-is_some.false) in
    let feeds : Feeds text line_end more =
    subst (λ s. Feeds s line_end more) none.0
    (c.feed-2.ensures.feeds _ (c.feed.follows.holds-at-none.0 [] start)) in
    no_line text empty grow end more none.1 feeds c.in-None.is

pub returns-in-Some : goal.returns-in-Some
returns-in-Some c =
    let empty = c.empty_stream_has_no_line.ensures in
    let grow = c.lines_only_grow.ensures in
    let end = c.line_end_ends_a_line.ensures in
    let text = c.args.text.now in
    let more = c.feed-2.result in
    let start = c.new-lines.ensures.stands in
    let none =
    none_within text empty grow end c.feed.result c.feed.result.line (c.feed.ensures.feeds [] start) refl
    (sym c.is_some.ensures ∙ c.if-is_some.false) in
    let feeds : Feeds text line_end more =
    subst (λ s. Feeds s line_end more) none.0
    (c.feed-2.ensures.feeds _ (c.feed.follows.holds-at-none.0 [] start)) in
    c.reads_as_board.ensures ∙ one_line text empty grow end more c.in-Some.line none.1 feeds c.in-Some.is
