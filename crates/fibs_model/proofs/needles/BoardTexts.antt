-- Whether a text with CR LF is a board text shows at the first line of the text, and else at the line that CR LF ends.
use Rattle.std.proofs.Common.{◌≡◌, ℕ, true, false, List, [], ◌∷◌, ◌++◌, Option, Some, None, length, take, drop, refl, sym, ap, ◌∙◌, arith, is_some, append_assoc}
use Rattle.std.proofs.lemmas.Bool.{false≢true}
use Rattle.std.proofs.lemmas.List.{take_all, take-append-drop}
use Rattle.fibs_lines.specs.Lines.{ReadLine, lines_of, value_of}
use Rattle.fibs_lines.specs.Feeding.{Feeds, lent_lines}
use Rattle.fibs_lines.specs.StreamLaws.{EmptyStreamHasNoLine, LinesOnlyGrow, LineEndEndsALine}
use Rattle.fibs_lines.specs.declared.line.Line.{Line}
use Rattle.fibs_lines.specs.declared.lines.Fed.{Fed}
use Rattle.fibs_session.specs.History.Hearing.{line_reading}
use Rattle.fibs_session.specs.History.Machine.{on_wire}
use Rattle.fibs_model.specs.Refusals.{is_board_text, reads_as_board}
use Rattle.fibs_model.proofs.needles.Needles.{line_end}

-- two lines, and any between them, are a board text
several : (l last : ReadLine) (more : List ReadLine) → is_board_text (l ∷ more ++ last ∷ []) ≡ true
several l last [] = refl
several l last (m ∷ more) = refl

-- of one line in front and more after it there is one line in all only if nothing is after it
single : (l last : ReadLine) (more : List ReadLine) → l ∷ more ≡ last ∷ [] → l ≡ last
single l last more e = cc

module _ (text : List ℕ) (empty : EmptyStreamHasNoLine) (grow : LinesOnlyGrow) (end : LineEndEndsALine) where
  -- what was read of the text gave the line
  gained : (fed : Fed) (line : Option Line) → Feeds [] text fed → fed.line ≡ line
      → lines_of (take fed.used text) ≡ lent_lines line
  gained fed line feeds is = feeds.gains ∙ ap (λ ls. ls ++ lent_lines fed.line) empty.0 ∙ ap lent_lines is

  -- a line within the text, and the one that CR LF ends, are two
  pub two_lines : (fed : Fed) (line : Option Line) → Feeds [] text fed → fed.line ≡ line → is_some line ≡ true
      → true ≡ is_board_text (lines_of (on_wire text))
  two_lines fed None feeds is there = absurd (false≢true there)
  two_lines fed (Some line) feeds is there =
      let l = value_of line in
      let more = grow (take fed.used text) (drop fed.used text) in
      let whole : lines_of text ≡ l ∷ more.0 =
      ap lines_of (sym (take-append-drop fed.used text)) ∙ more.1
      ∙ ap (λ ls. ls ++ more.0) (gained fed (Some line) feeds is) in
      let last = end text in
      sym (ap is_board_text (last.1 ∙ ap (λ ls. ls ++ last.0 ∷ []) whole) ∙ several l last.0 more.0)

  -- if no line was lent, all of the text was read, and it has none
  pub none_within : (fed : Fed) (line : Option Line) → Feeds [] text fed → fed.line ≡ line → is_some line ≡ false
      → (take fed.used text ≡ text) × (lines_of text ≡ [])
  none_within fed None feeds is there =
      let used : fed.used ≡ length text = feeds.whole (ap is_some is) in
      let all : take fed.used text ≡ text = take_all fed.used text (omega (arith, used)) in
      (all, ap lines_of (sym all) ∙ gained fed None feeds is)
  none_within fed (Some line) feeds is there = absurd (false≢true (sym there))

  -- then the line that CR LF ends is the only one
  pub one_line : (fed : Fed) (line : Line) → lines_of text ≡ [] → Feeds text line_end fed → fed.line ≡ Some line
      → reads_as_board (line_reading (value_of line)) ≡ is_board_text (lines_of (on_wire text))
  one_line fed line none feeds is =
      let more = grow (text ++ take fed.used line_end) (drop fed.used line_end) in
      let last = end text in
      let heard : lines_of (text ++ take fed.used line_end) ≡ value_of line ∷ [] =
      feeds.gains ∙ ap (λ ls. ls ++ lent_lines fed.line) none ∙ ap lent_lines is in
      let joined : text ++ take fed.used line_end ++ drop fed.used line_end ≡ on_wire text =
      append_assoc text (take fed.used line_end) (drop fed.used line_end)
      ∙ ap (λ l. text ++ l) (take-append-drop fed.used line_end) in
      let one : lines_of (on_wire text) ≡ last.0 ∷ [] = last.1 ∙ ap (λ ls. ls ++ last.0 ∷ []) none in
      let whole : value_of line ∷ more.0 ≡ last.0 ∷ [] =
      ap (λ ls. ls ++ more.0) (sym heard) ∙ sym more.1 ∙ ap lines_of joined ∙ one in
      ap (λ l. reads_as_board (line_reading l)) (single (value_of line) last.0 more.0 whole)
      ∙ ap is_board_text (sym one)

  -- and without it there is none
  pub no_line : (fed : Fed) → lines_of text ≡ [] → Feeds text line_end fed → fed.line ≡ None
      → false ≡ is_board_text (lines_of (on_wire text))
  no_line fed none feeds is =
      let used : fed.used ≡ 2 = feeds.whole (ap is_some is) in
      let heard : lines_of (text ++ take fed.used line_end) ≡ [] =
      feeds.gains ∙ ap (λ ls. ls ++ lent_lines fed.line) none ∙ ap lent_lines is in
      sym (ap is_board_text (ap (λ n. lines_of (text ++ take n line_end)) (sym used) ∙ heard))
