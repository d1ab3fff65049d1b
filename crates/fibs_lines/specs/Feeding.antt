-- What `feed` answers.
use Rattle.std.specs.Prelude.{◌≡◌, ℕ, ◌<◌, ◌≤◌, List, [], ◌∷◌, ◌++◌, length, take, Option, None, Some, IsNone, IsSome}
use Rattle.fibs_lines.specs.Lines.{ReadLine, lines_of, value_of}
use Rattle.fibs_lines.specs.Standing.{AtLineStart}
use Rattle.fibs_lines.specs.declared.line.Line.{Line}
use Rattle.fibs_lines.specs.declared.lines.Fed.{Fed}
use Rattle.fibs_lines.specs.declared.lines.WholeLine.{WholeLine}

-- the line that was lent, if one was
abbrev pub lent_lines : Option Line → List ReadLine
lent_lines None = []
lent_lines (Some line) = value_of line ∷ []

-- after the stream s, the answer to a piece: the shortest front with which the stream has one line more, and that line,
-- after which nothing is left over; or the whole piece
pub record Feeds (s piece : List ℕ) (fed : Fed) : Type 0 where
  pub in_range : fed.used ≤ length piece
  pub gains : lines_of (s ++ take fed.used piece) ≡ lines_of s ++ lent_lines fed.line
  pub shortest : (n : ℕ) → n < fed.used → lines_of (s ++ take n piece) ≡ lines_of s
  pub whole : IsNone fed.line → fed.used ≡ length piece
  pub starts : IsSome fed.line → AtLineStart (s ++ take fed.used piece)

-- what `feed` would answer for a line that is whole in the piece
abbrev pub fed_of : WholeLine → Fed
fed_of whole = record { used = whole.used; line = Some whole.line }
