-- How many lines are read one after another. No public contract rests on it.
use Rattle.std.specs.Prelude.{◌≡◌, ℕ, ◌+◌, ◌<◌, ◌≤◌, ◌++◌, ◌⊎◌, List, length, map, take, drop}
use Rattle.std.specs.List.{AllByRecursion, concat}
use Rattle.fibs_lines.specs.Lines.{lines_of, kept_limit}
use Rattle.fibs_lines.specs.LinesValue.{LinesValue, StandsAfter}
use Rattle.fibs_c.specs.ManyLines.{line_in, line_bytes, kind_in, kind_of_line, LiesWithin}
use Rattle.fibs_c.specs.declared.many_lines.Told.{Told}
use Rattle.fibs_c.specs.declared.many_lines.ToldLine.{ToldLine}

-- there is more of the piece, a row, and room for a line
pub record HasMore (piece : List ℕ) (rows : List ToldLine) (text : List ℕ) (told : Told) : Type 0 where
  pub more : told.used < length piece
  pub row : told.lines < length rows
  pub room : told.bytes + kept_limit ≤ length text

-- or one of these is at its end
abbrev pub HasEnded : List ℕ → List ToldLine → List ℕ → Told → Type 0
HasEnded piece rows text told =
    (length piece ≤ told.used) ⊎ ((length rows ≤ told.lines) ⊎ (length text < told.bytes + kept_limit))

-- what holds while the lines are read: rows₀ and text₀ are the rooms as they were at first
pub record ReadSoFar (old now : LinesValue) (piece : List ℕ) (used count bytes : ℕ) (rows₀ rows : List ToldLine)
    (text₀ text : List ℕ) : Type 0 where
  pub in_range : used ≤ length piece
  pub begun : used ≡ 0 → (count ≡ 0) × (bytes ≡ 0)
  pub few : count ≤ length rows
  pub room : bytes ≤ length text
  pub same_rows : length rows ≡ length rows₀
  pub same_text : length text ≡ length text₀
  pub stands : (s : List ℕ) → StandsAfter old s → StandsAfter now (s ++ take used piece)
  pub gains : (s : List ℕ) → StandsAfter old s
      → lines_of (s ++ take used piece) ≡ lines_of s ++ map (line_in text) (take count rows)
  pub kinds : map kind_in (take count rows) ≡ map kind_of_line (map (line_in text) (take count rows))
  pub within : AllByRecursion (LiesWithin bytes) (take count rows)
  pub joined : take bytes text ≡ concat (map line_bytes (map (line_in text) (take count rows)))
  pub rest_of_rows : drop count rows ≡ drop count rows₀
  pub rest_of_text : drop bytes text ≡ drop bytes text₀
