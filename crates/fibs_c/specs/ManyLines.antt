-- What C gets of many lines in one call.
use Rattle.std.specs.Prelude.{◌≡◌, ℕ, ◌+◌, ◌<◌, ◌≤◌, ◌++◌, ◌⊎◌, List, length, map, take, drop, Option, None, Some}
use Rattle.std.specs.List.{AllByRecursion, concat}
use Rattle.fibs_lines.specs.Lines.{ReadLine, lines_of, kept_limit}
use Rattle.fibs_lines.specs.LinesValue.{LinesValue, StandsAfter}
use Rattle.fibs_session.specs.History.Hearing.{line_reading}
use Rattle.fibs_c.specs.Records.Kinds.{told_kind}
use Rattle.fibs_c.specs.Records.Texts.{is_set}
use Rattle.fibs_c.specs.declared.many_lines.Told.{Told}
use Rattle.fibs_c.specs.declared.many_lines.ToldLine.{ToldLine}
use Rattle.fibs_c.specs.declared.records.kinds.LineKind.{LineKind}

-- the line of a row, whose bytes are in the text
abbrev pub line_in : List ℕ → ToldLine → ReadLine
line_in text row = record { bytes = take row.len (drop row.start text); cut = is_set row.cut }

-- the bytes of a line
abbrev pub line_bytes : ReadLine → List ℕ
line_bytes line = line.bytes

-- what the row says that it is
abbrev pub kind_in : ToldLine → LineKind
kind_in row = row.kind

-- what a line is
abbrev pub kind_of_line : ReadLine → LineKind
kind_of_line line = told_kind (line_reading line)

-- a row's bytes lie in a front of the text, and its flag is one
pub record LiesWithin (bytes : ℕ) (row : ToldLine) : Type 0 where
  pub place : row.start + row.len ≤ bytes
  pub flag : row.cut ≤ 1

-- each stream that the reader was at, with the bytes read, is now its stream, and the rows have the lines that these
-- ended, with what each is; the text has their bytes, one line after the other. It went on until the piece ended, the
-- rows were full, or the room was too short for another line. After what is given, rows and text are as they were
pub record ReadsLines (old new : LinesValue) (piece : List ℕ) (told : Told) (rows rows' : List ToldLine)
    (text text' : List ℕ) : Type 0 where
  pub in_range : told.used ≤ length piece
  pub progress : 0 < length piece → 0 < told.used
  pub few : told.lines ≤ length rows
  pub short : told.bytes ≤ length text
  pub stands : (s : List ℕ) → StandsAfter old s → StandsAfter new (s ++ take told.used piece)
  pub gains : (s : List ℕ) → StandsAfter old s
      → lines_of (s ++ take told.used piece) ≡ lines_of s ++ map (line_in text') (take told.lines rows')
  pub kinds : map kind_in (take told.lines rows') ≡ map kind_of_line (map (line_in text') (take told.lines rows'))
  pub within : AllByRecursion (LiesWithin told.bytes) (take told.lines rows')
  pub joined : take told.bytes text' ≡ concat (map line_bytes (map (line_in text') (take told.lines rows')))
  pub rest_of_rows : drop told.lines rows' ≡ drop told.lines rows
  pub rest_of_text : drop told.bytes text' ≡ drop told.bytes text
  pub ends : (length piece ≤ told.used) ⊎ ((length rows ≤ told.lines) ⊎ (length text < told.bytes + kept_limit))

-- or no reader is held, and nothing is written
abbrev pub AreLinesReadInRoom : Option LinesValue → Option LinesValue → List ℕ → Told → Told → List ToldLine
    → List ToldLine → List ℕ → List ℕ → ℕ → Type 0
AreLinesReadInRoom None new piece told told' rows rows' text text' status =
    (status ≡ 501) × (new ≡ None) × (told' ≡ told) × (rows' ≡ rows) × (text' ≡ text)
AreLinesReadInRoom (Some v) None piece told told' rows rows' text text' status = ⊥
AreLinesReadInRoom (Some v) (Some w) piece told told' rows rows' text text' status =
    (status ≡ 0) × ReadsLines v w piece told' rows rows' text text'

-- there is no room for one line: the room and the rows that are needed are given, and nothing else is written
pub record WantsRoom (old new : Option LinesValue) (told : Told) (status : ℕ) : Type 0 where
  pub short : status ≡ 503
  pub unchanged : new ≡ old
  pub none_read : told.used ≡ 0
  pub one_row : told.lines ≡ 1
  pub one_line : told.bytes ≡ kept_limit

-- the lines of a piece are read, if the room is as large as a line and there is a row
abbrev pub AreLinesRead : Option LinesValue → Option LinesValue → List ℕ → Told → Told → List ToldLine
    → List ToldLine → List ℕ → List ℕ → ℕ → Type 0
AreLinesRead old new piece told told' rows rows' text text' status =
    (((length text < kept_limit) ⊎ (length rows ≡ 0)) × WantsRoom old new told' status × (rows' ≡ rows)
    × (text' ≡ text))
    ⊎ ((kept_limit ≤ length text) × (0 < length rows)
    × AreLinesReadInRoom old new piece told told' rows rows' text text' status)
