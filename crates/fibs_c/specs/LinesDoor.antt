-- What the functions for C do with a reader of lines.
use Rattle.std.specs.Prelude.{◌≡◌, ℕ, ◌<◌, ◌≤◌, ◌++◌, ◌⊎◌, List, [], ◌∷◌, length, take, drop, min, false, Option, None, Some, if◌then◌else◌}
use Rattle.fibs_lines.specs.Lines.{ReadLine, lines_of, rest_of, kept_limit}
use Rattle.fibs_lines.specs.LinesValue.{LinesValue, StandsAfter}
use Rattle.fibs_c.specs.Records.Texts.{HandsOut, is_set}
use Rattle.fibs_c.specs.declared.lines.FedLine.{FedLine}

-- the line that was copied, if one ended
abbrev pub copied : FedLine → List ℕ → List ReadLine
copied fed text = if is_set fed.ended then record { bytes = take fed.len text; cut = is_set fed.cut } ∷ [] else []

-- if the reader was at a stream, it is now at that stream followed by the bytes read: the shortest front of the piece
-- with which the stream has one line more, and that line was copied; or the whole piece
pub record FeedsLine (old new : LinesValue) (piece : List ℕ) (fed : FedLine) (text : List ℕ) : Type 0 where
  pub in_range : fed.used ≤ length piece
  pub progress : 0 < length piece → 0 < fed.used
  pub stands : (s : List ℕ) → StandsAfter old s → StandsAfter new (s ++ take fed.used piece)
  pub gains : (s : List ℕ) → StandsAfter old s → lines_of (s ++ take fed.used piece) ≡ lines_of s ++ copied fed text
  pub shortest : (s : List ℕ) → StandsAfter old s → (n : ℕ) → n < fed.used → lines_of (s ++ take n piece) ≡ lines_of s
  pub whole : (s : List ℕ) → StandsAfter old s → is_set fed.ended ≡ false → fed.used ≡ length piece

-- what is written of a line: flags, its length, and its bytes alone
pub record WritesLine (fed : FedLine) (text text' : List ℕ) : Type 0 where
  pub few : fed.len ≤ kept_limit
  pub ended_flag : fed.ended ≤ 1
  pub cut_flag : fed.cut ≤ 1
  pub none : fed.ended ≡ 0 → (fed.len ≡ 0) × (fed.cut ≡ 0)
  pub rest : drop fed.len text' ≡ drop fed.len text

-- a reader was made, or it was refused: one is held already, or memory ran out
abbrev pub IsNewLines : Option LinesValue → Option LinesValue → ℕ → Type 0
IsNewLines (Some v) new status = (status ≡ 502) × (new ≡ Some v)
IsNewLines None None status = status ≡ 401
IsNewLines None (Some w) status = (status ≡ 0) × StandsAfter w []

-- the reader was fed; or no reader is held, and nothing is written
abbrev pub IsFedInRoom : Option LinesValue → Option LinesValue → List ℕ → FedLine → FedLine → List ℕ → List ℕ → ℕ
    → Type 0
IsFedInRoom None new piece fed fed' text text' status =
    (status ≡ 501) × (new ≡ None) × (fed' ≡ fed) × (text' ≡ text)
IsFedInRoom (Some v) None piece fed fed' text text' status = ⊥
IsFedInRoom (Some v) (Some w) piece fed fed' text text' status =
    (status ≡ 0) × FeedsLine v w piece fed' text' × WritesLine fed' text text'

-- the same if there is room for a line, and else nothing was done
abbrev pub IsFed : Option LinesValue → Option LinesValue → List ℕ → FedLine → FedLine → List ℕ → List ℕ → ℕ → Type 0
IsFed old new piece fed fed' text text' status =
    ((length text < kept_limit) × (status ≡ 503) × (new ≡ old) × (fed' ≡ fed) × (text' ≡ text))
    ⊎ ((kept_limit ≤ length text) × IsFedInRoom old new piece fed fed' text text' status)

-- the reader is at the empty stream; or no reader is held
abbrev pub IsReset : Option LinesValue → Option LinesValue → ℕ → Type 0
IsReset None new status = (status ≡ 501) × (new ≡ None)
IsReset (Some v) None status = ⊥
IsReset (Some v) (Some w) status = (status ≡ 0) × StandsAfter w []

-- how many bytes follow the last line end, and the reader is as it was
abbrev pub IsHeld : Option LinesValue → Option LinesValue → ℕ → ℕ → ℕ → Type 0
IsHeld None new len len' status = (status ≡ 501) × (new ≡ None) × (len' ≡ len)
IsHeld (Some v) new len len' status =
    (status ≡ 0) × (new ≡ Some v) × (len' ≤ kept_limit)
    × ((s : List ℕ) → StandsAfter v s → len' ≡ min kept_limit (length (rest_of s)))

-- what follows the last line end is handed out, without telnet commands, and as much of it as is kept of a line; and
-- the reader is as it was
abbrev pub IsUnfinished : Option LinesValue → Option LinesValue → List ℕ → List ℕ → ℕ → ℕ → ℕ → Type 0
IsUnfinished None new text text' len len' status = (status ≡ 501) × (new ≡ None) × (text' ≡ text) × (len' ≡ len)
IsUnfinished (Some v) new text text' len len' status =
    (new ≡ Some v)
    × ((s : List ℕ) → StandsAfter v s → HandsOut (take kept_limit (rest_of s)) text text' len' status)
