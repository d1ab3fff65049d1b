-- What `fibs show` prints.
use Rattle.std.specs.Prelude.{◌≡◌, ◌==◌, ℕ, Bool, true, false, List, [], ◌∷◌, ◌++◌, Option, codes, if◌then◌else◌}
use Rattle.std.specs.Fmt.{decimal}
use Rattle.fibs_lines.specs.Lines.{ReadLine}
use Rattle.fibs_messages.specs.Line.{ReadingValue, IsReading}
use Rattle.fibs_engine.specs.Escape.{escaped}
use Rattle.fibs_engine.specs.Readings.{reading_text}
use Rattle.fibs_engine.specs.Streams as streams

-- what is printed for a line: `cut` and its kept bytes if it was cut, else what it reads as
abbrev pub ShownAs : Bool → List ℕ → List ℕ → Type 0
ShownAs true bytes text = text ≡ codes "cut " ++ escaped bytes
ShownAs false bytes text = (reading : ReadingValue) × IsReading bytes reading × (text ≡ reading_text reading)

-- the same of a line as the reader of lines lends it
abbrev pub ShownLine : ReadLine → List ℕ → Type 0
ShownLine line text = ShownAs line.cut line.bytes text

-- what is printed at the end, if so many bytes follow the last line end
abbrev pub unfinished_text : ℕ → List ℕ
unfinished_text held = if held == 0 then [] else codes "unfinished " ++ (decimal held ++ (10 ∷ []))

-- What a reader has left, and what a writer holds, is Some list if the prover knows its bytes, and else None: then the
-- next five definitions say nothing. They are those of fibs_engine, of these lines and this end.

-- a reader was read to its end, and a writer gained all that is printed for its bytes
abbrev pub WroteAll : Option (List ℕ) → Option (List ℕ) → Option (List ℕ) → Option (List ℕ) → Type 0
WroteAll left still_left held now =
    streams.WroteAll (streams.EachLine ShownLine) (streams.LeftOver unfinished_text) left still_left held now

-- a reader lost the bytes s and then `more`, and a writer gained just what is printed for the lines of s
abbrev pub WroteLinesOf : List ℕ → List ℕ → Option (List ℕ) → Option (List ℕ) → Option (List ℕ) → Option (List ℕ)
    → Type 0
WroteLinesOf s more left still_left held now =
    streams.WroteLinesOf (streams.EachLine ShownLine) s more left still_left held now

-- a writer gained just what is printed for the lines of all that was read
abbrev pub WroteRead : Option (List ℕ) → Option (List ℕ) → Option (List ℕ) → Option (List ℕ) → Type 0
WroteRead left still_left held now = streams.WroteRead (streams.EachLine ShownLine) left still_left held now

-- a writer gained just what is printed for the lines of some front of what was read
abbrev pub WroteLines : Option (List ℕ) → Option (List ℕ) → Option (List ℕ) → Option (List ℕ) → Type 0
WroteLines left still_left held now = streams.WroteLines (streams.EachLine ShownLine) left still_left held now

-- a writer gained a front of what is printed for what was read, and at least one byte of it is missing
abbrev pub WroteFront : Option (List ℕ) → Option (List ℕ) → Option (List ℕ) → Option (List ℕ) → Type 0
WroteFront left still_left held now =
    streams.WroteFront (streams.EachLine ShownLine) (streams.LeftOver unfinished_text) left still_left held now
