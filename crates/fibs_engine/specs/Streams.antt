-- What is printed for a stream, and what of it was written. `Prints` says what is printed for its lines, and `Ends`
-- what is printed at its end.
use Rattle.std.specs.Prelude.{◌≡◌, ℕ, List, [], ◌∷◌, ◌++◌, length, take, min, Option}
use Rattle.std.specs.Io.KnownBytes.{Appends, Consumes}
use Rattle.fibs_lines.specs.Lines.{ReadLine, lines_of, rest_of, kept_limit}
use Rattle.fibs_lines.specs.Feeding.{Feeds}
use Rattle.fibs_lines.specs.LinesValue.{LinesValue, StandsAfter}
use Rattle.fibs_lines.specs.declared.lines.Fed.{Fed}
use Rattle.fibs_engine.specs.Writing.{GainedFront}

-- which texts are printed for which lines
abbrev pub LinePrinting : Type 1
LinePrinting = ReadLine → List ℕ → Type 0

-- what is printed for lines: that of each in turn, ended by a byte 10
abbrev pub LinesText : LinePrinting → List ReadLine → List ℕ → Type 0
LinesText Prints [] text = text ≡ []
LinesText Prints (line ∷ lines) text =
    (first rest : List ℕ) × Prints line first × LinesText Prints lines rest × (text ≡ first ++ (10 ∷ rest))

-- which texts are printed for which streams: for their lines, each with its line end, or at their end
abbrev pub Printing : Type 1
Printing = List ℕ → List ℕ → Type 0

-- what is printed for the lines of a stream, if what is printed for a line asks for no other line
abbrev pub EachLine : LinePrinting → Printing
EachLine Prints s text = LinesText Prints (lines_of s) text

-- what is printed at the end of a stream, if that says only how many bytes are left over, at most as many as a line
-- keeps
abbrev pub LeftOver : (ℕ → List ℕ) → Printing
LeftOver ends s text = text ≡ ends (min kept_limit (length (rest_of s)))

-- all that is printed for a stream: for its lines, and at its end
abbrev pub StreamText : Printing → Printing → List ℕ → List ℕ → Type 0
StreamText Prints Ends s text = (shown ending : List ℕ) × Prints s shown × Ends s ending × (text ≡ shown ++ ending)

-- from each stream that `old` is at, `now` is at the stream with the bytes `piece`, and `added` is what is printed for
-- the lines that they end
pub record Gains (Prints : LinePrinting) (old now : LinesValue) (piece added : List ℕ) : Type 0 where
  pub gained : List ReadLine
  pub shown : LinesText Prints gained added
  pub stands : (s : List ℕ) → StandsAfter old s → StandsAfter now (s ++ piece)
  pub gains : (s : List ℕ) → StandsAfter old s → lines_of (s ++ piece) ≡ lines_of s ++ gained

-- the same, added to a text: it was `before` and is `after`
abbrev pub TextGains : LinePrinting → LinesValue → LinesValue → List ℕ → List ℕ → List ℕ → Type 0
TextGains Prints old now piece before after =
    (added : List ℕ) × (after ≡ before ++ added) × Gains Prints old now piece added

-- a printer and its reader of lines have read the bytes s, and the text is what is printed for their lines. `Reads`
-- says what a printer keeps of what it has read
pub record HasPrinted {P : Type 0} (Reads : P → List ℕ → Type 0) (Prints : Printing) (lines : LinesValue) (printer : P)
    (s text : List ℕ) : Type 0 where
  pub stands : StandsAfter lines s
  pub reads : Reads printer s
  pub prints : Prints s text

-- whatever was read and printed before, the bytes `piece` are read, and `added` is printed for the lines that they end
abbrev pub GoesOn : {P : Type 0} → (P → List ℕ → Type 0) → Printing → LinesValue → LinesValue → P → P → List ℕ
    → List ℕ → Type 0
GoesOn Reads Prints lines lines_now printer printer_now piece added =
    (s text : List ℕ) → HasPrinted Reads Prints lines printer s text
    → HasPrinted Reads Prints lines_now printer_now (s ++ piece) (text ++ added)

-- the same, added to a text: it was `before` and is `after`
abbrev pub TextGoesOn : {P : Type 0} → (P → List ℕ → Type 0) → Printing → LinesValue → LinesValue → P → P → List ℕ
    → List ℕ → List ℕ → Type 0
TextGoesOn Reads Prints lines lines_now printer printer_now piece before after =
    (added : List ℕ) × (after ≡ before ++ added) × GoesOn Reads Prints lines lines_now printer printer_now piece added

-- whatever a printer has read before, it reads the bytes of an answer of the reader of lines to a piece, and `added` is
-- printed for the line, if one was lent
abbrev pub Hears : {P : Type 0} → (P → List ℕ → Type 0) → Printing → P → P → List ℕ → Fed → List ℕ → Type 0
Hears Reads Prints printer printer_now piece fed added =
    (s text : List ℕ) → Reads printer s → Prints s text → Feeds s piece fed
    → Reads printer_now (s ++ take fed.used piece) × Prints (s ++ take fed.used piece) (text ++ added)

-- what is printed at the end of what a printer and its reader of lines have read
abbrev pub EndText : {P : Type 0} → (P → List ℕ → Type 0) → Printing → LinesValue → P → List ℕ → Type 0
EndText Reads Ends lines printer text = (s : List ℕ) → StandsAfter lines s → Reads printer s → Ends s text

-- whatever a printer has read, something may be printed at its end
abbrev pub MayEnd : (P : Type 0) → (P → List ℕ → Type 0) → Printing → Type 0
MayEnd P Reads Ends = (printer : P) (s : List ℕ) → Reads printer s → (ending : List ℕ) × Ends s ending

-- What a reader has left, and what a writer holds, is Some list if the prover knows its bytes, and else None: then the
-- next five definitions say nothing.

-- a reader was read to its end, and a writer gained all that is printed for its bytes
abbrev pub WroteAll : Printing → Printing → Option (List ℕ) → Option (List ℕ) → Option (List ℕ)
    → Option (List ℕ) → Type 0
WroteAll Prints Ends left still_left held now =
    (s text : List ℕ) × Consumes left still_left s × StreamText Prints Ends s text × Appends held now text

-- a reader lost the bytes s and then `more`, and a writer gained just what is printed for the lines of s
abbrev pub WroteLinesOf : Printing → List ℕ → List ℕ → Option (List ℕ) → Option (List ℕ) → Option (List ℕ)
    → Option (List ℕ) → Type 0
WroteLinesOf Prints s more left still_left held now = (text : List ℕ) × Consumes left still_left (s ++ more)
    × Prints s text × Appends held now text

-- a writer gained just what is printed for the lines of all that was read
abbrev pub WroteRead : Printing → Option (List ℕ) → Option (List ℕ) → Option (List ℕ) → Option (List ℕ) → Type 0
WroteRead Prints left still_left held now = (s : List ℕ) × WroteLinesOf Prints s [] left still_left held now

-- a writer gained just what is printed for the lines of some front of what was read
abbrev pub WroteLines : Printing → Option (List ℕ) → Option (List ℕ) → Option (List ℕ) → Option (List ℕ) → Type 0
WroteLines Prints left still_left held now = (s more : List ℕ) × WroteLinesOf Prints s more left still_left held now

-- a writer gained a front of what is printed for what was read, and at least one byte of it is missing
abbrev pub WroteFront : Printing → Printing → Option (List ℕ) → Option (List ℕ) → Option (List ℕ)
    → Option (List ℕ) → Type 0
WroteFront Prints Ends left still_left held now =
    (s text : List ℕ) × Consumes left still_left s × StreamText Prints Ends s text × GainedFront held now text
