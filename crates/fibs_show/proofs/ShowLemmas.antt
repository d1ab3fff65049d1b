-- The lines that are printed, one after the other.
use Rattle.std.proofs.Common.{◌≡◌, ℕ, ◌≤◌, List, [], ◌∷◌, ◌++◌, Bool, true, false, Option, None, Some, Result, Ok, Err, OnOk, refl, sym, ap, subst, ◌∙◌, append_assoc, take, drop, length, codes, arith, ◌+◌, ◌-◌, not, true≢false, is_some, ◌||◌}
use Rattle.std.specs.List.{list_all, list_any}
use Rattle.std.proofs.lemmas.Bool.{and_parts}
use Rattle.std.specs.Prelude.{◌↔◌}
use Rattle.fibs_lines.specs.Lines.{ReadLine}
use Rattle.fibs_lines.specs.LinesValue.{LinesValue}
use Rattle.fibs_lines.specs.Literal.{is_literal}
use Rattle.fibs_messages.specs.Line.{ReadingValue, IsReading}
use Rattle.fibs_messages.specs.Message.{HasNumber, IsNumbered}
use Rattle.fibs_engine.specs.Escape.{escaped, is_escaped}
use Rattle.fibs_engine.proofs.EscapeLemmas.{escaped_plain}
use Rattle.fibs_engine.specs.Readings.{reading_text}
use Rattle.fibs_engine.specs.Streams.{Gains}
use Rattle.fibs_engine.proofs.StreamLemmas.{gains_rest}
use Rattle.fibs_show.specs.Show.{ShownAs, ShownLine}

-- a line that was cut
pub cut_line : (line : ReadLine) → line.cut ≡ true → ShownLine line (codes "cut " ++ escaped line.bytes)
cut_line line e =
    let P : Bool → Type 0 = λ b. ShownAs b line.bytes (codes "cut " ++ escaped line.bytes) in
    subst P (sym e) refl

-- a line that was not
pub read_line : (line : ReadLine) (r : ReadingValue) → line.cut ≡ false → IsReading line.bytes r
    → ShownLine line (reading_text r)
read_line line r e h =
    let P : Bool → Type 0 = λ b. ShownAs b line.bytes (reading_text r) in
    subst P (sym e) (r, h, refl)

-- what is read of a line is printed, if a call appends it
pub reading_shown : {T E : Type 0} (r : Result T E) (line old now shown : List ℕ) (reading : ReadingValue)
    → IsReading line reading → shown ≡ reading_text reading → OnOk r (now ≡ old ++ shown)
    → OnOk r ((x : ReadingValue) × IsReading line x × (now ≡ old ++ reading_text x))
reading_shown (Ok t) line old now shown reading reads same e = (reading, reads, e ∙ ap (λ (l : List ℕ). old ++ l) same)
reading_shown (Err e) line old now shown reading reads same h = tt

-- a line that does not begin with `board:`
pub no_board : (line : List ℕ) (test found : Bool) → found ≡ test → found ≡ false → test ≡ true → ⊥
no_board line test found is other holds = true≢false (sym holds ∙ (sym is ∙ other))

-- a line in which no number is found
pub no_number : (line : List ℕ) (found : Option ℕ) (none : Bool) → is_some found ≡ not none → none ≡ true
    → ((n : ℕ) → (found ≡ Some n) ↔ HasNumber line n) → IsNumbered line → ⊥
no_number line None none is absent exact w = none_some w.0 ((exact w.0).1 w.1)
  where
    none_some : (n : ℕ) → ◌≡◌ {A = Option ℕ} None (Some n) → ⊥
    none_some n e = cc
no_number line (Some n) none is absent exact w = true≢false (is ∙ ap not absent)

-- a literal byte is shown as it is
literal_shown : (b : ℕ) → is_literal b ≡ true → is_escaped b ≡ false
literal_shown b h = grind arith

-- so are literal bytes
none_escaped : (bytes : List ℕ) → list_all is_literal bytes ≡ true → list_any is_escaped bytes ≡ false
none_escaped [] h = refl
none_escaped (b ∷ bytes) h =
    let parts = and_parts (is_literal b) (list_all is_literal bytes) h in
    ap (λ x. x || list_any is_escaped bytes) (literal_shown b parts.0) ∙ none_escaped bytes parts.1

-- the text of literal bytes is their own
pub literal_escaped : (bytes : List ℕ) → list_all is_literal bytes ≡ true → escaped bytes ≡ bytes
literal_escaped bytes h = escaped_plain bytes (none_escaped bytes h)

-- a line that was not cut is shown by what is read of it, put behind a prefix
pub line_put : (line : ReadLine) (r : ReadingValue) (old now prefix text : List ℕ) → line.cut ≡ false
    → IsReading line.bytes r → reading_text r ≡ prefix ++ text → now ≡ old ++ (prefix ++ (text ++ (10 ∷ [])))
    → (shown : List ℕ) × ShownLine line shown × (now ≡ old ++ (shown ++ (10 ∷ [])))
line_put line r old now prefix text whole reads says put = (
  reading_text r,
  read_line line r whole reads,
  put ∙ ap (λ l. old ++ l) (sym (append_assoc prefix text (10 ∷ [])))
      ∙ ap (λ l. old ++ (l ++ (10 ∷ []))) (sym says),
)

-- a line's text and its end are appended
pub line_more : (before mid after shown : List ℕ) → mid ≡ before ++ shown → after ≡ mid ++ (10 ∷ [])
    → after ≡ before ++ (shown ++ (10 ∷ []))
line_more before mid after shown first last =
    last ∙ ap (λ l. l ++ (10 ∷ [])) first ∙ append_assoc before shown (10 ∷ [])

-- what was put on a page is printed for a longer front of the piece
pub gains_put : (lines : LinesValue) (piece page now added : List ℕ) (at used : ℕ) → at ≤ length piece
    → Gains ShownLine lines lines (take at piece) page → now ≡ page ++ added
    → Gains ShownLine lines lines (take used (take (length piece - at) (drop at piece))) added
    → Gains ShownLine lines lines (take (at + used) piece) now
gains_put lines piece page now added at used fits before put next =
    subst (Gains ShownLine lines lines (take (at + used) piece)) (sym put)
    (gains_rest ShownLine lines lines lines piece page added at used fits before next)
