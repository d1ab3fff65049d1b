-- What is printed for a stream, one portion after the other.
use Rattle.std.proofs.Common.{◌≡◌, ℕ, ◌≤◌, List, [], ◌∷◌, ◌++◌, Option, None, Some, refl, sym, ap, subst, ◌∙◌, take, drop, append_assoc, append-nil, length, ◌≢◌, arith, ◌<◌, ◌+◌, ◌-◌, ◌*◌, length-append}
use Rattle.std.proofs.lemmas.List.{length-take, take_rest}
use Rattle.std.proofs.Math.Seq.{take-add}
use Rattle.std.proofs.Math.Nat.{mul-le-mul_right}
use Rattle.std.specs.Io.KnownBytes.{Appends, Consumes}
use Rattle.std.proofs.KnownBytes.{Consumes-nil, Appends-nil, Consumes-trans, Appends-trans}
use Rattle.fibs_lines.specs.Lines.{ReadLine, lines_of, value_of}
use Rattle.fibs_lines.specs.LinesValue.{LinesValue, StandsAfter}
use Rattle.fibs_lines.specs.Feeding.{Feeds, lent_lines}
use Rattle.fibs_lines.specs.declared.lines.Fed.{Fed}
use Rattle.fibs_lines.specs.declared.line.Line.{Line}
use Rattle.fibs_engine.specs.Reads.{LostAtMost}
use Rattle.fibs_engine.specs.Streams.{LinePrinting, LinesText, Printing, EachLine, StreamText, Gains, HasPrinted, GoesOn, Hears, EndText, MayEnd, WroteAll, WroteLinesOf, WroteFront}
use Rattle.fibs_engine.specs.Writing.{GainedFront}
use Rattle.fibs_engine.proofs.WriteLemmas.{front_after, front_of_more}

-- what is printed for some lines, and then for others
printed_append : (Prints : LinePrinting) (ls ms : List ReadLine) (x y : List ℕ) → LinesText Prints ls x
    → LinesText Prints ms y → LinesText Prints (ls ++ ms) (x ++ y)
printed_append Prints [] ms x y a b = subst (LinesText Prints ms) (ap (λ l. l ++ y) (sym a)) b
printed_append Prints (l ∷ ls) ms x y a b = (
  a.0,
  a.1 ++ y,
  a.2,
  printed_append Prints ls ms a.1 y a.3 b,
  ap (λ t. t ++ y) a.4 ∙ append_assoc a.0 (10 ∷ a.1) y,
)

-- what one call of `feed` lent, and what was appended for it
pub LentText : LinePrinting → Option Line → List ℕ → Type 0
LentText Prints line text = LinesText Prints (lent_lines line) text

-- for a line that was lent its text and a line end are printed
pub lent_some : (Prints : LinePrinting) (line : Line) (text : List ℕ) → Prints (value_of line) text
    → LentText Prints (Some line) (text ++ (10 ∷ []))
unfolding LentText
lent_some Prints line text h = (text, [], h, refl, refl)

-- nothing was read yet
pub gains_nothing : (Prints : LinePrinting) (lines : LinesValue) → Gains Prints lines lines [] []
gains_nothing Prints lines = record {
  gained = [];
  shown = refl;
  stands = λ s h. subst (StandsAfter lines) (sym (append-nil s)) h;
  gains = λ s h. ap lines_of (append-nil s) ∙ sym (append-nil (lines_of s));
}

-- a piece was fed up to its next line end, or whole
pub gains_fed : (Prints : LinePrinting) (old now : LinesValue) (piece text : List ℕ) (fed : Fed)
    → ((s : List ℕ) → StandsAfter old s → StandsAfter now (s ++ take fed.used piece))
    → ((s : List ℕ) → StandsAfter old s → Feeds s piece fed) → LentText Prints fed.line text
    → Gains Prints old now (take fed.used piece) text
unfolding LentText
gains_fed Prints old now piece text fed moves feeds lent =
    record { gained = lent_lines fed.line; shown = lent; stands = moves; gains = λ s h. (feeds s h).gains }

-- a further part of the portion was read
pub gains_more : (Prints : LinePrinting) (old mid now : LinesValue) (front part added text : List ℕ)
    → Gains Prints old mid front added → Gains Prints mid now part text
    → Gains Prints old now (front ++ part) (added ++ text)
gains_more Prints old mid now front part added text before next = record {
  gained = before.gained ++ next.gained;
  shown = printed_append Prints before.gained next.gained added text before.shown next.shown;
  stands = λ s h. subst (StandsAfter now) (append_assoc s front part) (next.stands (s ++ front) (before.stands s h));
  gains = λ s h.
      ap lines_of (sym (append_assoc s front part))
      ∙ next.gains (s ++ front) (before.stands s h)
      ∙ ap (λ l. l ++ next.gained) (before.gains s h)
      ∙ append_assoc (lines_of s) before.gained next.gained;
}

-- a part of a piece and then a part of the rest of it, as the code cuts it, are read
pub gains_rest : (Prints : LinePrinting) (old mid now : LinesValue) (piece added text : List ℕ) (at used : ℕ)
    → at ≤ length piece → Gains Prints old mid (take at piece) added
    → Gains Prints mid now (take used (take (length piece - at) (drop at piece))) text
    → Gains Prints old now (take (at + used) piece) (added ++ text)
gains_rest Prints old mid now piece added text at used fits before next =
    let rest = subst (λ l. Gains Prints mid now (take used l) text) (take_rest piece at) next in
    subst (λ l. Gains Prints old now l (added ++ text)) (sym (take-add at used piece))
    (gains_more Prints old mid now (take at piece) (take used (drop at piece)) added text before rest)

-- a line that was not lent is not printed
pub lent_none : (Prints : LinePrinting) → LentText Prints None []
unfolding LentText
lent_none Prints = refl

-- what is printed for the lines of what was read with a portion more
says_more : (Prints : LinePrinting) (lines after : LinesValue) (stream shown piece added : List ℕ)
    → StandsAfter lines stream → LinesText Prints (lines_of stream) shown → Gains Prints lines after piece added
    → LinesText Prints (lines_of (stream ++ piece)) (shown ++ added)
says_more Prints lines after stream shown piece added stands says more =
    subst (λ ls. LinesText Prints ls (shown ++ added)) (sym (more.gains stream stands))
    (printed_append Prints (lines_of stream) more.gained shown added says more.shown)

-- a printer has read and printed what is the same
at_same : {P : Type 0} (Reads : P → List ℕ → Type 0) (Prints : Printing) (lines : LinesValue) (printer : P)
    (s t text shown : List ℕ) → s ≡ t → text ≡ shown → HasPrinted Reads Prints lines printer s text
    → HasPrinted Reads Prints lines printer t shown
at_same Reads Prints lines printer s t text shown same_bytes same_text h =
    subst (λ l. HasPrinted Reads Prints lines printer l shown) same_bytes
    (subst (λ l. HasPrinted Reads Prints lines printer s l) same_text h)

-- nothing was read yet
pub goes_nowhere : {P : Type 0} (Reads : P → List ℕ → Type 0) (Prints : Printing) (lines : LinesValue) (printer : P)
    → GoesOn Reads Prints lines lines printer printer [] []
goes_nowhere Reads Prints lines printer = λ s text h.
    at_same Reads Prints lines printer s (s ++ []) text (text ++ []) (sym (append-nil s)) (sym (append-nil text)) h

-- a further part of the portion was read
pub goes_more : {P : Type 0} (Reads : P → List ℕ → Type 0) (Prints : Printing) (old mid now : LinesValue)
    (before between after : P) (front part added text : List ℕ) → GoesOn Reads Prints old mid before between front added
    → GoesOn Reads Prints mid now between after part text
    → GoesOn Reads Prints old now before after (front ++ part) (added ++ text)
goes_more Reads Prints old mid now before between after front part added text first next = λ s shown h.
    at_same Reads Prints now after _ _ _ _ (append_assoc s front part) (append_assoc shown added text)
    (next (s ++ front) (shown ++ added) (first s shown h))

-- a part of a piece and then a part of the rest of it, as the code cuts it, are read
pub goes_rest : {P : Type 0} (Reads : P → List ℕ → Type 0) (Prints : Printing) (old mid now : LinesValue)
    (before between after : P) (piece added text : List ℕ) (at used : ℕ) → at ≤ length piece
    → GoesOn Reads Prints old mid before between (take at piece) added
    → GoesOn Reads Prints mid now between after (take used (take (length piece - at) (drop at piece))) text
    → GoesOn Reads Prints old now before after (take (at + used) piece) (added ++ text)
goes_rest Reads Prints old mid now before between after piece added text at used fits first next =
    let rest = subst (λ l. GoesOn Reads Prints mid now between after (take used l) text) (take_rest piece at) next in
    subst (λ l. GoesOn Reads Prints old now before after l (added ++ text)) (sym (take-add at used piece))
    (goes_more Reads Prints old mid now before between after (take at piece) (take used (drop at piece)) added text
    first rest)

-- a piece was fed up to its next line end, or whole
pub goes_fed : {P : Type 0} (Reads : P → List ℕ → Type 0) (Prints : Printing) (old now : LinesValue) (before after : P)
    (piece added : List ℕ) (fed : Fed)
    → ((s : List ℕ) → StandsAfter old s → StandsAfter now (s ++ take fed.used piece))
    → ((s : List ℕ) → StandsAfter old s → Feeds s piece fed) → Hears Reads Prints before after piece fed added
    → GoesOn Reads Prints old now before after (take fed.used piece) added
goes_fed Reads Prints old now before after piece added fed moves feeds hears = λ s text h.
    let heard = hears s text h.reads h.prints (feeds s h.stands) in
    record { stands = moves s h.stands; reads = heard.0; prints = heard.1 }

-- a printer of lines goes on by whole lines
pub goes_by_lines : {P : Type 0} (Reads : P → List ℕ → Type 0) (Prints : LinePrinting) (old now : LinesValue)
    (before after : P) (piece added : List ℕ) → ((s : List ℕ) → Reads before s → Reads after (s ++ piece))
    → Gains Prints old now piece added → GoesOn Reads (EachLine Prints) old now before after piece added
goes_by_lines Reads Prints old now before after piece added keeps gains = λ s text h. record {
  stands = gains.stands s h.stands;
  reads = keeps s h.reads;
  prints = says_more Prints old now s text piece added h.stands h.prints gains;
}

-- and by a line that was lent
pub hears_lent : {P : Type 0} (Reads : P → List ℕ → Type 0) (Prints : LinePrinting) (before after : P)
    (piece added : List ℕ) (fed : Fed) → ((s : List ℕ) → Reads before s → Reads after (s ++ take fed.used piece))
    → LentText Prints fed.line added → Hears Reads (EachLine Prints) before after piece fed added
unfolding LentText
hears_lent Reads Prints before after piece added fed keeps lent = λ s text reads prints feeds. (
  keeps s reads,
  subst (λ ls. LinesText Prints ls (text ++ added)) (sym feeds.gains)
      (printed_append Prints (lines_of s) (lent_lines fed.line) text added prints lent),
)

-- what the loop over portions keeps after so many reads of at most `size` bytes: the bytes that were read, what is
-- printed for their lines, and that this was written
pub record Passed {P : Type 0} (Reads : P → List ℕ → Type 0) (Prints : Printing)
    (left still held now : Option (List ℕ)) (lines : LinesValue) (printer : P) (text : List ℕ) (reads size : ℕ)
    : Type 0 where
  pub stream : List ℕ
  pub shown : List ℕ
  pub took : Consumes left still stream
  pub at : HasPrinted Reads Prints lines printer stream shown
  pub wrote : Appends held now shown
  pub clear : text ≡ []
  pub enough : reads ≤ length stream
  pub few : length stream ≤ reads * size

-- before anything is read nothing is printed
pub passed_nothing : {P : Type 0} (Reads : P → List ℕ → Type 0) (Prints : Printing) (left held : Option (List ℕ))
    (lines : LinesValue) (printer : P) (text : List ℕ) (size : ℕ) → StandsAfter lines [] → Reads printer []
    → Prints [] [] → text ≡ [] → Passed Reads Prints left left held held lines printer text 0 size
passed_nothing Reads Prints left held lines printer text size stands reads prints clear = record {
  stream = [];
  shown = [];
  took = Consumes-nil left;
  at = record { stands = stands; reads = reads; prints = prints };
  wrote = Appends-nil held;
  clear = clear;
  enough = omega arith;
  few = omega arith;
}

-- one read more, of at least one byte
read_more : (stream piece : List ℕ) (reads size : ℕ) → reads ≤ length stream → length stream ≤ reads * size
    → 0 < length piece → length piece ≤ size
    → (reads + 1 ≤ length (stream ++ piece)) × (length (stream ++ piece) ≤ (reads + 1) * size)
read_more stream piece reads size enough few some fits =
    let both = length-append stream piece in
    (omega (arith, both), rw both (omega arith))

-- a portion was read, and its lines were written
pub passed_more : {P : Type 0} (Reads : P → List ℕ → Type 0) (Prints : Printing)
    (left still less held now more : Option (List ℕ)) (lines after : LinesValue) (printer next : P)
    (text piece added cleared : List ℕ) (reads size : ℕ)
    → Passed Reads Prints left still held now lines printer text reads size → Consumes still less piece
    → 0 < length piece → length piece ≤ size → GoesOn Reads Prints lines after printer next piece added
    → Appends now more added → cleared ≡ []
    → Passed Reads Prints left less held more after next cleared (reads + 1) size
passed_more Reads Prints left still less held now more lines after printer next text piece added cleared reads size p
    took some fits goes wrote clear =
    let bounds = read_more p.stream piece reads size p.enough p.few some fits in
    record {
      stream = p.stream ++ piece;
      shown = p.shown ++ added;
      took = Consumes-trans left still less p.stream piece p.took took;
      at = goes p.stream p.shown p.at;
      wrote = Appends-trans held now more p.shown added p.wrote wrote;
      clear = clear;
      enough = bounds.0;
      few = bounds.1;
    }

-- the lines of what was read before the last piece are written
pub passed_part : {P : Type 0} (Reads : P → List ℕ → Type 0) (Prints : Printing)
    (left still less held now : Option (List ℕ)) (lines : LinesValue) (printer : P) (text piece : List ℕ)
    (reads size : ℕ) → (p : Passed Reads Prints left still held now lines printer text reads size)
    → Consumes still less piece → WroteLinesOf Prints p.stream piece left less held now
passed_part Reads Prints left still less held now lines printer text piece reads size p took =
    (p.shown, Consumes-trans left still less p.stream piece p.took took, p.at.prints, p.wrote)

-- a write of the lines of a portion failed
pub passed_front : {P : Type 0} (Reads : P → List ℕ → Type 0) (Prints Ends : Printing) → MayEnd P Reads Ends
    → (left still less held now more : Option (List ℕ)) (lines after : LinesValue) (printer next : P)
    (text piece added : List ℕ) (reads size : ℕ)
    → Passed Reads Prints left still held now lines printer text reads size → Consumes still less piece
    → GoesOn Reads Prints lines after printer next piece added → GainedFront now more added
    → WroteFront Prints Ends left less held more
passed_front Reads Prints Ends law left still less held now more lines after printer next text piece added reads size p
    took goes broke =
    let at = goes p.stream p.shown p.at in
    let stream = p.stream ++ piece in
    let shown = p.shown ++ added in
    let end = law next stream at.reads in (
      stream,
      shown ++ end.0,
      Consumes-trans left still less p.stream piece p.took took,
      (shown, end.0, at.prints, end.1, refl),
      front_of_more held more shown end.0 (front_after held now more p.shown added p.wrote broke),
    )

-- all that was read, its lines, and what is printed at the end
ends_all : {P : Type 0} (Reads : P → List ℕ → Type 0) (Prints Ends : Printing)
    (left still less held now : Option (List ℕ)) (lines : LinesValue) (printer : P) (text ending : List ℕ)
    (reads size : ℕ) → (p : Passed Reads Prints left still held now lines printer text reads size)
    → Consumes still less [] → EndText Reads Ends lines printer ending
    → Consumes left less p.stream × StreamText Prints Ends p.stream (p.shown ++ ending)
ends_all Reads Prints Ends left still less held now lines printer text ending reads size p took end = (
  subst (Consumes left less) (append-nil p.stream) (Consumes-trans left still less p.stream [] p.took took),
  (p.shown, ending, p.at.prints, end p.stream p.at.stands p.at.reads, refl),
)

-- at the end everything is written
pub passed_whole : {P : Type 0} (Reads : P → List ℕ → Type 0) (Prints Ends : Printing)
    (left still less held now more : Option (List ℕ)) (lines : LinesValue) (printer : P) (text ending : List ℕ)
    (reads size : ℕ) → Passed Reads Prints left still held now lines printer text reads size → Consumes still less []
    → EndText Reads Ends lines printer ending → Appends now more ending → WroteAll Prints Ends left less held more
passed_whole Reads Prints Ends left still less held now more lines printer text ending reads size p took end wrote =
    let all = ends_all Reads Prints Ends left still less held now lines printer text ending reads size p took end in
    (p.stream, p.shown ++ ending, all.0, all.1, Appends-trans held now more p.shown ending p.wrote wrote)

-- or the last write failed
pub passed_whole_front : {P : Type 0} (Reads : P → List ℕ → Type 0) (Prints Ends : Printing)
    (left still less held now more : Option (List ℕ)) (lines : LinesValue) (printer : P) (text ending : List ℕ)
    (reads size : ℕ) → Passed Reads Prints left still held now lines printer text reads size → Consumes still less []
    → EndText Reads Ends lines printer ending → GainedFront now more ending
    → WroteFront Prints Ends left less held more
passed_whole_front Reads Prints Ends left still less held now more lines printer text ending reads size p took end
    broke =
    let all = ends_all Reads Prints Ends left still less held now lines printer text ending reads size p took end in
    (p.stream, p.shown ++ ending, all.0, all.1, front_after held now more p.shown ending p.wrote broke)

-- at most so many bytes were read, whether or not one more read gave some
pub passed_few : {P : Type 0} (Reads : P → List ℕ → Type 0) (Prints : Printing)
    (left still less held now : Option (List ℕ)) (lines : LinesValue) (printer : P) (text piece : List ℕ)
    (made reads size : ℕ) → Passed Reads Prints left still held now lines printer text made size
    → Consumes still less piece → length piece ≤ size → made < reads → LostAtMost (reads * size) left less
passed_few Reads Prints left still less held now lines printer text piece made reads size p took fits more =
    let both = length-append p.stream piece in
    let few = p.few in
    let all : (made + 1) * size ≤ reads * size = mul-le-mul_right size (omega (arith, more)) in
    (p.stream ++ piece, rw both (omega (arith, all)), Consumes-trans left still less p.stream piece p.took took)

-- a read that counted nothing took nothing
pub took_none : (left still : Option (List ℕ)) (count : ℕ) (portion : List ℕ) → count ≡ 0
    → Consumes left still (take count portion) → Consumes left still []
took_none left still count portion none took = subst (λ n. Consumes left still (take n portion)) none took

-- a part of a portion fits if the portion does
pub portion_part : (count : ℕ) (portion : List ℕ) (size : ℕ) → length portion ≡ size
    → length (take count portion) ≤ size
portion_part count portion size whole = omega (arith, length-take count portion, whole)

-- and it has a byte if something was counted
pub portion_some : (count : ℕ) (portion : List ℕ) → count ≢ 0 → count ≤ length portion → 0 < length (take count portion)
portion_some count portion some fits = omega (arith, length-take count portion, some)
