-- The function that gives a line its reading is exact.
use Rattle.std.proofs.Common.{◌≡◌, ◌==◌, ℕ, Bool, true, false, if◌then◌else◌, List, [], ◌∷◌, Option, Some, None, Result, Ok, Err, IfSome, ◌↔◌, codes, map, refl, sym, ap, ◌∙◌, subst, inl, inr, ◌⊎◌, true≢false}
use Rattle.std.specs.Prelude.{ℤ}
use Rattle.std.specs.Fmt.{signed_decimal}
use Rattle.std.specs.List.{starts_with, All}
use Rattle.std.proofs.lemmas.List.Elements.{All-head, All-tail}
use Rattle.fibs_fields.specs.declared.fault.Fault.{Fault}
use Rattle.fibs_fields.specs.declared.values.Values.{Values}
use Rattle.fibs_fields.specs.declared.fault.FieldFault.{FieldFault}
use Rattle.fibs_fields.specs.Decimal.{number_in}
use Rattle.fibs_fields.specs.DecimalReading.{IsNarrow}
use Rattle.fibs_fields.specs.Board.{BoardFields, IsBoard, BoardText, Wrong, Fit, field_values, kinds, pieces, texts}
use Rattle.fibs_fields.specs.Spaces.{without_spaces}
use Rattle.fibs_fields.specs.BoardReading.{first_fault}
use Rattle.fibs_fields.specs.Split.{before, after}
use Rattle.fibs_fields.specs.Field.{FieldValue}
use Rattle.fibs_fields.specs.FieldReading.{fields_at, left}
use Rattle.fibs_messages.specs.LineReading.{IsAsRead}
use Rattle.fibs_messages.specs.Message.{kinds_of, kept, number_word, HasNumber}
use Rattle.fibs_messages.specs.Line.{board_line, IsReading, number_or_0, numbers_in, board_in, board_reading, message_reading, other_reading, reading_value, IsOfNumber, ReadingIsExact}
use Rattle.fibs_fields.proofs.BoardLemmas.FieldTable.{all_narrow}
use Rattle.fibs_fields.proofs.NumberLemmas.Spelled.{number_in-written}
use Rattle.fibs_fields.proofs.BoardLemmas.BoardTexts.{pieces_of_board, texts_right, first_from_wrong}
use Rattle.fibs_fields.proofs.BoardLemmas.EachLine.{board_or_wrong}
use Rattle.fibs_messages.proofs.LineLemmas.Readings.{is_reading}
use Rattle.fibs_messages.proofs.MessageLemmas.MessageReadings.{board_not_numbered, has_number, number_of}

-- the numbers that are written are found again
numbers_back : (vs : List Values) (zs : List ℤ) → All IsNarrow vs → Fit vs zs
    → numbers_in vs (map signed_decimal zs) ≡ zs
numbers_back [] [] narrow h = refl
numbers_back [] (z ∷ zs) narrow h = absurd h
numbers_back (v ∷ vs) [] narrow h = absurd h
numbers_back (v ∷ vs) (z ∷ zs) narrow h =
    let first : number_or_0 (number_in v (signed_decimal z)) ≡ z =
    ap number_or_0 (number_in-written v z (All-head IsNarrow v vs narrow) h.0) in
    let rest : numbers_in vs (map signed_decimal zs) ≡ zs = numbers_back vs zs (All-tail IsNarrow v vs narrow) h.1 in
    (λ i. first i ∷ rest i)

-- so is a board
board_back : (b : BoardFields) → IsBoard b → board_in (texts b) ≡ b
board_back b h =
    ap (λ n. let c : BoardFields = record { player = b.player; opponent = b.opponent; numbers = n } in c)
    (numbers_back field_values b.numbers all_narrow h.2)

-- a board line
board_case : (line : List ℕ) → starts_with (λ a b. a == b) line (codes "board:") ≡ true
    → ((b : BoardFields) × BoardText b line) ⊎ ((k : ℕ) × (f : Fault) × Wrong line k f)
    → IsReading line (board_reading (first_fault 1 kinds (pieces (without_spaces line))) (pieces (without_spaces line)))
board_case line is (inl b) =
    let ps = pieces_of_board b.0 line b.1 in
    let none : first_fault 1 kinds (pieces (without_spaces line)) ≡ None =
    ap (first_fault 1 kinds) ps ∙ texts_right b.0 b.1.0 in
    let same : board_reading (first_fault 1 kinds (pieces (without_spaces line)))
    (pieces (without_spaces line)) ≡ board_line b.0 =
    ap (λ o. board_reading o (pieces (without_spaces line))) none ∙ ap (λ p. board_line (board_in p)) ps
    ∙ ap board_line (board_back b.0 b.1.0) in
    subst (IsReading line) (sym same) (is, b.1)
board_case line is (inr w) =
    let e : FieldFault = record { field = w.0; fault = w.1 } in
    let some = first_from_wrong line e w.2 in
    subst (λ o. IsReading line (board_reading o (pieces (without_spaces line)))) (sym some) (inl (is, refl, w.2))

-- a numbered line
message_case : (line : List ℕ) (n : ℕ) (r : Result (List FieldValue) FieldFault) → number_word (before 32 line) ≡ Some n
    → fields_at (kinds_of n) 1 (left 32 (after 32 (kept n line))) ≡ r → IsAsRead line (message_reading n r)
message_case line n (Ok fields) number h = record { number = number; fields = h }
message_case line n (Err e) number h = record { number = number; fields = h }

-- a line that is no board line
other_case : (line : List ℕ) (o : Option ℕ) → number_word (before 32 line) ≡ o → IsAsRead line (other_reading o line)
other_case line None h = (h, refl)
other_case line (Some n) h = message_case line n (fields_at (kinds_of n) 1 (left 32 (after 32 (kept n line)))) h refl

-- either
by_test : (line : List ℕ) (t : Bool) → starts_with (λ a b. a == b) line (codes "board:") ≡ t
    → IsReading line
    (if t then board_reading (first_fault 1 kinds (pieces (without_spaces line))) (pieces (without_spaces line))
    else other_reading (number_word (before 32 line)) line)
by_test line true h = board_case line h (board_or_wrong line)
by_test line false h =
    is_reading line (other_reading (number_word (before 32 line)) line) (λ is. true≢false (sym is ∙ h))
    (other_case line (number_word (before 32 line)) refl)

-- the function gives each line its reading
pub reading_is_exact : ReadingIsExact
unfolding reading_value
reading_is_exact line = by_test line (starts_with (λ a b. a == b) line (codes "board:")) refl

-- what a message's fields say is said of its number
of_number_fields : (n : ℕ) (r : Result (List FieldValue) FieldFault) → IsOfNumber n (message_reading n r)
of_number_fields n (Ok fields) = refl
of_number_fields n (Err e) = refl

-- a line that begins with a number is no board line
of_number_test : (line : List ℕ) (n : ℕ) (t : Bool) → starts_with (λ a b. a == b) line (codes "board:") ≡ t
    → number_word (before 32 line) ≡ Some n
    → IsOfNumber n (if t then board_reading (first_fault 1 kinds (pieces (without_spaces line)))
    (pieces (without_spaces line)) else other_reading (number_word (before 32 line)) line)
of_number_test line n true is number = absurd (board_not_numbered line is (n, has_number line n number))
of_number_test line n false is number =
    subst (λ o. IsOfNumber n (other_reading o line)) (sym number)
    (of_number_fields n (fields_at (kinds_of n) 1 (left 32 (after 32 (kept n line)))))

-- the reading of a line that begins with a number says the number
pub reads_its_number : (line : List ℕ) (n : ℕ) → number_word (before 32 line) ≡ Some n
    → IsOfNumber n (reading_value line)
unfolding reading_value
reads_its_number line n number = of_number_test line n (starts_with (λ a b. a == b) line (codes "board:")) refl number

-- of a word that may be a number
pub reads_any_number : (line : List ℕ) (o : Option ℕ) → number_word (before 32 line) ≡ o
    → IfSome o (λ n. IsOfNumber n (reading_value line))
reads_any_number line None h = tt
reads_any_number line (Some n) h = reads_its_number line n h

-- the number that a line begins with is the one that it has
pub has_one_number : (line : List ℕ) (o : Option ℕ) → number_word (before 32 line) ≡ o → (n : ℕ)
    → (o ≡ Some n) ↔ HasNumber line n
has_one_number line o h n = ((λ e. has_number line n (h ∙ e)), (λ has. sym h ∙ number_of line n has))
