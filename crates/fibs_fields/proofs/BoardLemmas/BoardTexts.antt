-- A line says a board exactly if its pieces are the board's fields, and has then no wrong field.
use Rattle.std.proofs.Common.{◌≡◌, ℕ, ◌<◌, ◌+◌, ◌^◌, true, List, [], ◌∷◌, ◌++◌, Some, None, Result, Ok, Err, map, replicate, codes, append_assoc, arith, refl, sym, ap, ◌∙◌}
use Rattle.std.specs.Prelude.{ℤ, FitsSigned, IfOk, IfErr}
use Rattle.std.specs.Fmt.{signed_decimal}
use Rattle.std.specs.Int.{w32}
use Rattle.std.specs.List.{All, AllByRecursion, join_with_byte}
use Rattle.std.proofs.lemmas.Fmt.{signed_decimal_injective}
use Rattle.std.proofs.lemmas.List.Elements.{All-head, All-tail}
use Rattle.std.proofs.lemmas.List.{append-nil}
use Rattle.std.proofs.lemmas.List.Splits.{join_with_byte-slice_split}
use Rattle.fibs_fields.specs.Board.{BoardFields, IsBoard, BoardText, Fit, field_values, kinds, texts, spelling, pieces, Wrong}
use Rattle.fibs_fields.specs.Spaces.{without_spaces}
use Rattle.fibs_fields.specs.Field.{a_number_of}
use Rattle.fibs_fields.specs.Numerals.{after_colons}
use Rattle.fibs_fields.specs.Decimal.{allows}
use Rattle.fibs_fields.specs.DecimalReading.{IsNarrow}
use Rattle.fibs_fields.specs.BoardReading.{first_fault}
use Rattle.fibs_fields.specs.declared.values.Values.{Values}
use Rattle.fibs_fields.specs.declared.fault.FieldFault.{FieldFault}
use Rattle.fibs_fields.proofs.BoardLemmas.Pieces.{IsFieldByte, name_bytes, number_bytes, pieces-join, join_no_space, without_spaces-append}
use Rattle.fibs_fields.proofs.NumberLemmas.CappedNumbers.{allowed_narrow}
use Rattle.fibs_fields.proofs.NumberLemmas.Spelled.{number_in-written}
use Rattle.fibs_fields.proofs.BoardLemmas.OneNumberMore.{join_is_after}
use Rattle.fibs_fields.proofs.BoardLemmas.FieldTable.{all_narrow}
use Rattle.fibs_fields.proofs.FieldLemmas.Options.{option_same, some_none}
use Rattle.fibs_fields.proofs.BoardLemmas.FirstFaults.{least_from_first, first_from_least}
use lib.Signed.{mag}

-- a number that a field may have is small
pub small_number : (values : Values) (z : ℤ) → IsNarrow values → allows values z ≡ true → mag z < 2 ^ 63
small_number values z fits good =
    let narrow : FitsSigned w32 z = allowed_narrow values z fits good in omega (arith, narrow.sfits)

-- no number of a board has a colon or a space
numbers_bytes : (vs : List Values) (zs : List ℤ) → All IsNarrow vs → Fit vs zs
    → AllByRecursion (All IsFieldByte) (map signed_decimal zs)
numbers_bytes [] [] narrow h = tt
numbers_bytes [] (z ∷ zs) narrow h = absurd h
numbers_bytes (v ∷ vs) [] narrow h = absurd h
numbers_bytes (v ∷ vs) (z ∷ zs) narrow h = (
  number_bytes z (small_number v z (All-head IsNarrow v vs narrow) h.0),
  numbers_bytes vs zs (All-tail IsNarrow v vs narrow) h.1,
)

-- nor has the word `board`
word_bytes : All IsFieldByte (codes "board")
word_bytes = name_bytes (codes "board") refl

-- nor has any field after it
rest_bytes : (b : BoardFields) → IsBoard b
    → AllByRecursion (All IsFieldByte) (b.player ∷ b.opponent ∷ map signed_decimal b.numbers)
rest_bytes b h =
    (name_bytes b.player h.0, (name_bytes b.opponent h.1, numbers_bytes field_values b.numbers all_narrow h.2))

-- the pieces of a board's spelling are its fields
pub pieces-spelling : (b : BoardFields) → IsBoard b → pieces (spelling b) ≡ texts b
pieces-spelling b h =
    pieces-join (codes "board") (b.player ∷ b.opponent ∷ map signed_decimal b.numbers) word_bytes (rest_bytes b h)

-- without the spaces at its end the line of a board is its spelling
pub without_spaces-spelling : (b : BoardFields) (n : ℕ) → IsBoard b
    → without_spaces (spelling b ++ replicate n 32) ≡ spelling b
without_spaces-spelling b n h =
    without_spaces-append (spelling b) n
    (join_no_space (codes "board") (b.player ∷ b.opponent ∷ map signed_decimal b.numbers) word_bytes
    (rest_bytes b h))

-- the pieces of a line that says a board are its fields
pub pieces_of_board : (b : BoardFields) (line : List ℕ) → BoardText b line → pieces (without_spaces line) ≡ texts b
pieces_of_board b line h =
    ap (λ l. pieces (without_spaces l)) h.1.1 ∙ ap pieces (without_spaces-spelling b h.1.0 h.0) ∙ pieces-spelling b h.0

-- numbers that fit have no fault
numbers_right : (n : ℕ) (vs : List Values) (zs : List ℤ) → All IsNarrow vs → Fit vs zs
    → first_fault n (map a_number_of vs) (map signed_decimal zs) ≡ None
numbers_right n [] [] narrow h = refl
numbers_right n [] (z ∷ zs) narrow h = absurd h
numbers_right n (v ∷ vs) [] narrow h = absurd h
numbers_right n (v ∷ vs) (z ∷ zs) narrow h =
    rw (number_in-written v z (All-head IsNarrow v vs narrow) h.0)
    (numbers_right (n + 1) vs zs (All-tail IsNarrow v vs narrow) h.1)

-- a board's fields have no fault
pub texts_right : (b : BoardFields) → IsBoard b → first_fault 1 kinds (texts b) ≡ None
texts_right b h = rw (h.0, h.1) (numbers_right 4 field_values b.numbers all_narrow h.2)

-- numbers with one text are one
numbers_same : (vs : List Values) (ys zs : List ℤ) → All IsNarrow vs → Fit vs ys → Fit vs zs
    → map signed_decimal ys ≡ map signed_decimal zs → ys ≡ zs
numbers_same [] [] [] narrow g h e = refl
numbers_same [] (y ∷ ys) zs narrow g h e = absurd g
numbers_same [] [] (z ∷ zs) narrow g h e = absurd h
numbers_same (v ∷ vs) [] zs narrow g h e = absurd g
numbers_same (v ∷ vs) (y ∷ ys) [] narrow g h e = absurd h
numbers_same (v ∷ vs) (y ∷ ys) (z ∷ zs) narrow g h e =
    let narrow-v = All-head IsNarrow v vs narrow in
    let heads : signed_decimal y ≡ signed_decimal z = cc in
    let tails : map signed_decimal ys ≡ map signed_decimal zs = cc in
    let first : y ≡ z =
    signed_decimal_injective y z (small_number v y narrow-v g.0) (small_number v z narrow-v h.0) heads in
    let rest : ys ≡ zs = numbers_same vs ys zs (All-tail IsNarrow v vs narrow) g.1 h.1 tails in
    (λ i. first i ∷ rest i)

-- different boards have different fields
pub texts_same : (a b : BoardFields) → IsBoard a → IsBoard b → texts a ≡ texts b → a ≡ b
texts_same a b g h e =
    let player : a.player ≡ b.player = cc in
    let opponent : a.opponent ≡ b.opponent = cc in
    let written : map signed_decimal a.numbers ≡ map signed_decimal b.numbers = cc in
    let numbers : a.numbers ≡ b.numbers = numbers_same field_values a.numbers b.numbers all_narrow g.2 h.2 written in
    (λ i. record { player = player i; opponent = opponent i; numbers = numbers i })

-- a line whose pieces are the fields of a board says it
pub board_from_pieces : (b : BoardFields) (line : List ℕ) (n : ℕ) → IsBoard b
    → line ≡ without_spaces line ++ replicate n 32 → pieces (without_spaces line) ≡ texts b → BoardText b line
board_from_pieces b line n h spaces e =
    let text : without_spaces line ≡ spelling b =
    sym (join_with_byte-slice_split 58 (without_spaces line)) ∙ ap (join_with_byte 58) e in
    (h, (n, spaces ∙ ap (λ l. l ++ replicate n 32) text))

-- the first fault is the least wrong field, and no other is
pub wrong_from_first : (line : List ℕ) (e : FieldFault) → first_fault 1 kinds (pieces (without_spaces line)) ≡ Some e
    → Wrong line e.field e.fault
wrong_from_first line e h =
    let least = least_from_first 1 kinds (pieces (without_spaces line)) e h in
    let field : e.field ≡ 1 + least.place = least.field in
    (least.place, omega arith, least.here, least.before)

-- the other way round
pub first_from_wrong : (line : List ℕ) (e : FieldFault) → Wrong line e.field e.fault
    → first_fault 1 kinds (pieces (without_spaces line)) ≡ Some e
first_from_wrong line e h =
    first_from_least 1 kinds (pieces (without_spaces line)) h.0 e.fault h.2 h.3
    ∙ ap (λ n. Some (record { field = n; fault = e.fault })) (omega (arith, h.1))

-- what reading gave, against what the line says
pub record IsRead (line : List ℕ) (r : Result BoardFields FieldFault) : Type 0 where
  pub board : IfOk r IsBoard
  pub ok : IfOk r (λ b. pieces (without_spaces line) ≡ texts b)
  pub err : IfErr r (λ e. first_fault 1 kinds (pieces (without_spaces line)) ≡ Some e)

-- what was read is what the line says
pub read_found : (line : List ℕ) (r : Result BoardFields FieldFault) → IsRead line r → (n : ℕ)
    → line ≡ without_spaces line ++ replicate n 32 → IfOk r (λ b. BoardText b line)
read_found line (Ok b) h n spaces = board_from_pieces b line n h.board spaces h.ok
read_found line (Err e) h n spaces = tt

-- what the line says is read
pub read_only : (line : List ℕ) (r : Result BoardFields FieldFault) → IsRead line r → (b : BoardFields)
    → BoardText b line → r ≡ Ok b
read_only line (Ok a) h b says = ap Ok (texts_same a b h.board says.0 (sym h.ok ∙ pieces_of_board b line says))
read_only line (Err e) h b says =
    absurd (some_none e (sym h.err ∙ ap (first_fault 1 kinds) (pieces_of_board b line says) ∙ texts_right b says.0))

-- the fault is the first
pub read_wrong : (line : List ℕ) (r : Result BoardFields FieldFault) → IsRead line r
    → IfErr r (λ e. Wrong line e.field e.fault)
read_wrong line (Ok b) h = tt
read_wrong line (Err e) h = wrong_from_first line e h.err

-- a line with a wrong field is not read
pub read_least : (line : List ℕ) (r : Result BoardFields FieldFault) → IsRead line r → (e : FieldFault)
    → Wrong line e.field e.fault → r ≡ Err e
read_least line (Ok b) h e wrong =
    absurd (some_none e (sym (first_from_wrong line e wrong) ∙ ap (first_fault 1 kinds) h.ok ∙ texts_right b h.board))
read_least line (Err d) h e wrong = ap Err (option_same d e (sym h.err ∙ first_from_wrong line e wrong))

-- what is written part by part is the spelling
pub written_in_parts : (b : BoardFields) (o p q r s : List ℕ) → o ≡ codes "board:" → p ≡ o ++ b.player
    → q ≡ p ++ 58 ∷ [] → r ≡ q ++ b.opponent → s ≡ r ++ after_colons b.numbers → s ≡ spelling b
written_in_parts b o p q r s eo ep eq er es =
    es ∙ ap (λ l. l ++ after_colons b.numbers)
    (er ∙ ap (λ l. l ++ b.opponent) (eq ∙ ap (λ l. l ++ 58 ∷ []) (ep ∙ ap (λ l. l ++ b.player) eo)))
    ∙ append_assoc ((codes "board:" ++ b.player) ++ 58 ∷ []) b.opponent (after_colons b.numbers)
    ∙ append_assoc (codes "board:" ++ b.player) (58 ∷ []) (b.opponent ++ after_colons b.numbers)
    ∙ append_assoc (codes "board:") b.player (58 ∷ (b.opponent ++ after_colons b.numbers))
    ∙ ap (λ l. codes "board:" ++ (b.player ++ 58 ∷ l)) (sym (join_is_after b.opponent b.numbers))

-- boards with one spelling are one
pub spelling_same : (a b : BoardFields) → IsBoard a → IsBoard b → spelling a ≡ spelling b → a ≡ b
spelling_same a b g h e = texts_same a b g h (sym (pieces-spelling a g) ∙ ap pieces e ∙ pieces-spelling b h)

-- a spelling says its board
pub spelling_says : (b : BoardFields) → IsBoard b → BoardText b (spelling b)
spelling_says b h = (h, (0, sym (append-nil (spelling b))))
