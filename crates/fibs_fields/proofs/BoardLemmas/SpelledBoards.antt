-- A board's spelling is printed text of at most 329 bytes.
use Rattle.std.proofs.Common.{◌≡◌, ℕ, suc, ◌<◌, ◌≤◌, ◌^◌, ◌&&◌, true, List, [], ◌∷◌, ◌++◌, length, codes, refl, subst, arith, rules, nat_lt, nat_le, length-append}
use Rattle.std.specs.Prelude.{All, ℤ, pos, negsuc}
use Rattle.std.specs.Char.{is_ascii_digit}
use Rattle.std.specs.Fmt.{decimal, signed_decimal}
use Rattle.std.specs.List.{list_all}
use Rattle.std.proofs.lemmas.Bool.{and_parts}
use Rattle.std.proofs.lemmas.Bool.Decides.{nat_tests}
use Rattle.std.proofs.lemmas.Fmt.{digits_decimal}
use Rattle.std.proofs.lemmas.List.Elements.{All-append, All-cons, All-from_recursion, All-head, All-nil, All-tail, All-weaker}
use Rattle.std.proofs.lemmas.List.Sums.{AllPass-from_list_all}
use Rattle.fibs_fields.specs.Board.{BoardFields, IsBoard, Fit, field_values, spelling}
use Rattle.fibs_fields.specs.DecimalReading.{IsNarrow}
use Rattle.fibs_fields.specs.Name.{is_name, is_name_byte}
use Rattle.fibs_fields.specs.Numerals.{after_colons}
use Rattle.fibs_fields.specs.Printed.{IsPrinted}
use Rattle.fibs_fields.specs.declared.values.Values.{Values}
use Rattle.fibs_fields.proofs.BoardLemmas.BoardTexts.{written_in_parts, small_number}
use Rattle.fibs_fields.proofs.BoardLemmas.Lengths.{numbers_short, total_table}
use Rattle.fibs_fields.proofs.NumberLemmas.Spelled.{own}
use Rattle.fibs_fields.proofs.BoardLemmas.FieldTable.{all_narrow}
use lib.Signed.{mag}

-- the bytes of a name are printed ones
name_printed : (name : List ℕ) → is_name name ≡ true → All IsPrinted name
name_printed name h =
    let each =
    AllPass-from_list_all is_name_byte name
    (and_parts (nat_lt 0 (length name) && nat_le (length name) 64) (list_all is_name_byte name) h).1 in
    All-weaker (λ c. is_name_byte c ≡ true) IsPrinted
    (λ c (is : is_name_byte c ≡ true). (grind (arith, nat_tests), grind (arith, nat_tests))) name each

-- a name has at most 64
name_short : (name : List ℕ) → is_name name ≡ true → length name ≤ 64
name_short name h =
    let p = and_parts (nat_lt 0 (length name) && nat_le (length name) 64) (list_all is_name_byte name) h in
    let few = (and_parts (nat_lt 0 (length name)) (nat_le (length name) 64) p.0).1 in
    grind (arith, nat_tests)

-- digits are printed
digits_printed : (ds : List ℕ) → list_all is_ascii_digit ds ≡ true → All IsPrinted ds
digits_printed ds h =
    All-weaker (λ c. is_ascii_digit c ≡ true) IsPrinted
    (λ c (is : is_ascii_digit c ≡ true). (grind (arith, nat_tests), grind (arith, nat_tests))) ds
    (AllPass-from_list_all is_ascii_digit ds h)

-- and so is a number
number_printed : (z : ℤ) → mag z < 2 ^ 63 → All IsPrinted (signed_decimal z)
number_printed (pos n) limit = digits_printed (decimal n) (digits_decimal own n (omega arith))
number_printed (negsuc n) limit =
    All-cons IsPrinted 45 (decimal (suc n)) (omega arith, omega arith)
    (digits_printed (decimal (suc n)) (digits_decimal own (suc n) (omega arith)))

-- the numbers of a board are printed after their colons
numbers_printed : (vs : List Values) (zs : List ℤ) → All IsNarrow vs → Fit vs zs → All IsPrinted (after_colons zs)
numbers_printed [] [] narrow h = All-nil IsPrinted
numbers_printed [] (z ∷ zs) narrow h = absurd h
numbers_printed (v ∷ vs) [] narrow h = absurd h
numbers_printed (v ∷ vs) (z ∷ zs) narrow h =
    let first = number_printed z (small_number v z (All-head IsNarrow v vs narrow) h.0) in
    let rest = numbers_printed vs zs (All-tail IsNarrow v vs narrow) h.1 in
    All-append IsPrinted (58 ∷ signed_decimal z) (after_colons zs)
    (All-cons IsPrinted 58 (signed_decimal z) (omega arith, omega arith) first) rest

-- the spelling part by part, from the left
head_of : BoardFields → List ℕ
head_of b = codes "board:" ++ b.player

-- with the opponent
names_of : BoardFields → List ℕ
names_of b = (head_of b ++ 58 ∷ []) ++ b.opponent

-- with the numbers
parts_of : BoardFields → List ℕ
parts_of b = names_of b ++ after_colons b.numbers

-- the parts are the spelling
parts_spell : (b : BoardFields) → parts_of b ≡ spelling b
unfolding parts_of names_of head_of
parts_spell b =
    written_in_parts b (codes "board:") (head_of b) (head_of b ++ 58 ∷ []) (names_of b) (parts_of b) refl refl refl refl
    refl

-- they are printed text
parts_printed : (b : BoardFields) → IsBoard b → All IsPrinted (parts_of b)
unfolding parts_of names_of head_of
parts_printed b h =
    let head =
    All-append IsPrinted (codes "board:") b.player (All-from_recursion IsPrinted (codes "board:") (search rules))
    (name_printed b.player h.0) in
    let colon =
    All-append IsPrinted (head_of b) (58 ∷ []) head
    (All-cons IsPrinted 58 [] (omega arith, omega arith) (All-nil IsPrinted)) in
    let names = All-append IsPrinted (head_of b ++ 58 ∷ []) b.opponent colon (name_printed b.opponent h.1) in
    All-append IsPrinted (names_of b) (after_colons b.numbers) names
    (numbers_printed field_values b.numbers all_narrow h.2)

-- they are short
parts_short : (b : BoardFields) → IsBoard b → length (parts_of b) ≤ 329
unfolding parts_of names_of head_of
parts_short b h =
    let all = numbers_short field_values b.numbers all_narrow h.2 in
    let head = length-append (codes "board:") b.player in
    let colon = length-append (head_of b) (58 ∷ []) in
    let names = length-append (head_of b ++ 58 ∷ []) b.opponent in
    let word : length (codes "board:") ≡ 6 = refl in
    omega (
      arith,
      all,
      head,
      colon,
      names,
      word,
      total_table,
      length-append (names_of b) (after_colons b.numbers),
      name_short b.player h.0,
      name_short b.opponent h.1,
    )

-- a board's spelling is printed text
pub spelling_printed : (b : BoardFields) → IsBoard b → All IsPrinted (spelling b)
spelling_printed b h = subst (All IsPrinted) (parts_spell b) (parts_printed b h)

-- of at most 329 bytes
pub spelling_short : (b : BoardFields) → IsBoard b → length (spelling b) ≤ 329
spelling_short b h = subst (λ (l : List ℕ). length l ≤ 329) (parts_spell b) (parts_short b h)
