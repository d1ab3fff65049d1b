-- Numbers of a board's line that are right, one after another.
use Rattle.std.proofs.Common.{◌≡◌, ◌∙◌, ◌==◌, ◌++◌, ◌+◌, ◌-◌, ◌<◌, ◌≤◌, ◌^◌, ℕ, Bool, true, false, not, List, [], ◌∷◌, Option, Some, None, Result, Ok, arith, refl, sym, ap, subst, append_assoc, drop, get_or, length, map, replicate, ⊎_elim, lit<}
use Rattle.std.specs.Fmt.{decimal}
use Rattle.std.specs.Prelude.{is_none, pos}
use Rattle.std.specs.Str.Parse.{digits_value}
use Rattle.std.specs.List.{All, list_all, range_with_len}
use Rattle.std.specs.Result.{result_err}
use Rattle.std.proofs.lemmas.Bool.{and_parts, cases_lt}
use Rattle.std.proofs.lemmas.Bool.Decides.{nat_tests}
use Rattle.std.proofs.lemmas.Fmt.{decimal_digit}
use Rattle.std.proofs.lemmas.Int.{ints}
use Rattle.std.proofs.lemmas.List.{drop_more, map-append, replicate_more}
use Rattle.std.proofs.lemmas.List.Elements.{All-weaker}
use Rattle.std.proofs.lemmas.List.FromFn.{get_or-range_with_len, length-range_with_len}
use Rattle.std.proofs.lemmas.List.Splits.{slice_split_at, slice_split_none}
use Rattle.std.proofs.lemmas.List.Sums.{AllPass-from_list_all}
use Rattle.std.proofs.lemmas.Str.Parse.{digits_value_short}
use Rattle.fibs_fields.specs.Board.{checkers, count, edge, field_values, flag, kinds, pieces, place, side}
use Rattle.fibs_fields.specs.BoardReading.{first_fault, fault_or, pieces_of, pieces_left}
use Rattle.fibs_show.specs.RightNumbers.{AreRight, DigitAt, NoFault, are_right, cube, die, is_right, score, turn}
use Rattle.fibs_fields.specs.Decimal.{allows, is_positive, number_in}
use Rattle.fibs_fields.specs.Field.{Kind, FieldValue, NameField, TextField, a_name, a_number_of, a_text}
use Rattle.fibs_fields.specs.FieldReading.{Left, left, field_at, text_at, value_in}
use Rattle.fibs_fields.specs.declared.fault.Fault.TheVariants.{NotANumber}
use Rattle.fibs_fields.specs.declared.fault.FieldFault.{FieldFault}
use Rattle.fibs_fields.specs.declared.values.Values.{Values}
use Rattle.fibs_fields.specs.declared.values.Values.TheVariants.{Between}
use Rattle.fibs_fields.proofs.NumberLemmas.Spelled.{number_in-written, own, positive_parts, positive_spelled}
use Rattle.fibs_fields.proofs.FieldLemmas.Options.{some_none}
use Rattle.fibs_fields.proofs.BoardLemmas.NextFields.{name_next, pair_same}
use Rattle.fibs_fields.proofs.BoardLemmas.Pieces.{no_colons, number_bytes}

-- a number that the values allow, as a piece between colons
pub record IsNumber (values : Values) (piece : List ℕ) : Type 0 where
  pub no_colon : All (λ c. (c == 58) ≡ false) piece
  pub no_fault : result_err (number_in values piece) ≡ None

-- what the test of an option says
none_from_test : {A : Type 0} (o : Option A) → is_none o ≡ true → o ≡ None
none_from_test None h = refl
none_from_test (Some x) h = cc

-- what the test of a piece says
pub number_from_test : (values : Values) (piece : List ℕ) → is_right values piece ≡ true → IsNumber values piece
number_from_test values piece h =
    let parts = and_parts (list_all (λ c. not (c == 58)) piece) (is_none (result_err (number_in values piece))) h in
    record {
      no_colon = All-weaker (λ c. not (c == 58) ≡ true) (λ c. (c == 58) ≡ false)
          (λ c (each : not (c == 58) ≡ true). grind (arith, nat_tests)) piece
          (AllPass-from_list_all (λ c. not (c == 58)) piece parts.0);
      no_fault = none_from_test (result_err (number_in values piece)) parts.1;
    }

-- what passes a test in a range, each in turn, passes it
in_range : (p : ℕ → Bool) (low count d : ℕ) → list_all p (range_with_len low count) ≡ true → low ≤ d
    → d < low + count → p d ≡ true
in_range p low count d all above below =
    let inside : d - low < count = omega arith in
    let there : low + (d - low) ≡ d = omega arith in
    sym (ap p (get_or-range_with_len low count (d - low) 0 inside ∙ there))
    ∙ AllPass-from_list_all p (range_with_len low count) all (d - low) 0
    (omega (arith, length-range_with_len low count))

-- a number and a colon
pub number_right : (values : Values) (text piece : List ℕ) (at to : ℕ) → IsNumber values piece
    → drop at text ≡ piece ++ 58 ∷ drop to text → AreRight (values ∷ []) text at to
number_right values text piece at to number is = record {
  all = λ later none n.
      ap (λ l. first_fault n (a_number_of values ∷ later) (pieces l)) is
      ∙ ap (first_fault n (a_number_of values ∷ later))
      (slice_split_at (λ c. c == 58) piece 58 (drop to text) number.no_colon refl)
      ∙ ap (λ o. fault_or n o (first_fault (n + 1) later (pieces (drop to text)))) number.no_fault ∙ none (n + 1);
}

-- numbers, and more after them
pub then_right : (vs ws : List Values) (text : List ℕ) (at mid to : ℕ) → AreRight vs text at mid
    → AreRight ws text mid to → AreRight (vs ++ ws) text at to
then_right vs ws text at mid to first second = record {
  all = λ later none.
      subst (λ (kinds : List Kind). NoFault kinds (pieces (drop at text)))
      (sym (append_assoc (map a_number_of vs) (map a_number_of ws) later)
      ∙ ap (λ kinds. kinds ++ later) (sym (map-append a_number_of vs ws)))
      (first.all (map a_number_of ws ++ later) (second.all later none));
}

-- a byte that is known, and what follows
pub byte_then : (text rest : List ℕ) (at byte : ℕ) → at < length text → get_or text at 0 ≡ byte
    → drop (at + 1) text ≡ rest → drop at text ≡ byte ∷ rest
byte_then text rest at byte within is then =
    drop_more text at 0 within ∙ ap (λ c. c ∷ drop (at + 1) text) is ∙ ap (λ l. byte ∷ l) then

-- a digit, a colon, and what follows
pub digit_then : (text : List ℕ) (at to low high : ℕ) → DigitAt text at low high → to ≡ at + 2
    → drop at text ≡ get_or text at 0 ∷ 58 ∷ drop to text
digit_then text at to low high digit there =
    byte_then text (58 ∷ drop to text) at (get_or text at 0) (omega (arith, digit.within)) refl
    (byte_then text (drop to text) (at + 1) 58 digit.within digit.colon (ap (λ n. drop n text) (omega arith)))

-- a number whose last digit is after a front that is known
pub digit_right : (values : Values) (text front : List ℕ) (start at to low high : ℕ)
    → drop start text ≡ front ++ drop at text → DigitAt text at low high
    → are_right values front low (high + 1 - low) ≡ true → to ≡ at + 2 → AreRight (values ∷ []) text start to
digit_right values text front start at to low high is digit each there =
    let d = get_or text at 0 in
    let below : d < low + (high + 1 - low) = omega (arith, digit.low, digit.high) in
    number_right values text (front ++ d ∷ []) start to
    (number_from_test values (front ++ d ∷ [])
    (in_range (λ e. is_right values (front ++ e ∷ [])) low (high + 1 - low) d each digit.low below))
    (is ∙ ap (λ l. front ++ l) (digit_then text at to low high digit there)
    ∙ sym (append_assoc front (d ∷ []) (58 ∷ drop to text)))

-- the front of one byte, by its bounds
pub front_one : (text : List ℕ) (at byte : ℕ) → at < length text → byte ≤ get_or text at 0 → get_or text at 0 ≤ byte
    → drop at text ≡ byte ∷ drop (at + 1) text
front_one text at byte within low high = byte_then text (drop (at + 1) text) at byte within (omega arith) refl

-- as many numbers, and one more
pub one_more_right : (values : Values) (count : ℕ) (text : List ℕ) (at mid to : ℕ)
    → AreRight (replicate count values) text at mid → AreRight (values ∷ []) text mid to
    → AreRight (replicate (count + 1) values) text at to
one_more_right values count text at mid to many one =
    subst (λ vs. AreRight vs text at to) (replicate_more count values)
    (then_right (replicate count values) (values ∷ []) text at mid to many one)

-- what is written of a number in a range is one of its numbers
pub decimal_right : (least most n : ℕ) → least ≤ n → n ≤ most → most < 2 ^ 31
    → IsNumber (Between (pos least) (pos most)) (decimal n)
decimal_right least most n low high small =
    let allowed : allows (Between (pos least) (pos most)) (pos n) ≡ true = grind (arith, ints, nat_tests) in
    record {
      no_colon = no_colons (decimal n) (number_bytes (pos n) (omega arith));
      no_fault =
          ap result_err
          (number_in-written (Between (pos least) (pos most)) (pos n)
          (record { sfits = omega arith }, record { sfits = omega arith }) allowed);
    }

-- one digit is
pub digit_number : (least most d : ℕ) → 48 + least ≤ d → d ≤ 57 → 9 ≤ most → most < 2 ^ 31
    → IsNumber (Between (pos least) (pos most)) (d ∷ [])
digit_number least most d low high room small =
    let text : decimal (d - 48) ≡ d ∷ [] =
    decimal_digit (d - 48) (omega arith) ∙ ap (λ c. c ∷ []) (omega arith) in
    subst (IsNumber (Between (pos least) (pos most))) text
    (decimal_right least most (d - 48) (omega arith) (omega arith) small)

-- digits that begin with no 0 are, if the range has room for as many
pub digits_number : (least most k : ℕ) (ds : List ℕ) → is_positive ds ≡ true → length ds ≤ k → 10 ^ k ≤ most + 1
    → most < 2 ^ 31 → least ≤ 1 → IsNumber (Between (pos least) (pos most)) ds
digits_number least most k ds positive short room small low =
    let parts = positive_parts ds positive in
    let below : digits_value 10 ds < 10 ^ k = digits_value_short own ds k parts.digits short in
    let text : decimal (digits_value 10 ds) ≡ ds = positive_spelled ds parts (omega arith) in
    let above : 0 < digits_value 10 ds = ⊎_elim (λ (some : 0 < digits_value 10 ds). some)
    (λ (none : digits_value 10 ds ≤ 0).
    let zero_text : ds ≡ 48 ∷ [] =
    sym text ∙ ap decimal (omega arith) ∙ decimal_digit 0 (lit< tt) in
    absurd (parts.lead (ap (λ (l : List ℕ). get_or l 0 0) zero_text)))
    (cases_lt 0 (digits_value 10 ds)) in
    subst (IsNumber (Between (pos least) (pos most))) text
    (decimal_right least most (digits_value 10 ds) (omega arith) (omega arith) small)

-- a number is all that follows
pub last_right : (values : Values) (piece : List ℕ) → IsNumber values piece
    → NoFault (a_number_of values ∷ []) (pieces piece)
last_right values piece number n =
    ap (first_fault n (a_number_of values ∷ [])) (slice_split_none (λ c. c == 58) piece number.no_colon)
    ∙ ap (λ o. fault_or n o None) number.no_fault

-- all fields but the last are right, and the last is
pub all_right : (text : List ℕ) (a b c d e f g : ℕ) → AreRight (count ∷ replicate 2 score) text 0 a
    → AreRight (replicate 26 place) text a b → AreRight (turn ∷ replicate 4 die ++ cube ∷ []) text b c
    → AreRight (replicate 3 flag ++ replicate 2 side ++ replicate 2 edge) text c d
    → AreRight (replicate 5 checkers) text d e → AreRight (count ∷ []) text e f → AreRight (count ∷ []) text f g
    → NoFault (a_number_of count ∷ []) (pieces (drop g text))
    → first_fault 4 (map a_number_of field_values) (pieces text) ≡ None
unfolding field_values
all_right text a b c d e f g scores places cubes sides off forced crawford last =
    let all =
    then_right _ _ text 0 f g
    (then_right _ _ text 0 e f
    (then_right _ _ text 0 d e
    (then_right _ _ text 0 c d
    (then_right _ _ text 0 b c (then_right _ _ text 0 a b scores places) cubes)
    sides)
    off)
    forced)
    crawford in
    all.all (a_number_of count ∷ []) last 4

-- a line that begins with `board:`
pub board_line : (line : List ℕ) → 6 ≤ length line → get_or line 0 0 ≡ 98 → get_or line 1 0 ≡ 111 → get_or line 2 0 ≡ 97
    → get_or line 3 0 ≡ 114 → get_or line 4 0 ≡ 100 → get_or line 5 0 ≡ 58
    → first_fault 1 kinds (pieces line)
    ≡ first_fault 2 (a_name ∷ a_name ∷ map a_number_of field_values) (pieces (drop 6 line))
board_line line long b o a r d colon =
    ap (λ l. first_fault 1 kinds (pieces l))
    (byte_then line _ 0 98 (omega arith) b
    (byte_then line _ 1 111 (omega arith) o
    (byte_then line _ 2 97 (omega arith) a
    (byte_then line _ 3 114 (omega arith) r
    (byte_then line _ 4 100 (omega arith) d (byte_then line _ 5 58 (omega arith) colon refl))))))

-- a text of a line is one
text_same : (s t : List ℕ) (l m : Left) → ◌≡◌ {A = Result (FieldValue × Left) FieldFault} (Ok (TextField s, l))
    (Ok (TextField t, m)) → s ≡ t
text_same s t l m h =
    let same : TextField s ≡ TextField t = (pair_same (TextField s) (TextField t) l m h).0 in
    cc

-- the numbers of no text are not right
some_number : first_fault 4 (map a_number_of field_values) (pieces []) ≡ None → ⊥
unfolding field_values
some_number h = some_none (record { field = 4; fault = NotANumber }) h

-- the numbers of what is left are right if those of its text are
numbers_of : (c : ℕ) (rest : Option (List ℕ)) (m : Left) (text : List ℕ)
    → field_at a_text 0 (left c rest) ≡ Ok (TextField text, m)
    → first_fault 4 (map a_number_of field_values) (pieces text) ≡ None
    → first_fault 4 (map a_number_of field_values) (pieces_of rest) ≡ None
unfolding field_at text_at value_in
numbers_of c None m text is right =
    absurd (some_number (ap (λ t. first_fault 4 (map a_number_of field_values) (pieces t))
    (text_same [] text (left c None) m is) ∙ right))
numbers_of c (Some s) m text is right =
    ap (λ t. first_fault 4 (map a_number_of field_values) (pieces t)) (text_same s text (left c None) m is) ∙ right

-- two names, and a text whose numbers are right
pub names_then : (text numbers : List ℕ) (player opponent : List ℕ) (k l m n : Left) → k ≡ left 58 (Some text)
    → field_at a_name 2 k ≡ Ok (NameField player, l) → field_at a_name 3 l ≡ Ok (NameField opponent, m)
    → field_at a_text 0 m ≡ Ok (TextField numbers, n)
    → first_fault 4 (map a_number_of field_values) (pieces numbers) ≡ None
    → first_fault 2 (a_name ∷ a_name ∷ map a_number_of field_values) (pieces text) ≡ None
names_then text numbers player opponent k l m n start first second rest right =
    let colon : k.separator ≡ 58 = ap (λ (x : Left). x.separator) start in
    let one = name_next 2 k l player colon first in
    let two = name_next 3 l m opponent one.colon second in
    ap (λ x. first_fault 2 (a_name ∷ a_name ∷ map a_number_of field_values) (pieces_left x)) (sym start)
    ∙ one.later (a_name ∷ map a_number_of field_values) ∙ two.later (map a_number_of field_values)
    ∙ numbers_of m.separator m.rest n numbers rest right
