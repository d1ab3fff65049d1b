-- The texts of places.
use Rattle.std.proofs.Common.{◌≡◌, ◌≢◌, ◌≤◌, ◌<◌, ℕ, List, ◌∷◌, length, get_or, ap, sym, ◌∙◌, arith, rules, inl, inr}
use Rattle.std.specs.Prelude.{All, codes, decimal}
use Rattle.std.proofs.lemmas.Bool.{cases_eq}
use Rattle.std.proofs.lemmas.Bool.Decides.{nat_tests}
use Rattle.std.proofs.lemmas.Fmt.{decimal_is_IsNumeral, decimal_injective, length-decimal-le}
use Rattle.std.proofs.lemmas.List.Elements.{All-from_get_or, All-from_recursion, All-same, All-weaker, All-head}
use Rattle.std.proofs.lemmas.Str.Parse.{digit_at}
use Rattle.fibs_position.specs.declared.direction.Direction.{Direction}
use Rattle.fibs_position.specs.declared.direction.Direction.TheVariants.{Down, Up}
use Rattle.fibs_position.specs.DirectionOf.{line_place}
use Rattle.fibs_commands.specs.Commands.{place_text}

-- what a place's text can be
pub data PlaceCase (direction : Direction) (place : ℕ) : Type 0 where
  on_bar : place ≡ 25 → place_text direction place ≡ codes "bar" → PlaceCase direction place
  borne_off : place ≡ 0 → place_text direction place ≡ codes "off" → PlaceCase direction place
  numbered : 0 < place → place < 25 → place_text direction place ≡ decimal (line_place direction place)
      → PlaceCase direction place

-- a place that is neither the bar nor off has its number
pub place_number : (direction : Direction) (place : ℕ) → place ≢ 25 → place ≢ 0
    → place_text direction place ≡ decimal (line_place direction place)
place_number direction place not_bar some = grind (arith, nat_tests)

-- a place is the bar, off the board, or a number of the direction
pub place_cases : (direction : Direction) (place : ℕ) → place ≤ 25 → PlaceCase direction place
place_cases direction place le = elim (cases_eq place 25) [
  | inl bar ↦ on_bar bar (ap (λ i. place_text direction i) bar)
  | inr not_bar ↦ elim (cases_eq place 0) [
    | inl none ↦ borne_off none (ap (λ i. place_text direction i) none)
    | inr some ↦ numbered (omega arith) (omega arith) (place_number direction place not_bar some)
  ]
]

-- the number of a place is small
pub line_place_low : (direction : Direction) (place : ℕ) → place ≤ 25 → line_place direction place ≤ 25
line_place_low Down place le = le
line_place_low Up place le = omega arith

-- places with one number are one
pub line_place_injective : (direction : Direction) (i j : ℕ) → i ≤ 25 → j ≤ 25
    → line_place direction i ≡ line_place direction j → i ≡ j
line_place_injective Down i j li lj e = e
line_place_injective Up i j li lj e = omega arith

-- a digit
abbrev pub IsDigitByte : ℕ → Type 0
IsDigitByte byte = (48 ≤ byte) × (byte ≤ 57)

-- a byte of a place's text: a digit or a small letter
abbrev pub IsPlaceByte : ℕ → Type 0
IsPlaceByte byte = (48 ≤ byte) × (byte ≤ 122)

-- a place's number is written in digits
pub decimal_digits : (n : ℕ) → n ≤ 25 → All IsDigitByte (decimal n)
decimal_digits n le =
    let numeral = decimal_is_IsNumeral n (omega arith) in
    All-from_get_or IsDigitByte (decimal n) 0 (λ i lt. digit_at (decimal n) i numeral.0.1 lt)

-- a place is written in digits and letters
pub place_bytes : (direction : Direction) (place : ℕ) → place ≤ 25 → All IsPlaceByte (place_text direction place)
place_bytes direction place le = elim (place_cases direction place le) [
  | on_bar is text ↦ All-same IsPlaceByte _ _ text (All-from_recursion IsPlaceByte (codes "bar") (search rules))
  | borne_off is text ↦ All-same IsPlaceByte _ _ text (All-from_recursion IsPlaceByte (codes "off") (search rules))
  | numbered low high text ↦ All-same IsPlaceByte _ _ text
      (All-weaker IsDigitByte IsPlaceByte (λ b digit. (digit.0, omega arith)) (decimal (line_place direction place))
      (decimal_digits (line_place direction place) (line_place_low direction place le)))
]

-- a place is written in three bytes at most
pub place_short : (direction : Direction) (place : ℕ) → place ≤ 25 → length (place_text direction place) ≤ 3
place_short direction place le = elim (place_cases direction place le) [
  | on_bar is text ↦ omega (arith, ap length text)
  | borne_off is text ↦ omega (arith, ap length text)
  | numbered low high text ↦
      omega (arith, ap length text, line_place_low direction place le, length-decimal-le 2 (line_place direction place))
]

-- a text of digits is no word
pub word_differs : (b : ℕ) (bs : List ℕ) (n : ℕ) → n ≤ 25 → 57 < b → b ∷ bs ≡ decimal n → ⊥
word_differs b bs n le letter e =
    let digit : IsDigitByte b = All-head IsDigitByte b bs (All-same IsDigitByte _ _ e (decimal_digits n le)) in
    let low : b ≤ 57 = digit.1 in
    omega arith

-- in one direction, places with one text are one
pub place_injective : (direction : Direction) (i j : ℕ) → i ≤ 25 → j ≤ 25
    → place_text direction i ≡ place_text direction j → i ≡ j
place_injective direction i j li lj e = elim (place_cases direction i li) [
  | on_bar bar text ↦ elim (place_cases direction j lj) [
    | on_bar bar2 text2 ↦ bar ∙ sym bar2
    | borne_off none text2 ↦
        let words : codes "bar" ≡ codes "off" = sym text ∙ e ∙ text2 in
        absurd (omega (arith, ap (λ l. get_or l 0 0) words))
    | numbered low high text2 ↦
        absurd (word_differs 98 _ (line_place direction j) (line_place_low direction j lj) (omega arith)
        (sym text ∙ e ∙ text2))
  ]
  | borne_off none text ↦ elim (place_cases direction j lj) [
    | on_bar bar text2 ↦
        let words : codes "off" ≡ codes "bar" = sym text ∙ e ∙ text2 in
        absurd (omega (arith, ap (λ l. get_or l 0 0) words))
    | borne_off none2 text2 ↦ none ∙ sym none2
    | numbered low high text2 ↦
        absurd (word_differs 111 _ (line_place direction j) (line_place_low direction j lj) (omega arith)
        (sym text ∙ e ∙ text2))
  ]
  | numbered low high text ↦ elim (place_cases direction j lj) [
    | on_bar bar text2 ↦
        absurd (word_differs 98 _ (line_place direction i) (line_place_low direction i li) (omega arith)
        (sym text2 ∙ sym e ∙ text))
    | borne_off none text2 ↦
        absurd (word_differs 111 _ (line_place direction i) (line_place_low direction i li) (omega arith)
        (sym text2 ∙ sym e ∙ text))
    | numbered low2 high2 text2 ↦
        let few_i : line_place direction i ≤ 25 = line_place_low direction i li in
        let few_j : line_place direction j ≤ 25 = line_place_low direction j lj in
        line_place_injective direction i j li lj
        (decimal_injective (line_place direction i) (line_place direction j) (omega arith) (omega arith)
        (sym text ∙ e ∙ text2))
  ]
]
