-- Ratings, which are kept as hundredths.
use Rattle.std.specs.Prelude.{◌≡◌, ℕ, ◌+◌, ◌*◌, ◌/◌, ◌%◌, ◌<◌, ◌-◌, ◌&&◌, ◌||◌, Bool, true, false, cond, List, [], ◌∷◌, ◌++◌, Option, Some, None, Result, Ok, Err, decimal, nat_lt}
use Rattle.std.specs.Char.{is_ascii_digit}
use Rattle.std.specs.Str.Parse.{digits_value}
use Rattle.fibs_fields.specs.declared.fault.Fault.{Fault}
use Rattle.fibs_fields.specs.declared.fault.Fault.TheVariants.{NotANumber, OutOfRange}
use Rattle.fibs_fields.specs.Decimal.{numbers_of_32_bits, is_positive, is_zero}
use Rattle.fibs_fields.specs.Split.{before, after}

-- what may follow the whole number, and its hundredths: nothing, or a point and one or two digits
pub data FractionText : List ℕ → ℕ → Type 0 where
  no_fraction : FractionText [] 0
  tenths : {d : ℕ} → d < 10 → FractionText (46 ∷ (48 + d) ∷ []) (10 * d)
  hundredths : {d e : ℕ} → d < 10 → e < 10 → FractionText (46 ∷ (48 + d) ∷ (48 + e) ∷ []) (10 * d + e)

-- a spelling of a rating: a decimal, and what may follow it
pub record RatingText (rating : ℕ) (text : List ℕ) : Type 0 where
  pub whole : ℕ
  pub hundreds : ℕ
  pub fraction : List ℕ
  pub fraction_text : FractionText fraction hundreds
  pub text_is : text ≡ decimal whole ++ fraction
  pub rating_is : rating ≡ 100 * whole + hundreds

-- what comes after the point is one digit or two, or there is no point
abbrev pub is_fraction : Option (List ℕ) → Bool
is_fraction None = true
is_fraction (Some []) = false
is_fraction (Some (d ∷ [])) = is_ascii_digit d
is_fraction (Some (d ∷ e ∷ [])) = is_ascii_digit d && is_ascii_digit e
is_fraction (Some (d ∷ e ∷ f ∷ s)) = false

-- the hundredths of it
abbrev pub hundredths_of : Option (List ℕ) → ℕ
hundredths_of None = 0
hundredths_of (Some []) = 0
hundredths_of (Some (d ∷ [])) = 10 * (d - 48)
hundredths_of (Some (d ∷ e ∷ [])) = 10 * (d - 48) + (e - 48)
hundredths_of (Some (d ∷ e ∷ f ∷ s)) = 0

-- the form of a rating: a canonical decimal without sign, and a fraction or none
abbrev pub is_rating : List ℕ → Bool
is_rating text = (is_zero (before 46 text) || is_positive (before 46 text)) && is_fraction (after 46 text)

-- its hundredths
abbrev pub rating_value : List ℕ → ℕ
rating_value text = 100 * digits_value 10 (before 46 text) + hundredths_of (after 46 text)

-- the rating that a text spells, or what is wrong with it; a fault of the form comes before one of the range
abbrev pub rating_in : List ℕ → Result ℕ Fault
rating_in text =
    cond (is_rating text)
    (cond (nat_lt (rating_value text) numbers_of_32_bits) (Ok (rating_value text)) (Err OutOfRange))
    (Err NotANumber)

-- a rating as it is printed: always with two digits after its point
abbrev pub printed_rating : ℕ → List ℕ
printed_rating r = decimal (r / 100) ++ (46 ∷ (48 + r % 100 / 10) ∷ (48 + r % 10) ∷ [])
