-- Numbers of a board's line that are right, one after another. No public contract rests on this.
use Rattle.std.specs.Prelude.{◌≡◌, ◌==◌, ◌&&◌, ◌++◌, ◌+◌, ◌<◌, ◌≤◌, ℕ, Bool, not, is_none, List, [], ◌∷◌, None, drop, length, map, negsuc, pos, slice_index}
use Rattle.std.specs.List.{list_all, range_with_len}
use Rattle.std.specs.Result.{result_err}
use Rattle.fibs_fields.specs.Board.{pieces}
use Rattle.fibs_fields.specs.BoardReading.{first_fault}
use Rattle.fibs_fields.specs.Decimal.{number_in}
use Rattle.fibs_fields.specs.Field.{Kind, a_number_of}
use Rattle.fibs_fields.specs.declared.values.Values.{Values}
use Rattle.fibs_fields.specs.declared.values.Values.TheVariants.{Between}

-- what a score, the turn, a die and the cube may be, as the table has them
abbrev pub score : Values
score = Between (pos 0) (pos 99999999)

abbrev pub turn : Values
turn = Between (negsuc 0) (pos 1)

abbrev pub die : Values
die = Between (pos 0) (pos 6)

abbrev pub cube : Values
cube = Between (pos 1) (pos 1048576)

-- no piece is wrong, whichever field is the first
abbrev pub NoFault : List Kind → List (List ℕ) → Type 0
NoFault kinds ps = (n : ℕ) → first_fault n kinds ps ≡ None

-- The text has, from the place `at` on, a number for each of these values that they allow, and a colon after each; `to`
-- is the place after the last colon. So no piece from `at` on is wrong if none from `to` on is.
pub record AreRight (vs : List Values) (text : List ℕ) (at to : ℕ) : Type 0 where
  pub all : (later : List Kind) → NoFault later (pieces (drop to text))
      → NoFault (map a_number_of vs ++ later) (pieces (drop at text))

-- at this place is a byte from `least` to `most`, and a colon after it
pub record DigitAt (text : List ℕ) (at least most : ℕ) : Type 0 where
  pub within : at + 1 < length text
  pub low : least ≤ slice_index text at
  pub high : slice_index text at ≤ most
  pub colon : slice_index text (at + 1) ≡ 58

-- the piece is a number that the values allow
abbrev pub is_right : Values → List ℕ → Bool
is_right values piece = list_all (λ c. not (c == 58)) piece && is_none (result_err (number_in values piece))

-- each piece is, that is the front and one byte more, of so many from `low` on
abbrev pub are_right : Values → List ℕ → ℕ → ℕ → Bool
are_right values front low count = list_all (λ d. is_right values (front ++ d ∷ [])) (range_with_len low count)
