-- Pieces between colons.
use Rattle.std.proofs.Common.{◌≡◌, ℕ, suc, ◌<◌, ◌-◌, ◌^◌, ◌==◌, ◌&&◌, true, false, List, [], ◌∷◌, ◌++◌, length, replicate, arith, nat_lt, nat_le, refl, ap, ◌∙◌, length-append}
use Rattle.std.specs.Prelude.{ℤ, pos, negsuc}
use Rattle.std.specs.Char.{is_ascii_digit}
use Rattle.std.specs.List.{list_all, All, AllByRecursion, join_with_byte}
use Rattle.std.specs.Fmt.{decimal, signed_decimal}
use Rattle.std.proofs.lemmas.Bool.{and_parts}
use Rattle.std.proofs.lemmas.Bool.Decides.{nat_tests}
use Rattle.std.proofs.lemmas.Fmt.{digits_decimal}
use Rattle.std.proofs.lemmas.List.{get_or_append_left, get_or-replicate, length-replicate}
use Rattle.std.proofs.lemmas.List.Elements.{All-append, All-weaker, All-cons}
use Rattle.std.proofs.lemmas.List.Splits.{slice_split_none, slice_split_at}
use Rattle.std.proofs.lemmas.List.Sums.{AllPass-from_list_all}
use Rattle.fibs_fields.specs.Spaces.{without_spaces}
use Rattle.fibs_fields.specs.Board.{pieces}
use Rattle.fibs_fields.specs.Name.{is_name, is_name_byte}
use Rattle.fibs_fields.proofs.NumberLemmas.Spelled.{own}
use Rattle.fibs_fields.proofs.FieldLemmas.Spaces.{without_spaces_at}
use Rattle.std.proofs.Math.Seq.{take-append_seam, get_or-append_right}
use lib.Signed.{mag}

-- neither a colon nor a space
pub record IsFieldByte (c : ℕ) : Type 0 where
  pub no_colon : (c == 58) ≡ false
  pub no_space : (c == 32) ≡ false

-- a name has neither
pub name_bytes : (name : List ℕ) → is_name name ≡ true → All IsFieldByte name
name_bytes name h =
    All-weaker (λ c. is_name_byte c ≡ true) IsFieldByte
    (λ c (each : is_name_byte c ≡ true). record
    { no_colon = grind (arith, nat_tests); no_space = grind (arith, nat_tests) })
    name
    (AllPass-from_list_all is_name_byte name
    (and_parts (nat_lt 0 (length name) && nat_le (length name) 64) (list_all is_name_byte name) h).1)

-- nor have digits
digit_bytes : (ds : List ℕ) → list_all is_ascii_digit ds ≡ true → All IsFieldByte ds
digit_bytes ds h =
    All-weaker (λ c. is_ascii_digit c ≡ true) IsFieldByte
    (λ c (each : is_ascii_digit c ≡ true). record
    { no_colon = grind (arith, nat_tests); no_space = grind (arith, nat_tests) })
    ds (AllPass-from_list_all is_ascii_digit ds h)

-- nor has a number
pub number_bytes : (z : ℤ) → mag z < 2 ^ 63 → All IsFieldByte (signed_decimal z)
number_bytes (pos n) limit = digit_bytes (decimal n) (digits_decimal own n (omega arith))
number_bytes (negsuc n) limit =
    All-cons IsFieldByte 45 (decimal (suc n)) (record { no_colon = refl; no_space = refl })
    (digit_bytes (decimal (suc n)) (digits_decimal own (suc n) (omega arith)))

-- such a text has no colon
pub no_colons : (text : List ℕ) → All IsFieldByte text → All (λ c. (c == 58) ≡ false) text
no_colons = All-weaker IsFieldByte (λ c. (c == 58) ≡ false) (λ c h. h.no_colon)

-- the pieces of fields that are joined by colons are the fields
pub pieces-join : (x : List ℕ) (xs : List (List ℕ)) → All IsFieldByte x → AllByRecursion (All IsFieldByte) xs
    → pieces (join_with_byte 58 (x ∷ xs)) ≡ x ∷ xs
pieces-join x [] h hs = slice_split_none (λ c. c == 58) x (no_colons x h)
pieces-join x (y ∷ ys) h hs =
    slice_split_at (λ c. c == 58) x 58 (join_with_byte 58 (y ∷ ys)) (no_colons x h) refl
    ∙ ap (λ l. x ∷ l) (pieces-join y ys hs.0 hs.1)

-- no space is among them
pub join_no_space : (x : List ℕ) (xs : List (List ℕ)) → All IsFieldByte x → AllByRecursion (All IsFieldByte) xs
    → All (λ c. (c == 32) ≡ false) (join_with_byte 58 (x ∷ xs))
join_no_space x [] h hs = All-weaker IsFieldByte (λ c. (c == 32) ≡ false) (λ c each. each.no_space) x h
join_no_space x (y ∷ ys) h hs =
    All-append (λ c. (c == 32) ≡ false) x (58 ∷ join_with_byte 58 (y ∷ ys))
    (All-weaker IsFieldByte (λ c. (c == 32) ≡ false) (λ c each. each.no_space) x h)
    (All-cons (λ c. (c == 32) ≡ false) 58 (join_with_byte 58 (y ∷ ys)) refl (join_no_space y ys hs.0 hs.1))

-- what is before the spaces
pub without_spaces-append : (text : List ℕ) (n : ℕ) → All (λ c. (c == 32) ≡ false) text
    → without_spaces (text ++ replicate n 32) ≡ text
without_spaces-append text n h =
    without_spaces_at (text ++ replicate n 32) (length text) (omega (arith, length-append text (replicate n 32)))
    (λ k after within.
    let inside : k - length text < n =
    omega (arith, length-append text (replicate n 32), length-replicate {A = ℕ} n 32) in
    ap (λ c. c == 32)
    (get_or-append_right text (replicate n 32) k 0 after ∙ get_or-replicate n (k - length text) 32 0 inside))
    (λ some.
    let last : length text - 1 < length text = omega arith in
    ap (λ c. c == 32) (get_or_append_left text (replicate n 32) 0 (length text - 1) last) ∙ h (length text - 1) 0 last)
    ∙ take-append_seam text (replicate n 32)
