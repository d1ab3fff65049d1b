-- What the words of a board lack, and what they determine.
use Rattle.std.proofs.Common.{◌≡◌, ◌⊎◌, ◌<◌, ◌+◌, ◌^◌, ◌==◌, ◌&&◌, ◌++◌, ℕ, zero, suc, Bool, true, false, not, cond, List, [], ◌∷◌, length, take, codes, refl, sym, ◌∙◌, ap, arith, lit<, nat_lt, nat_le, inl, inr}
use Rattle.std.specs.Prelude.{ℤ, pos, negsuc, slice_index_or}
use Rattle.std.specs.Fmt.{signed_decimal}
use Rattle.std.specs.List.{list_all}
use Rattle.std.specs.Ordering.{int_eq}
use Rattle.std.proofs.lemmas.Bool.{and_parts, false≢true}
use Rattle.std.proofs.lemmas.List.{append_cancel_left}
use Rattle.std.proofs.lemmas.Bool.Decides.{nat_tests}
use Rattle.std.proofs.lemmas.Int.{ints}
use Rattle.fibs_fields.specs.Board.{BoardFields, field_of}
use Rattle.fibs_fields.specs.Name.{is_name, is_name_byte}
use Rattle.fibs_fields.specs.FieldReading.{natural}
use Rattle.fibs_picture.specs.Picture.{match_length, doublers, is_one, cube}
use Rattle.fibs_picture.proofs.PictureLemmas.Parts.{lacks, lacks-append, decimal-lacks, ends-tell}
use Rattle.fibs_picture.proofs.PictureLemmas.Ranges.{Within, number-tells}

-- ---- numbers of a board's line

-- its digits have no byte below the digits
pub number-lacks : (c m : ℕ) (z : ℤ) → c < 45 → m < 2 ^ 32 → Within m z → lacks c (signed_decimal z) ≡ true
number-lacks c m (pos n) low few h = decimal-lacks c n (omega arith) (omega (arith, ints, h.1))
number-lacks c m (negsuc n) low few h = absurd (omega (arith, ints, h.0))

-- ---- words

-- a byte of a name is no line end
pub name-byte : (x : ℕ) → is_name_byte x ≡ true → not (x == 10) ≡ true
name-byte x h = grind (arith, nat_tests)

-- what follows from a test of each element holds of each
pub all-mono : (p q : ℕ → Bool) → ((x : ℕ) → p x ≡ true → q x ≡ true) → (xs : List ℕ) → list_all p xs ≡ true
    → list_all q xs ≡ true
all-mono p q f [] h = refl
all-mono p q f (x ∷ xs) h =
    let parts = and_parts (p x) (list_all p xs) h in
    rw (f x parts.0) (all-mono p q f xs parts.1)

-- a front of a text without a line end has none
pub take-lacks : (n : ℕ) (xs : List ℕ) → lacks 10 xs ≡ true → lacks 10 (take n xs) ≡ true
take-lacks zero xs h = refl
take-lacks (suc n) [] h = refl
take-lacks (suc n) (x ∷ xs) h =
    let parts = and_parts (not (x == 10)) (lacks 10 xs) h in
    rw parts.0 (take-lacks n xs parts.1)

-- the front of a name has no line end
pub front-lacks : (n : ℕ) (name : List ℕ) → is_name name ≡ true → lacks 10 (take n name) ≡ true
front-lacks n name h =
    let size = nat_lt 0 (length name) && nat_le (length name) 64 in
    let bytes = (and_parts size (list_all is_name_byte name) h).1 in
    take-lacks n name (all-mono is_name_byte (λ x. not (x == 10)) name-byte name bytes)

-- ---- dice

-- a digit is no line end
pub digit-plain : (n : ℕ) → not ((48 + n) == 10) ≡ true
digit-plain n = grind (arith, nat_tests)

-- a number that is found to be 0 is 0
pub is-zero : (n : ℕ) → (n == 0) ≡ true → n ≡ 0
is-zero n h = grind (arith, nat_tests)

-- dice with the same number are the same
pub natural-tells : (y z : ℤ) → Within 6 y → Within 6 z → natural y ≡ natural z → y ≡ z
natural-tells (pos m) (pos n) h k e = ap pos e
natural-tells (negsuc m) z h k e = absurd (omega (arith, ints, h.0))
natural-tells (pos m) (negsuc n) h k e = absurd (omega (arith, ints, k.0))

-- ---- the match

-- the length of a match, or that it has none
abbrev match_text : Bool → ℤ → List ℕ
match_text endless z = cond endless (codes "unlimited match") (codes "match to " ++ signed_decimal z)

-- these words have no line end
match_text-lacks : (endless : Bool) (z : ℤ) → Within 9999 z → lacks 10 (match_text endless z) ≡ true
match_text-lacks true z h = refl
match_text-lacks false z h = lacks-append 10 (codes "match to ") (signed_decimal z) refl (number-lacks 10 9999 z
    (lit< tt) (lit< tt) h)

-- the length of a board's match has no line end
pub match-lacks : (z : ℤ) → Within 9999 z → lacks 10 (match_length z) ≡ true
match-lacks z h = match_text-lacks (int_eq z (pos 9999)) z h

-- a length that is found to be 9999 is 9999
is-endless : (z : ℤ) → int_eq z (pos 9999) ≡ true → z ≡ pos 9999
is-endless z h = grind (arith, nat_tests)

-- a text that begins with u does not begin with m
letters-differ : (s t : List ℕ) → s ≡ t → slice_index_or s 0 0 ≡ 117 → slice_index_or t 0 0 ≡ 109 → ⊥
letters-differ s t e h k = absurd (omega (arith, h, k, ap (λ x. slice_index_or x 0 0) e))

-- equal words are of the same length
match_text-tells : (y z : ℤ) (a b : Bool) → a ≡ int_eq y (pos 9999) → b ≡ int_eq z (pos 9999) → Within 9999 y
    → Within 9999 z
    → match_text a y ≡ match_text b z → y ≡ z
match_text-tells y z true true p q h k e = is-endless y (sym p) ∙ sym (is-endless z (sym q))
match_text-tells y z true false p q h k e = absurd (letters-differ _ _ e refl refl)
match_text-tells y z false true p q h k e = absurd (letters-differ _ _ (sym e) refl refl)
match_text-tells y z false false p q h k e =
    number-tells 9999 y z (lit< tt) h k (append_cancel_left (codes "match to ") _ _ e)

-- boards with equal words have matches of the same length
pub match-tells : (y z : ℤ) → Within 9999 y → Within 9999 z → match_length y ≡ match_length z → y ≡ z
match-tells y z h k e = match_text-tells y z (int_eq y (pos 9999)) (int_eq z (pos 9999)) refl refl h k e

-- ---- the cube

-- who may double, without the comma
abbrev owners : Bool → Bool → List ℕ
owners true true = codes " in the middle"
owners true false = codes " yours"
owners false true = codes " the opponent's"
owners false false = codes " no doubling"

-- the comma comes first
doublers-comma : (a b : Bool) → doublers a b ≡ 44 ∷ owners a b
doublers-comma true true = refl
doublers-comma true false = refl
doublers-comma false true = refl
doublers-comma false false = refl

-- who may double has no line end
doublers-lacks : (a b : Bool) → lacks 10 (doublers a b) ≡ true
doublers-lacks true true = refl
doublers-lacks true false = refl
doublers-lacks false true = refl
doublers-lacks false false = refl

-- who may double is known by the first letter
abbrev own_read : List ℕ → Bool
own_read text = cond (slice_index_or text 1 0 == 105) true (slice_index_or text 1 0 == 121)

-- whether the opponent may double, read back from the words
abbrev other_read : List ℕ → Bool
other_read text = cond (slice_index_or text 1 0 == 105) true (slice_index_or text 1 0 == 116)

-- both are read back from the words
owners-read : (a b : Bool) → (own_read (owners a b) ≡ a) × (other_read (owners a b) ≡ b)
owners-read true true = (refl, refl)
owners-read true false = (refl, refl)
owners-read false true = (refl, refl)
owners-read false false = (refl, refl)

-- equal words are of the same doublers
owners-tell : (a b c d : Bool) → owners a b ≡ owners c d → (a ≡ c) × (b ≡ d)
owners-tell a b c d e = let x = owners-read a b in let y = owners-read c d in
    (sym x.0 ∙ ap own_read e ∙ y.0, sym x.1 ∙ ap other_read e ∙ y.1)

-- a cube, and who may double
abbrev cube_text : ℤ → Bool → Bool → List ℕ
cube_text z a b = codes "cube " ++ (signed_decimal z ++ doublers a b)

-- these words have no line end
cube_text-lacks : (z : ℤ) (a b : Bool) → Within 1048576 z → lacks 10 (cube_text z a b) ≡ true
cube_text-lacks z a b h = lacks-append 10 (codes "cube ") (signed_decimal z ++ doublers a b) refl
    (lacks-append 10 (signed_decimal z) (doublers a b) (number-lacks 10 1048576 z (lit< tt) (lit< tt) h)
    (doublers-lacks a b))

-- the cube of a board has no line end
pub cube-lacks : (b : BoardFields) → Within 1048576 (field_of b 38) → lacks 10 (cube b) ≡ true
unfolding cube
cube-lacks b h = cube_text-lacks (field_of b 38) (is_one b 39) (is_one b 40) h

-- equal words are of the same cube and the same doublers
cube_text-tells : (y z : ℤ) (a b c d : Bool) → Within 1048576 y → Within 1048576 z → cube_text y a b ≡ cube_text z c d
    → (y ≡ z) × (a ≡ c) × (b ≡ d)
cube_text-tells y z a b c d h k e =
    let numbers : signed_decimal y ++ doublers a b ≡ signed_decimal z ++ doublers c d =
    append_cancel_left (codes "cube ") _ _ e in
    let commas : signed_decimal y ++ (44 ∷ owners a b) ≡ signed_decimal z ++ (44 ∷ owners c d) =
    ap (λ t. signed_decimal y ++ t) (sym (doublers-comma a b)) ∙ numbers
    ∙ ap (λ t. signed_decimal z ++ t) (doublers-comma c d) in
    let parts = ends-tell 44 (signed_decimal y) (signed_decimal z) (owners a b) (owners c d)
    (number-lacks 44 1048576 y (lit< tt) (lit< tt) h) (number-lacks 44 1048576 z (lit< tt) (lit< tt) k) commas in
    let who = owners-tell a b c d parts.1 in
    (number-tells 1048576 y z (lit< tt) h k parts.0, who.0, who.1)

-- boards with equal words have the same cube and the same doublers
pub cube-tells : (a b : BoardFields) → Within 1048576 (field_of a 38) → Within 1048576 (field_of b 38) → cube a ≡ cube b
    → (field_of a 38 ≡ field_of b 38) × (is_one a 39 ≡ is_one b 39) × (is_one a 40 ≡ is_one b 40)
unfolding cube
cube-tells a b h k e =
    cube_text-tells (field_of a 38) (field_of b 38) (is_one a 39) (is_one a 40) (is_one b 39) (is_one b 40) h k e

-- a flag is known by whether it is 1
flag-cases : (y z : ℤ) → (y ≡ pos 0) ⊎ (y ≡ pos 1) → (z ≡ pos 0) ⊎ (z ≡ pos 1) → int_eq y (pos 1) ≡ int_eq z (pos 1)
    → y ≡ z
flag-cases y z (inl h) (inl k) e = h ∙ sym k
flag-cases y z (inr h) (inr k) e = h ∙ sym k
flag-cases y z (inl h) (inr k) e = let no : false ≡ true = rw (h, k) at e in absurd (false≢true no)
flag-cases y z (inr h) (inl k) e = let no : true ≡ false = rw (h, k) at e in absurd (false≢true (sym no))

-- flags that are found to be alike are the same
pub flag-tells : (y z : ℤ) → (y ≡ pos 0) ⊎ (y ≡ pos 1) → (z ≡ pos 0) ⊎ (z ≡ pos 1)
    → int_eq y (pos 1) ≡ int_eq z (pos 1) → y ≡ z
flag-tells = flag-cases
