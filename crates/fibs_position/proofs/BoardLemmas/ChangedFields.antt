-- The fields of a board if some are changed.
use Rattle.std.proofs.Common.{◌≡◌, ℕ, zero, suc, ◌+◌, ◌-◌, ◌<◌, ◌≤◌, ◌≢◌, Bool, true, false, cond, eqb, List, [], ◌∷◌, ◌++◌, length, get_or, set, inl, inr, refl, ap, ◌∙◌, arith}
use Rattle.std.specs.Prelude.{ℤ, pos, map, nat_le, ◌&&◌}
use Rattle.std.specs.List.{range_with_len, list_all}
use Rattle.std.proofs.lemmas.Bool.{cases_eq, and_parts}
use Rattle.std.proofs.lemmas.Bool.Decides.{nat_tests}
use Rattle.std.proofs.lemmas.List.{get_or-set_same, get_or-set_other}
use Rattle.std.proofs.Math.ListN.{length-set}
use Rattle.fibs_fields.specs.Board.{BoardFields, IsBoard, field_of, can_have}
use Rattle.fibs_fields.specs.FieldRanges.{FieldRanges}
use Rattle.fibs_position.specs.BoardEffect.{set_field, set_fields}

-- changes that their fields may have leave a board
abbrev pub AllMay : List (ℕ × ℤ) → Type 0
AllMay [] = Unit {0}
AllMay (c ∷ cs) = (can_have c.0 c.1 ≡ true) × AllMay cs

-- such changes leave a board
pub board_after : FieldRanges → (changes : List (ℕ × ℤ)) (b : BoardFields) → IsBoard b → AllMay changes
    → IsBoard (set_fields b changes)
board_after ranges [] b board may = board
board_after ranges (c ∷ cs) b board may =
    board_after ranges cs (set_field b c.0 c.1) (ranges.set b c.0 c.1 board may.0) may.1

-- two lists of such changes are one
pub may_append : (xs ys : List (ℕ × ℤ)) → AllMay xs → AllMay ys → AllMay (xs ++ ys)
may_append [] ys a b = b
may_append (x ∷ xs) ys a b = (a.0, may_append xs ys a.1 b)

-- changes of a range of places
pub may_range : (says : ℕ → ℕ × ℤ) (first long : ℕ)
    → ((k : ℕ) → first ≤ k → k < first + long → can_have (says k).0 (says k).1 ≡ true)
    → AllMay (map says (range_with_len first long))
may_range says first zero h = tt
may_range says first (suc long) h = (
  h first (omega arith) (omega arith),
  may_range says (first + 1) long (λ k low high. h k (omega arith) (omega arith)),
)

-- changes of numbers leave the player's name
pub player_after : (changes : List (ℕ × ℤ)) (b : BoardFields) → (set_fields b changes).player ≡ b.player
player_after [] b = refl
player_after (c ∷ cs) b = player_after cs (set_field b c.0 c.1)

-- the number of a field after changes: of the last change that names it, else what it was
abbrev pub changed : List (ℕ × ℤ) → ℕ → ℤ → ℤ
changed [] m z = z
changed (c ∷ cs) m z = changed cs m (cond (eqb (c.0 - 4) (m - 4)) c.1 z)

-- a number of a list if one number is changed
set_at : (zs : List ℤ) (i j : ℕ) (z : ℤ) → j < length zs
    → get_or (set zs i z) j (pos 0) ≡ cond (eqb i j) z (get_or zs j (pos 0))
set_at zs i j z within = elim (cases_eq j i) [
  | inl same ↦
      let e : eqb i j ≡ true = grind (arith, nat_tests) in
      let i_within : i < length zs = omega arith in
      rw e (ap (λ k. get_or (set zs i z) k (pos 0)) same ∙ get_or-set_same zs i z (pos 0) i_within)
  | inr apart ↦ let e : eqb i j ≡ false = grind (arith, nat_tests) in rw e (get_or-set_other zs i j z (pos 0) apart)
]

-- a field after changes, if the list is long enough
field_after_all : (changes : List (ℕ × ℤ)) (b : BoardFields) (m : ℕ) → m - 4 < length b.numbers
    → field_of (set_fields b changes) m ≡ changed changes m (field_of b m)
field_after_all [] b m within = refl
field_after_all (c ∷ cs) b m within =
    field_after_all cs (set_field b c.0 c.1) m (omega (arith, length-set b.numbers (c.0 - 4) c.1))
    ∙ ap (changed cs m) (set_at b.numbers (c.0 - 4) (m - 4) c.1 within)

-- a field of a board after changes
pub field_after : FieldRanges → (changes : List (ℕ × ℤ)) (b : BoardFields) (m : ℕ) → IsBoard b → m ≤ 53
    → field_of (set_fields b changes) m ≡ changed changes m (field_of b m)
field_after ranges changes b m board high = field_after_all changes b m (omega (arith, ranges.fifty b board))

-- changes after changes
pub changed_append : (xs ys : List (ℕ × ℤ)) (m : ℕ) (z : ℤ) → changed (xs ++ ys) m z ≡ changed ys m (changed xs m z)
changed_append [] ys m z = refl
changed_append (x ∷ xs) ys m z = changed_append xs ys m (cond (eqb (x.0 - 4) (m - 4)) x.1 z)

-- the changes name only fields from a first to a last
abbrev pub between : ℕ → ℕ → List (ℕ × ℤ) → Bool
between low high changes = list_all (λ (c : ℕ × ℤ). nat_le low c.0 && nat_le c.0 high) changes

-- a change of another field
passed : (n m : ℕ) (y z : ℤ) → 4 ≤ m → (m < n → n ≢ m) → n ≢ m → 4 ≤ n → cond (eqb (n - 4) (m - 4)) y z ≡ z
passed n m y z from unused apart low = let e : eqb (n - 4) (m - 4) ≡ false = grind (arith, nat_tests) in rw e refl

-- a field below all that are changed
pub unchanged_below : (changes : List (ℕ × ℤ)) (low high m : ℕ) (z : ℤ) → between low high changes ≡ true → 4 ≤ m
    → m < low → changed changes m z ≡ z
unchanged_below [] low high m z h from below = refl
unchanged_below (c ∷ cs) low high m z h from below =
    let (here, later) = and_parts (nat_le low c.0 && nat_le c.0 high) (between low high cs) h in
    let (a, b) = and_parts (nat_le low c.0) (nat_le c.0 high) here in
    let apart : c.0 ≢ m = grind (arith, nat_tests) in
    ap (changed cs m) (passed c.0 m c.1 z from (λ _. apart) apart (grind (arith, nat_tests)))
    ∙ unchanged_below cs low high m z later from below

-- a field above all that are changed
pub unchanged_above : (changes : List (ℕ × ℤ)) (low high m : ℕ) (z : ℤ) → between low high changes ≡ true → 4 ≤ low
    → high < m → changed changes m z ≡ z
unchanged_above [] low high m z h from above = refl
unchanged_above (c ∷ cs) low high m z h from above =
    let (here, later) = and_parts (nat_le low c.0 && nat_le c.0 high) (between low high cs) h in
    let (a, b) = and_parts (nat_le low c.0) (nat_le c.0 high) here in
    let apart : c.0 ≢ m = grind (arith, nat_tests) in
    let some : 4 ≤ c.0 = grind (arith, nat_tests) in
    ap (changed cs m) (passed c.0 m c.1 z (grind (arith, nat_tests)) (λ _. apart) apart some)
    ∙ unchanged_above cs low high m z later from above
