-- The ranges of a board's fields, group by group (FIBS board style 3), and what they mean for all boards.
use Rattle.std.specs.Prelude.{◌≡◌, ◌↔◌, ◌⊎◌, ◌≤◌, ◌≤ℤ◌, ◌-◌, ℕ, ℤ, pos, negsuc, true, length, slice_set}
use Rattle.fibs_fields.specs.Board.{BoardFields, IsBoard, can_have, field_of}

-- field n may have z exactly if P holds
abbrev pub Exactly : ℕ → ℤ → Type 0 → Type 0
Exactly n z P = (can_have n z ≡ true) ↔ P

-- which numbers a field may have
pub record FieldRanges : Type 0 where
  pub place : (n : ℕ) (z : ℤ) → 7 ≤ n → n ≤ 32 → Exactly n z ((negsuc 14 ≤ℤ z) × (z ≤ℤ pos 15))
  pub turn : (n : ℕ) (z : ℤ) → n ≡ 33 → Exactly n z ((negsuc 0 ≤ℤ z) × (z ≤ℤ pos 1))
  pub dice : (n : ℕ) (z : ℤ) → 34 ≤ n → n ≤ 37 → Exactly n z ((pos 0 ≤ℤ z) × (z ≤ℤ pos 6))
  pub cube : (n : ℕ) (z : ℤ) → n ≡ 38 → Exactly n z ((pos 1 ≤ℤ z) × (z ≤ℤ pos 1048576))
  pub flag : (n : ℕ) (z : ℤ) → 39 ≤ n → n ≤ 41 → Exactly n z ((z ≡ pos 0) ⊎ (z ≡ pos 1))
  pub side : (n : ℕ) (z : ℤ) → 42 ≤ n → n ≤ 43 → Exactly n z ((z ≡ negsuc 0) ⊎ (z ≡ pos 1))
  pub off : (n : ℕ) (z : ℤ) → 46 ≤ n → n ≤ 47 → Exactly n z ((pos 0 ≤ℤ z) × (z ≤ℤ pos 15))
  -- a board's fields have numbers that they may have, and there are fifty
  pub held : (b : BoardFields) (n : ℕ) → IsBoard b → 4 ≤ n → n ≤ 53 → can_have n (field_of b n) ≡ true
  pub fifty : (b : BoardFields) → IsBoard b → length b.numbers ≡ 50
  -- if one field of a board gets a number that it may have, the result is a board
  pub set : (b : BoardFields) (n : ℕ) (z : ℤ) → IsBoard b → can_have n z ≡ true
      → IsBoard (record b { numbers = slice_set b.numbers (n - 4) z })
