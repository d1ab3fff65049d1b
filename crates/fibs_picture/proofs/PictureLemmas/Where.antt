-- Where the columns of a place are.
use Rattle.std.proofs.Common.{◌≡◌, ◌<◌, ◌≤◌, ◌+◌, ◌*◌, ◌==◌, ◌&&◌, ◌||◌, ℕ, Bool, true, false, cond, not, refl, sym, ap, arith, nat_lt, nat_le}
use Rattle.fibs_picture.specs.Strip.{strip_at, is_left_out, board_width}
use Rattle.fibs_picture.specs.declared.strip.Strip.{Strip}
use Rattle.fibs_picture.specs.declared.strip.Strip.TheVariants as S
use Rattle.fibs_picture.proofs.PictureLemmas.Reading.{all_below, and-left, and-right, below, is-equal}

-- a column of the place that is so many from the left
abbrev pub column_of : ℕ → ℕ → ℕ
column_of i part = cond (nat_lt i 6) (2 + (3 * i + part)) (7 + (3 * i + part))

-- it is of this place
abbrev is_place : Strip → ℕ → ℕ → Bool
is_place S.Margin i part = false
is_place S.Wall i part = false
is_place (S.Place j q) i part = (j == i) && (q == part)
is_place (S.Bar q) i part = false

-- a column that may be left out
abbrev pub is_outer : ℕ → Bool
is_outer column = (column == 0) || ((column == 1) || ((column == 24) || (column == 43)))

-- the columns of a place are where they are looked for, on each terminal
abbrev is_there : ℕ → ℕ → Bool
is_there part i = is_place (strip_at (column_of i part)) i part
    && (not (is_outer (column_of i part)) && nat_lt (column_of i part) 44)

-- the middle ones of all twelve
middles-there : all_below (is_there 1) 12 ≡ true
unfolding strip_at
middles-there = refl

-- and those before them
befores-there : all_below (is_there 0) 12 ≡ true
unfolding strip_at
befores-there = refl

-- what is found to be of a place is
place-is : (s : Strip) (i part : ℕ) → is_place s i part ≡ true → s ≡ S.Place i part
place-is S.Margin i part e = cc
place-is S.Wall i part e = cc
place-is (S.Bar q) i part e = cc
place-is (S.Place j q) i part e =
    let same = is-equal j i (and-left (j == i) (q == part) e) in
    let both = is-equal q part (and-right (j == i) (q == part) e) in
    rw (same, both) refl

-- a number that is found to be less is
is-less : (m n : ℕ) → nat_lt m n ≡ true → m < n
is-less m n e = grind (arith)

-- what is found not to hold does not
pub is-not : (b : Bool) → not b ≡ true → b ≡ false
is-not true e = sym e
is-not false e = refl

-- the board is 44 columns wide at least
at-least : (b : Bool) → 44 ≤ cond b 44 47
at-least true = omega arith
at-least false = omega arith

-- a column is shown, and of a place
pub record IsShown (columns i part : ℕ) : Type 0 where
  pub strip : strip_at (column_of i part) ≡ S.Place i part
  pub shown : is_left_out columns (column_of i part) ≡ false
  pub within : column_of i part < board_width columns

-- if it is found there
shown-there : (columns i part : ℕ) → is_there part i ≡ true → IsShown columns i part
shown-there columns i part e =
    let c = column_of i part in
    let rest = and-right (is_place (strip_at c) i part) (not (is_outer c) && nat_lt c 44) e in
    let inner = is-not (is_outer c) (and-left (not (is_outer c)) (nat_lt c 44) rest) in
    let less = is-less c 44 (and-right (not (is_outer c)) (nat_lt c 44) rest) in
    record {
      strip = place-is (strip_at c) i part (and-left (is_place (strip_at c) i part) (not (is_outer c) && nat_lt c 44)
          e);
      shown = ap (λ b. b && nat_le columns 43) inner;
      within = omega (arith, less, at-least (nat_lt columns 72));
    }

-- the middle column of each place is shown
pub middle-shown : (columns i : ℕ) → i < 12 → IsShown columns i 1
middle-shown columns i h = shown-there columns i 1 (below (is_there 1) 12 i h middles-there)

-- and the one before it
pub before-shown : (columns i : ℕ) → i < 12 → IsShown columns i 0
before-shown columns i h = shown-there columns i 0 (below (is_there 0) 12 i h befores-there)
