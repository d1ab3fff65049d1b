-- What stands on a place is read back: whatever the letters are.
use Rattle.std.proofs.Common.{◌≡◌, ◌⊎◌, ◌<◌, ◌≤◌, ◌+◌, ◌*◌, ◌/◌, ◌%◌, ◌==◌, ◌&&◌, ℕ, zero, suc, Bool, true, false, cond, refl, sym, ◌∙◌, ap, arith, inl, inr, nat_lt, nat_le}
use Rattle.std.proofs.Math.Nat.{eq-or-lt_of_le}
use Rattle.fibs_picture.specs.Ink.{number, level, stack, byte_of, IsSmall}
use Rattle.fibs_picture.specs.Look.{IsLetter, HasLetters}
use Rattle.fibs_picture.specs.declared.ink.Ink.{Ink}
use Rattle.fibs_picture.specs.declared.ink.Ink.TheVariants as I
use Rattle.fibs_picture.specs.declared.look.Look.{Look}

-- ---- bytes tell what stands there

-- a letter is no digit
letter-digit : (letter n : ℕ) → IsLetter letter → n < 10 → letter ≡ 48 + n → ⊥
letter-digit letter n h small e = elim h.2 [
  | inl low ↦ omega (arith, low, small, e)
  | inr high ↦ omega (arith, high, small, e)
]

-- a letter is no space
letter-space : (letter : ℕ) → IsLetter letter → 32 ≡ letter → ⊥
letter-space letter h e = omega (arith, h.0, e)

-- equal bytes are of the same, where nothing else is than a space
pub ink-tells : (look : Look) → HasLetters look → (i j : Ink) → IsSmall i → IsSmall j
    → byte_of look 32 i ≡ byte_of look 32 j → i ≡ j
ink-tells look h I.Blank I.Blank s t e = refl
ink-tells look h I.Blank I.Own s t e = absurd (letter-space look.own h.own e)
ink-tells look h I.Blank I.Other s t e = absurd (letter-space look.other h.other e)
ink-tells look h I.Blank (I.Digit n) s t e = absurd (omega (arith, e))
ink-tells look h I.Own I.Blank s t e = absurd (letter-space look.own h.own (sym e))
ink-tells look h I.Own I.Own s t e = refl
ink-tells look h I.Own I.Other s t e = absurd (h.two e)
ink-tells look h I.Own (I.Digit n) s t e = absurd (letter-digit look.own n h.own t e)
ink-tells look h I.Other I.Blank s t e = absurd (letter-space look.other h.other (sym e))
ink-tells look h I.Other I.Own s t e = absurd (h.two (sym e))
ink-tells look h I.Other I.Other s t e = refl
ink-tells look h I.Other (I.Digit n) s t e = absurd (letter-digit look.other n h.other t e)
ink-tells look h (I.Digit m) I.Blank s t e = absurd (omega (arith, e))
ink-tells look h (I.Digit m) I.Own s t e = absurd (letter-digit look.own m h.own s (sym e))
ink-tells look h (I.Digit m) I.Other s t e = absurd (letter-digit look.other m h.other s (sym e))
ink-tells look h (I.Digit m) (I.Digit n) s t e = ap I.Digit (omega (arith, e))

-- a choice of two digits is small if both are
small-cond : (b : Bool) (i j : Ink) → IsSmall i → IsSmall j → IsSmall (cond b i j)
small-cond true i j s t = s
small-cond false i j s t = t

-- of a number
number-small : (n part : ℕ) → n < 100 → IsSmall (number n part)
number-small n part few =
    let ones : n % 10 < 10 = omega arith in
    let tens : n / 10 < 10 = omega (arith, few) in
    small-cond (part == 1) (I.Digit (n % 10)) (cond ((part == 0) && nat_le 10 n) (I.Digit (n / 10)) I.Blank) ones
    (small-cond ((part == 0) && nat_le 10 n) (I.Digit (n / 10)) I.Blank tens tt)

-- of one side at a height
level-small : (ink : Ink) (n height part : ℕ) → n < 100 → IsSmall ink → IsSmall (level ink n height part)
level-small ink n height part few s =
    small-cond (nat_lt n height) I.Blank (cond ((height == 5) && nat_lt 5 n) (number n part) (cond (part == 1)
    ink I.Blank)) tt
    (small-cond ((height == 5) && nat_lt 5 n) (number n part) (cond (part == 1) ink I.Blank) (number-small n part few)
    (small-cond (part == 1) ink I.Blank s tt))

-- of a place at a height
pub stack-small : (own other height part : ℕ) → own < 100 → other < 100 → IsSmall (stack own other height part)
stack-small own other height part h k =
    small-cond (own == 0) (level I.Other other height part) (level I.Own own height part)
    (level-small I.Other other height part k tt) (level-small I.Own own height part h tt)

-- ---- what stands there tells how many there are

-- a checker, or a digit
abbrev filled : Ink → ℕ
filled I.Blank = 0
filled I.Own = 1
filled I.Other = 1
filled (I.Digit n) = 1

-- the tens of a number that stands there
abbrev tens : Ink → ℕ
tens I.Blank = 0
tens I.Own = 0
tens I.Other = 0
tens (I.Digit n) = n

-- how many there are, by what is in the middle of five heights, and before the fifth
abbrev count : Ink → Ink → Ink → Ink → Ink → Ink → ℕ
count a b c d t I.Blank = filled a + filled b + filled c + filled d
count a b c d t I.Own = 5
count a b c d t I.Other = 5
count a b c d t (I.Digit n) = tens t * 10 + n

-- of whom they are
abbrev own_part : Ink → ℕ → ℕ
own_part I.Blank n = 0
own_part I.Own n = n
own_part I.Other n = 0
own_part (I.Digit k) n = 0

-- the opponent's
abbrev other_part : Ink → ℕ → ℕ
other_part I.Blank n = 0
other_part I.Own n = 0
other_part I.Other n = n
other_part (I.Digit k) n = 0

-- how many of the player's are read in a place with so many
abbrev own_read : (ℕ → ℕ → Ink) → ℕ
own_read f = own_part (f 1 1) (count (f 1 1) (f 2 1) (f 3 1) (f 4 1) (f 5 0) (f 5 1))

-- and of the opponent's
abbrev other_read : (ℕ → ℕ → Ink) → ℕ
other_read f = other_part (f 1 1) (count (f 1 1) (f 2 1) (f 3 1) (f 4 1) (f 5 0) (f 5 1))

-- n checkers of either side are read back
abbrev is_read : ℕ → Bool
is_read n = (own_read (stack n 0) == n) && ((other_read (stack n 0) == 0)
    && ((own_read (stack 0 n) == 0) && (other_read (stack 0 n) == n)))

-- the test holds of each number below
abbrev pub all_below : (ℕ → Bool) → ℕ → Bool
all_below p zero = true
all_below p (suc n) = p n && all_below p n

-- all numbers of checkers below 16 are read back
all-read : all_below is_read 16 ≡ true
all-read = refl

-- of two tests that hold together the first holds
pub and-left : (a b : Bool) → (a && b) ≡ true → a ≡ true
and-left true b e = refl
and-left false b e = e

-- of two tests that hold together the second holds
pub and-right : (a b : Bool) → (a && b) ≡ true → b ≡ true
and-right true b e = e
and-right false b e = cc

-- what holds of all numbers below another holds of each
pub below : (p : ℕ → Bool) (n k : ℕ) → k < n → all_below p n ≡ true → p k ≡ true
below p zero k h e = absurd (omega arith)
below p (suc n) k h e =
    let at_most : k ≤ n = omega arith in
    elim (eq-or-lt_of_le at_most) [
      | inl same ↦ rw same (and-left (p n) (all_below p n) e)
      | inr less ↦ below p n k less (and-right (p n) (all_below p n) e)
    ]

-- numbers that are found to be equal are equal
pub is-equal : (m n : ℕ) → (m == n) ≡ true → m ≡ n
is-equal m n e = grind (arith)

-- what is read back of n checkers
record IsRead (n : ℕ) : Type 0 where
  own_own : own_read (stack n 0) ≡ n
  own_other : other_read (stack n 0) ≡ 0
  other_own : own_read (stack 0 n) ≡ 0
  other_other : other_read (stack 0 n) ≡ n

-- of four tests that hold together each holds
read-parts : (a b c d : Bool) → (a && (b && (c && d))) ≡ true → (a ≡ true) × (b ≡ true) × (c ≡ true) × (d ≡ true)
read-parts true true true true e = (refl, refl, refl, refl)
read-parts true true true false e = cc
read-parts true true false d e = cc
read-parts true false c d e = cc
read-parts false b c d e = cc

-- fewer than 16 checkers of either side are read back
reads : (n : ℕ) → n < 16 → IsRead n
reads n h =
    let t = read-parts (own_read (stack n 0) == n) (other_read (stack n 0) == 0)
    (own_read (stack 0 n) == 0) (other_read (stack 0 n) == n) (below is_read 16 n h all-read) in
    record {
      own_own = is-equal _ _ t.0;
      own_other = is-equal _ _ t.1;
      other_own = is-equal _ _ t.2;
      other_other = is-equal _ _ t.3;
    }

-- a place holds checkers of one side only, and few of them
pub record OneSide (own other : ℕ) : Type 0 where
  pub either : (own ≡ 0) ⊎ (other ≡ 0)
  pub few_own : own < 16
  pub few_other : other < 16

-- the player's checkers are read back
own-back : (own other : ℕ) → OneSide own other → own_read (stack own other) ≡ own
own-back own other h = elim h.either [
  | inl none ↦ rw none (reads other h.few_other).other_own
  | inr none ↦ rw none (reads own h.few_own).own_own
]

-- and the opponent's
other-back : (own other : ℕ) → OneSide own other → other_read (stack own other) ≡ other
other-back own other h = elim h.either [
  | inl none ↦ rw none (reads other h.few_other).other_other
  | inr none ↦ rw none (reads own h.few_own).own_other
]

-- two places look the same in the columns that tell
pub record SameInks (f g : ℕ → ℕ → Ink) : Type 0 where
  pub first : f 1 1 ≡ g 1 1
  pub second : f 2 1 ≡ g 2 1
  pub third : f 3 1 ≡ g 3 1
  pub fourth : f 4 1 ≡ g 4 1
  pub before_fifth : f 5 0 ≡ g 5 0
  pub fifth : f 5 1 ≡ g 5 1

-- so the same is read in both
own-same : (f g : ℕ → ℕ → Ink) → SameInks f g → own_read f ≡ own_read g
own-same f g s = rw (s.first, s.second, s.third, s.fourth, s.before_fifth, s.fifth) refl

other-same : (f g : ℕ → ℕ → Ink) → SameInks f g → other_read f ≡ other_read g
other-same f g s = rw (s.first, s.second, s.third, s.fourth, s.before_fifth, s.fifth) refl

-- places that look the same hold the same
pub inks-tell : (own other own' other' : ℕ) → OneSide own other → OneSide own' other'
    → SameInks (stack own other) (stack own' other') → (own ≡ own') × (other ≡ other')
inks-tell own other own' other' h k s = (
  sym (own-back own other h) ∙ own-same (stack own other) (stack own' other') s ∙ own-back own' other' k,
  sym (other-back own other h) ∙ other-same (stack own other) (stack own' other') s ∙ other-back own' other' k,
)
