-- What stands in a column of a place (the project's own, after the boards that FIBS and gnubg draw): a place is three
-- columns wide and five heights high, 1 at the edge.
use Rattle.std.specs.Prelude.{◌+◌, ◌/◌, ◌%◌, ◌==◌, ◌&&◌, ◌<◌, ℕ, nat_lt, nat_le, if◌then◌else◌}
use Rattle.fibs_picture.specs.declared.ink.Ink.{Ink}
use Rattle.fibs_picture.specs.declared.ink.Ink.TheVariants as I
use Rattle.fibs_picture.specs.declared.look.Look.{Look}

-- a number in the first two columns
abbrev pub number : ℕ → ℕ → Ink
number n part =
    if part == 1 then I.Digit (n % 10)
    else (if (part == 0) && nat_le 10 n then I.Digit (n / 10) else I.Blank)

-- of n checkers of a side: one at each height; if there are more than five, their number in place of the fifth
abbrev pub level : Ink → ℕ → ℕ → ℕ → Ink
level ink n height part =
    if nat_lt n height then I.Blank
    else (if (height == 5) && nat_lt 5 n then number n part else (if part == 1 then ink else I.Blank))

-- of so many checkers of the player, or so many of the opponent
abbrev pub stack : ℕ → ℕ → ℕ → ℕ → Ink
stack own other height part = if own == 0 then level I.Other other height part else level I.Own own height part

-- the byte that is shown: the floor's where nothing stands
abbrev pub byte_of : Look → ℕ → Ink → ℕ
byte_of look floor I.Blank = floor
byte_of look floor I.Own = look.own
byte_of look floor I.Other = look.other
byte_of look floor (I.Digit n) = 48 + n

-- a digit is one
abbrev pub IsSmall : Ink → Type 0
IsSmall I.Blank = Unit {0}
IsSmall I.Own = Unit {0}
IsSmall I.Other = Unit {0}
IsSmall (I.Digit n) = n < 10
