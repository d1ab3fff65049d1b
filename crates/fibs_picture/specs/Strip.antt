-- What the columns of a board are of: 47 in all. Six places begin at column 2, and six at column 25.
use Rattle.std.specs.Prelude.{◌+◌, ◌-◌, ◌/◌, ◌%◌, ◌==◌, ◌&&◌, ◌||◌, ◌<◌, ℕ, Bool, nat_lt, nat_le, if◌then◌else◌}
use Rattle.fibs_picture.specs.declared.strip.Strip.{Strip}
use Rattle.fibs_picture.specs.declared.strip.Strip.TheVariants as S

-- what a column is of
unfoldable pub strip_at : ℕ → Strip
strip_at column =
    if column == 0 then S.Margin
    else (if column == 1 then S.Wall
    else (if nat_lt column 20 then S.Place ((column - 2) / 3) ((column - 2) % 3)
    else (if column == 20 then S.Wall
    else (if nat_lt column 24 then S.Bar (column - 21)
    else (if column == 24 then S.Wall
    else (if nat_lt column 43 then S.Place (6 + (column - 25) / 3) ((column - 25) % 3)
    else (if column == 43 then S.Wall else S.Margin)))))))

-- there are twelve places in a row
abbrev pub IsWithin : Strip → Type 0
IsWithin (S.Place i part) = (i < 12) × (part < 3)
IsWithin (S.Bar part) = part < 3
IsWithin S.Wall = Unit {0}
IsWithin S.Margin = Unit {0}

-- the columns that a terminal of 43 columns has no room for
abbrev pub is_left_out : ℕ → ℕ → Bool
is_left_out columns column = ((column == 0) || ((column == 1) || ((column == 24) || (column == 43))))
    && nat_le columns 43

-- the words of a board stand below it: beside it there is no room for them
abbrev pub is_below : ℕ → Bool
is_below columns = nat_lt columns 72

-- how many columns the board has, those that are left out among them; with words beside it there is room before them
abbrev pub board_width : ℕ → ℕ
board_width columns = if is_below columns then 44 else 47
