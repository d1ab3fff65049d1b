-- What a move changes, in words (the project's own): how many of the user's checkers then are where there were more or
-- fewer, whom it hits, how far he then has to go, and which of his checkers stand alone.
use Rattle.std.specs.Prelude.{◌-◌, ◌*◌, ◌++◌, ◌==◌, not, ℕ, Bool, List, [], ◌∷◌, codes, decimal, length, map, slice_index, sum, if◌then◌else◌}
use Rattle.std.specs.List.{filter, range_with_len}
use Rattle.fibs_rules.specs.Checkers.{Checkers}
use Rattle.fibs_rules.specs.Hop.{Hop}
use Rattle.fibs_position.specs.DirectionOf.{line_place}
use Rattle.fibs_position.specs.declared.direction.Direction.{Direction}
use Rattle.fibs_commands.specs.Commands.{steps_text}
use Rattle.fibs_advice.specs.Hits.{hit_on, hit_row, listed}
use Rattle.fibs_advice.specs.declared.hits.Roller.TheVariants.{Own}

-- how many of the user's checkers are so far from his bar: at 0 those on it, at 25 those that are off
abbrev pub own_at : Checkers → ℕ → ℕ
own_at c far = slice_index c.own (25 - far)

-- there are more, or fewer
abbrev pub is_changed : Checkers → Checkers → ℕ → Bool
is_changed before after far = not (own_at before far == own_at after far)

-- all such places among the first so many, from the bar on
unfoldable pub changed : Checkers → Checkers → ℕ → List ℕ
changed before after many = filter (is_changed before after) (range_with_len 0 many)

-- a place by the numbers by which the user goes this way
abbrev pub where_said : Direction → ℕ → List ℕ
where_said way far =
    if far == 0 then codes " on the bar"
    else (if far == 25 then codes " off" else codes " on " ++ decimal (line_place way (25 - far)))

-- how many checkers are there
abbrev pub stack_said : Direction → Checkers → ℕ → List ℕ
stack_said way c far = (if own_at c far == 0 then codes "none" else decimal (own_at c far)) ++ where_said way far

-- the same of places, with a comma between two
unfoldable pub stacks_said : Direction → Checkers → List ℕ → List ℕ
stacks_said way c [] = []
stacks_said way c (far ∷ places) =
    stack_said way c far ++ ((if length places == 0 then [] else codes ", ") ++ stacks_said way c places)

-- the row of the move, and of the places that it changes
unfoldable pub after_row : Direction → List Hop → Checkers → List ℕ → List ℕ
after_row way steps after places =
    codes "After" ++ (steps_text way steps ++ (codes ": " ++ (stacks_said way after places ++ codes ".\n")))

-- how far the user's checkers on a place have to go
abbrev pub pips_on : Checkers → ℕ → ℕ
pips_on c place = place * slice_index c.own place

-- and all of them
unfoldable pub pips : Checkers → ℕ
pips c = sum (map (pips_on c) (range_with_len 0 26))

-- the row of it
unfoldable pub pips_row : Checkers → List ℕ
pips_row c = codes "Your pips: " ++ (decimal (pips c) ++ codes ".\n")

-- a checker of the user's stands alone
abbrev pub is_blot : Checkers → ℕ → Bool
is_blot c far = own_at c far == 1

-- all such places among the first so many from the bar
unfoldable pub blots : Checkers → ℕ → List ℕ
blots c many = filter (is_blot c) (range_with_len 1 many)

-- the row of them
abbrev pub blots_listed : Direction → List ℕ → List ℕ
blots_listed way places = codes "Your blots: " ++ (listed way places ++ codes ".\n")

-- or that there are none
unfoldable pub blots_row : Direction → List ℕ → List ℕ
blots_row way [] = codes "Your blots: none.\n"
blots_row way (far ∷ places) = blots_listed way (far ∷ places)

-- what a move changes: the opponent has this name
unfoldable pub changes_text : Direction → List ℕ → Checkers → List Hop → Checkers → List ℕ
changes_text way name before steps after =
    after_row way steps after (changed before after 26)
    ++ (hit_row Own name way (hit_on Own before steps 24) ++ (pips_row after ++ blots_row way (blots after 24)))
