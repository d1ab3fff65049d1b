-- A board as its player sees it (FIBS board style 3; the standard rules of backgammon).
use Rattle.std.specs.Prelude.{◌≡◌, ◌==◌, ◌&&◌, ◌+◌, ◌-◌, ℕ, ℤ, pos, neg_ℤ, Bool, List, [], ◌∷◌, ◌++◌, map, sum, if◌then◌else◌}
use Rattle.std.specs.Ordering.{int_eq}
use Rattle.std.specs.List.{range_with_len}
use Rattle.fibs_fields.specs.FieldReading.{natural}
use Rattle.fibs_fields.specs.Board.{BoardFields, field_of}
use Rattle.fibs_rules.specs.Checkers.{Checkers}
use Rattle.fibs_rules.specs.Runs.{Standing}
use Rattle.fibs_position.specs.DirectionOf.{direction_of, line_place}

-- whose turn it is: 1 for O, -1 for X, 0 if the game is over
abbrev pub turn : BoardFields → ℤ
turn b = field_of b 33

-- the player's colour: 1 for O, -1 for X
abbrev pub colour : BoardFields → ℤ
colour b = field_of b 42

-- the field of a place
abbrev pub place_field : BoardFields → ℕ → ℕ
place_field b place = 7 + line_place (direction_of b) place

-- the checkers of a colour on a place with this value: O's are counted by positive numbers, X's by negative ones
abbrev pub checkers_of : ℤ → ℤ → ℕ
checkers_of side value = natural (if int_eq side (pos 1) then value else neg_ℤ value)

-- the checkers of a colour on a place of the player's numbering
abbrev pub stand_on : BoardFields → ℤ → ℕ → ℕ
stand_on b side place = checkers_of side (field_of b (place_field b place))

-- the 24 places
unfoldable pub places : List ℕ
places = range_with_len 1 24

-- the checkers of a colour on places 1 to 24
abbrev pub on_places : BoardFields → ℤ → List ℕ
on_places b side = map (stand_on b side) places

-- the player's checkers on places 1 to 24
abbrev pub own_on_places : BoardFields → List ℕ
own_on_places b = on_places b (colour b)

-- the other side's checkers on places 1 to 24
abbrev pub other_on_places : BoardFields → List ℕ
other_on_places b = on_places b (neg_ℤ (colour b))

-- the player's checkers borne off
abbrev pub own_off : BoardFields → ℕ
own_off b = natural (field_of b 46)

-- the other side's checkers borne off
abbrev pub other_off : BoardFields → ℕ
other_off b = natural (field_of b 47)

-- the player's checkers on places 1 to 24 and off: those of fifteen that are not on the bar
abbrev pub own_placed : BoardFields → ℕ
own_placed b = sum (own_on_places b) + own_off b

-- the same for the other side
abbrev pub other_placed : BoardFields → ℕ
other_placed b = sum (other_on_places b) + other_off b

-- both sides' checkers in the player's numbering. Of the player's own, place 0 is off and 25 is the bar;
-- of the other side's, place 0 is the bar and 25 is off
unfoldable pub own_view : BoardFields → Checkers
own_view b = record {
  own = own_off b ∷ (own_on_places b ++ (15 - own_placed b) ∷ []);
  other = (15 - other_placed b) ∷ (other_on_places b ++ other_off b ∷ []);
}

-- the player's first die, 0 for none
abbrev pub first_die : BoardFields → ℕ
first_die b = natural (field_of b 34)

-- the player's second die, 0 for none
abbrev pub second_die : BoardFields → ℕ
second_die b = natural (field_of b 35)

-- the player's dice are not shown
abbrev pub NoDice : BoardFields → Type 0
NoDice b = (first_die b ≡ 0) × (second_die b ≡ 0)

-- the same as a test
abbrev pub no_dice : BoardFields → Bool
no_dice b = (first_die b == 0) && (second_die b == 0)

-- the arrangement and the dice shown
abbrev pub standing_of : BoardFields → Standing
standing_of b = record { checkers = own_view b; first = first_die b; second = second_die b }
