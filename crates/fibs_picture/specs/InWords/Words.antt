-- A board in words, for a player who hears it or reads it by touch (the project's own): rows of plain ASCII, one fact a
-- row, its subject first, a stop at its end. Places have the numbers that the player types.
use Rattle.std.specs.Prelude.{◌-◌, ◌+◌, ◌++◌, ◌==◌, ◌&&◌, ℕ, ℤ, pos, List, [], ◌∷◌, codes, decimal, take, nat_lt, Bool, slice_index, if◌then◌else◌}
use Rattle.std.specs.Fmt.{signed_decimal}
use Rattle.std.specs.List.{flat_map, filter, join_by, range_with_len}
use Rattle.std.specs.Ordering.{int_eq}
use Rattle.fibs_fields.specs.Board.{BoardFields, field_of}
use Rattle.fibs_fields.specs.FieldReading.{natural}
use Rattle.fibs_rules.specs.Checkers.{Checkers}
use Rattle.fibs_position.specs.DirectionOf.{line_place}
use Rattle.fibs_position.specs.OwnView.{turn, colour}
use Rattle.fibs_position.specs.Phases.{phase_in}
use Rattle.fibs_position.specs.PositionValue.{PositionValue}
use Rattle.fibs_position.specs.declared.direction.Direction.{Direction}
use Rattle.fibs_position.specs.declared.direction.Direction.TheVariants.{Down, Up}
use Rattle.fibs_position.specs.declared.phase.Phase.{Phase}
use Rattle.fibs_position.specs.declared.phase.Phase.TheVariants as phase
use Rattle.fibs_picture.specs.Picture.{own_pips, other_pips, match_length, doublers, is_one}
use Rattle.fibs_picture.specs.Told.{Whose, nobodys, the_players, the_opponents}
use Rattle.fibs_picture.specs.declared.in_words.fact.Fact.{Fact}
use Rattle.fibs_picture.specs.declared.in_words.fact.Fact.TheVariants as F
use Rattle.fibs_picture.specs.declared.in_words.listed.Listed.{Listed}
use Rattle.fibs_picture.specs.declared.in_words.listed.Listed.TheVariants as L
use Rattle.fibs_picture.specs.declared.in_words.side.Side.{Side}
use Rattle.fibs_picture.specs.declared.in_words.side.Side.TheVariants as side

-- ---- the game

-- whose turn it is, by the colour that has it
abbrev pub whose : ℤ → ℤ → Whose
whose turn colour =
    if int_eq turn (pos 0) then nobodys else (if int_eq turn colour then the_players else the_opponents)

-- whose turn it is, in words
abbrev pub turn_said : Whose → List ℕ
turn_said nobodys = codes "Nobody's turn"
turn_said the_players = codes "Your turn"
turn_said the_opponents = codes "The opponent's turn"

-- what the player is to do
abbrev pub phase_said : Phase → List ℕ
phase_said phase.Over = codes ", the game is over."
phase_said phase.AnswerDouble = codes ", and you are offered a double."
phase_said phase.OpponentActs = codes "."
phase_said phase.RollOrDouble = codes ", to roll."
phase_said phase.Move = codes ", to move."
phase_said phase.Passing = codes ", but you can't move."

-- the row of the turn: whose it is, and what is to be done
unfoldable pub turn_row : Whose → Phase → List ℕ
turn_row whose phase = turn_said whose ++ phase_said phase

-- two dice
unfoldable pub pair : ℕ → ℕ → List ℕ
pair first second = (48 + first) ∷ (codes " and " ++ (48 + second) ∷ [])

-- the opponent's dice, after the player's if those are shown
abbrev pub other_dice : ℕ → ℕ → List ℕ
other_dice first second =
    if (first == 0) && (second == 0) then codes "."
    else codes ", the opponent's " ++ (pair first second ++ codes ".")

-- the opponent's dice, if the player's are not shown
abbrev pub lone_dice : ℕ → ℕ → List ℕ
lone_dice first second =
    if (first == 0) && (second == 0) then codes "No dice."
    else codes "The opponent's dice " ++ (pair first second ++ codes ".")

-- the player's dice and the opponent's; two zeros if there are no dice
unfoldable pub dice_row : ℕ → ℕ → ℕ → ℕ → List ℕ
dice_row first second other_first other_second =
    if (first == 0) && (second == 0) then lone_dice other_first other_second
    else codes "Your dice " ++ (pair first second ++ other_dice other_first other_second)

-- the player's score, the opponent's, and the length of the match
unfoldable pub score_row : ℤ → ℤ → ℤ → List ℕ
score_row own other match =
    codes "Score " ++ (signed_decimal own ++ (codes " to " ++ (signed_decimal other ++ (codes ", "
    ++ (match_length match ++ codes ".")))))

-- what the cube shows, and who may double next
abbrev pub cube_shows : BoardFields → List ℕ
cube_shows b = signed_decimal (field_of b 38) ++ doublers (is_one b 39) (is_one b 40)

-- the row of the cube
unfoldable pub cube_row : BoardFields → List ℕ
cube_row b = codes "Cube " ++ (cube_shows b ++ codes ".")

-- which way the player goes by the numbers
abbrev pub direction_row : Direction → List ℕ
direction_row Down = codes "You go down, from 24 to 1."
direction_row Up = codes "You go up, from 1 to 24."

-- ---- the checkers. A side's places are counted by the steps from its bar: 0 is the bar, and 25 is off

-- the place as the player counts it
abbrev pub place_of : Side → ℕ → ℕ
place_of side.Own steps = 25 - steps
place_of side.Other steps = steps

-- how many checkers of the side are there
abbrev pub count_on : Checkers → Side → ℕ → ℕ
count_on c side.Own steps = slice_index c.own (25 - steps)
count_on c side.Other steps = slice_index c.other steps

-- the place by its name: its number as the player types it
abbrev pub place_name : Direction → Side → ℕ → List ℕ
place_name d side steps = if steps == 0 then codes "the bar" else decimal (line_place d (place_of side steps))

-- so many checkers there; nothing if there are none
unfoldable pub stack : Direction → Side → (ℕ → ℕ) → ℕ → List ℕ
stack d side count steps =
    if count steps == 0 then []
    else decimal (count steps) ++ (codes " on " ++ (place_name d side steps ++ codes ", "))

-- the stacks on the first places from the bar
unfoldable pub stacks : Direction → Side → (ℕ → ℕ) → ℕ → List ℕ
stacks d side count many = flat_map (stack d side count) (range_with_len 0 many)

-- how many are off
abbrev pub off_said : ℕ → List ℕ
off_said n = (if n == 0 then codes "none" else decimal n) ++ codes " off."

-- a side by its name, how far its checkers have to go, and where they are, the farthest first
unfoldable pub side_row : List ℕ → ℕ → Direction → Side → (ℕ → ℕ) → List ℕ
side_row name pips d side count =
    name ++ (codes ", " ++ (decimal pips ++ (codes " pips: " ++ (stacks d side count 25 ++ off_said (count 25)))))

-- ---- places that are listed

-- a place, by the steps from a side's bar, is one of those: the opponent has two checkers or more there, so that the
-- player can't come; or the side has one checker alone there, a blot
abbrev pub is_listed : Checkers → Listed → ℕ → Bool
is_listed c L.Held steps = nat_lt 1 (slice_index c.other (25 - steps))
is_listed c L.OwnBlots steps = count_on c side.Own steps == 1
is_listed c L.OtherBlots steps = count_on c side.Other steps == 1

-- the side that counts the steps
abbrev pub counted_by : Listed → Side
counted_by L.Held = side.Own
counted_by L.OwnBlots = side.Own
counted_by L.OtherBlots = side.Other

-- the places, the farthest from home first
unfoldable pub listed : Checkers → Listed → ℕ → List ℕ
listed c which many = filter (is_listed c which) (range_with_len 1 many)

-- the numbers of places, with a comma between two
unfoldable pub joined : Direction → Side → List ℕ → List ℕ
joined d s places = join_by (place_name d s) (codes ", ") places

-- the number of a place that comes after so many
abbrev pub next_name : Direction → Side → ℕ → ℕ → List ℕ
next_name d s count place =
    if count == 0 then place_name d s place else codes ", " ++ place_name d s place

-- the numbers, or that there are none
unfoldable pub numbers : Direction → Side → List ℕ → List ℕ
numbers d s [] = codes "none"
numbers d s (place ∷ places) = joined d s (place ∷ places)

-- the numbers of the places of a board
abbrev pub numbers_of : Direction → Checkers → Listed → List ℕ
numbers_of d c which = numbers d (counted_by which) (listed c which 24)

-- on which places the player can't come
unfoldable pub held_row : Direction → Checkers → List ℕ
held_row d c =
    codes "Held against you: " ++ (numbers_of d c L.Held ++ codes ".")

-- the blots of a side, by what says whose they are
unfoldable pub blots_of : Direction → Checkers → Listed → List ℕ → List ℕ → List ℕ
blots_of d c which name words = name ++ (words ++ numbers_of d c which)

-- the blots of both sides
abbrev pub both_blots : List ℕ → List ℕ → List ℕ
both_blots own other = codes "Blots: " ++ (own ++ (codes "; " ++ (other ++ codes ".")))

-- the blots of the player, and of the opponent by his name
unfoldable pub blots_row : Direction → Checkers → List ℕ → List ℕ
blots_row d c opponent =
    both_blots (blots_of d c L.OwnBlots (codes "yours") (codes " ")) (blots_of d c L.OtherBlots opponent (codes "'s "))

-- ---- the board

-- a fact in a row, by the numbers by which the player goes this way. A name is told by its first 30 bytes
unfoldable pub row : Direction → BoardFields → PositionValue → Fact → List ℕ
row d b p F.Turn = turn_row (whose (turn b) (colour b)) (phase_in p)
row d b p F.Dice =
    dice_row (natural (field_of b 34)) (natural (field_of b 35)) (natural (field_of b 36)) (natural (field_of b 37))
row d b p F.Score = score_row (field_of b 5) (field_of b 6) (field_of b 4)
row d b p F.Cube = cube_row b
row d b p F.Way = direction_row d
row d b p F.Own =
    let c = p.standing.checkers in side_row (codes "You") (own_pips c) d side.Own (count_on c side.Own)
row d b p F.Other =
    let c = p.standing.checkers in side_row (take 30 b.opponent) (other_pips c) d side.Other (count_on c side.Other)
row d b p F.Held = held_row d p.standing.checkers
row d b p F.Blots = blots_row d p.standing.checkers (take 30 b.opponent)
