-- A board as members of an object (FIBS board style 3; docs/FORMATS.md).
use Rattle.std.specs.Prelude.{◌≡◌, ◌==◌, ◌&&◌, ◌⊎◌, ◌*◌, ◌-◌, ℕ, ℤ, pos, List, [], ◌∷◌, ◌++◌, map, sum, codes, slice_index, if◌then◌else◌}
use Rattle.std.specs.List.{range_with_len}
use Rattle.std.specs.Ordering.{int_eq}
use Rattle.fibs_fields.specs.FieldReading.{natural}
use Rattle.fibs_fields.specs.Board.{BoardFields, field_of}
use Rattle.fibs_rules.specs.Checkers.{Checkers}
use Rattle.fibs_position.specs.First.{IsFirst}
use Rattle.fibs_position.specs.GoodBoard.{IsGood, HasFault, faults}
use Rattle.fibs_position.specs.Names.{phase_name, position_fault_name}
use Rattle.fibs_position.specs.OwnView.{turn, colour}
use Rattle.fibs_position.specs.Phases.{InPhase}
use Rattle.fibs_position.specs.PositionValue.{PositionValue, position_of}
use Rattle.fibs_position.specs.declared.phase.Phase.{Phase}
use Rattle.fibs_position.specs.declared.position_fault.PositionFault.{PositionFault}
use Rattle.fibs_json.specs.Json.{Json, string, signed, whole, wholes, truth, null, Member, member}
use Rattle.fibs_json.specs.declared.side.Side.{Side}
use Rattle.fibs_json.specs.declared.side.Side.TheVariants.{Player, Opponent}

-- a field that is a number
abbrev pub number_field : List ℕ → ℤ → Member
number_field name n = member name (signed n)

-- a field that is 1 for yes
abbrev pub yes_field : List ℕ → ℤ → Member
yes_field name n = member name (truth (int_eq n (pos 1)))

-- two dice, if they are shown
abbrev pub dice_json : ℕ → ℕ → Json
dice_json first second = if (first == 0) && (second == 0) then null else wholes (first ∷ second ∷ [])

-- the dice that two fields of a board say
abbrev pub dice_of : BoardFields → ℕ → ℕ → Json
dice_of b first second = dice_json (natural (field_of b first)) (natural (field_of b second))

-- whose turn it is
abbrev pub turn_json : ℤ → ℤ → Json
turn_json turn colour =
    if int_eq turn (pos 0) then null
    else (if int_eq turn colour then string (codes "player") else string (codes "opponent"))

-- the letter of a colour
abbrev pub colour_json : ℤ → Json
colour_json colour = if int_eq colour (pos 1) then string (codes "O") else string (codes "X")

-- the match
abbrev pub match_members : BoardFields → List Member
match_members b =
    member (codes "player") (string b.player)
    ∷ member (codes "opponent") (string b.opponent)
    ∷ number_field (codes "length") (field_of b 4)
    ∷ number_field (codes "score") (field_of b 5)
    ∷ number_field (codes "opponent_score") (field_of b 6)
    ∷ []

-- the turn
abbrev pub turn_members : BoardFields → List Member
turn_members b =
    member (codes "colour") (colour_json (colour b))
    ∷ number_field (codes "direction") (field_of b 43)
    ∷ member (codes "turn") (turn_json (turn b) (colour b))
    ∷ member (codes "dice") (dice_of b 34 35)
    ∷ member (codes "opponent_dice") (dice_of b 36 37)
    ∷ []

-- the cube
abbrev pub cube_members : BoardFields → List Member
cube_members b =
    number_field (codes "cube") (field_of b 38)
    ∷ yes_field (codes "may_double") (field_of b 39)
    ∷ yes_field (codes "opponent_may_double") (field_of b 40)
    ∷ yes_field (codes "was_doubled") (field_of b 41)
    ∷ []

-- the checkers that are off
abbrev pub off_members : BoardFields → List Member
off_members b =
    number_field (codes "off") (field_of b 46)
    ∷ number_field (codes "opponent_off") (field_of b 47)
    ∷ []

-- what else the server counts
abbrev pub count_members : BoardFields → List Member
count_members b =
    number_field (codes "can_move") (field_of b 50)
    ∷ number_field (codes "forced_move") (field_of b 51)
    ∷ number_field (codes "did_crawford") (field_of b 52)
    ∷ number_field (codes "redoubles") (field_of b 53)
    ∷ []

-- the members of each board
abbrev pub board_members : BoardFields → List Member
board_members b = match_members b ++ (turn_members b ++ (cube_members b ++ (off_members b ++ count_members b)))

-- a side's checkers on a place of its own numbering: off at 0, the bar at 25
abbrev pub own_numbered : Side → Checkers → ℕ → ℕ
own_numbered Player c place = slice_index c.own place
own_numbered Opponent c place = slice_index c.other (25 - place)

-- those on all places
unfoldable pub checkers_of : Side → Checkers → List ℕ
checkers_of side c = map (own_numbered side c) (range_with_len 0 26)

-- how far they have to go until they are off
abbrev pub pips_on : Side → Checkers → ℕ → ℕ
pips_on side c place = place * own_numbered side c place

-- the pips of a side: the sum over all places
unfoldable pub pips_of : Side → Checkers → ℕ
pips_of side c = sum (map (pips_on side c) (range_with_len 0 26))

-- the members of a position
abbrev pub position_members : Phase → PositionValue → List Member
position_members phase p =
    member (codes "phase") (string (phase_name phase))
    ∷ member (codes "checkers") (wholes (checkers_of Player p.standing.checkers))
    ∷ member (codes "opponent_checkers") (wholes (checkers_of Opponent p.standing.checkers))
    ∷ member (codes "pips") (whole (pips_of Player p.standing.checkers))
    ∷ member (codes "opponent_pips") (whole (pips_of Opponent p.standing.checkers))
    ∷ []

-- those of a board that has none, and why
abbrev pub fault_members : PositionFault → List Member
fault_members fault =
    member (codes "phase") null
    ∷ member (codes "no_position") (string (position_fault_name fault))
    ∷ []

-- a good board has its phase and its checkers; any other has its first fault
abbrev pub PositionMembers : BoardFields → List Member → Type 0
PositionMembers b ms =
    (IsGood b × ((phase : Phase) × InPhase (position_of b) phase × (ms ≡ position_members phase (position_of b))))
    ⊎ ((fault : PositionFault) × IsFirst (HasFault b) faults fault × (ms ≡ fault_members fault))
