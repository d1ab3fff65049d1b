-- The board after a decision is carried out.
--
-- The effect asks for less than the rules do. For a move it asks that at each step a checker is at the source and no
-- two of the opponent's at the target. It asks nothing about how far a step goes, the bar, bearing off or the fullest
-- use of the dice.
use Rattle.std.specs.Prelude.{◌≡◌, ◌≢◌, ◌≤ℤ◌, ◌<◌, ◌≤◌, ◌==◌, ◌+ℤ◌, ◌-ℤ◌, ◌-◌, ◌++◌, ◌&&◌, not, int_le, nat_lt, nat_le, ℕ, ℤ, pos, neg_ℤ, Bool, Option, Some, None, option_map, List, [], ◌∷◌, map, slice_set, slice_index, if◌then◌else◌}
use Rattle.std.specs.Ordering.{int_eq}
use Rattle.fibs_fields.specs.Board.{BoardFields, field_of}
use Rattle.fibs_position.specs.OwnView.{turn, colour, NoDice, no_dice, own_view, place_field, places}
use Rattle.fibs_position.specs.GoodBoard.{IsGood, good}
use Rattle.fibs_rules.specs.Checkers.{Checkers}
use Rattle.fibs_rules.specs.LaxPlays.{LaxRun, lax_of}
use Rattle.fibs_position.specs.DecisionValue.{DecisionValue, roll, double, accept, reject, move, resign}

-- the board with the number of field n changed; every other field stays
abbrev pub set_field : BoardFields → ℕ → ℤ → BoardFields
set_field b n z = record b { numbers = slice_set b.numbers (n - 4) z }

-- the board with several fields changed; fields not named stay
abbrev pub set_fields : BoardFields → List (ℕ × ℤ) → BoardFields
set_fields b [] = b
set_fields b (change ∷ changes) = set_fields (set_field b change.0 change.1) changes

-- a number of a die
abbrev pub IsDie : ℕ → Type 0
IsDie die = (0 < die) × (die ≤ 6)

-- both dice are dice
abbrev pub AreThrown : List ℕ → Type 0
AreThrown dice = IsDie (slice_index dice 0) × IsDie (slice_index dice 1)

-- the player has the turn, and no double is to be answered
abbrev pub HasTurn : BoardFields → Type 0
HasTurn b = (turn b ≡ colour b) × (field_of b 41 ≡ pos 0)

-- before the roll: the player's dice are not shown
abbrev pub BeforeRoll : BoardFields → Type 0
BeforeRoll b = HasTurn b × NoDice b

-- after the roll: at least one of the player's dice is shown
abbrev pub BeforeMove : BoardFields → Type 0
BeforeMove b = HasTurn b × ¬ NoDice b

-- the opponent has just doubled
abbrev pub IsDoubled : BoardFields → Type 0
IsDoubled b = (turn b ≢ pos 0) × (field_of b 41 ≡ pos 1)

-- the value of a place: O's checkers are counted by positive numbers, X's by negative ones
abbrev pub value_of : ℤ → ℕ → ℕ → ℤ
value_of side own other = if int_eq side (pos 1) then pos own -ℤ pos other else pos other -ℤ pos own

-- what a place then says
abbrev pub place_says : BoardFields → Checkers → ℕ → ℕ × ℤ
place_says b q place = (place_field b place, value_of (colour b) (slice_index q.own place) (slice_index q.other place))

-- what places 1 to 24 then say
abbrev pub placed : BoardFields → Checkers → List (ℕ × ℤ)
placed b q = map (place_says b q) places

-- the dice of the roll are the player's, and the opponent's are taken away
abbrev pub rolled : BoardFields → List ℕ → BoardFields
rolled b dice =
    set_fields b ((34, pos (slice_index dice 0)) ∷ (35, pos (slice_index dice 1)) ∷ (36, pos 0) ∷ (37, pos 0) ∷ [])

-- the turn goes to the opponent, who has to answer
abbrev pub turn_given : BoardFields → BoardFields
turn_given b = set_fields b ((33, neg_ℤ (colour b)) ∷ [])

-- the cube shows twice as much, the player alone may double next, and the opponent goes on
abbrev pub accepted : BoardFields → BoardFields
accepted b =
    let twice = field_of b 38 +ℤ field_of b 38 in
    set_fields b ((41, pos 0) ∷ (38, twice) ∷ (39, pos 1) ∷ (40, pos 0) ∷ (33, neg_ℤ (colour b)) ∷ [])

-- the game is over
abbrev pub rejected : BoardFields → BoardFields
rejected b = set_fields b ((41, pos 0) ∷ (33, pos 0) ∷ [])

-- the checkers are so placed, those borne off are counted, and the turn goes to the opponent; with all fifteen off the
-- game is over
abbrev pub after_move : BoardFields → Checkers → BoardFields
after_move b q =
    let off = slice_index q.own 0 in
    let next = if off == 15 then pos 0 else neg_ℤ (colour b) in
    set_fields b (placed b q ++ (46, pos off) ∷ (34, pos 0) ∷ (35, pos 0) ∷ (33, next) ∷ [])

-- the table of decisions: the condition of each, and the board afterwards
abbrev pub Carries : BoardFields → DecisionValue → List ℕ → BoardFields → Type 0
Carries b roll dice after = BeforeRoll b × AreThrown dice × (after ≡ rolled b dice)
Carries b double dice after = BeforeRoll b × (after ≡ turn_given b)
Carries b accept dice after = IsDoubled b × (field_of b 38 ≤ℤ pos 524288) × (after ≡ accepted b)
Carries b reject dice after = IsDoubled b × (after ≡ rejected b)
Carries b (move steps) dice after =
    BeforeMove b × ((q : Checkers) × LaxRun (own_view b) steps q × (after ≡ after_move b q))
Carries b (resign stake) dice after = HasTurn b × (after ≡ turn_given b)

-- a decision on a good board leads to a board
abbrev pub Effect : BoardFields → DecisionValue → List ℕ → BoardFields → Type 0
Effect b decision dice after = IsGood b × Carries b decision dice after

-- ---- the same as functions

-- a number of a die
abbrev pub is_die : ℕ → Bool
is_die die = nat_lt 0 die && nat_le die 6

-- both dice are dice
abbrev pub are_thrown : List ℕ → Bool
are_thrown dice = is_die (slice_index dice 0) && is_die (slice_index dice 1)

-- the player has the turn, and no double is to be answered
abbrev pub has_turn : BoardFields → Bool
has_turn b = int_eq (turn b) (colour b) && int_eq (field_of b 41) (pos 0)

-- the opponent has just doubled
abbrev pub is_doubled : BoardFields → Bool
is_doubled b = not (int_eq (turn b) (pos 0)) && int_eq (field_of b 41) (pos 1)

-- the board afterwards, if the condition of the decision holds
abbrev pub carried : BoardFields → DecisionValue → List ℕ → Option BoardFields
carried b roll dice = if (has_turn b && no_dice b) && are_thrown dice then Some (rolled b dice) else None
carried b double dice = if has_turn b && no_dice b then Some (turn_given b) else None
carried b accept dice = if is_doubled b && int_le (field_of b 38) (pos 524288) then Some (accepted b) else None
carried b reject dice = if is_doubled b then Some (rejected b) else None
carried b (move steps) dice =
    if has_turn b && not (no_dice b) then option_map (after_move b) (lax_of (own_view b) steps) else None
carried b (resign stake) dice = if has_turn b then Some (turn_given b) else None

-- the same on a good board, and none on any other
unfoldable pub effect_of : BoardFields → DecisionValue → List ℕ → Option BoardFields
effect_of b decision dice = if good b then carried b decision dice else None
