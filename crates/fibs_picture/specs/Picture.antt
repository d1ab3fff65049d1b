-- What pictures and words of a board share, and what can be done on it (the project's own).
use Rattle.std.specs.Prelude.{◌-◌, ◌*◌, ◌++◌, ℕ, ℤ, pos, Bool, true, false, List, codes, map, sum, slice_index, is_none, if◌then◌else◌}
use Rattle.std.specs.Fmt.{signed_decimal}
use Rattle.std.specs.List.{range_with_len}
use Rattle.std.specs.Ordering.{int_eq}
use Rattle.fibs_fields.specs.Board.{BoardFields, field_of}
use Rattle.fibs_rules.specs.Checkers.{Checkers}
use Rattle.fibs_position.specs.Allowed.{refusal_of}
use Rattle.fibs_position.specs.DecisionValue.{DecisionValue, accept, double}
use Rattle.fibs_position.specs.Phases.{phase_in}
use Rattle.fibs_position.specs.PositionValue.{PositionValue}
use Rattle.fibs_position.specs.declared.phase.Phase.{Phase}
use Rattle.fibs_position.specs.declared.phase.Phase.TheVariants as phase

-- how far the checkers of a place have to go until they are off: the player's down to place 0, the opponent's up to 25
abbrev pub own_pips_on : Checkers → ℕ → ℕ
own_pips_on c place = place * slice_index c.own place

-- the same of the opponent, up to place 25
abbrev pub other_pips_on : Checkers → ℕ → ℕ
other_pips_on c place = (25 - place) * slice_index c.other place

-- the pips of the player, over all places
unfoldable pub own_pips : Checkers → ℕ
own_pips c = sum (map (own_pips_on c) (range_with_len 0 26))

-- the pips of the opponent, over all places
unfoldable pub other_pips : Checkers → ℕ
other_pips c = sum (map (other_pips_on c) (range_with_len 0 25))

-- 9999 means an unlimited match
abbrev pub match_length : ℤ → List ℕ
match_length n = if int_eq n (pos 9999) then codes "unlimited match" else codes "match to " ++ signed_decimal n

-- who may double next
abbrev pub doublers : Bool → Bool → List ℕ
doublers true true = codes ", in the middle"
doublers true false = codes ", yours"
doublers false true = codes ", the opponent's"
doublers false false = codes ", no doubling"

-- field n is 1
abbrev pub is_one : BoardFields → ℕ → Bool
is_one b n = int_eq (field_of b n) (pos 1)

-- what the cube shows, and who may double next
unfoldable pub cube : BoardFields → List ℕ
cube b = codes "cube " ++ (signed_decimal (field_of b 38) ++ doublers (is_one b 39) (is_one b 40))

-- ---- what can be done

-- there is no reason against a decision of the player
abbrev pub may : PositionValue → DecisionValue → Bool
may p decision = is_none (refusal_of p decision)

-- what can be done in a phase, by whether a double may be accepted, and offered
abbrev pub deed : Phase → Bool → Bool → List ℕ
deed phase.Over accepts doubles = codes "The game is over."
deed phase.AnswerDouble true doubles = codes "You are offered a double: accept, or reject."
deed phase.AnswerDouble false doubles = codes "You are offered a double: reject."
deed phase.OpponentActs accepts doubles = codes "The opponent plays."
deed phase.RollOrDouble accepts true = codes "You roll, or double, or resign."
deed phase.RollOrDouble accepts false = codes "You roll, or resign."
deed phase.Move accepts doubles = codes "You move, or resign."
deed phase.Passing accepts doubles = codes "You can't move."

-- what can be done in a position
unfoldable pub deed_in : PositionValue → List ℕ
deed_in p = deed (phase_in p) (may p accept) (may p double)
