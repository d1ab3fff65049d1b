-- Which checkers a play hits (rules of backgammon), and the row that tells it (the project's own).
use Rattle.std.specs.Prelude.{◌-◌, ◌++◌, ◌==◌, ◌&&◌, ℕ, Bool, false, not, nat_lt, List, [], ◌∷◌, codes, decimal, length, map, slice_get, slice_index, take, Option, Some, None, if◌then◌else◌}
use Rattle.std.specs.List.{filter, list_any, range_with_len}
use Rattle.fibs_rules.specs.Checkers.{Checkers}
use Rattle.fibs_rules.specs.Hop.{Hop, hop_of}
use Rattle.fibs_rules.specs.declared.step.Step.{Step}
use Rattle.fibs_position.specs.DirectionOf.{line_place}
use Rattle.fibs_position.specs.declared.direction.Direction.{Direction}
use Rattle.fibs_advice.specs.declared.hits.Roller.{Roller}
use Rattle.fibs_advice.specs.declared.hits.Roller.TheVariants.{Own, Other}

-- the place that is so far from the user's bar, as he counts it who plays: he goes down
abbrev pub place_from : Roller → ℕ → ℕ
place_from Own far = 25 - far
place_from Other far = far

-- a step of a play comes to a place
abbrev pub comes_to : ℕ → List Hop → Bool
comes_to place steps = list_any (λ step. step.target == place) steps

-- a step that follows others hits: the other side has a single checker where it comes to, and none of them comes there
abbrev pub hits_after : Checkers → List Hop → Hop → Bool
hits_after c before step =
    nat_lt 0 step.target && ((slice_index c.other step.target == 1) && not (comes_to step.target before))

-- a step does, if there is one
abbrev pub hits_if : Checkers → List Step → Option Step → Bool
hits_if c before None = false
hits_if c before (Some step) = hits_after c (map hop_of before) (hop_of step)

-- the step of a play that follows so many
abbrev pub hits_at : Checkers → List Step → ℕ → Bool
hits_at c steps place = hits_if c (take place steps) (slice_get steps place)

-- a place so far from the user's bar is one where a play hits: the other side has a single checker there on the board
-- before, and a step comes there
abbrev pub is_hit : Roller → Checkers → List Hop → ℕ → Bool
is_hit roller c steps far =
    let place = place_from roller far in (slice_index c.other place == 1) && comes_to place steps

-- a place, if it is one of them
abbrev pub kept_if : Bool → ℕ → List ℕ
kept_if is_one far = if is_one then far ∷ [] else []

-- all such places among the first so many from the user's bar, in their order
unfoldable pub hit_on : Roller → Checkers → List Hop → ℕ → List ℕ
hit_on roller c steps many = filter (is_hit roller c steps) (range_with_len 1 many)

-- what stands between a number and those that follow it, if so many do
abbrev pub joint : ℕ → List ℕ
joint more = if more == 0 then [] else (if more == 1 then codes " and " else codes ", ")

-- the numbers of places by which the user goes this way
unfoldable pub listed : Direction → List ℕ → List ℕ
listed way [] = []
listed way (far ∷ places) = decimal (line_place way (25 - far)) ++ (joint (length places) ++ listed way places)

-- whom a play hits: the opponent has this name
abbrev pub hits_whom : Roller → List ℕ → List ℕ
hits_whom Own name = codes "You hit " ++ take 24 name
hits_whom Other name = take 24 name ++ codes " hits you"

-- the row: whom, and on which places; none if there are none
unfoldable pub hit_row : Roller → List ℕ → Direction → List ℕ → List ℕ
hit_row roller name way [] = []
hit_row roller name way (far ∷ places) =
    hits_whom roller name ++ (codes " on " ++ (listed way (far ∷ places) ++ codes ".\n"))
