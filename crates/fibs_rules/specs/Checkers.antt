-- The checkers of both sides, and what one checker's way makes of them (rules of backgammon).
use Rattle.std.specs.Prelude.{◌≡◌, ℕ, ◌+◌, ◌-◌, ◌<◌, ◌&&◌, ◌||◌, ◌==◌, nat_lt, Bool, List, drop, slice_index, slice_set, if◌then◌else◌}
use Rattle.std.specs.List.{list_all}

-- How many checkers are on each place, in the player's own numbering. Of the player's own, place 25 is the bar and
-- place 0 is off. Of the other side, which goes the other way, place 0 is the bar and place 25 is off.
pub record Checkers : Type 0 where
  pub own : List ℕ
  pub other : List ℕ

-- one checker of a side goes from a place to another
abbrev pub shifted : List ℕ → ℕ → ℕ → List ℕ
shifted counts from to =
    let left = slice_set counts from (slice_index counts from - 1) in slice_set left to (slice_index left to + 1)

-- the other side after an own checker comes to a place: a single checker there is hit, and goes to its bar
abbrev pub hit : List ℕ → ℕ → List ℕ
hit other to = if nat_lt 0 to && (slice_index other to == 1) then shifted other to 0 else other

-- both sides after an own checker went from a place to another
abbrev pub moved : Checkers → ℕ → ℕ → Checkers
moved p from to = record { own = shifted p.own from to; other = hit p.other to }

-- a place to which an own checker may come: off, or one that the other side does not hold with two or more
abbrev pub IsOpen : Checkers → ℕ → Type 0
IsOpen p to = 0 < to → slice_index p.other to < 2

-- all own checkers are on places 1 to 6 or off
abbrev pub AllHome : Checkers → Type 0
AllHome p = (place : ℕ) → 6 < place → slice_index p.own place ≡ 0

-- ---- the same as functions

-- no own checker is at this place or above it
abbrev pub is_empty_from : Checkers → ℕ → Bool
is_empty_from p place = list_all (λ n. n == 0) (drop place p.own)

-- a place to which an own checker may come
abbrev pub is_open : Checkers → ℕ → Bool
is_open p to = nat_lt (slice_index p.other to) 2 || (to == 0)
