-- One checker by one die (rules of backgammon): four ways to go, each to a free place or with a hit.
use Rattle.std.specs.Prelude.{◌≡◌, ℕ, ◌+◌, ◌-◌, ◌<◌, ◌≤◌, ◌==◌, ◌&&◌, ◌||◌, ◌⊎◌, Bool, nat_lt, nat_le, slice_index, Option, Some, None, if◌then◌else◌}
use Rattle.fibs_rules.specs.Checkers.{Checkers, IsOpen, AllHome, moved, is_empty_from, is_open}

-- from the bar, to the place that the die counts from 25 down
pub record Enters (p : Checkers) (from to die : ℕ) : Type 0 where
  pub barred : 0 < slice_index p.own 25
  pub from_bar : from ≡ 25
  pub onto : to + die ≡ 25

-- on the board, to the place that the die counts down, if no checker is on the bar
pub record Moves (p : Checkers) (from to die : ℕ) : Type 0 where
  pub bar_empty : slice_index p.own 25 ≡ 0
  pub occupied : 0 < slice_index p.own from
  pub onto : to + die ≡ from
  pub on_board : 0 < to

-- off, by the die that is the place, if all are home
pub record BearsOff (p : Checkers) (from to die : ℕ) : Type 0 where
  pub home : AllHome p
  pub occupied : 0 < slice_index p.own from
  pub exact : from ≡ die
  pub off : to ≡ 0

-- off from the highest place, by a larger die, if all are home
pub record BearsOffHighest (p : Checkers) (from to die : ℕ) : Type 0 where
  pub home : AllHome p
  pub occupied : 0 < slice_index p.own from
  pub larger : from < die
  pub highest : (place : ℕ) → from < place → slice_index p.own place ≡ 0
  pub off : to ≡ 0

-- one own checker goes by a die in one of these ways, to an open place
pub record One (p : Checkers) (from to die : ℕ) (q : Checkers) : Type 0 where
  pub source : (0 < from) × (from ≤ 25)
  pub goes : Enters p from to die ⊎ Moves p from to die ⊎ BearsOff p from to die ⊎ BearsOffHighest p from to die
  pub free : IsOpen p to
  pub leads : q ≡ moved p from to

-- ---- the same as functions

-- a checker may leave this place by this die, wherever it comes to
abbrev pub can_leave : Checkers → ℕ → ℕ → Bool
can_leave p from die =
    if nat_lt 0 (slice_index p.own 25)
    then from == 25
    else nat_lt 0 (slice_index p.own from)
    && (nat_lt die from || (is_empty_from p 7 && (from == die || is_empty_from p (from + 1))))

-- the places from which a checker may go
abbrev pub is_source : ℕ → Bool
is_source from = nat_lt 0 from && nat_le from 25

-- one checker's way as a function of the source and the die
abbrev pub one_of : Checkers → ℕ → ℕ → Option Checkers
one_of p from die =
    if is_source from && (can_leave p from die && is_open p (from - die))
    then Some (moved p from (from - die))
    else None
