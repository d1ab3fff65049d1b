-- A world in which a connection is open can come to rest, of backgammon.
use Rattle.std.specs.Prelude.{ℕ, ◌+◌, ◌<◌, ◌≤◌, List, ◌++◌, length}
use Rattle.fibs_fields.specs.Board.{BoardFields}
use Rattle.fibs_game.specs.CanRest as A
use Rattle.fibs_position.specs.BoardEffect.{IsDie}
use Rattle.fibs_position.specs.GoodBoard.{IsGood}
use Rattle.fibs_commands.specs.Logins.{IsLogin, login_text}
use Rattle.fibs_session.specs.History.Words.{open_now}
use Rattle.fibs_model.specs.Events.{Event}
use Rattle.fibs_model.specs.Joint.{AreLines}
use Rattle.fibs_model.specs.Runs.{MayBe, world_after}
pub use Rattle.fibs_game.specs.CanRest.{OnlyWires, WithDice, asked_now, coming_now, lines_served, next_to_rest, EachNext}

-- such events bring the world after a list of events to rest
abbrev pub ComesToRest : List ℕ → BoardFields → List Event → ℕ → ℕ → Type 0
ComesToRest login first before d1 d2 = A.ComesToRest login first before d1 d2

-- what holds of the world after a list of events, in which a connection is open
pub record CanRest (login : List ℕ) (first : BoardFields) (before : List Event) : Type 0 where
  -- it comes to rest by such events, whatever the dice;
  pub rest : (d1 d2 : ℕ) → IsDie d1 → IsDie d2 → ComesToRest login first before d1 d2
  -- and however its lines are taken and its bytes delivered, in any order and with any dice, at most five lines more
  -- are taken than are on their way to the server
  pub ends : (events : List Event) → OnlyWires (open_now (world_after login first before).log) events
      → MayBe login first (before ++ events)
      → (lines : List (List ℕ)) → AreLines (asked_now (world_after login first before)) lines
      → lines_served events ≤ length lines + 5

-- it holds after each list of events none of which is refused, from every good first board on, for every login
abbrev pub CanRestHolds : Type 0
CanRestHolds =
    (name password : List ℕ) (first : BoardFields) (before : List Event) → IsLogin name password → IsGood first
    → MayBe (login_text name password) first before
    → 0 < open_now (world_after (login_text name password) first before).log
    → CanRest (login_text name password) first before

-- what such events after a list of events lead to
abbrev pub LeadsToRest : List ℕ → BoardFields → List Event → ℕ → ℕ → List Event → Type 0
LeadsToRest login first before d1 d2 events = A.LeadsToRest login first before d1 d2 events

-- this way leads to rest, whatever the dice, under the same premises
abbrev pub ThisWayLeadsToRest : Type 0
ThisWayLeadsToRest =
    (name password : List ℕ) (first : BoardFields) (before : List Event) → IsLogin name password → IsGood first
    → MayBe (login_text name password) first before
    → 0 < open_now (world_after (login_text name password) first before).log
    → (d1 d2 : ℕ) → IsDie d1 → IsDie d2 → (events : List Event)
    → EachNext (login_text name password) d1 d2 (world_after (login_text name password) first before) events
    → LeadsToRest (login_text name password) first before d1 d2 events
