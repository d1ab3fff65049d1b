-- No wait lasts: a world in which a connection is open can come to rest, without a new connection (the project's own).
-- At rest the client may still refuse each click. The server takes the lines that are on their way to it, and the bytes
-- on their way to the client are delivered.
use Rattle.std.specs.Prelude.{◌≡◌, ℕ, ◌+◌, ◌≤◌, true, List, [], ◌∷◌, ◌++◌, Option, Some, None, if◌then◌else◌, is_some, length}
use Rattle.fibs_game.specs.Game.{Game}
use Rattle.fibs_game.specs.Words.{is_empty, open_now}
use Rattle.fibs_game.specs.Events.{Event, Serve, Deliver}
use Rattle.fibs_game.specs.Headline.{IsAtRest}
use Rattle.fibs_game.specs.Joint.{AreLines}
use Rattle.fibs_game.specs.Runs.{MayBe, world_after}
use Rattle.fibs_game.specs.Wires.{next_line}
use Rattle.fibs_game.specs.World.{World, after}

module _ {G : Game} where
  -- each of the events is that the server takes a line of c, or that bytes are delivered
  abbrev pub OnlyWires : ℕ → List (Event G) → Type 0
  OnlyWires c [] = Unit {0}
  OnlyWires c (Serve conn d1 d2 ∷ later) = (conn ≡ c) × OnlyWires c later
  OnlyWires c (Deliver n ∷ later) = OnlyWires c later
  OnlyWires c (e ∷ later) = ⊥

  -- each line is taken with these dice
  abbrev pub WithDice : ℕ → ℕ → List (Event G) → Type 0
  WithDice d1 d2 [] = Unit {0}
  WithDice d1 d2 (Serve conn die other_die ∷ later) = (die ≡ d1) × (other_die ≡ d2) × WithDice d1 d2 later
  WithDice d1 d2 (e ∷ later) = WithDice d1 d2 later

  -- the bytes on their way on the open connection, to the server
  abbrev pub asked_now : World G → List ℕ
  asked_now w = (w.links (open_now w.log)).asked

  -- the bytes on their way on it, to the client
  abbrev pub coming_now : World G → List ℕ
  coming_now w = (w.links (open_now w.log)).coming

  -- how many lines the server takes
  abbrev pub lines_served : List (Event G) → ℕ
  lines_served [] = 0
  lines_served (Serve conn d1 d2 ∷ later) = lines_served later + 1
  lines_served (e ∷ later) = lines_served later

  -- Such events bring the world after a list of events to rest: none of them is refused when it comes, and they are at
  -- most eight more than the lines that are on their way to the server on the open connection.
  pub record ComesToRest (login : List ℕ) (first : G.Board) (before : List (Event G)) (d1 d2 : ℕ) : Type 0 where
    pub events : List (Event G)
    pub only_wires : OnlyWires (open_now (world_after login first before).log) events
    pub with_dice : WithDice d1 d2 events
    pub may_be : MayBe login first (before ++ events)
    pub rests : IsAtRest (world_after login first (before ++ events))
    pub few : (lines : List (List ℕ)) → AreLines (asked_now (world_after login first before)) lines
        → length events ≤ length lines + 8

  -- what holds of the world after a list of events, in which a connection is open
  pub record CanRest (login : List ℕ) (first : G.Board) (before : List (Event G)) : Type 0 where
    -- it comes to rest by such events, whatever the dice;
    pub rest : (d1 d2 : ℕ) → G.is_die d1 ≡ true → G.is_die d2 ≡ true → ComesToRest login first before d1 d2
    -- and however its lines are taken and its bytes delivered, in any order and with any dice, at most five lines more
    -- are taken than are on their way to the server
    pub ends : (events : List (Event G)) → OnlyWires (open_now (world_after login first before).log) events
        → MayBe login first (before ++ events)
        → (lines : List (List ℕ)) → AreLines (asked_now (world_after login first before)) lines
        → lines_served events ≤ length lines + 5

  -- What comes next on a way to rest, with these dice: the server takes the next line of the open connection; if there
  -- is none, all bytes on their way to the client are delivered; if there are none either, nothing comes.
  abbrev pub next_to_rest : ℕ → ℕ → World G → Option (Event G)
  next_to_rest d1 d2 w =
      if is_some (next_line (asked_now w)) then Some (Serve (open_now w.log) d1 d2)
      else (if is_empty (coming_now w) then None else Some (Deliver (length (coming_now w))))

  -- each of the events is what comes next
  abbrev pub EachNext : List ℕ → ℕ → ℕ → World G → List (Event G) → Type 0
  EachNext login d1 d2 w [] = Unit {0}
  EachNext login d1 d2 w (e ∷ later) = (next_to_rest d1 d2 w ≡ Some e) × EachNext login d1 d2 (after login w e) later

  -- what such events after a list of events lead to
  pub record LeadsToRest (login : List ℕ) (first : G.Board) (before : List (Event G)) (d1 d2 : ℕ)
      (events : List (Event G)) : Type 0 where
    pub only_wires : OnlyWires (open_now (world_after login first before).log) events
    pub with_dice : WithDice d1 d2 events
    -- none of them is refused when it comes
    pub may_be : MayBe login first (before ++ events)
    -- if nothing comes next, the world is at rest
    pub rests : next_to_rest d1 d2 (world_after login first (before ++ events)) ≡ None
        → IsAtRest (world_after login first (before ++ events))
    -- there are at most eight more than there are lines on their way to the server, so also than there are bytes
    pub few : (lines : List (List ℕ)) → AreLines (asked_now (world_after login first before)) lines
        → length events ≤ length lines + 8
    pub few_by_bytes : length events ≤ length (asked_now (world_after login first before)) + 8
