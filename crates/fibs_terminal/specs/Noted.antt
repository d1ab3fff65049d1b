-- What a terminal takes note of when something is reported to it (the project's own).
use Rattle.std.specs.Prelude.{◌≡◌, ◌≢◌, ◌/◌, ◌||◌, ℕ, Bool, true, false, nat_le, List, codes, Some, is_some, IfSome}
use Rattle.std.specs.Str.{bytes_eq}
use Rattle.std.specs.declared.time.Duration.{Duration}
use Rattle.fibs_fields.specs.Split.{before}
use Rattle.fibs_position.specs.DirectionOf.{direction_of}
use Rattle.fibs_position.specs.GameOf.{game_of}
use Rattle.fibs_position.specs.declared.game_board.GameBoard.{GameBoard}
use Rattle.fibs_advice.specs.Passing.{goes}
use Rattle.fibs_advice.specs.Situations.{waiting_after}
use Rattle.fibs_advice.specs.Standings.{is_called}
use Rattle.fibs_advice.specs.declared.situation.BoardAsked.TheVariants as B
use Rattle.fibs_terminal.specs.Again.{after_lost, after_opened, takes_leave}
use Rattle.fibs_terminal.specs.Boxes.{IsNewConnection, kept_looking, kept_of, nothing_watched}
use Rattle.fibs_terminal.specs.Fixing.{after_end}
use Rattle.fibs_terminal.specs.declared.memory.Memory.{Memory}
use Rattle.fibs_terminal.specs.declared.people.ListAsked.TheVariants as A
use Rattle.fibs_terminal.specs.declared.reconnecting.Reconnecting.{Reconnecting}

-- ---- connections

-- a connection was made at a time: on it nothing is known but what outlives the one before, and of the program nothing
-- changes but that there is a connection
pub record Opens (old : Memory) (at : Duration) (new : Memory) : Type 0 where
  pub here : IsNewConnection (kept_of old.here) at new.here
  pub program : new.program ≡ record old.program {
    reconnecting = after_opened old.program.reconnecting;
    converses = true;
  }

-- it has lasted for a minute
abbrev pub has_lasted : ℕ → Bool
has_lasted nanoseconds = nat_le 60 (nanoseconds / 1_000_000_000)

-- a connection has ended: what outlives it is kept, and nothing else of it
pub record Loses (old new : Memory) : Type 0 where
  pub at : Duration
  pub here : IsNewConnection (kept_of old.here) at new.here
  pub people : new.program.people ≡ old.program.people
  pub talk : new.program.talk ≡ old.program.talk
  pub account : new.program.account ≡ old.program.account
  pub results : new.program.results ≡ old.program.results

-- whether it is opened again is decided, and what is typed then, if `fix` was asked for
pub record Reconnects (old : Memory) (nanoseconds : ℕ) (new : Memory) : Type 0 where
  pub here : new.here ≡ old.here
  pub again : new.program.reconnecting ≡ after_lost (has_lasted nanoseconds) old.program.reconnecting
  pub fixing : new.program.fixing.step
      ≡ after_end old.program.fixing.step (after_lost (has_lasted nanoseconds) old.program.reconnecting).tries
  pub people : new.program.people ≡ old.program.people
  pub talk : new.program.talk ≡ old.program.talk
  pub account : new.program.account ≡ old.program.account
  pub results : new.program.results ≡ old.program.results

-- ---- boards

-- a board of the user's game has come: it is said again what is advised, and whatever it is if he has asked for the
-- board after his last decision; from now on he goes as it shows, its plays are listed from the first on, and no other
-- game is watched
pub record NotesGame (old : Memory) (game : GameBoard) (new : Memory) : Type 0 where
  pub heard : new.here.table.boards.heard ≡ Some game
  pub again : new.here.advising.says_again ≡ true
  pub asked : old.here.situation.asked ≡ B.Now → new.here.advising.inquired ≡ true
  pub unasked : old.here.situation.asked ≢ B.Now → new.here.advising.inquired ≡ old.here.advising.inquired
  pub direction : new.here.direction ≡ Some (direction_of (game_of game))
  pub looking : new.here.looking ≡ kept_looking old.here.looking
  pub watching : new.here.watching ≡ nothing_watched

-- ---- lines that were sent

-- the user leaves the server by a line, or has before
abbrev pub after_line : List ℕ → Reconnecting → Reconnecting
after_line line r = record r { leaves = r.leaves || takes_leave line }

-- a command was sent: after a decision it is said again what is advised, and that one waits; a list of all players is
-- awaited after `who`; no list of moves is
pub record NotesSent (old : Memory) (command : List ℕ) (new : Memory) : Type 0 where
  pub leaves : new.program.reconnecting ≡ after_line command old.program.reconnecting
  pub moves : new.here.lists_moves ≡ false
  pub asked : bytes_eq command (codes "who") ≡ true → new.here.list.asked ≡ A.Everybody
  pub unasked : bytes_eq command (codes "who") ≡ false → new.here.list ≡ old.here.list
  pub again : is_some (waiting_after command) ≡ true → new.here.advising.says_again ≡ true
  pub waits : IfSome (waiting_after command) (λ waiting. new.here.situation.waiting ≡ waiting)
  pub table : new.here.table ≡ old.here.table
  pub watching : new.here.watching ≡ old.here.watching
  pub looking : new.here.looking ≡ old.here.looking

-- a line went past the client: it is said again what is advised; after a decision on the server's word that asks for no
-- other one; and a list of moves is awaited only after a line that is sent as it is, by its first word
pub record NotesPassed (old : Memory) (line : List ℕ) (new : Memory) : Type 0 where
  pub leaves : new.program.reconnecting ≡ after_line line old.program.reconnecting
  pub again : new.here.advising.says_again ≡ true
  pub called : goes old.here.passing ≡ true → is_called new.here.situation.standing ≡ false
  pub moves : goes old.here.passing ≡ true → new.here.lists_moves ≡ false
  pub lists : goes old.here.passing ≡ false
      → new.here.lists_moves ≡ bytes_eq (before 32 line) (codes "oldmoves")
  pub table : new.here.table ≡ old.here.table
  pub looking : new.here.looking ≡ old.here.looking
