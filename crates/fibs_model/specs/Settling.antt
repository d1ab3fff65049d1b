-- What settling promises: the world comes to rest, and client and server agree.
use Rattle.std.specs.Prelude.{◌≡◌, ℕ, ◌+◌, ◌≤◌, not, ◌&&◌, List, ◌++◌, Option, Some, None, if◌then◌else◌, nat_eq, length}
use Rattle.fibs_fields.specs.Board.{BoardFields}
use Rattle.fibs_position.specs.BoardEffect.{is_die}
use Rattle.fibs_commands.specs.Logins.{login_text}
use Rattle.fibs_session.specs.History.Words.{last, open_now, shown}
use Rattle.fibs_model.specs.Acts.{acts_after}
use Rattle.fibs_model.specs.Agrees.{BoardsAgree}
use Rattle.fibs_model.specs.CanRest.{EachNext, OnlyWires, WithDice, asked_now}
use Rattle.fibs_model.specs.Events.{Event}
use Rattle.fibs_model.specs.Headline.{IsAtRest}
use Rattle.fibs_model.specs.Joint.{AreLines}
use Rattle.fibs_model.specs.World.{World}
use Rattle.fibs_game.specs.declared.world_refusal.WorldRefusal.{WorldRefusal}
use Rattle.fibs_game.specs.declared.world_refusal.WorldRefusal.TheVariants.{NotOpen, BadDice}
use Rattle.fibs_model.specs.WorldCalls.{WorldStandsAfter, machine_after}
use Rattle.fibs_model.specs.WorldOf.{WorldValue}

-- why a world cannot be brought to rest with these dice: no connection is open, or one of them is no die
abbrev pub settle_refusal : ℕ → ℕ → World → Option WorldRefusal
settle_refusal d1 d2 w =
    if nat_eq (open_now w.log) 0 then Some NotOpen else (if not (is_die d1 && is_die d2) then Some BadDice else None)

-- What settling did, with these dice, to a world that was reached by some events: it is now reached by them and by
-- further ones, as many as were done. The refusal says why the next one was not, if there was one.
pub record Settled (v : WorldValue) (name password : List ℕ) (first : BoardFields) (before : List Event)
    (d1 d2 done : ℕ) (refusal : Option WorldRefusal) : Type 0 where
  pub events : List Event
  pub many : length events ≡ done
  pub stands : WorldStandsAfter v name password first (before ++ events)
  -- each of them is what comes next on the way to rest
  pub next : EachNext (login_text name password) d1 d2 (machine_after name password first before) events
  -- they only serve lines of the open connection, with these dice, or deliver bytes
  pub only_wires : OnlyWires (open_now (machine_after name password first before).log) events
  pub with_dice : WithDice d1 d2 events
  -- they are at most eight more than the lines that were on their way to the server
  pub few : (lines : List (List ℕ)) → AreLines (asked_now (machine_after name password first before)) lines
      → done ≤ length lines + 8
  -- if none was refused, the world is at rest,
  pub rests : refusal ≡ None → IsAtRest (machine_after name password first (before ++ events))
  -- and the board that the client shows, if there is one, is the one that the server has
  pub same : refusal ≡ None → (b : BoardFields)
      → last (shown (open_now (machine_after name password first (before ++ events)).log)
      (machine_after name password first (before ++ events)).log) ≡ Some b
      → b ≡ v.server.board
  -- in any case the boards shown are those that the server sent, as far as they were delivered
  pub agrees : BoardsAgree (acts_after (login_text name password) first (before ++ events))
      (machine_after name password first (before ++ events))
