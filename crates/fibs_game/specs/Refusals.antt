-- Which events are refused: a table, each line with its conditions in order. Memory is no part of it.
use Rattle.std.specs.Prelude.{Bool, true, false, not, ◌&&◌, ◌||◌, List, [], ◌∷◌, Option, Some, None, if◌then◌else◌, nat_eq, nat_lt, is_some}
use Rattle.fibs_game.specs.declared.world_refusal.WorldRefusal.{WorldRefusal}
use Rattle.fibs_game.specs.declared.world_refusal.WorldRefusal.TheVariants.{AlreadyOpen, NotOpen, NoSuchConnection, NothingToServe, BoardAsText, BadDice}
use Rattle.fibs_game.specs.Game.{Game, Says, shows}
use Rattle.fibs_game.specs.Words.{open_now}
use Rattle.fibs_game.specs.Machine.{on_wire}
use Rattle.fibs_game.specs.Wires.{next_line}
use Rattle.fibs_game.specs.Server.{own_refusal}
use Rattle.fibs_game.specs.Events.{Event, Open, Click, Plain, Deliver, Lose, Serve, Own, Repeat, Text, Order, Withdraw}
use Rattle.fibs_game.specs.World.{World}

-- a good board
abbrev pub reads_as_board : (G : Game) → Says G.Board G.Info → Bool
reads_as_board G (shows b) = G.good b
reads_as_board G x = false

-- more than one line, or one that reads as a good board
abbrev pub is_board_text : (G : Game) → List G.Line → Bool
is_board_text G [] = false
is_board_text G (l ∷ []) = reads_as_board G (G.says (G.reading l))
is_board_text G (l ∷ m ∷ ls) = true

module _ {G : Game} where
  -- why an event is refused now, if it is: the first reason of its row
  abbrev pub refusal : World G → Event G → Option WorldRefusal
  refusal w Open = if nat_eq (open_now w.log) 0 then None else Some AlreadyOpen
  refusal w (Click d) = None
  refusal w (Plain t) = None
  refusal w (Deliver n) = if nat_eq (open_now w.log) 0 then Some NotOpen else None
  refusal w (Lose k) = if nat_eq (open_now w.log) 0 then Some NotOpen else None
  refusal w (Serve c d1 d2) =
      if nat_eq c 0 || nat_lt w.count c then Some NoSuchConnection
      else (if not (G.is_die d1 && G.is_die d2) then Some BadDice
      else (if nat_lt c w.logged_in || not (is_some (next_line (w.links c).asked)) then Some NothingToServe else None))
  refusal w (Own b) = own_refusal G w.board b
  refusal w Repeat = None
  refusal w (Text t) = if is_board_text G (G.lines (on_wire t)) then Some BoardAsText else None
  refusal w Order = None
  refusal w Withdraw = None
