-- Bytes may come in any pieces.
use Rattle.std.proofs.Common.{◌≡◌, ℕ, Bool, true, false, List, [], ◌∷◌, ◌++◌, if◌then◌else◌, flat_map, refl}
use Rattle.fibs_game.specs.Log.{Entry, Shown}
use Rattle.fibs_game.specs.Words.{open_from, opened_by}
use Rattle.fibs_game.specs.Orders.{is_due}
use Rattle.fibs_game.specs.Hearing.{Heard, shows_board}
use Rattle.fibs_game.specs.MachineLaws.{LinesOpenNoConnection}
use Rattle.fibs_game.specs.Game.{Game, welcomes, informs, shows, says_nothing}

module _ (G : Game) where
  -- no line opens or ends a connection

  -- an answer opens no connection and ends none
  abbrev OpensNone : Heard G → Type 0
  OpensNone h = (flat_map opened_by h.entries ≡ []) × ((o : ℕ) → open_from o h.entries ≡ o)

  -- a choice of two answers opens and ends no connection if neither does
  if_opens_none : (b : Bool) (g h : Heard G) → OpensNone g → OpensNone h → OpensNone (if b then g else h)
  if_opens_none true g h p q = p
  if_opens_none false g h p q = q

  -- a board that is shown opens and ends no connection, with or without a roll
  shows_opens_none : (c : ℕ) (log : List (Entry G)) (b : G.Board) (rolls : Bool) → OpensNone (shows_board c log b rolls)
  shows_opens_none c log b true = (refl, λ o. refl)
  shows_opens_none c log b false = (refl, λ o. refl)

  -- no line of the server opens or ends a connection
  pub lines_open_none : LinesOpenNoConnection G
  lines_open_none c log welcomes = (refl, λ o. refl)
  lines_open_none c log (informs m) = (refl, λ o. refl)
  lines_open_none c log (shows b) = if_opens_none (G.good b)
      _ _ (shows_opens_none c log b (is_due c (log ++ Shown c b ∷ []) b)) (refl, λ o. refl)
  lines_open_none c log says_nothing = (refl, λ o. refl)
