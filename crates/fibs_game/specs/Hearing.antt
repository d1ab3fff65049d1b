-- What a line says to a client: the one place that says it.
use Rattle.std.specs.Prelude.{ℕ, Bool, false, List, [], ◌∷◌, ◌++◌, Option, None, if◌then◌else◌}
use Rattle.fibs_game.specs.Game.{Game, Says, welcomes, informs, shows, says_nothing}
use Rattle.fibs_game.specs.Log.{Entry, Welcomed, Informed, Shown, Sent}
use Rattle.fibs_game.specs.Orders.{is_due}
use Rattle.fibs_game.specs.Words.{Ask, one_if, is_empty, welcomed, informed, is_spent, unconfirmed}

-- the answer to a line on a connection: the entries that are noted, the commands that are handed out, the decision that
-- is confirmed, and whether a standing order has rolled
pub record Heard (G : Game) : Type 0 where
  pub entries : List (Entry G)
  pub send : List (List ℕ)
  pub confirmed : Option (Ask G)
  pub rolled : Bool

-- what a line says
abbrev pub line_says : (G : Game) → G.Line → Says G.Board G.Info
line_says G l = G.says (G.reading l)

module _ {G : Game} where
  -- every other line
  abbrev pub nothing_heard : Heard G
  nothing_heard = record { entries = []; send = []; confirmed = None; rolled = false }

  -- an entry is noted, and commands are handed out at the first of its kind
  abbrev pub notes : Entry G → Bool → List (List ℕ) → Heard G
  notes e first texts =
      record { entries = e ∷ []; send = if first then texts else []; confirmed = None; rolled = false }

  -- what a board confirms: what was unconfirmed before it, if the stretch after it is not spent
  abbrev pub confirmed_by_board : ℕ → List (Entry G) → G.Board → Option (Ask G)
  confirmed_by_board c log b = if is_spent c (log ++ Shown c b ∷ []) then None else unconfirmed c log

  -- a board is shown, and a roll is sent on it or not
  abbrev pub shown_entries : ℕ → G.Board → Bool → List (Entry G)
  shown_entries c b rolls = Shown c b ∷ one_if rolls (Sent c b G.roll)

  -- a board is shown: what it confirms, and the roll that a standing order sends
  abbrev pub shows_board : ℕ → List (Entry G) → G.Board → Bool → Heard G
  shows_board c log b rolls = record {
    entries = shown_entries c b rolls;
    send = one_if rolls (G.command b G.roll);
    confirmed = confirmed_by_board c log b;
    rolled = rolls;
  }

  -- a board that has a position is shown; if a standing order is then due, the roll is sent
  abbrev pub heard_board : ℕ → List (Entry G) → G.Board → Heard G
  heard_board c log b =
      if G.good b then shows_board c log b (is_due c (log ++ Shown c b ∷ []) b) else nothing_heard

  -- by the connection, the log before the line, and what the line says
  abbrev pub heard : ℕ → List (Entry G) → Says G.Board G.Info → Heard G
  heard c log welcomes = notes (Welcomed c) (is_empty (welcomed c log)) (G.style ∷ [])
  heard c log (informs m) = notes (Informed c (G.flags m)) (is_empty (informed c log)) (G.initial m)
  heard c log (shows b) = heard_board c log b
  heard c log says_nothing = nothing_heard
