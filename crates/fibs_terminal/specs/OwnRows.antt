-- How wide the rows of a terminal's own words are, and what is said of the place of its boards (the project's own).
use Rattle.std.specs.Prelude.{◌≡◌, ◌≢◌, ◌↔◌, ℕ, Bool, true, false, IsTrue, ◌-◌, ◌==◌, ◌&&◌, List, Option, Some, codes, not, if◌then◌else◌}
use Rattle.fibs_position.specs.declared.game_board.GameBoard.{GameBoard}
use Rattle.fibs_position.specs.declared.watched_board.WatchedBoard.{WatchedBoard}
use Rattle.fibs_picture.specs.InWords.Rows.{Says}
use Rattle.fibs_wording.specs.declared.environment.settings.Settings.{Settings}
use Rattle.fibs_terminal.specs.Above.{StandsAgain}
use Rattle.fibs_terminal.specs.declared.drawing.above.Above.{Above}

-- the columns that they have: the last one of the terminal stays free
abbrev pub own_columns : Settings → ℕ
own_columns s = s.columns - 1

-- why the newest board does not stand above, for which the user has asked: if the terminal has not said how high it is,
-- what says it
abbrev pub why_below : Settings → List ℕ
why_below s =
    if s.words then codes "Boards are told in words here: none stands above.\n" else
    if not s.scrolls_below then codes "This terminal can't keep a board above.\n" else
    if s.rows == 0 then codes "How high is this terminal? rows 40 says it.\n" else
    codes "This terminal is too low for a board above: it scrolls.\n"

-- what is said once the user has asked for it: that it stands above; if no board is known, that the next ones will, if
-- they have room; or why it does not. Before the terminal has said how high it is, nothing is said of room
abbrev pub said_above : Bool → Bool → Settings → List ℕ
said_above held stands s =
    if held then codes "The newest board stands above now: board below lets it scroll.\n" else
    if stands && not (s.rows == 0)
    then codes "Boards stand above from now on, if they have room: board below ends that.\n" else
    why_below s

-- what is said of a place that was asked for
abbrev pub place_words : Bool → Bool → Bool → Settings → List ℕ
place_words true held stands s = said_above held stands s
place_words false held stands s = codes "Boards scroll now: board above has the newest one stand above.\n"

-- once it was asked for, the settings have it; the board that came last stands above or not, and behind that the user
-- is told
abbrev pub SaysPlace : Bool → Settings → Settings → Option WatchedBoard → Option GameBoard → Above → Above
    → List ℕ → List ℕ → Type 0
SaysPlace above s next watched game old now before after = (next ≡ record s { above = Some above })
    × ((stands : Bool) × (held : Bool) × (middle : List ℕ)
    × StandsAgain next watched game old now before middle stands × (IsTrue held ↔ (now.held ≢ 0))
    × Says (own_columns next) (place_words above held stands next) middle after)
