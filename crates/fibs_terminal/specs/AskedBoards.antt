-- What is told in words if the user asks for the board that is shown, or for a fact of it (the project's own).
use Rattle.std.specs.Prelude.{◌≡◌, ◌++◌, ℕ, Bool, true, false, List, Option, Some, None, IfSome}
use Rattle.fibs_fields.specs.Board.{BoardFields}
use Rattle.fibs_picture.specs.Fits.{ended}
use Rattle.fibs_picture.specs.InWords.Rows.{IsBroken, row_of}
use Rattle.fibs_picture.specs.declared.in_words.fact.Fact.{Fact}
use Rattle.fibs_picture.specs.declared.in_words.told.Told.{Told}
use Rattle.fibs_position.specs.WatchedOf.{watched_of}
use Rattle.fibs_position.specs.declared.watched_board.WatchedBoard.{WatchedBoard}
use Rattle.fibs_session.specs.Calls.Standing.{ClientValue, StandsAfter}
use Rattle.fibs_session.specs.History.Machine.{Talk, shown_now}
use Rattle.fibs_wording.specs.declared.environment.settings.Settings.{Settings}
use Rattle.fibs_terminal.specs.Drawings.{TellsBoard, told_before}
use Rattle.fibs_terminal.specs.WatchedDrawings.{TellsWatched}

-- a fact of a board of a game that is watched or not is said in rows that have room
abbrev pub SaysFact : Settings → Bool → BoardFields → Fact → List ℕ → List ℕ → Type 0
SaysFact s watched b fact before after = (t : List ℕ)
    × IsBroken s.columns (ended (row_of watched s.numbers b fact)) t
    × (after ≡ before ++ t)

-- of the board that is shown: that of the game which is watched, else that of the user's own, if there is one
abbrev pub SaysFactShown : ClientValue → Settings → Option WatchedBoard → Fact → List ℕ → List ℕ → Type 0
SaysFactShown client s (Some w) fact before after = SaysFact s true (watched_of w) fact before after
SaysFactShown client s None fact before after = (t : Talk) → StandsAfter client t
    → IfSome (shown_now t) (λ b. SaysFact s false b fact before after)

-- the user's own board is told, whole
abbrev pub TellsOwn : Settings → Option Told → BoardFields → List ℕ → List ℕ → Type 0
TellsOwn s told b before after = (t : List ℕ) × TellsBoard s (told_before s true told) b t × (after ≡ before ++ t)

-- the board that is shown is told so: that of the game which is watched, else that of the user's own, if there is one;
-- each was told before, or not
abbrev pub TellsShown : ClientValue → Settings → Option WatchedBoard → Option Told → Option Told → List ℕ → List ℕ
    → Type 0
TellsShown client s (Some w) watched own before after = (t : List ℕ)
    × TellsWatched s (told_before s true watched) (watched_of w) t
    × (after ≡ before ++ t)
TellsShown client s None watched own before after = (t : Talk) → StandsAfter client t
    → IfSome (shown_now t) (λ b. TellsOwn s own b before after)
