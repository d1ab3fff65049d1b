-- The words of a board that is told, after another one (the project's own).
use Rattle.std.specs.Prelude.{ℕ, true, false, List, [], Option, Some, None, is_some, if◌then◌else◌}
use Rattle.fibs_position.specs.GameOf.{game_of}
use Rattle.fibs_position.specs.WatchedOf.{watched_of}
use Rattle.fibs_picture.specs.InWords.Rows.{row_of, players_row, words}
use Rattle.fibs_picture.specs.declared.in_words.fact.Fact.{Fact}
use Rattle.fibs_picture.specs.declared.in_words.told.Told.{Told}
use Rattle.fibs_picture.specs.declared.in_words.told.Told.TheVariants as T

-- the row of a fact
abbrev pub row_in : Told → Fact → List ℕ
row_in (T.Game game n) fact = row_of false n (game_of game) fact
row_in (T.Watched watched n) fact = row_of true n (watched_of watched) fact

-- the rows of a board that was told before
abbrev pub rows_before : Option Told → Option (Fact → List ℕ)
rows_before None = None
rows_before (Some told) = Some (row_in told)

-- who plays, if the board is watched
abbrev pub names_in : Told → List ℕ
names_in (T.Game game n) = []
names_in (T.Watched watched n) = players_row None true (watched_of watched)

-- it is told with the first board
abbrev pub players_in : Option Told → Told → List ℕ
players_in before told = if is_some before then [] else names_in told

-- the words of a board, after those of the one before
abbrev pub words_after : Option Told → Told → List ℕ
words_after before (T.Game game n) = words (rows_before before) false n (game_of game)
words_after before (T.Watched watched n) = words (rows_before before) true n (watched_of watched)
