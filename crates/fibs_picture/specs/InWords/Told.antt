-- What the words of a board tell.
use Rattle.std.specs.Prelude.{◌≡◌, ℕ, List, Option, false, true}
use Rattle.fibs_fields.specs.Board.{BoardFields}
use Rattle.fibs_position.specs.GoodBoard.{IsGood}
use Rattle.fibs_position.specs.Phases.{phase_of}
use Rattle.fibs_position.specs.Watched.{IsWatched}
use Rattle.fibs_position.specs.declared.numbers.Numbers.{Numbers}
use Rattle.fibs_picture.specs.InWords.Rows.{words, rejoined}
use Rattle.fibs_picture.specs.Told.{SameToTheEye}
use Rattle.fibs_picture.specs.WatchedTold.{SameToTheWatcher}
use Rattle.fibs_picture.specs.declared.in_words.fact.Fact.{Fact}

-- boards of the same words after the same ones before, each with a position, are the same in all that their pictures
-- show: arrangement, turn, phase, dice, cube, who may double, scores, length of the match, the opponent's name, and by
-- the server's numbers the direction
abbrev pub WordsTell : Type 0
WordsTell = (before : Option (Fact → List ℕ)) (n : Numbers) (a b : BoardFields) → IsGood a → IsGood b
    → words before false n a ≡ words before false n b → SameToTheEye n a b

-- watched boards of the same words are the same in all that their pictures show, and in what the player is to do
abbrev pub WatchedWordsTell : Type 0
WatchedWordsTell = (before : Option (Fact → List ℕ)) (n : Numbers) (a b : BoardFields) → IsWatched a → IsWatched b
    → words before true n a ≡ words before true n b → SameToTheWatcher n a b × (phase_of a ≡ phase_of b)

-- the rows of a board, broken and joined again, are its rows
abbrev pub RowsJoin : Type 0
RowsJoin = (before : Option (Fact → List ℕ)) (n : Numbers) (b : BoardFields)
    → (IsGood b → rejoined (words before false n b) ≡ words before false n b)
    × (IsWatched b → rejoined (words before true n b) ≡ words before true n b)
