-- Which line a word of the command line says: a board's line, or the object of one, which goes in again.
use Rattle.std.specs.Prelude.{◌≡◌, ◌↔◌, ◌⊎◌, ◌==◌, ℕ, Bool, false, List, [], ◌∷◌, codes}
use Rattle.std.specs.List.{list_any}
use Rattle.fibs_fields.specs.Board.{BoardFields}
use Rattle.fibs_messages.specs.Line.{board_line}
use Rattle.fibs_json.specs.Json.{is_escaped}
use Rattle.fibs_json.specs.Lines.{ReadObject, object_with}
use Rattle.fibs_json.specs.Plays.{PlaysOf}

-- no byte of the line is escaped in a string: for that of a board, no name has `"` or `\`
abbrev pub StandsAsItIs : List ℕ → Type 0
StandsAsItIs line = list_any is_escaped line ≡ false

-- the word is the object of a board's line, with whatever further members; the line stands in it as it is
abbrev pub IsObjectOf : List ℕ → List ℕ → Type 0
IsObjectOf line word = StandsAsItIs line × ((more : List ℕ) × (word ≡ object_with (codes "board") line more))

-- the word is the object of no line
abbrev pub IsNoObject : List ℕ → Type 0
IsNoObject word = (line : List ℕ) → ¬ IsObjectOf line word

-- the word says this line: the line whose object it is, and else itself
abbrev pub SaysLine : List ℕ → List ℕ → Type 0
SaysLine word line = IsObjectOf line word ⊎ (IsNoObject word × (line ≡ word))

-- what is printed for the line of a board, without its plays or with them, says that very line and no other
abbrev pub BoardsGoInAgain : Type 0
BoardsGoInAgain = (b : BoardFields) (line text said : List ℕ) → StandsAsItIs line
    → ReadObject line (board_line b) text ⊎ PlaysOf line b text → SaysLine text said ↔ (said ≡ line)

-- the word begins as an object does
abbrev pub begins_object : List ℕ → Bool
begins_object [] = false
begins_object (b ∷ s) = b == 123

-- any other word says itself, and no other line
abbrev pub OtherWordsAreLines : Type 0
OtherWordsAreLines = (word line : List ℕ) → begins_object word ≡ false → SaysLine word line ↔ (line ≡ word)

-- no word says two lines
abbrev pub WordsSayOneLine : Type 0
WordsSayOneLine = (word j k : List ℕ) → SaysLine word j → SaysLine word k → j ≡ k
