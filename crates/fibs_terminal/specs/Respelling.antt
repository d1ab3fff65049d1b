-- How a terminal respells a line that the client does not know (the project's own).
use Rattle.std.specs.Prelude.{◌≡◌, ◌≤◌, ◌⊎◌, ℕ, List, [], true, false, length}
use Rattle.fibs_position.specs.declared.numbers.Numbers.{Numbers}
use Rattle.fibs_session.specs.Calls.Standing.{ClientValue, StandsAfter}
use Rattle.fibs_session.specs.History.Machine.{Talk}
use Rattle.fibs_session.specs.Typing.{way_now}
use Rattle.fibs_advice.specs.Spelled.{Spells, first_word, is_talk, name_spelled, small_line, small_first, takes_name, talk_spelled}
use Rattle.fibs_wording.specs.ServerWords.{is_passed}

-- a line is this one, for which it has room
abbrev pub IsSet : List ℕ → List ℕ → Type 0
IsSet bytes line = length bytes ≤ 4098 → line ≡ bytes

-- a line is respelled if it then goes to the server as it is: with its first word in small letters, or spelled so; else
-- it stays
abbrev pub IsPassedAs : List ℕ → List ℕ → List ℕ → Type 0
IsPassedAs spelled old new = (new ≡ old)
    ⊎ (((is_passed (small_first old) ≡ true) × IsSet (small_first old) new)
    ⊎ ((is_passed spelled ≡ true) × IsSet spelled new))

-- the spelling of a line: talk stays as it was typed but for its first word, a name but for the spaces after it; any
-- other line is in small letters, or the command of the move that it shows, in the numbers that the user reads
pub record IsSpelling (client : ClientValue) (numbers : Numbers) (typed spelled : List ℕ) : Type 0 where
  pub talk : is_talk (first_word typed) ≡ true → spelled ≡ talk_spelled typed
  pub name : is_talk (first_word typed) ≡ false → takes_name (first_word typed) ≡ true → spelled ≡ name_spelled typed
  pub plain : is_talk (first_word typed) ≡ false → takes_name (first_word typed) ≡ false → (t : Talk)
      → StandsAfter client t → Spells t (way_now numbers t) (small_line typed) [] spelled

-- a line is its spelling now
pub record IsRespelled (client : ClientValue) (numbers : Numbers) (typed line : List ℕ) : Type 0 where
  pub spelled : List ℕ
  pub spelling : IsSpelling client numbers typed spelled
  pub set : IsSet spelled line

-- a line stays as it was typed, or has its first word in small letters, or is its spelling
abbrev pub Respells : ClientValue → Numbers → List ℕ → List ℕ → Type 0
Respells client numbers typed line =
    (line ≡ typed) ⊎ (IsSet (small_first typed) line ⊎ IsRespelled client numbers typed line)
