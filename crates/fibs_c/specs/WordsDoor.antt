-- What C gets of a board in words.
use Rattle.std.specs.Prelude.{◌≡◌, ◌⊎◌, ℕ, List, None}
use Rattle.fibs_fields.specs.Board.{BoardFields, BoardText}
use Rattle.fibs_position.specs.GameOf.{game_of}
use Rattle.fibs_position.specs.WatchedOf.{watched_of}
use Rattle.fibs_position.specs.declared.numbers.Numbers.TheVariants.{TheOwn}
use Rattle.fibs_picture.specs.InWords.Rows.{IsBroken}
use Rattle.fibs_picture.specs.InWords.Tellings.{words_after}
use Rattle.fibs_picture.specs.declared.in_words.told.Told.{Told}
use Rattle.fibs_picture.specs.declared.in_words.told.Told.TheVariants as T
use Rattle.fibs_c.specs.PositionDoor.{IsNoPosition}
use Rattle.fibs_c.specs.Records.Texts.{HandsOut}

-- a board is told, of the user's game or of one that he watches, in the player's own numbers
abbrev pub IsToldOf : BoardFields → Told → Type 0
IsToldOf b (T.Game game numbers) = (game_of game ≡ b) × (numbers ≡ TheOwn)
IsToldOf b (T.Watched watched numbers) = (watched_of watched ≡ b) × (numbers ≡ TheOwn)

-- the board of a line is told so
pub record IsToldIn (line : List ℕ) (told : Told) : Type 0 where
  pub board : BoardFields
  pub says : BoardText board line
  pub is : IsToldOf board told

-- its words are handed out, as a terminal of the greatest width has them
pub record TellsWords (line old new : List ℕ) (len status : ℕ) : Type 0 where
  pub told : Told
  pub is : IsToldIn line told
  pub words : List ℕ
  pub rows : IsBroken 18446744073709551615 (words_after None told) words
  pub handed : HandsOut words old new len status

-- or the line says no board, or one without a position, or memory ran out, and nothing is written
abbrev pub IsWordsTold : List ℕ → List ℕ → List ℕ → ℕ → ℕ → ℕ → Type 0
IsWordsTold line old new len len' status =
    ((IsNoPosition line status ⊎ (status ≡ 401)) × (new ≡ old) × (len' ≡ len)) ⊎ TellsWords line old new len' status
