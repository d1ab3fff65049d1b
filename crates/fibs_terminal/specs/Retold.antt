-- Texts of the server that name places, as the user reads them: in whose numbers (the project's own).
use Rattle.std.specs.Prelude.{◌≡◌, ◌≢◌, ◌⊎◌, ◌++◌, ◌&&◌, ℕ, Bool, true, List, codes, nat_eq, Option, Some, None, IfSome, unwrap_or, if◌then◌else◌}
use Rattle.std.specs.List.{starts_with}
use Rattle.fibs_fields.specs.Spaces.{without_spaces}
use Rattle.fibs_fields.specs.Split.{before}
use Rattle.fibs_position.specs.DirectionOf.{direction_of}
use Rattle.fibs_position.specs.NumbersOf.{counted}
use Rattle.fibs_position.specs.WatchedOf.{watched_of}
use Rattle.fibs_position.specs.declared.direction.Direction.{Direction}
use Rattle.fibs_position.specs.declared.direction.Direction.TheVariants.{Down}
use Rattle.fibs_position.specs.declared.numbers.Numbers.{Numbers}
use Rattle.fibs_position.specs.declared.numbers.Numbers.TheVariants.{TheServers}
use Rattle.fibs_position.specs.declared.watched_board.WatchedBoard.{WatchedBoard}
use Rattle.fibs_rules.specs.Hop.{Hop}
use Rattle.fibs_advice.specs.Moved.{moved_text, sent_text, sent_told}
use Rattle.fibs_advice.specs.declared.passing.Passing.{Passing}
use Rattle.fibs_advice.specs.declared.passing.Passing.TheVariants as P
use Rattle.fibs_wording.specs.declared.environment.settings.Settings.{Settings}
use Rattle.fibs_terminal.specs.TypedMoves.{after_word}
use Rattle.fibs_terminal.specs.WatchedKept.{is_watched}

-- who moves, if a text begins as one that tells a move
abbrev pub mover : List ℕ → Option (List ℕ)
mover said = if starts_with nat_eq (after_word said) (codes "moves ") then Some (before 32 said) else None

-- who moves is one of two players, or the text tells no move
abbrev pub is_of_these : Option (List ℕ) → WatchedBoard → Bool
is_of_these None w = true
is_of_these (Some name) w = is_watched name (Some w)

-- by whose direction a text is read while a game is watched: by that of the board that came last, unless others move
abbrev pub watched_direction : Option (List ℕ) → WatchedBoard → Option Direction
watched_direction name w = if is_of_these name w then Some (direction_of (watched_of w)) else None

-- a text of which no board shows the direction: no game is watched, and not the opponent moves
pub record IsOfOthers (heard : Option WatchedBoard) (opponent said : List ℕ) : Type 0 where
  pub unwatched : heard ≡ None
  pub name : List ℕ
  pub moves : mover said ≡ Some name
  pub other : name ≢ opponent

-- the same move, which a text tells if the user goes this way by its numbers, by the numbers that he reads
pub record IsSameMove (numbers : Numbers) (shown : Option Direction) (said row : List ℕ) : Type 0 where
  pub direction : Direction
  pub name : List ℕ
  pub steps : List Hop
  pub goes : shown ≡ Some direction
  pub told : without_spaces said ≡ moved_text direction name steps
  pub retold : row ≡ moved_text (counted numbers direction) name steps

-- the whole text, and that its places have the server's numbers
abbrev pub noted : List ℕ → List ℕ
noted said = without_spaces said ++ codes " (the server's numbers)"

-- in place of a text another one is shown only if the user reads other numbers than the server's: the same move in
-- those, or the whole text with a note
abbrev pub IsRetold : Numbers → Option Direction → List ℕ → Option (List ℕ) → Type 0
IsRetold numbers shown said row = IfSome row (λ text. (numbers ≢ TheServers)
    × ((text ≡ noted said) ⊎ IsSameMove numbers shown said text))

-- a command that was sent, as the user reads it: the whole command, and of a move also its steps in the numbers that he
-- reads; or it in those alone, if the least is told in words. Which way he went by the server's numbers the board that
-- came last has shown
abbrev pub sent_said : Settings → Option Direction → List ℕ → List ℕ
sent_said s direction command =
    if s.words && s.is_short
    then sent_told s.numbers (unwrap_or direction Down) command
    else sent_text s.numbers (unwrap_or direction Down) command

-- so it is said in a row, between these words
abbrev pub sent_row : Settings → Option Direction → List ℕ → List ℕ → List ℕ → List ℕ
sent_row s direction before command after =
    before ++ (sent_said s direction command ++ (after ++ codes "\n"))

-- what is said before a decision that went past the client
abbrev pub on_word : Passing → Option (List ℕ)
on_word P.Again = Some (codes "sent again: ")
on_word P.OnWord = Some (codes "sent on the server's word: ")
on_word passing = None
