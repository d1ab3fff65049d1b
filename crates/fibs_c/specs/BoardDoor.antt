-- What C gets of a board.
use Rattle.std.specs.Prelude.{◌≡◌, ℕ, ℤ, pos, ◌+◌, ◌≤◌, ◌⊎◌, ◌&&◌, ◌||◌, Bool, not, List, int_le}
use Rattle.std.specs.Ordering.{int_eq}
use Rattle.fibs_fields.specs.Board.{BoardFields, BoardText, Wrong, field_of, spelling}
use Rattle.fibs_fields.specs.Faults.{fault_number}
use Rattle.fibs_fields.specs.declared.fault.Fault.{Fault}
use Rattle.fibs_position.specs.Crawford.{is_crawford}
use Rattle.fibs_position.specs.CubeOf.{cube_owner, owner_number}
use Rattle.fibs_position.specs.GamePart.{same_game}
use Rattle.fibs_c.specs.Records.BoardOf.{IsBoardAs}
use Rattle.fibs_c.specs.Records.Texts.{HandsOut, flag_of}
use Rattle.fibs_c.specs.declared.records.boards.BoardRecord.{BoardRecord}

-- the line says no board: this is the fault of its first wrong field
pub record IsWrongBoard (line : List ℕ) (status : ℕ) : Type 0 where
  pub field : ℕ
  pub fault : Fault
  pub wrong : Wrong line field fault
  pub status_is : status ≡ 300 + fault_number fault

-- the line says no board: its first wrong field, and the fault of that
pub record TellsWrongBoard (line : List ℕ) (field status : ℕ) : Type 0 where
  pub fault : Fault
  pub wrong : Wrong line field fault
  pub status_is : status ≡ 300 + fault_number fault

-- the fields of the line's board
pub record TellsBoard (line : List ℕ) (old r : BoardRecord) (field status : ℕ) : Type 0 where
  pub board : BoardFields
  pub says : BoardText board line
  pub told : IsBoardAs old r board
  pub no_field : field ≡ 0
  pub done : status ≡ 0

-- or the line says no board, and nothing is written of one
abbrev pub IsBoardRead : List ℕ → BoardRecord → BoardRecord → ℕ → ℕ → Type 0
IsBoardRead line r r' field status = (TellsWrongBoard line field status × (r' ≡ r)) ⊎ TellsBoard line r r' field status

-- the board of the line is printed
pub record PrintsBoard (line old new : List ℕ) (len status : ℕ) : Type 0 where
  pub board : BoardFields
  pub says : BoardText board line
  pub prints : HandsOut (spelling board) old new len status
  pub few : len ≤ 329

-- or the line says no board, and nothing is written
abbrev pub IsPrintedBoard : List ℕ → List ℕ → List ℕ → ℕ → ℕ → ℕ → Type 0
IsPrintedBoard line old new len len' status =
    (IsWrongBoard line status × (new ≡ old) × (len' ≡ len)) ⊎ PrintsBoard line old new len' status

-- the game is over, and with it the match: it is to one point, or a side has as many points as it is to
abbrev pub is_won : ℤ → ℤ → ℤ → ℤ → Bool
is_won turn length own other =
    int_eq turn (pos 0) && (int_le length (pos 1) || (int_le length own || int_le length other))

-- by the turn, the length and the scores of a board
abbrev pub ends_match : BoardFields → Bool
ends_match b = is_won (field_of b 33) (field_of b 4) (field_of b 5) (field_of b 6)

-- whether the board of the line says so
pub record TellsOver (line : List ℕ) (over status : ℕ) : Type 0 where
  pub board : BoardFields
  pub says : BoardText board line
  pub over_is : over ≡ flag_of (ends_match board)
  pub done : status ≡ 0

-- or the line says no board, and nothing is written
abbrev pub IsOverTold : List ℕ → ℕ → ℕ → ℕ → Type 0
IsOverTold line over over' status = (IsWrongBoard line status × (over' ≡ over)) ⊎ TellsOver line over' status

-- who may double next on the board of the line
pub record TellsOwner (line : List ℕ) (owner status : ℕ) : Type 0 where
  pub board : BoardFields
  pub says : BoardText board line
  pub owner_is : owner ≡ owner_number (cube_owner board)
  pub done : status ≡ 0

-- or the line says no board, and nothing is written
abbrev pub IsOwnerTold : List ℕ → ℕ → ℕ → ℕ → Type 0
IsOwnerTold line owner owner' status = (IsWrongBoard line status × (owner' ≡ owner)) ⊎ TellsOwner line owner' status

-- whether the board of the line says so
pub record TellsCrawford (line : List ℕ) (crawford status : ℕ) : Type 0 where
  pub board : BoardFields
  pub says : BoardText board line
  pub crawford_is : crawford ≡ flag_of (is_crawford board)
  pub done : status ≡ 0

-- or the line says no board, and nothing is written
abbrev pub IsCrawfordTold : List ℕ → ℕ → ℕ → ℕ → Type 0
IsCrawfordTold line crawford crawford' status =
    (IsWrongBoard line status × (crawford' ≡ crawford)) ⊎ TellsCrawford line crawford' status

-- the first line says a board, and the second one does not
pub record IsWrongSecond (line other : List ℕ) (status : ℕ) : Type 0 where
  pub board : BoardFields
  pub says : BoardText board line
  pub second : IsWrongBoard other status

-- whether the boards of two lines differ in what the game is
pub record TellsDifference (line other : List ℕ) (differ status : ℕ) : Type 0 where
  pub board : BoardFields
  pub says : BoardText board line
  pub second : BoardFields
  pub says_second : BoardText second other
  pub differ_is : differ ≡ flag_of (not (same_game board second))
  pub done : status ≡ 0

-- or one of them says no board, and nothing is written
abbrev pub IsDifferenceTold : List ℕ → List ℕ → ℕ → ℕ → ℕ → Type 0
IsDifferenceTold line other differ differ' status =
    ((IsWrongBoard line status ⊎ IsWrongSecond line other status) × (differ' ≡ differ))
    ⊎ TellsDifference line other differ' status
