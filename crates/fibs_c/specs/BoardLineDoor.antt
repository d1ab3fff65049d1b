-- The lines of boards that C has as records, and of boards with the sides exchanged.
use Rattle.std.specs.Prelude.{◌≡◌, ℕ, ℤ, pos, neg_ℤ, ◌+◌, ◌<◌, ◌≤◌, ◌⊎◌, ◌++◌, List, ◌∷◌, length, take, codes, flat_map, slice_index_or, nat_eq, if◌then◌else◌}
use Rattle.std.specs.Fmt.{signed_decimal}
use Rattle.fibs_fields.specs.Board.{BoardFields, BoardText, field_of}
use Rattle.fibs_c.specs.declared.records.boards.BoardRecord.{BoardRecord}
use Rattle.fibs_c.specs.BoardDoor.{IsPrintedBoard, IsWrongBoard}

-- numbers, each after a colon
abbrev pub numbers_text : List ℤ → List ℕ
numbers_text = flat_map (λ z. 58 ∷ signed_decimal z)

-- the line of two names and numbers, whether they are those of a board or not (FIBS board style 3)
abbrev pub board_text : List ℕ → List ℕ → List ℤ → List ℕ
board_text player opponent numbers = codes "board:" ++ player ++ 58 ∷ opponent ++ numbers_text numbers

-- the names of a record lie within their bytes
abbrev pub HasNames : BoardRecord → Type 0
HasNames r = (r.player_len ≤ 64) × (r.opponent_len ≤ 64)

-- the line that a record says
abbrev pub text_in : BoardRecord → List ℕ
text_in r = board_text (take r.player_len r.player) (take r.opponent_len r.opponent) r.numbers

-- what printing the board of that line does; a name that is longer than its bytes is not valid, and then nothing is
-- written
abbrev pub IsBoardLine : BoardRecord → List ℕ → List ℕ → ℕ → ℕ → ℕ → Type 0
IsBoardLine r old new len len' status =
    (HasNames r × IsPrintedBoard (text_in r) old new len len' status)
    ⊎ (((64 < r.player_len) ⊎ (64 < r.opponent_len)) × (status ≡ 305) × (new ≡ old) × (len' ≡ len))

-- the field of the other side that says what field n says of one side; a field that says one thing of both is its own
abbrev pub other_field : ℕ → ℕ
other_field n =
    if nat_eq n 5 then 6 else if nat_eq n 6 then 5 else if nat_eq n 34 then 36 else if nat_eq n 35 then 37
    else if nat_eq n 36 then 34 else if nat_eq n 37 then 35 else if nat_eq n 39 then 40 else if nat_eq n 40 then 39
    else if nat_eq n 44 then 45 else if nat_eq n 45 then 44 else if nat_eq n 46 then 47 else if nat_eq n 47 then 46
    else if nat_eq n 48 then 49 else if nat_eq n 49 then 48 else n

-- field n with the sides exchanged: the colour and the direction are the other ones; that the opponent has doubled,
-- how many checkers can move and a forced move are said of one side only, so of the other it is 0
abbrev pub turned_field : BoardFields → ℕ → ℤ
turned_field b n =
    if nat_eq n 41 then pos 0 else if nat_eq n 42 then neg_ℤ (field_of b 42)
    else if nat_eq n 43 then neg_ℤ (field_of b 43) else if nat_eq n 50 then pos 0 else if nat_eq n 51 then pos 0
    else field_of b (other_field n)

-- these are the numbers with the sides exchanged
pub record AreTurned (b : BoardFields) (numbers : List ℤ) : Type 0 where
  pub all : length numbers ≡ 50
  pub each : (i : ℕ) → i < 50 → slice_index_or numbers i (pos 0) ≡ turned_field b (i + 4)

-- the line of the board with the sides exchanged is printed
pub record PrintsTurned (line old new : List ℕ) (len len' status : ℕ) : Type 0 where
  pub board : BoardFields
  pub says : BoardText board line
  pub numbers : List ℤ
  pub turned : AreTurned board numbers
  pub prints : IsPrintedBoard (board_text board.player board.opponent numbers) old new len len' status

-- or the line says no board, and nothing is written
abbrev pub IsTurned : List ℕ → List ℕ → List ℕ → ℕ → ℕ → ℕ → Type 0
IsTurned line old new len len' status =
    (IsWrongBoard line status × (new ≡ old) × (len' ≡ len)) ⊎ PrintsTurned line old new len len' status
