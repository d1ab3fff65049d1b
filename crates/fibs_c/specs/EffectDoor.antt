-- What C gets of a board after a decision.
use Rattle.std.specs.Prelude.{◌≡◌, ℕ, ◌≤◌, ◌⊎◌, List, Option, None, Some}
use Rattle.fibs_fields.specs.Board.{BoardFields, BoardText, spelling}
use Rattle.fibs_position.specs.BoardEffect.{effect_of}
use Rattle.fibs_position.specs.DecisionValue.{DecisionValue}
use Rattle.fibs_position.specs.GoodBoard.{IsGood}
use Rattle.fibs_c.specs.PositionDoor.{IsNoPosition}
use Rattle.fibs_c.specs.Records.Texts.{HandsOut}

-- the line says this board, and it is good
abbrev pub IsGoodIn : List ℕ → BoardFields → Type 0
IsGoodIn line board = BoardText board line × IsGood board

-- the board after a decision is printed; or the server does not carry it out, and nothing is written
abbrev pub IsAfter : Option BoardFields → List ℕ → List ℕ → ℕ → ℕ → ℕ → Type 0
IsAfter None old new len len' status = (status ≡ 510) × (new ≡ old) × (len' ≡ len)
IsAfter (Some b) old new len len' status = HandsOut (spelling b) old new len' status × (len' ≤ 329)

-- what the decision does to the line's board, with these dice if it is a roll
pub record TellsEffect (line : List ℕ) (d : DecisionValue) (dice old new : List ℕ) (len len' status : ℕ) : Type 0 where
  pub board : BoardFields
  pub is : IsGoodIn line board
  pub after : IsAfter (effect_of board d dice) old new len len' status

-- or it is no decision, or the line has no position, and nothing is written
abbrev pub IsEffectTold : List ℕ → Option DecisionValue → List ℕ → List ℕ → List ℕ → ℕ → ℕ → ℕ → Type 0
IsEffectTold line None dice old new len len' status = (status ≡ 504) × (new ≡ old) × (len' ≡ len)
IsEffectTold line (Some d) dice old new len len' status =
    (IsNoPosition line status × (new ≡ old) × (len' ≡ len)) ⊎ TellsEffect line d dice old new len len' status
