-- What holds of what is told of a board, if there is one.
use Rattle.std.proofs.Common.{◌≡◌, List, ℕ, Bool, Result, Ok, Err, Option, Some, subst, sym}
use Rattle.std.specs.Prelude.{IfOk, IfSome, IsTrue}
use Rattle.fibs_position.specs.GameOf.{game_of}
use Rattle.fibs_position.specs.declared.game_board.GameBoard.{GameBoard}
use Rattle.fibs_terminal.specs.Endings.{is_ending}
use Rattle.fibs_terminal.specs.Tellings.{has_told}
use Rattle.fibs_terminal.specs.declared.drawing.boards.Boards.{Boards}
use Rattle.fibs_terminal.specs.declared.drawing.ending.Ending.{Ending}

-- what holds of a value holds of the option that is it
pub in_some : {A : Type 0} (o : Option A) (a : A) (P : A → Type 0) → o ≡ Some a → P a → IfSome o P
in_some o a P same holds = subst (λ q. IfSome q P) (sym same) holds

-- a text that says the ending of the board that came last was told
pub some_told : {E : Type 0} (r : Result Bool E) (boards : Boards) (said name : List ℕ) (ending : Ending)
    (board : GameBoard)
    → boards.ending ≡ Some ending → boards.heard ≡ Some board → name ≡ (game_of board).opponent
    → IfOk r (λ tells. IsTrue tells → is_ending ending name said)
    → IfOk r (λ told. IsTrue told → has_told boards said)
some_told (Err e) boards said name ending board ended came named tells = tt
some_told (Ok t) boards said name ending board ended came named tells =
    λ yes. (ending, board, ended, came, subst (λ n. is_ending ending n said) named (tells yes))
