-- Client and server agree on the board, of backgammon.
use Rattle.std.specs.Prelude.{ℕ, List}
use Rattle.fibs_fields.specs.Board.{BoardFields}
use Rattle.fibs_game.specs.Agrees as A
use Rattle.fibs_position.specs.GoodBoard.{IsGood}
use Rattle.fibs_commands.specs.Logins.{IsLogin, login_text}
use Rattle.fibs_model.specs.Acts.{Act, acts_after}
use Rattle.fibs_model.specs.Events.{Event}
use Rattle.fibs_model.specs.Runs.{MayBe, world_after}
use Rattle.fibs_model.specs.World.{World}
pub use Rattle.fibs_game.specs.Agrees.{board_sent, boards_sent}

-- the boards that the server's acts sent on each connection, beside the world after these acts
abbrev pub BoardsAgree : (ℕ → List Act) → World → Type 0
BoardsAgree acts w = A.BoardsAgree acts w

-- at rest, if no board is shown on the connection that is logged in, the client handed out its login there alone
abbrev pub OnlyLogin : List ℕ → World → Type 0
OnlyLogin login w = A.OnlyLogin login w

-- client and server agree after every list of events none of which is refused, from every good first board on, for
-- every login
abbrev pub AgreesHolds : Type 0
AgreesHolds =
    (name password : List ℕ) (first : BoardFields) (events : List Event) → IsLogin name password → IsGood first
    → MayBe (login_text name password) first events
    → BoardsAgree (acts_after (login_text name password) first events)
    (world_after (login_text name password) first events)

-- and at rest without a board shown the client sent its login alone, under the same premises
abbrev pub OnlyLoginHolds : Type 0
OnlyLoginHolds =
    (name password : List ℕ) (first : BoardFields) (events : List Event) → IsLogin name password → IsGood first
    → MayBe (login_text name password) first events
    → OnlyLogin (login_text name password) (world_after (login_text name password) first events)
