-- The headline, of backgammon. It is said of any game, in Headline of fibs_game.
use Rattle.std.specs.Prelude.{ℕ, List}
use Rattle.fibs_fields.specs.Board.{BoardFields}
use Rattle.fibs_game.specs.Headline as A
use Rattle.fibs_position.specs.DecisionValue.{DecisionValue}
use Rattle.fibs_session.specs.Fibs.{fibs}
use Rattle.fibs_session.specs.History.Log.{Entry}
use Rattle.fibs_session.specs.History.Words.{Ask}
use Rattle.fibs_model.specs.World.{World}
pub use Rattle.fibs_game.specs.Headline.{IsPrefixOf, places, is_sent, is_took, InOrder, its_click, its_order, AllAnswerTheirs, SentNext, AllClicksSent, AllOrdersSent, AllOnShown, AllMovedOn, NoneUndone, AllAnswered, conn_of, AllAtMost}

-- each of the decisions was allowed by the rules on its board, which is good
abbrev pub AllLegal : List Ask → Type 0
AllLegal = A.AllLegal fibs

-- each of the boards is good
abbrev pub AllGood : List BoardFields → Type 0
AllGood = A.AllGood fibs

-- what a Sent answers, after the log before it
abbrev pub Answers : ℕ → BoardFields → List Entry → DecisionValue → Type 0
Answers c b before d = A.Answers c b before d

-- a connection is open and logged in, all lines that it sent were served, and all bytes sent to it were delivered
abbrev pub IsAtRest : World → Type 0
IsAtRest w = A.IsAtRest w

-- the headline
abbrev pub Headline : World → Type 0
Headline w = A.Headline w
