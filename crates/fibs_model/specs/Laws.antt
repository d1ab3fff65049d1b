-- What holds after every list of events none of which is refused, from every good first board on, for every login.
use Rattle.std.specs.Prelude.{ℕ, List}
use Rattle.fibs_fields.specs.Board.{BoardFields}
use Rattle.fibs_position.specs.GoodBoard.{IsGood}
use Rattle.fibs_commands.specs.Logins.{IsLogin, login_text}
use Rattle.fibs_model.specs.Events.{Event}
use Rattle.fibs_model.specs.World.{World}
use Rattle.fibs_model.specs.Runs.{MayBe, world_after}
use Rattle.fibs_model.specs.Headline.{Headline}
use Rattle.fibs_model.specs.Stale.{NoneStale}

-- it holds of the world after each list of events
abbrev pub Always : (World → Type 0) → Type 0
Always holds =
    (name password : List ℕ) (first : BoardFields) (events : List Event) → IsLogin name password → IsGood first
    → MayBe (login_text name password) first events
    → holds (world_after (login_text name password) first events)

-- the headline holds of each list of events
abbrev pub HeadlineHolds : Type 0
HeadlineHolds = Always Headline

-- no list of events makes the server serve a stale line
abbrev pub NothingServedIsStale : Type 0
NothingServedIsStale = Always NoneStale
