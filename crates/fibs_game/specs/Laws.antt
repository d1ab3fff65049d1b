-- What holds of every lawful game, after every list of events none of which is refused, from every good first board on,
-- for every login that is no decision.
use Rattle.std.specs.Prelude.{◌≡◌, ℕ, ◌<◌, true, List}
use Rattle.fibs_game.specs.Game.{Game}
use Rattle.fibs_game.specs.Lawful.{IsQuiet}
use Rattle.fibs_game.specs.Words.{open_now}
use Rattle.fibs_game.specs.Events.{Event}
use Rattle.fibs_game.specs.Runs.{MayBe, world_after}
use Rattle.fibs_game.specs.Headline.{Headline}
use Rattle.fibs_game.specs.Stale.{NoneStale}
use Rattle.fibs_game.specs.Acts.{acts_after}
use Rattle.fibs_game.specs.Joint.{Joint}
use Rattle.fibs_game.specs.Agrees.{BoardsAgree, OnlyLogin}
use Rattle.fibs_game.specs.CanRest.{CanRest, EachNext, LeadsToRest}

-- a fact of each login, first board and list of events
abbrev pub Always : (G : Game) → (List ℕ → G.Board → List (Event G) → Type 0) → Type 0
Always G holds =
    (login : List ℕ) (first : G.Board) (events : List (Event G)) → IsQuiet G login → G.good first ≡ true
    → MayBe login first events → holds login first events

-- the headline holds of the world after each list of events
abbrev pub HeadlineHolds : Game → Type 0
HeadlineHolds G = Always G (λ login first events. Headline (world_after login first events))

-- no list of events makes the server serve a stale line
abbrev pub NothingServedIsStale : Game → Type 0
NothingServedIsStale G = Always G (λ login first events. NoneStale (world_after login first events))

-- the joint statement holds
abbrev pub JointStatement : Game → Type 0
JointStatement G =
    Always G (λ login first events. Joint (acts_after login first events) (world_after login first events))

-- client and server agree
abbrev pub AgreesHolds : Game → Type 0
AgreesHolds G =
    Always G (λ login first events. BoardsAgree (acts_after login first events) (world_after login first events))

-- and at rest without a board shown the client sent its login alone
abbrev pub OnlyLoginHolds : Game → Type 0
OnlyLoginHolds G = Always G (λ login first events. OnlyLogin login (world_after login first events))

-- a world in which a connection is open can come to rest
abbrev pub CanRestHolds : Game → Type 0
CanRestHolds G =
    Always G
    (λ login first before. 0 < open_now (world_after login first before).log → CanRest login first before)

-- this way leads to rest, whatever the dice
abbrev pub ThisWayLeadsToRest : Game → Type 0
ThisWayLeadsToRest G =
    Always G
    (λ login first before. 0 < open_now (world_after login first before).log
    → (d1 d2 : ℕ) → G.is_die d1 ≡ true → G.is_die d2 ≡ true → (events : List (Event G))
    → EachNext login d1 d2 (world_after login first before) events
    → LeadsToRest login first before d1 d2 events)
