-- Events as C has them.
use Rattle.std.specs.Prelude.{◌≡◌, ◌++◌, ⊤, ℕ, List, [], ◌∷◌, take, Option, Some, None, option_map}
use Rattle.fibs_fields.specs.Bytes.{name_bytes}
use Rattle.fibs_position.specs.declared.stake.Stake.{Stake}
use Rattle.fibs_position.specs.declared.stake.Stake.TheVariants as K
use Rattle.fibs_rules.specs.Hop.{Hop}
use Rattle.fibs_rules.specs.PlayValue.{hops_of}
use Rattle.fibs_events.specs.declared.event.Event.{Event}
use Rattle.fibs_events.specs.declared.event.Event.TheVariants as E
use Rattle.fibs_events.specs.declared.event.Length.{Length}
use Rattle.fibs_events.specs.declared.event.Length.TheVariants as L
use Rattle.fibs_events.specs.declared.event.Offer.{Offer}
use Rattle.fibs_events.specs.declared.event.Offer.TheVariants as O
use Rattle.fibs_events.specs.declared.event.Side.{Side}
use Rattle.fibs_events.specs.declared.event.Side.TheVariants as S
use Rattle.fibs_events.specs.declared.happened.Happened.{Happened}
use Rattle.fibs_events.specs.declared.happened.Rolled.{Rolled}
use Rattle.fibs_events.specs.declared.happened.Turned.{Turned}
use Rattle.fibs_events.specs.declared.happened.Won.{Won}
use Rattle.fibs_events.specs.declared.happened.WonMatch.{WonMatch}
use Rattle.fibs_c.specs.Records.Decisions.{IsMove}
use Rattle.fibs_c.specs.declared.records.events.EventRecord.{EventRecord}
use Rattle.fibs_c.specs.declared.records.events.HappenedRecord.{HappenedRecord}
use Rattle.fibs_c.specs.declared.records.events.NameRecord.{NameRecord}

-- a side: 1 the player, 2 the opponent
abbrev pub side_number : Side → ℕ
side_number S.Own = 1
side_number S.Other = 2

-- to how many points a match is, as a board has it: 9999 if it is unlimited
abbrev pub length_number : Length → ℕ
length_number (L.Points points) = points
length_number L.Unlimited = 9999

-- what was offered: 1 to double, 2 to give up the game
abbrev pub offer_number : Offer → ℕ
offer_number O.Double = 1
offer_number O.Resignation = 2

-- what a game is worth: 1 a single game, 2 a gammon, 3 a backgammon
abbrev pub stake_number : Stake → ℕ
stake_number K.Normal = 1
stake_number K.Gammon = 2
stake_number K.Backgammon = 3

-- the same, or 0 if that is not known
abbrev pub worth_number : Option Stake → ℕ
worth_number None = 0
worth_number (Some stake) = stake_number stake

-- the bytes of a name
abbrev pub name_in : NameRecord → List ℕ
name_in r = take r.len r.bytes

-- an event of a kind that names a player
abbrev pub IsNamed : EventRecord → ℕ → List ℕ → Type 0
IsNamed r kind name = (r.kind ≡ kind) × (name_in r.name ≡ name)

-- an event of a kind that names a player with whom there is to be a match
abbrev pub IsOfMatch : EventRecord → ℕ → List ℕ → Length → Type 0
IsOfMatch r kind name length = (r.kind ≡ kind) × (name_in r.name ≡ name) × (r.length ≡ length_number length)

-- an event of a kind and a side
abbrev pub IsOfSide : EventRecord → ℕ → Side → Type 0
IsOfSide r kind who = (r.kind ≡ kind) × (r.who ≡ side_number who)

-- an event of a kind, a side, and points that it offers or wins
abbrev pub IsOfPoints : EventRecord → ℕ → Side → ℕ → Option Stake → Type 0
IsOfPoints r kind who points worth =
    (r.kind ≡ kind) × (r.who ≡ side_number who) × (r.points ≡ points) × (r.worth ≡ worth_number worth)

-- what C gets of an event, by its kind
abbrev pub IsEvent : EventRecord → Event → Type 0
IsEvent r (E.LoggedIn name) = IsNamed r 1 (name_bytes name)
IsEvent r (E.Invited name length) = IsOfMatch r 2 (name_bytes name) length
IsEvent r (E.InvitedToResume name) = IsNamed r 3 (name_bytes name)
IsEvent r (E.Joined name length) = IsOfMatch r 4 (name_bytes name) length
IsEvent r (E.Resumed name) = IsNamed r 5 (name_bytes name)
IsEvent r (E.GameBegun name) = IsNamed r 6 (name_bytes name)
IsEvent r (E.Rolled who dice) = (r.kind ≡ 7) × (r.who ≡ side_number who) × (r.dice ≡ dice)
IsEvent r (E.Played who play) = (r.kind ≡ 8) × (r.who ≡ side_number who) × IsMove r.play (hops_of play)
IsEvent r (E.CannotMove who) = IsOfSide r 9 who
IsEvent r (E.Doubled who) = IsOfSide r 10 who
IsEvent r (E.Accepted who offer) = (r.kind ≡ 11) × (r.who ≡ side_number who) × (r.offer ≡ offer_number offer)
IsEvent r (E.Rejected who) = IsOfSide r 12 who
IsEvent r (E.OfferedToResign who points worth) = IsOfPoints r 13 who points worth
IsEvent r (E.Declined who) = IsOfSide r 14 who
IsEvent r (E.GameOver winner points worth) = IsOfPoints r 15 winner points worth
IsEvent r E.NextGame = r.kind ≡ 16
IsEvent r (E.MatchOver winner length score) =
    (r.kind ≡ 17) × (r.who ≡ side_number winner) × (r.length ≡ length) × (r.score ≡ score)
IsEvent r (E.Left who) = IsOfSide r 18 who
IsEvent r E.NotPlaying = r.kind ≡ 19
IsEvent r (E.RatingChanged who rating experience) =
    (r.kind ≡ 20) × (r.who ≡ side_number who) × (r.rating ≡ rating) × (r.experience ≡ experience)
IsEvent r (E.NothingSaved name) = IsNamed r 21 (name_bytes name)
IsEvent r (E.Refused text) = r.kind ≡ 22
IsEvent r E.LoginRefused = r.kind ≡ 23

-- what C gets of an event, if there is one
abbrev pub IsMaybeEvent : Option EventRecord → Option Event → Type 0
IsMaybeEvent None None = ⊤
IsMaybeEvent (Some r) (Some event) = IsEvent r event
IsMaybeEvent r event = ⊥

-- one event, or none, as a list
abbrev pub listed : {A : Type 0} → Option A → List A
listed None = []
listed (Some x) = x ∷ []

-- a play without a step is the event that a side can't move
abbrev pub play_event : Side → Turned → List Hop → Event
play_event who turned [] = E.CannotMove who
play_event who turned (step ∷ steps) = E.Played who turned.play

-- a play as an event
abbrev pub turned_event : Turned → Event
turned_event turned = play_event turned.who turned (hops_of turned.play)

-- a double that is accepted
abbrev pub taken_event : Side → Event
taken_event who = E.Accepted who O.Double

-- a roll
abbrev pub rolled_event : Rolled → Event
rolled_event rolled = E.Rolled rolled.who rolled.dice

-- the end of a game
abbrev pub won_event : Won → Event
won_event won = E.GameOver won.winner won.points won.worth

-- the end of a match
abbrev pub won_match_event : WonMatch → Event
won_match_event won = E.MatchOver won.winner won.length won.score

-- what has happened by a line, in order
abbrev pub events_of : Happened → List Event
events_of h =
    (((((listed h.said ++ listed (option_map turned_event h.played)) ++ listed (option_map E.Doubled h.doubled))
    ++ listed (option_map taken_event h.accepted)) ++ listed (option_map rolled_event h.rolled))
    ++ listed (option_map won_event h.won)) ++ listed (option_map won_match_event h.won_match)

-- the events that are given
abbrev pub events_in : HappenedRecord → List EventRecord
events_in h = take h.count h.events

-- these records are those events, one by one
abbrev pub AreEvents : List EventRecord → List Event → Type 0
AreEvents [] [] = ⊤
AreEvents (r ∷ rs) (event ∷ events) = IsEvent r event × AreEvents rs events
AreEvents rs events = ⊥
