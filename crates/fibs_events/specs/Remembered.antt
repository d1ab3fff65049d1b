-- What is remembered between two lines, and what changes it (the project's own).
use Rattle.std.specs.Prelude.{◌≡◌, ◌||◌, ◌≢◌, ◌⊎◌, slice_index, ⊤, ℕ, Bool, true, false, List, [], codes, Option, Some, None, IfSome, option_map, nat_eq, if◌then◌else◌}
use Rattle.std.specs.List.{starts_with}
use Rattle.std.specs.Str.{bytes_eq}
use Rattle.fibs_fields.specs.Bytes.{name_bytes}
use Rattle.fibs_events.specs.declared.event.Event.{Event}
use Rattle.fibs_events.specs.declared.event.Event.TheVariants as E
use Rattle.fibs_events.specs.declared.event.Offer.TheVariants as O
use Rattle.fibs_events.specs.declared.event.Side.{Side}
use Rattle.fibs_events.specs.declared.event.Side.TheVariants as S
use Rattle.fibs_events.specs.declared.happened.Happened.{Happened}
use Rattle.fibs_events.specs.declared.happened.Rolled.{Rolled}
use Rattle.fibs_events.specs.declared.memory.Events.{Events}
use Rattle.fibs_events.specs.declared.memory.Game.{Game}
use Rattle.fibs_events.specs.declared.memory.Invitation.{Invitation}
use Rattle.fibs_events.specs.declared.memory.Invitation.TheVariants as I
use Rattle.fibs_events.specs.declared.memory.Resignation.{Resignation}
use Rattle.fibs_events.specs.declared.memory.Stage.{Stage}
use Rattle.fibs_events.specs.declared.memory.Stage.TheVariants as St
use Rattle.fibs_events.specs.Ends.{other_side, worth_in}
use Rattle.fibs_position.specs.GameOf.{game_of}
use Rattle.fibs_position.specs.declared.game_board.GameBoard.{GameBoard}

-- nothing was said of a game
abbrev pub new_game : Game
new_game = record { roll = None; doubled = None; resignation = None; is_over = false }

-- the end of a game was told, and nothing of the next one
abbrev pub ended_game : Game
ended_game = record { roll = None; doubled = None; resignation = None; is_over = true }

-- nothing was heard of a user by this name
abbrev pub unheard : List ℕ → Events
unheard name = record {
  known = None;
  name = record { items = name };
  opponent = record { items = [] };
  game = new_game;
  stage = St.Unknown;
  is_won = false;
  inviter = record { items = [] };
  invitation = I.Nothing;
  own_rating = None;
  other_rating = None;
  is_motd = false;
}

-- this was said last of the match
abbrev pub at_stage : Stage → Events → Events
at_stage stage e = record e { stage = stage }

-- a game begins, of which no board has come
abbrev pub begun : Events → Events
begun e = record e { known = None; game = new_game }

-- another opponent: of his rating and of the game nothing is known
abbrev pub against : List ℕ → Events → Events
against name e =
    record e { opponent = record { items = name }; other_rating = None; known = None; game = new_game }

-- a match is on the table, which nobody has won; no invitation waits
abbrev pub on_table : Events → Events
on_table e = record e { is_won = false; invitation = I.Nothing }

-- a match with this player is on the table
abbrev pub met : List ℕ → Events → Events
met name e = on_table (if bytes_eq e.opponent.items name then e else against name e)

-- a player invites the user, to this
abbrev pub invited : List ℕ → Invitation → Events → Events
invited name invitation e = record e { inviter = record { items = name }; invitation = invitation }

-- nobody invites the user, or this player does not
abbrev pub not_invited : List ℕ → Events → Events
not_invited name e =
    if bytes_eq name [] || bytes_eq e.inviter.items name then record e { invitation = I.Nothing } else e

-- of the game this is remembered
abbrev pub with_game : Game → Events → Events
with_game game e = record e { game = game }

-- an offer to give up, or none, waits for an answer
abbrev pub resigned : Option Resignation → Game → Game
resigned offer g = record g { resignation = offer }

-- who has doubled, and was not answered
abbrev pub doubled_by : Option Side → Game → Game
doubled_by who g = record g { doubled = who }

-- a roll was told, which goes on with the game
abbrev pub rolled_in : Rolled → Game → Game
rolled_in roll g = record { roll = Some roll; doubled = None; resignation = None; is_over = g.is_over }

-- a player has greeted the server: another user's session tells of other matches
abbrev pub greeted : List ℕ → Events → Events
greeted name e =
    let of_his = if bytes_eq e.name.items name then e else unheard name in
    record of_his { stage = St.Unknown; invitation = I.Nothing; is_motd = false }

-- the rating of a side
abbrev pub rating_of : Side → Events → Option ℕ
rating_of S.Own e = e.own_rating
rating_of S.Other e = e.other_rating

-- the rating of a side was listed
abbrev pub rated : Side → ℕ → Events → Events
rated S.Own rating e = record e { own_rating = Some rating }
rated S.Other rating e = record e { other_rating = Some rating }

-- the message of the day is being said, or not
abbrev pub said_of_day : Bool → Events → Events
said_of_day is e = record e { is_motd = is }

-- what is remembered once this was told that a text or a message says
abbrev pub after_event : Event → Events → Events
after_event (E.Invited name length) e = invited (name_bytes name) (I.New length) e
after_event (E.InvitedToResume name) e = invited (name_bytes name) I.Saved e
after_event (E.Joined name length) e = begun (met (name_bytes name) (at_stage St.Joined e))
after_event (E.Resumed name) e = met (name_bytes name) (at_stage St.Resumed e)
after_event (E.GameBegun name) e = begun (met (name_bytes name) (at_stage St.Begun e))
after_event (E.Accepted who offer) e = with_game (resigned None e.game) e
after_event (E.Declined who) e = with_game (resigned None e.game) e
after_event (E.Rejected who) e = with_game (doubled_by None e.game) e
after_event (E.OfferedToResign who points worth) e =
    with_game (resigned (Some (record { who = who; points = points })) e.game) e
after_event E.NextGame e = at_stage St.Next e
after_event (E.Left who) e = at_stage St.Left e
after_event E.NotPlaying e = at_stage St.NotPlaying e
after_event (E.LoggedIn name) e = greeted (name_bytes name) e
after_event (E.RatingChanged who rating experience) e = rated who rating e
after_event event e = e

-- the same if something was told; else nothing has changed
abbrev pub after_told : Option Event → Events → Events
after_told None e = e
after_told (Some event) e = after_event event e

-- two dice are the same, in whatever order
abbrev pub AreSameDice : List ℕ → List ℕ → Type 0
AreSameDice a b =
    ((slice_index a 0 ≡ slice_index b 0) × (slice_index a 1 ≡ slice_index b 1))
    ⊎ ((slice_index a 0 ≡ slice_index b 1) × (slice_index a 1 ≡ slice_index b 0))

-- a roll was told already and not played
abbrev pub IsRollTold : Option Rolled → Rolled → Type 0
IsRollTold None roll = ⊥
IsRollTold (Some told) roll = (told.who ≡ roll.who) × AreSameDice told.dice roll.dice

-- this was said last of the match, and with this player
abbrev pub IsLast : Stage → List ℕ → Events → Type 0
IsLast stage name e = (e.stage ≡ stage) × (bytes_eq e.opponent.items name ≡ true)

-- this player invites the user, to this
abbrev pub IsInviting : List ℕ → Invitation → Events → Type 0
IsInviting name invitation e = (bytes_eq e.inviter.items name ≡ true) × (e.invitation ≡ invitation)

-- the other side than this one has offered to give up, and was not answered
abbrev pub HasOffer : Side → Events → Type 0
HasOffer who e = (offer : Resignation) × (e.game.resignation ≡ Some offer) × (offer.who ≢ who)

-- a text or a message tells this: it was not told last, and an answer follows an offer
abbrev pub IsNews : Event → Events → Type 0
IsNews (E.Invited name length) e = ¬ IsInviting (name_bytes name) (I.New length) e
IsNews (E.InvitedToResume name) e = ¬ IsInviting (name_bytes name) I.Saved e
IsNews (E.Joined name length) e = ¬ IsLast St.Joined (name_bytes name) e
IsNews (E.Resumed name) e = ¬ IsLast St.Resumed (name_bytes name) e
IsNews (E.GameBegun name) e = ¬ IsLast St.Begun (name_bytes name) e
IsNews (E.Accepted who O.Resignation) e = HasOffer who e
IsNews (E.Declined who) e = HasOffer who e
IsNews (E.Rejected who) e = e.game.doubled ≡ Some (other_side who)
IsNews (E.OfferedToResign who points worth) e =
    (e.game.resignation ≢ Some (record { who = who; points = points }))
    × (worth ≡ worth_in points (option_map game_of e.known))
IsNews E.NextGame e = e.stage ≢ St.Next
IsNews (E.Left who) e = e.stage ≢ St.Left
IsNews E.NotPlaying e = e.stage ≢ St.NotPlaying
IsNews (E.RatingChanged who rating experience) e =
    (before : ℕ) × (rating_of who e ≡ Some before) × (before ≢ rating)
IsNews event e = ⊤

-- an event is news, and this is remembered once it was told
abbrev pub IsToldOnce : Events → Events → Event → Type 0
IsToldOnce old new event = IsNews event old × (new ≡ after_event event old)

-- this board is known of the game, or none
abbrev pub with_board : Option GameBoard → Events → Events
with_board known e = record e { known = known }

-- a side has played: the roll and an offer to give up are no more
abbrev pub played_in : Game → Game
played_in g = record { roll = None; doubled = g.doubled; resignation = None; is_over = g.is_over }

-- what has happened by a text, and what is remembered then. A double, its acceptance and an end are told once; and
-- nothing else has changed, but for the board that is known: a roll, a play and an acceptance go on from it
pub record IsRemembered (old new : Events) (happened : Happened) : Type 0 where
  pub said : IfSome happened.said (λ event. IsToldOnce old new event)
  pub played : IfSome happened.played (λ turned. new ≡ with_board new.known (with_game (played_in old.game) old))
  pub doubled : IfSome happened.doubled (λ who.
      (old.game.doubled ≢ Some who) × (new ≡ with_game (doubled_by (Some who) old.game) old))
  pub accepted : IfSome happened.accepted (λ who. (old.game.doubled ≡ Some (other_side who))
      × (new ≡ with_board new.known (with_game (doubled_by None old.game) old)))
  pub rolled : IfSome happened.rolled (λ rolled.
      new ≡ with_board new.known (with_game (rolled_in rolled old.game) old))
  pub won : IfSome happened.won (λ won. (old.game.is_over ≡ false) × (new ≡ with_game ended_game old)
      × (won.worth ≡ worth_in won.points (option_map game_of old.known)))
  pub won_match : IfSome happened.won_match (λ won. (old.is_won ≡ false) × (new ≡ record old { is_won = true }))

-- a text says nothing: the message of the day may have any words, and a line of a log may be one that was sent
abbrev pub says_nothing : Events → List ℕ → Bool
says_nothing e text = e.is_motd || starts_with nat_eq text (codes ">> ")
