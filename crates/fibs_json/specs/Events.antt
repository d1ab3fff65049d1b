-- The object that is printed for an event.
use Rattle.std.specs.Prelude.{ℕ, Option, Some, None, List, [], ◌∷◌, ◌++◌, codes, slice_index}
use Rattle.fibs_fields.specs.Bytes.{name_bytes}
use Rattle.fibs_position.specs.declared.stake.Stake.{Stake}
use Rattle.fibs_position.specs.declared.stake.Stake.TheVariants as K
use Rattle.fibs_rules.specs.PlayValue.{hops_of}
use Rattle.fibs_events.specs.declared.event.Event.{Event}
use Rattle.fibs_events.specs.declared.event.Event.TheVariants as E
use Rattle.fibs_events.specs.declared.event.Length.{Length}
use Rattle.fibs_events.specs.declared.event.Length.TheVariants as L
use Rattle.fibs_events.specs.declared.event.Offer.{Offer}
use Rattle.fibs_events.specs.declared.event.Offer.TheVariants as O
use Rattle.fibs_events.specs.declared.event.Side.{Side}
use Rattle.fibs_events.specs.declared.event.Side.TheVariants as S
use Rattle.fibs_json.specs.Json.{Json, Member, array_of, hundredths, member, more_member, more_members, more_value, null, string, whole, wholes}
use Rattle.fibs_json.specs.Plays.{step_text}

-- a side, as the turn of a board names it
abbrev pub side_json : Side → Json
side_json S.Own = string (codes "player")
side_json S.Other = string (codes "opponent")

-- to how many points a match is, as a board has it: 9999 if it is unlimited
abbrev pub length_json : Length → Json
length_json (L.Points points) = whole points
length_json L.Unlimited = whole 9999

-- what was offered
abbrev pub offer_json : Offer → Json
offer_json O.Double = string (codes "double")
offer_json O.Resignation = string (codes "resignation")

-- the word of what a game is worth
abbrev pub stake_word : Stake → List ℕ
stake_word K.Normal = codes "single"
stake_word K.Gammon = codes "gammon"
stake_word K.Backgammon = codes "backgammon"

-- what a game is worth, null if that is not known
abbrev pub worth_json : Option Stake → Json
worth_json None = null
worth_json (Some stake) = string (stake_word stake)

-- the name of an event
abbrev pub event_name : Event → List ℕ
event_name (E.LoggedIn name) = codes "logged_in"
event_name E.LoginRefused = codes "login_refused"
event_name (E.Invited name length) = codes "invited"
event_name (E.InvitedToResume name) = codes "invited_to_resume"
event_name (E.Joined name length) = codes "joined"
event_name (E.Resumed name) = codes "resumed"
event_name (E.GameBegun name) = codes "game_begun"
event_name (E.Rolled who dice) = codes "rolled"
event_name (E.Played who play) = codes "played"
event_name (E.CannotMove who) = codes "cannot_move"
event_name (E.Doubled who) = codes "doubled"
event_name (E.Accepted who offer) = codes "accepted"
event_name (E.Rejected who) = codes "rejected"
event_name (E.OfferedToResign who points worth) = codes "offered_to_resign"
event_name (E.Declined who) = codes "declined"
event_name (E.GameOver winner points worth) = codes "game_over"
event_name E.NextGame = codes "next_game"
event_name (E.MatchOver winner length score) = codes "match_over"
event_name (E.Left who) = codes "left"
event_name E.NotPlaying = codes "not_playing"
event_name (E.RatingChanged who rating experience) = codes "rating_changed"
event_name (E.NothingSaved name) = codes "nothing_saved"
event_name (E.Refused text) = codes "refused"

-- the further members of the object of an event, each after a comma
abbrev pub details : Event → List ℕ
details (E.LoggedIn name) = more_members (member (codes "name") (string (name_bytes name)) ∷ [])
details E.LoginRefused = []
details (E.Invited name length) =
    more_members (member (codes "name") (string (name_bytes name)) ∷ member (codes "length") (length_json length) ∷ [])
details (E.InvitedToResume name) = more_members (member (codes "name") (string (name_bytes name)) ∷ [])
details (E.Joined name length) =
    more_members (member (codes "name") (string (name_bytes name)) ∷ member (codes "length") (length_json length) ∷ [])
details (E.Resumed name) = more_members (member (codes "name") (string (name_bytes name)) ∷ [])
details (E.GameBegun name) = more_members (member (codes "name") (string (name_bytes name)) ∷ [])
details (E.Rolled who dice) =
    more_members (member (codes "who") (side_json who) ∷ member (codes "dice") (wholes dice) ∷ [])
details (E.Played who play) =
    more_member (member (codes "who") (side_json who))
    ++ more_value (codes "steps") (array_of step_text (hops_of play))
details (E.CannotMove who) = more_members (member (codes "who") (side_json who) ∷ [])
details (E.Doubled who) = more_members (member (codes "who") (side_json who) ∷ [])
details (E.Accepted who offer) =
    more_members (member (codes "who") (side_json who) ∷ member (codes "offer") (offer_json offer) ∷ [])
details (E.Rejected who) = more_members (member (codes "who") (side_json who) ∷ [])
details (E.OfferedToResign who points worth) =
    more_members (member (codes "who") (side_json who) ∷ member (codes "points") (whole points)
    ∷ member (codes "worth") (worth_json worth) ∷ [])
details (E.Declined who) = more_members (member (codes "who") (side_json who) ∷ [])
details (E.GameOver winner points worth) =
    more_members (member (codes "who") (side_json winner) ∷ member (codes "points") (whole points)
    ∷ member (codes "worth") (worth_json worth) ∷ [])
details E.NextGame = []
details (E.MatchOver winner length score) =
    more_members (member (codes "who") (side_json winner) ∷ member (codes "length") (whole length)
    ∷ member (codes "score") (whole (slice_index score 0))
    ∷ member (codes "opponent_score") (whole (slice_index score 1)) ∷ [])
details (E.Left who) = more_members (member (codes "who") (side_json who) ∷ [])
details E.NotPlaying = []
details (E.RatingChanged who rating experience) =
    more_members (member (codes "who") (side_json who) ∷ member (codes "rating") (hundredths rating)
    ∷ member (codes "experience") (whole experience) ∷ [])
details (E.NothingSaved name) = more_members (member (codes "name") (string (name_bytes name)) ∷ [])
details (E.Refused text) = more_members (member (codes "text") (string text.now) ∷ [])

-- which event it is, and the number of its line
abbrev pub kind_members : ℕ → Event → List Member
kind_members number event =
    member (codes "event") (string (event_name event)) ∷ member (codes "line_number") (whole number) ∷ []

-- the object of an event of the line with this number
abbrev pub event_object : ℕ → Event → List ℕ
event_object number event =
    codes "{\"kind\":\"event\"" ++ (more_members (kind_members number event) ++ (details event ++ (125 ∷ [])))
