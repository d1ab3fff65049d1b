-- What is told by a text that is known, of a match, an offer or an invitation (the project's own).
use Rattle.std.specs.Prelude.{◌≡◌, ◌⊎◌, ◌≢◌, ⊤, ℕ, List, length, Option, Some, None, false}
use Rattle.fibs_fields.specs.Bytes.{name_bytes}
use Rattle.fibs_fields.specs.Name.{is_name}
use Rattle.fibs_events.specs.Ends.{other_side}
use Rattle.fibs_events.specs.Known.{side_in}
use Rattle.fibs_events.specs.Remembered.{HasOffer, IsInviting, IsLast, IsNews, after_event, not_invited}
use Rattle.fibs_events.specs.declared.event.Event.{Event}
use Rattle.fibs_events.specs.declared.event.Event.TheVariants as E
use Rattle.fibs_events.specs.declared.event.Offer.TheVariants as O
use Rattle.fibs_events.specs.declared.event.Side.{Side}
use Rattle.fibs_events.specs.declared.memory.Events.{Events}
use Rattle.fibs_events.specs.declared.memory.Invitation.TheVariants as I
use Rattle.fibs_events.specs.declared.memory.Stage.TheVariants as St
use Rattle.fibs_events.specs.declared.told.Deed.{Deed}
use Rattle.fibs_events.specs.declared.told.Deed.TheVariants as D

-- by which deed of a text an event is told; by none, if it is told otherwise
abbrev pub deed_of : Event → Deed
deed_of (E.Invited name length) = D.Invites
deed_of (E.InvitedToResume name) = D.InvitesToResume
deed_of (E.Joined name length) = D.Joins
deed_of (E.Resumed name) = D.Resumes
deed_of (E.GameBegun name) = D.BeginsGame
deed_of (E.Accepted who O.Resignation) = D.TakesResignation
deed_of (E.Rejected who) = D.GivesUp
deed_of (E.OfferedToResign who points worth) = D.Resigns
deed_of (E.Declined who) = D.Declines
deed_of E.NextGame = D.AsksForNext
deed_of (E.Left who) = D.Leaves
deed_of E.NotPlaying = D.IsNotPlaying
deed_of (E.NothingSaved name) = D.HasNotSaved
deed_of (E.Refused text) = D.Refuses
deed_of event = D.Nothing

-- an event is of the player by this name, or of his side
abbrev pub IsOf : List ℕ → Events → Event → Type 0
IsOf name e (E.Invited player length) = name_bytes player ≡ name
IsOf name e (E.InvitedToResume player) = name_bytes player ≡ name
IsOf name e (E.Joined player length) = name_bytes player ≡ name
IsOf name e (E.Resumed player) = name_bytes player ≡ name
IsOf name e (E.GameBegun player) = name_bytes player ≡ name
IsOf name e (E.NothingSaved player) = name_bytes player ≡ name
IsOf name e (E.Accepted who offer) = side_in name e ≡ Some who
IsOf name e (E.Rejected who) = side_in name e ≡ Some who
IsOf name e (E.OfferedToResign who points worth) = side_in name e ≡ Some who
IsOf name e (E.Declined who) = side_in name e ≡ Some who
IsOf name e (E.Left who) = side_in name e ≡ Some who
IsOf name e event = ⊤

-- a text of this deed, which names this player, tells an event: of him, and it is news
pub record IsToldBy (said : Deed) (name : List ℕ) (e : Events) (event : Event) : Type 0 where
  pub deed : deed_of event ≡ said
  pub of : IsOf name e event
  pub news : IsNews event e

-- a text names nobody who can be a player
abbrev pub IsNobody : List ℕ → Type 0
IsNobody name = is_name name ≡ false

-- a side is nobody's, or has no offer of the other side to answer
abbrev pub HasNoOffer : List ℕ → Events → Type 0
HasNoOffer name e = (who : Side) → side_in name e ≡ Some who → ¬ HasOffer who e

-- why a text that says something of a match tells nothing of it: it names nobody, or that was said last
abbrev pub IsOldMatch : Deed → List ℕ → Events → Type 0
IsOldMatch D.Resumes name e = IsNobody name ⊎ IsLast St.Resumed name e
IsOldMatch D.BeginsGame name e = IsNobody name ⊎ IsLast St.Begun name e
IsOldMatch D.AsksForNext name e = e.stage ≡ St.Next
IsOldMatch D.IsNotPlaying name e = e.stage ≡ St.NotPlaying
IsOldMatch D.Leaves name e = (side_in name e ≡ None) ⊎ (e.stage ≡ St.Left)
IsOldMatch deed name e = ⊤

-- why a text that says something of an offer or an invitation tells nothing of it: it names nobody, the same waits
-- already, or nothing waits that it could answer
abbrev pub IsOldOffer : Deed → List ℕ → Events → Type 0
IsOldOffer D.GivesUp name e = (who : Side) → side_in name e ≡ Some who → e.game.doubled ≢ Some (other_side who)
IsOldOffer D.Declines name e = HasNoOffer name e
IsOldOffer D.TakesResignation name e = HasNoOffer name e
IsOldOffer D.InvitesToResume name e = IsNobody name ⊎ IsInviting name I.Saved e
IsOldOffer deed name e = ⊤

-- why a text that says something of them tells nothing
abbrev pub IsOld : Deed → List ℕ → Events → Type 0
IsOld D.Refuses name e = ⊥
IsOld D.HasNotSaved name e = IsNobody name
IsOld deed name e = IsOldMatch deed name e × IsOldOffer deed name e

-- what is remembered after a text of this deed by which this was told, or nothing: nobody invites any more, if it says
-- so
abbrev pub after_saying : Deed → List ℕ → Option Event → Events → Events
after_saying deed name (Some event) e = after_event event e
after_saying D.DoesNotInvite name None e = not_invited name e
after_saying deed name None e = e
