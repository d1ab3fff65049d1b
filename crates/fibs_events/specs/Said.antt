-- What texts and messages say that no board shows (the project's own; that message 1 greets the user, and that messages
-- 2 and 5 list ratings CLIP 1008).
use Rattle.std.specs.Prelude.{◌≡◌, ⊤, ℕ, List}
use Rattle.fibs_messages.specs.Line.{ReadingValue, numbered_line, board_line, text_line, malformed_line}
use Rattle.fibs_events.specs.declared.event.Event.{Event}
use Rattle.fibs_events.specs.declared.event.Event.TheVariants as E
use Rattle.fibs_events.specs.declared.event.Offer.TheVariants as O

-- what texts say of matches, offers and invitations. Rolls, plays, doubles that are offered or accepted, and ends have
-- members of their own
abbrev pub IsOfMatches : Event → Type 0
IsOfMatches (E.Invited name length) = ⊤
IsOfMatches (E.InvitedToResume name) = ⊤
IsOfMatches (E.Joined name length) = ⊤
IsOfMatches (E.Resumed name) = ⊤
IsOfMatches (E.GameBegun name) = ⊤
IsOfMatches (E.Accepted who O.Resignation) = ⊤
IsOfMatches (E.Rejected who) = ⊤
IsOfMatches (E.OfferedToResign who points worth) = ⊤
IsOfMatches (E.Declined who) = ⊤
IsOfMatches E.NextGame = ⊤
IsOfMatches (E.Left who) = ⊤
IsOfMatches E.NotPlaying = ⊤
IsOfMatches (E.NothingSaved name) = ⊤
IsOfMatches event = ⊥

-- what a text says: such a thing, or that a decision was refused, by just this text
abbrev pub IsOfText : List ℕ → Event → Type 0
IsOfText text (E.Refused said) = said.now ≡ text
IsOfText text event = IsOfMatches event

-- what a message says: that the user is greeted, or that a rating has changed
abbrev pub IsOfMessage : Event → Type 0
IsOfMessage (E.LoggedIn name) = ⊤
IsOfMessage (E.RatingChanged who rating experience) = ⊤
IsOfMessage event = ⊥

-- what a line says; a board or a malformed line says nothing
abbrev pub IsSaid : ReadingValue → Event → Type 0
IsSaid (text_line text) event = IsOfText text event
IsSaid (numbered_line m) event = IsOfMessage event
IsSaid (board_line b) event = ⊥
IsSaid (malformed_line n k f) event = ⊥
