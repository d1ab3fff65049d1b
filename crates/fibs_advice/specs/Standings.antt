-- What the user waits for (the project's own).
use Rattle.std.specs.Prelude.{◌&&◌, ◌||◌, Bool, not, true, false, Option, Some, None, if◌then◌else◌}
use Rattle.fibs_events.specs.declared.told.Told.{Told}
use Rattle.fibs_events.specs.declared.told.Told.TheVariants as T
use Rattle.fibs_advice.specs.declared.standing.Shown.{Shown}
use Rattle.fibs_advice.specs.declared.standing.Shown.TheVariants as W
use Rattle.fibs_advice.specs.declared.standing.Standing.{Standing}
use Rattle.fibs_advice.specs.declared.standing.Standing.TheVariants as S

-- a decision that waits may be made once more: the server has shown the board again on which it was made, after it
abbrev pub repeats : Standing → Bool
repeats S.Same = true
repeats S.Back = true
repeats standing = false

-- an offer of the opponent waits for the user, of which texts alone tell; or it did when the match was left, or a
-- connection ended, and nothing is known of it since
abbrev pub owes_answer : Standing → Bool
owes_answer S.Resigned = true
owes_answer S.Conceded = true
owes_answer S.Owed = true
owes_answer S.Unsettled = true
owes_answer standing = false

-- it is not known if an offer is open that was open before: the opponent's, or the user's
abbrev pub is_unsure : Standing → Bool
is_unsure S.Unsettled = true
is_unsure S.Unanswered = true
is_unsure standing = false

-- a match is on the table
abbrev pub is_in_match : Standing → Bool
is_in_match S.Free = false
is_in_match S.Invited = false
is_in_match S.Gone = false
is_in_match S.Reopened = false
is_in_match standing = true

-- a game is on the table
abbrev pub is_in_game : Standing → Bool
is_in_game S.Ended = false
is_in_game S.Next = false
is_in_game S.Joined = false
is_in_game standing = is_in_match standing

-- an offer of the opponent is told by texts, or was just answered
abbrev pub has_offer : Standing → Bool
has_offer S.Answered = true
has_offer S.Doubled = true
has_offer standing = owes_answer standing

-- the state after a decision was sent
abbrev pub after_sent : Standing → Standing
after_sent standing = if is_in_game standing then S.Asked else standing

-- the state after an answer to an offer was sent past the client
abbrev pub after_answer : Standing → Standing
after_answer standing = if owes_answer standing then S.Answered else after_sent standing

-- the state after an invitation has come to nothing: a match that was saved before it still is
abbrev pub after_not_invited : Standing → Standing
after_not_invited S.Invited = S.Gone
after_not_invited standing = standing

-- a state's own row comes before the one that the server plays by itself
abbrev pub comes_first : Standing → Bool
comes_first S.Resigned = true
comes_first S.Conceded = true
comes_first S.Owed = true
comes_first S.Gone = true
comes_first S.Reopened = true
comes_first S.Invited = true
comes_first S.Ended = true
comes_first S.Next = true
comes_first S.Joined = true
comes_first standing = false

-- lines that go as they are lead on while a decision waits: its board came again; or it is an offer, and the opponent
-- has declined it or has it before him
abbrev pub sends : Standing → Bool → Bool
sends S.Same is_offer = true
sends S.Back is_offer = true
sends S.Refused is_offer = is_offer
sends S.Offered is_offer = is_offer
sends standing is_offer = false

-- the server has said no to the decision that waits, and another one may be made in its place: it is an offer, and was
-- refused or declined; or the server has shown the board again on which it was made
abbrev pub is_open_again : Standing → Bool → Bool
is_open_again S.Same is_offer = true
is_open_again S.Back is_offer = true
is_open_again S.Refused is_offer = is_offer
is_open_again standing is_offer = false

-- the server has said something by which a decision may go out that the client refuses
abbrev pub is_called : Standing → Bool
is_called standing = owes_answer standing || is_open_again standing true

-- what the client takes is not what the user waits for: there is no game, or its board is still to come, or an offer is
-- before the opponent or was just answered, or may be open, or gives the turn away
abbrev pub hides_offers : Standing → Bool
hides_offers S.Free = true
hides_offers S.Invited = true
hides_offers S.Offered = true
hides_offers S.Conceded = true
hides_offers S.Unsettled = true
hides_offers S.Unanswered = true
hides_offers S.Answered = true
hides_offers S.Continued = true
hides_offers S.Ended = true
hides_offers S.Next = true
hides_offers S.Joined = true
hides_offers S.Gone = true
hides_offers S.Reopened = true
hides_offers S.Anew = true
hides_offers S.Fresh = true
hides_offers standing = false

-- a text that leads to one state, whatever was before it
abbrev pub leads_to : Told → Option Standing
leads_to T.Begins = Some S.Fresh
leads_to T.Resumes = Some S.Anew
leads_to T.Doubles = Some S.Doubled
leads_to T.Resigns = Some S.Resigned
leads_to T.Joined = Some S.Joined
leads_to told = None

-- a text that ends what is on the table, in a match
abbrev pub leads_in_match : Told → Option Standing
leads_in_match T.Saved = Some S.Gone
leads_in_match T.MatchOver = Some S.Free
leads_in_match told = None

-- a text tells that a state begins: no other one leads to it. To a state with no row here no text leads
abbrev pub tells : Told → Standing → Bool
tells T.MatchOver S.Free = true
tells T.NoMatch S.Free = true
tells T.Invited S.Invited = true
tells T.Plays S.Asked = true
tells T.Offered S.Offered = true
tells T.Declined S.Refused = true
tells T.Refused S.Refused = true
tells T.NoDouble S.Refused = true
tells T.NoOffer S.Refused = true
tells T.ToRoll S.Same = true
tells T.ToMove S.Same = true
tells T.Taken S.Taken = true
tells T.ToRoll S.Due = true
tells T.ToMove S.Due = true
tells T.Doubles S.Doubled = true
tells T.Resigns S.Resigned = true
tells T.Refused S.Owed = true
tells T.MustAnswer S.Owed = true
tells T.NoOffer S.Continued = true
tells T.Continues S.Continued = true
tells T.Plays S.Continued = true
tells T.GameOver S.Ended = true
tells T.NextGame S.Next = true
tells T.Joined S.Joined = true
tells T.Saved S.Gone = true
tells T.NotPlaying S.Gone = true
tells T.NotInvited S.Gone = true
tells T.Resumes S.Anew = true
tells T.Begins S.Fresh = true
tells told standing = false

-- a board tells that a state begins: no other one leads to it
abbrev pub shows : Shown → Standing → Bool
shows W.GameOver S.Ended = true
shows W.GameOver S.Next = true
shows W.MatchOver S.Ended = true
shows W.Double S.Playing = true
shows W.DoubleStands S.Same = true
shows W.OfferStands S.Owed = true
shows W.OfferStands S.Same = true
shows W.OfferStands S.Offered = true
shows W.OfferStands S.Back = true
shows W.Stands S.Owed = true
shows W.Stands S.Same = true
shows W.Stands S.Back = true
shows W.Plain S.Owed = true
shows W.Plain S.Playing = true
shows shown standing = false

-- a board of a game that goes on, which shows no double
abbrev pub is_undoubled : Shown → Bool
is_undoubled W.OfferStands = true
is_undoubled W.Stands = true
is_undoubled W.Plain = true
is_undoubled shown = false

-- it is known that an offer of the opponent waits for the user, of which texts alone tell
abbrev pub is_owed : Standing → Bool
is_owed S.Unsettled = false
is_owed standing = owes_answer standing

-- a refusal changes nothing: it is known that an offer of the opponent waits, or that he has accepted one
abbrev pub keeps_offer : Standing → Bool
keeps_offer S.Taken = true
keeps_offer S.Doubled = true
keeps_offer standing = is_owed standing

-- a roll or a move of the opponent changes nothing: the board says all, or is still to come; or an offer of his waits,
-- or was just answered, or is over
abbrev pub keeps_while_he_plays : Standing → Bool
keeps_while_he_plays S.Playing = true
keeps_while_he_plays S.Answered = true
keeps_while_he_plays S.Continued = true
keeps_while_he_plays S.Anew = true
keeps_while_he_plays S.Fresh = true
keeps_while_he_plays standing = is_owed standing

-- an offer of the opponent is told by texts, and no board shows it
abbrev pub is_told_by_text : Standing → Bool
is_told_by_text S.Doubled = true
is_told_by_text standing = owes_answer standing

-- the state after the board that came last was found to confirm the decision that waited: offers are told by texts
abbrev pub after_confirmed : Standing → Standing
after_confirmed standing = if is_in_game standing && not (has_offer standing) then S.Playing else standing
