-- In which states of the conversation a row is said (the project's own).
use Rattle.std.specs.Prelude.{◌&&◌, Bool, not, true, false, Option, Some, None}
use Rattle.fibs_game.specs.declared.refusal.Refusal.{Refusal}
use Rattle.fibs_game.specs.declared.refusal.Refusal.TheVariants as No
use Rattle.fibs_position.specs.declared.decision.Decision.{Decision}
use Rattle.fibs_position.specs.declared.decision.Decision.TheVariants as D
use Rattle.fibs_advice.specs.Standings.{comes_first}
use Rattle.fibs_advice.specs.declared.row.Row.{Row}
use Rattle.fibs_advice.specs.declared.row.Row.TheVariants as R
use Rattle.fibs_advice.specs.declared.situation.Situation.{Situation}
use Rattle.fibs_advice.specs.declared.standing.Standing.{Standing}
use Rattle.fibs_advice.specs.declared.standing.Standing.TheVariants as S

-- it may be the user's turn, and no board that is shown says so
abbrev pub may_have_turn : Standing → Bool
may_have_turn S.Playing = true
may_have_turn S.Refused = true
may_have_turn S.Same = true
may_have_turn S.Due = true
may_have_turn S.Continued = true
may_have_turn S.Fresh = true
may_have_turn standing = false

-- a decision that was sent may wait for its board
abbrev pub may_wait : Standing → Bool
may_wait S.Asked = true
may_wait S.Anew = true
may_wait S.Taken = true
may_wait S.Answered = true
may_wait S.Continued = true
may_wait S.Fresh = true
may_wait standing = false

-- the server has said no, or its board came again
abbrev pub is_declined : Standing → Bool
is_declined S.Refused = true
is_declined S.Same = true
is_declined standing = false

-- a match is off the table, or somebody invites the user
abbrev pub is_off_table : Standing → Bool
is_off_table S.Gone = true
is_off_table S.Reopened = true
is_off_table S.Invited = true
is_off_table standing = false

-- what a row tells is so in a state; a row that is not named here tells nothing of it
abbrev pub is_so_in : Row → Standing → Bool
is_so_in R.Accepted S.Taken = true
is_so_in R.Accepted standing = false
is_so_in R.ServerPlays standing = not (comes_first standing)
is_so_in R.Resigns S.Resigned = true
is_so_in R.Resigns standing = false
is_so_in R.Concedes S.Conceded = true
is_so_in R.Concedes standing = false
is_so_in R.Owes S.Owed = true
is_so_in R.Owes standing = false
is_so_in R.Unsettled S.Unsettled = true
is_so_in R.Unsettled standing = false
is_so_in R.Unanswered S.Unanswered = true
is_so_in R.Unanswered standing = false
is_so_in R.Doubles S.Doubled = true
is_so_in R.Doubles standing = false
is_so_in R.Turn standing = may_have_turn standing
is_so_in R.Declined S.Refused = true
is_so_in R.Declined standing = false
is_so_in R.Refused standing = is_declined standing
is_so_in R.Same S.Same = true
is_so_in R.Same standing = false
is_so_in R.Back S.Back = true
is_so_in R.Back standing = false
is_so_in R.Thinks S.Offered = true
is_so_in R.Thinks standing = false
is_so_in R.Waits standing = may_wait standing
is_so_in R.Next S.Next = true
is_so_in R.Next standing = false
is_so_in R.Joined S.Joined = true
is_so_in R.Joined standing = false
is_so_in R.Saved S.Gone = true
is_so_in R.Saved standing = false
is_so_in R.Absent S.Gone = true
is_so_in R.Absent standing = false
is_so_in R.Invited S.Invited = true
is_so_in R.Invited standing = false
is_so_in row standing = true

-- the row of a state in a game that has one of its own, whatever the board shows
abbrev pub own_row : Standing → Option Row
own_row S.Resigned = Some R.Resigns
own_row S.Conceded = Some R.Concedes
own_row S.Owed = Some R.Owes
own_row S.Unsettled = Some R.Unsettled
own_row S.Unanswered = Some R.Unanswered
own_row S.Offered = Some R.Thinks
own_row S.Doubled = Some R.Doubles
own_row S.Answered = Some R.Waits
own_row standing = None

-- the server waits for the user, or has something of his: silence would leave him waiting
abbrev pub must_speak : Standing → Bool
must_speak S.Free = false
must_speak S.Ended = false
must_speak S.Gone = false
must_speak S.Reopened = false
must_speak S.Anew = false
must_speak S.Fresh = false
must_speak S.Continued = false
must_speak S.Refused = false
must_speak S.Same = false
must_speak standing = true

-- there is a conversation, and the user plays himself, by why the client would refuse to roll
abbrev pub plays_himself : Option Refusal → Bool
plays_himself (Some No.Offline) = false
plays_himself (Some No.NotReady) = false
plays_himself (Some No.ServerPlays) = false
plays_himself why = true

-- a decision is a double
abbrev pub is_double : Option Decision → Bool
is_double (Some D.Double) = true
is_double way = false

-- an offer of the user is before the opponent
abbrev pub is_offered : Standing → Bool
is_offered S.Offered = true
is_offered standing = false

-- a double may be advised: the server has refused none in this game, and the opponent has no offer before him
abbrev pub may_double : Situation → Bool
may_double s = not s.opponent.game.refuses_double && not (is_offered s.standing)
