-- Rows: what is said to who plays, and what they name (the project's own).
use Rattle.std.specs.Prelude.{ℕ, List, [], codes, Bool, true, false, Option, Some, None}
use Rattle.fibs_commands.specs.PlainCommands.{PlainValue, board_again, join}
use Rattle.fibs_advice.specs.declared.row.Row.{Row}
use Rattle.fibs_advice.specs.declared.row.Row.TheVariants as R

-- it says how an offer is answered of which texts alone tell
abbrev pub answers : Row → Bool
answers R.Resigns = true
answers R.Concedes = true
answers R.Owes = true
answers R.Unsettled = true
answers row = false

-- it says what may be decided in place of the decision that waits
abbrev pub opens_again : Row → Bool
opens_again R.Declined = true
opens_again R.Same = true
opens_again R.Back = true
opens_again row = false

-- it says what the client takes now
abbrev pub shows_offers : Row → Bool
shows_offers R.Offers = true
shows_offers R.Undoubled = true
shows_offers R.Accepted = true
shows_offers R.Resigns = true
shows_offers R.Owes = true
shows_offers row = false

-- it says what the client takes now, or one way of it if the game goes on
abbrev pub names_way_on : Row → Bool
names_way_on R.Unsettled = true
names_way_on R.Unanswered = true
names_way_on row = shows_offers row

-- it says that the user may roll, and of a double only what became of one
abbrev pub rolls_alone : Row → Bool
rolls_alone R.Undoubled = true
rolls_alone R.Accepted = true
rolls_alone row = false

-- it tells how a game stands that is on the table, whoever plays
abbrev pub is_of_game : Row → Bool
is_of_game R.NotLoggedIn = false
is_of_game R.Undoubled = false
is_of_game R.Accepted = false
is_of_game R.ServerPlays = false
is_of_game R.Next = false
is_of_game R.Joined = false
is_of_game R.Saved = false
is_of_game R.Absent = false
is_of_game R.Invited = false
is_of_game row = true

-- it is said only if the user asks: there is nothing to do then, or it is not sure
abbrev pub is_asked_for : Row → Bool
is_asked_for R.Unsettled = true
is_asked_for R.Unanswered = true
is_asked_for R.Back = true
is_asked_for R.Thinks = true
is_asked_for R.Waits = true
is_asked_for R.Joined = true
is_asked_for R.Absent = true
is_asked_for row = false

-- the line that it names, if that has no argument and decides nothing
abbrev pub plain_in : Row → Option PlainValue
plain_in R.Next = Some join
plain_in R.Doubles = Some board_again
plain_in R.Turn = Some board_again
plain_in R.Refused = Some board_again
plain_in R.Waits = Some board_again
plain_in row = None

-- its words before what it names
abbrev pub words_before : Row → List ℕ
words_before R.Nothing = []
words_before R.Offers = []
words_before R.NotLoggedIn = codes "Not logged in: wrong name or password? If nothing follows, type quit.\n"
words_before R.Undoubled = codes "Your turn: roll; the server refused a double in this game.\n"
words_before R.Accepted = codes "Your turn: roll; your double is accepted.\n"
words_before R.ServerPlays = codes "You logged in with automove or greedy on: fix logs in again with both off.\n"
words_before R.Resigns = codes " offers to resign: accept, or reject.\n"
words_before R.Concedes = codes " offers to resign: accept, or reject.\n"
words_before R.Owes = codes " waits for your answer: accept, or reject.\n"
words_before R.Unsettled = codes " may wait for your answer: accept, or reject.\n"
words_before R.Unanswered = codes " may still have to answer your offer.\n"
words_before R.Doubles = codes " doubles: board, then accept, or reject.\n"
words_before R.Turn = codes "It may be your turn: board shows the game.\n"
words_before R.Declined = codes " declined? Go on: "
words_before R.Refused = codes " was refused: board shows the game.\n"
words_before R.Same = codes "The board is as it was: "
words_before R.Back = codes "If it is your turn: "
words_before R.Thinks = codes " has not answered yet.\n"
words_before R.Waits = codes " was sent: board asks what became of it.\n"
words_before R.Next = codes "The game is over: join goes on, leave saves the match.\n"
words_before R.Joined = codes " has not joined yet.\n"
words_before R.Saved = codes "Your match may be saved:"
words_before R.Absent = codes " is not here now: your match may be saved.\n"
words_before R.Invited = codes "You are invited:"

-- its words after what it names
abbrev pub words_after : Row → List ℕ
words_after R.Declined = codes ".\n"
words_after R.Same = codes ".\n"
words_after R.Back = codes ".\n"
words_after R.Invited = codes "\n"
words_after R.Saved = codes "if you are invited.\n"
words_after row = []
