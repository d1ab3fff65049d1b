-- What is advised in a state, and how a terminal says it (the project's own).
use Rattle.std.specs.Prelude.{◌≡◌, ◌≢◌, ◌++◌, ◌∷◌, ℕ, List, [], codes, take, length, nat_lt, if◌then◌else◌, Bool, true, false, Option, Some, None, IfSome, is_none, option_map}
use Rattle.fibs_fields.specs.Board.{BoardFields}
use Rattle.fibs_position.specs.DecisionValue.{accept, decision_of, double, reject, roll}
use Rattle.fibs_position.specs.NumbersOf.{counted}
use Rattle.fibs_position.specs.Phases.{decides, phase_of}
use Rattle.fibs_commands.specs.Commands.{command_of}
use Rattle.fibs_commands.specs.PlainCommands.{automove_off, greedy_off}
use Rattle.fibs_position.specs.declared.decision.Decision.{Decision}
use Rattle.fibs_position.specs.declared.decision.Decision.TheVariants as D
use Rattle.fibs_position.specs.declared.direction.Direction.{Direction}
use Rattle.fibs_position.specs.declared.numbers.Numbers.{Numbers}
use Rattle.fibs_position.specs.declared.phase.Phase.{Phase}
use Rattle.fibs_position.specs.declared.phase.Phase.TheVariants as P
use Rattle.fibs_session.specs.History.Machine.{Talk, answer_now, unconfirmed_now, plain_refusal}
use Rattle.fibs_advice.specs.Offers.{OffersNow, may_decide, first_way, hint_text}
use Rattle.fibs_advice.specs.Standings.{comes_first, hides_offers, is_unsure}
use Rattle.fibs_advice.specs.Passing.{AreRenewed, is_greeted, may_answer}
use Rattle.fibs_advice.specs.Sending.{MaySend}
use Rattle.fibs_advice.specs.RowStates.{is_so_in, must_speak}
use Rattle.fibs_advice.specs.Rows.{answers, names_way_on, opens_again, plain_in, rolls_alone, shows_offers, words_before, words_after}
use Rattle.fibs_advice.specs.declared.offers.Offers.{Offers}
use Rattle.fibs_advice.specs.declared.row.Row.{Row}
use Rattle.fibs_advice.specs.declared.row.Row.TheVariants as R
use Rattle.fibs_advice.specs.declared.standing.Standing.{Standing}
use Rattle.fibs_advice.specs.declared.advised.Advice.{Advice}

-- what is advised: what the client takes now is said, unless the state hides it, or one way of it, if it is not known
-- whether an offer is open; without `send` only what goes to the server if it is typed: what the client takes now, what
-- may be made in place of the decision that waits, an answer to an offer; with `send` only what may go as it is
pub record Advises (t : Talk) (standing : Standing) (a : Advice) : Type 0 where
  pub offers : OffersNow t a.offers
  pub shown : hides_offers standing ≡ false → may_decide a.offers ≡ true → shows_offers a.row ≡ true
  pub named : is_unsure standing ≡ true → may_decide a.offers ≡ true → names_way_on a.row ≡ true
  -- that the server plays by itself is said only if no row of the state comes before it
  pub server : a.row ≡ R.ServerPlays → comes_first standing ≡ false
  -- that it has refused a double, only if one may be made
  pub undoubled : a.row ≡ R.Undoubled → a.offers.double ≡ true
  pub rolls : rolls_alone a.row ≡ true → a.offers.roll ≡ true
  pub plain : IfSome (plain_in a.row) (λ p. plain_refusal t p ≡ None)
  pub automove : a.automove ≡ is_none (plain_refusal t automove_off)
  pub greedy : a.greedy ≡ is_none (plain_refusal t greedy_off)
  pub send : IfSome a.send (λ d. MaySend t standing (decision_of d))
  pub other : IfSome a.other (λ d. MaySend t standing (decision_of d))
  pub again : opens_again a.row ≡ true → AreRenewed t standing a.send a.other
  pub answer : answers a.row ≡ true → may_answer t standing ≡ true
  -- what the row tells is so in the state, and no state in which the server waits for the user is silent
  pub so : is_so_in a.row standing ≡ true
  pub loud : is_greeted (answer_now t roll) ≡ true → must_speak standing ≡ true → a.row ≢ R.Nothing
  -- the decision that waits
  pub asked : option_map decision_of a.asked ≡ option_map (λ ask. ask.1) (unconfirmed_now t)

-- all that a row names may be typed, and it leaves out nothing that is to be said
pub record MaySay (t : Talk) (standing : Standing) (o : Offers) (send other : Option Decision) (row : Row) : Type 0
  where
    pub rolls : rolls_alone row ≡ true → o.roll ≡ true
    pub plain : IfSome (plain_in row) (λ p. plain_refusal t p ≡ None)
    pub again : opens_again row ≡ true → AreRenewed t standing send other
    pub answer : answers row ≡ true → may_answer t standing ≡ true
    pub shown : hides_offers standing ≡ false → may_decide o ≡ true → shows_offers row ≡ true
    pub named : is_unsure standing ≡ true → may_decide o ≡ true → names_way_on row ≡ true

-- the user decides on a board, if one is shown
abbrev pub is_deciding : Option BoardFields → Bool
is_deciding None = false
is_deciding (Some b) = decides (phase_of b)

-- the decisions by which a game goes on, on a board in this phase: to double only if a double may be advised
abbrev pub AreWays : Phase → Bool → Option Decision → Option Decision → Type 0
AreWays P.RollOrDouble true first second = (first ≡ Some D.Roll) × (second ≡ Some D.Double)
AreWays P.RollOrDouble false first second = (first ≡ Some D.Roll) × (second ≡ None)
AreWays P.AnswerDouble doubles first second = (first ≡ Some D.Accept) × (second ≡ Some D.Reject)
AreWays P.Move doubles first second = second ≡ None
AreWays phase doubles first second = (first ≡ None) × (second ≡ None)

-- what may go as it is in a phase is advised: to roll, to double, to accept, to reject
abbrev pub SendsWays : Talk → Standing → Phase → Bool → Option Decision → Option Decision → Type 0
SendsWays t standing P.RollOrDouble doubles send other = (MaySend t standing roll → send ≡ Some D.Roll)
    × (doubles ≡ true → MaySend t standing double → other ≡ Some D.Double)
SendsWays t standing P.AnswerDouble doubles send other = (MaySend t standing accept → send ≡ Some D.Accept)
    × (MaySend t standing reject → other ≡ Some D.Reject)
SendsWays t standing phase doubles send other = Unit {0}

-- the command of a decision that is made in place of the one that waits, or those of two; by its numbers the user goes
-- this way
abbrev pub ways_text : Direction → Option Decision → Option Decision → List ℕ
ways_text way None None = []
ways_text way (Some d) None = command_of way (decision_of d)
ways_text way None (Some d) = command_of way (decision_of d)
ways_text way (Some d) (Some e) =
    command_of way (decision_of d) ++ (codes ", or " ++ command_of way (decision_of e))

-- the command of a decision in a row of its own, if there is one, and how it goes: as it is by `send`; by its numbers
-- the user goes this way
abbrev pub goes_on_text : List ℕ → Direction → Option Decision → List ℕ
goes_on_text how way None = []
goes_on_text how way (Some d) =
    codes "If the game goes on: " ++ (how ++ (command_of way (decision_of d) ++ codes "\n"))

-- the first decision that the client takes
abbrev pub first_taken : Advice → Option Decision
first_taken a = first_way a.offers.roll a.offers.example

-- who plays against the user
abbrev pub opponent_text : List ℕ → List ℕ
opponent_text [] = codes "your opponent"
opponent_text (byte ∷ rest) = byte ∷ rest

-- the first word of a decision that was sent
abbrev pub decision_word : Option Decision → List ℕ
decision_word None = codes "It"
decision_word (Some D.Roll) = codes "roll"
decision_word (Some D.Double) = codes "double"
decision_word (Some D.Accept) = codes "accept"
decision_word (Some D.Reject) = codes "reject"
decision_word (Some (D.Move play)) = codes "move"
decision_word (Some (D.Resign kind)) = codes "resign"

-- a line with a name is to be typed as it stands, so the name is whole: if that is long the line has a row of its own
abbrev pub gap : List ℕ → List ℕ
gap name = if nat_lt 24 (length name) then codes "\n" else codes " "

-- the words that resume a saved match: to invite, or to join who invites
abbrev pub saved_text : List ℕ → List ℕ
saved_text opponent = gap opponent ++ (codes "invite " ++ (opponent ++ (codes ",\nor join " ++ (opponent
    ++ (codes "," ++ gap opponent)))))

-- the words that accept an invitation
abbrev pub invited_text : List ℕ → List ℕ
invited_text inviter = gap inviter ++ (codes "join " ++ inviter)

-- how a row begins: with who plays against the user, or with what was sent
abbrev pub beginning : Row → List ℕ → List ℕ → List ℕ
beginning R.Resigns who word = who
beginning R.Concedes who word = who
beginning R.Owes who word = who
beginning R.Unsettled who word = who
beginning R.Unanswered who word = who
beginning R.Doubles who word = who
beginning R.Declined who word = who
beginning R.Thinks who word = who
beginning R.Joined who word = who
beginning R.Absent who word = who
beginning R.Refused who word = word
beginning R.Waits who word = word
beginning row who word = []

-- what a row names: decisions, in the numbers that the user reads; a line that goes as it is, in those of the server; a
-- player
abbrev pub named_in : Numbers → Row → List ℕ → List ℕ → Advice → List ℕ
named_in numbers R.Offers opponent inviter a = hint_text numbers a.offers
named_in numbers R.Resigns opponent inviter a = hint_text numbers a.offers
named_in numbers R.Owes opponent inviter a = hint_text numbers a.offers
named_in numbers R.Declined opponent inviter a =
    ways_text (counted numbers a.offers.direction) a.send a.other
named_in numbers R.Same opponent inviter a =
    ways_text (counted numbers a.offers.direction) a.send a.other
named_in numbers R.Back opponent inviter a =
    ways_text (counted numbers a.offers.direction) a.send a.other
named_in numbers R.Unsettled opponent inviter a =
    goes_on_text [] (counted numbers a.offers.direction) (first_taken a)
named_in numbers R.Unanswered opponent inviter a =
    goes_on_text [] (counted numbers a.offers.direction) (first_taken a)
named_in numbers R.Thinks opponent inviter a = goes_on_text (codes "send ") a.offers.direction a.send
named_in numbers R.Saved opponent inviter a = saved_text opponent
named_in numbers R.Invited opponent inviter a = invited_text inviter
named_in numbers row opponent inviter a = []

-- what is said, to a user who reads these numbers: of a name that is not to be typed the first 24 bytes
abbrev pub advice_text : Numbers → List ℕ → List ℕ → Advice → List ℕ
advice_text numbers opponent inviter a = beginning a.row (opponent_text (take 24 opponent)) (decision_word a.asked)
    ++ (words_before a.row ++ (named_in numbers a.row opponent inviter a ++ words_after a.row))
