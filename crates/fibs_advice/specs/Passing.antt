-- Decisions that the client refuses, and that go to the server all the same, since it has asked for them (the project's
-- own).
use Rattle.std.specs.Prelude.{◌≡◌, ◌⊎◌, ◌&&◌, Bool, not, true, false, Option, Some, None, IfSome}
use Rattle.fibs_game.specs.declared.refusal.Refusal.{Refusal}
use Rattle.fibs_game.specs.declared.refusal.Refusal.TheVariants as No
use Rattle.fibs_fields.specs.Board.{BoardFields}
use Rattle.fibs_position.specs.Allowed.{allowed_of}
use Rattle.fibs_position.specs.DecisionValue.{DecisionValue, double, accept, reject, resign, decision_of}
use Rattle.fibs_position.specs.declared.decision.Decision.{Decision}
use Rattle.fibs_position.specs.declared.disallowed.Disallowed.{Disallowed}
use Rattle.fibs_session.specs.History.Machine.{Talk, shown_now, unconfirmed_now, answer_now}
use Rattle.fibs_session.specs.History.Words.{Ask}
use Rattle.fibs_advice.specs.Offers.{is_taken}
use Rattle.fibs_advice.specs.Sending.{IsAnother, rules_allow}
use Rattle.fibs_advice.specs.Standings.{is_open_again, owes_answer, repeats}
use Rattle.fibs_advice.specs.declared.passing.Passing.{Passing}
use Rattle.fibs_advice.specs.declared.passing.Passing.TheVariants as P
use Rattle.fibs_advice.specs.declared.standing.Standing.{Standing}

-- an answer to an offer
abbrev pub is_answer : DecisionValue → Bool
is_answer accept = true
is_answer reject = true
is_answer d = false

-- an offer, which changes no board
abbrev pub is_an_offer : DecisionValue → Bool
is_an_offer double = true
is_an_offer (resign stake) = true
is_an_offer d = false

-- the server has greeted the user, and no longer takes a line for a name or a password
abbrev pub is_greeted : Option Refusal → Bool
is_greeted (Some No.Offline) = false
is_greeted (Some No.NotReady) = false
is_greeted why = true

-- an offer is answered of which texts alone tell: the client would refuse both answers
abbrev pub may_answer : Talk → Standing → Bool
may_answer t standing = owes_answer standing
    && (is_greeted (answer_now t accept) && (not (is_taken t accept) && not (is_taken t reject)))

-- the client refuses a decision since another one waits
abbrev pub is_behind : Option Refusal → Bool
is_behind (Some No.Waiting) = true
is_behind why = false

-- the server has said no to the decision that waits, or has shown its board again
abbrev pub is_open_in : Standing → Option Ask → Bool
is_open_in standing None = false
is_open_in standing (Some ask) = is_open_again standing (is_an_offer ask.1)

-- so a decision may be made in its place
abbrev pub may_renew : Talk → Standing → DecisionValue → Bool
may_renew t standing d = is_behind (answer_now t d) && is_open_in standing (unconfirmed_now t)

-- it is made: the rules allow it on the board that is shown, and it is not the one that waits, unless the server has
-- shown the board again on which that was made
pub record Renews (t : Talk) (standing : Standing) (d : DecisionValue) : Type 0 where
  pub opened : may_renew t standing d ≡ true
  pub allowed : rules_allow (shown_now t) d ≡ true
  pub another : repeats standing ≡ false → IsAnother (unconfirmed_now t) d

-- it answers the offer
pub record AnswersOffer (t : Talk) (standing : Standing) (d : DecisionValue) : Type 0 where
  pub is_one : is_answer d ≡ true
  pub may : may_answer t standing ≡ true

-- a decision goes to the server past the client, without the word `send`: an answer to an offer, or what is made in
-- place of the decision that waits
abbrev pub GoesPast : Talk → Standing → DecisionValue → Type 0
GoesPast t standing d = AnswersOffer t standing d ⊎ Renews t standing d

-- a decision, if there is one, goes past it
abbrev pub IsRenewed : Talk → Standing → Option Decision → Type 0
IsRenewed t standing way = IfSome way (λ d. GoesPast t standing (decision_of d))

-- each of two does
abbrev pub AreRenewed : Talk → Standing → Option Decision → Option Decision → Type 0
AreRenewed t standing send other = IsRenewed t standing send × IsRenewed t standing other

-- one might be made, and the rules forbid this one on the board that is shown
pub record IsForbidden (t : Talk) (standing : Standing) (d : DecisionValue) : Type 0 where
  pub opened : may_renew t standing d ≡ true
  pub forbidden : rules_allow (shown_now t) d ≡ false

-- it goes past the client
abbrev pub goes : Passing → Bool
goes P.Again = true
goes P.OnWord = true
goes passing = false

-- the rules forbid it
abbrev pub is_forbidden : Passing → Bool
is_forbidden (P.Forbidden why) = true
is_forbidden passing = false

-- how a decision that is typed goes; if it is forbidden, for the first reason that the rules have on the board that is
-- shown
pub record Passes (t : Talk) (standing : Standing) (d : DecisionValue) (passing : Passing) : Type 0 where
  pub sent : goes passing ≡ true → GoesPast t standing d
  pub taken : GoesPast t standing d → goes passing ≡ true
  pub forbidden : is_forbidden passing ≡ true → IsForbidden t standing d
  pub reason : (why : Disallowed) → passing ≡ P.Forbidden why → (b : BoardFields) → shown_now t ≡ Some b
      → allowed_of b d ≡ Some why
