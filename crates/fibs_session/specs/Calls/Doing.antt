-- What a call does: an input of the machine.
use Rattle.std.specs.Prelude.{◌≡◌, ℕ, Bool, List, Option}
use Rattle.fibs_lines.specs.Lines.{ReadLine}
use Rattle.fibs_session.specs.History.Words.{Ask}
use Rattle.fibs_session.specs.History.Machine.{Talk, InputValue, step, line_heard, hears}
use Rattle.fibs_session.specs.Calls.SessionValue.{SessionValue}
use Rattle.fibs_session.specs.Calls.Standing.{SessionStandsAfter, ClientValue, StandsAfter}

-- for each history by which it was reached, that history with the input reaches it now, and these commands are handed
-- out
pub record SessionDoes (old new : SessionValue) (i : InputValue) (send : List (List ℕ)) : Type 0 where
  pub stands : (t : Talk) → SessionStandsAfter old t → SessionStandsAfter new (step t i).talk
  pub hands : (t : Talk) → SessionStandsAfter old t → send ≡ (step t i).send

-- the same for a whole line
pub record SessionHears (old new : SessionValue) (l : ReadLine) (send : List (List ℕ)) (confirmed : Option Ask)
    (rolled : Bool) : Type 0 where
  pub stands : (t : Talk) → SessionStandsAfter old t → SessionStandsAfter new (hears t (line_heard t l)).talk
  pub hands : (t : Talk) → SessionStandsAfter old t → send ≡ (line_heard t l).send
  pub confirms : (t : Talk) → SessionStandsAfter old t → confirmed ≡ (line_heard t l).confirmed
  pub rolls : (t : Talk) → SessionStandsAfter old t → rolled ≡ (line_heard t l).rolled

-- the same for a client
pub record Does (old new : ClientValue) (i : InputValue) (send : List (List ℕ)) : Type 0 where
  pub stands : (t : Talk) → StandsAfter old t → StandsAfter new (step t i).talk
  pub hands : (t : Talk) → StandsAfter old t → send ≡ (step t i).send
