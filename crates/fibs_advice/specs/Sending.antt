-- Decisions that go to the server as they are, by `send` (the project's own).
use Rattle.std.specs.Prelude.{◌≡◌, ◌≢◌, Bool, true, false, Option, Some, None, IfSome, is_none}
use Rattle.fibs_fields.specs.Board.{BoardFields}
use Rattle.fibs_position.specs.Allowed.{allowed_of}
use Rattle.fibs_position.specs.DecisionValue.{DecisionValue}
use Rattle.fibs_session.specs.History.Machine.{Talk, shown_now, unconfirmed_now}
use Rattle.fibs_session.specs.History.Words.{Ask}
use Rattle.fibs_advice.specs.Offers.{is_taken}
use Rattle.fibs_advice.specs.Standings.{repeats}
use Rattle.fibs_advice.specs.declared.standing.Standing.{Standing}

-- the rules allow a decision on the board that is shown
abbrev pub rules_allow : Option BoardFields → DecisionValue → Bool
rules_allow None d = false
rules_allow (Some b) d = is_none (allowed_of b d)

-- a decision that waits is another one
abbrev pub IsAnother : Option Ask → DecisionValue → Type 0
IsAnother asked d = IfSome asked (λ ask. ask.1 ≢ d)

-- a decision may go as it is: the client would refuse it, the rules allow it on the board that is shown, and it is not
-- the one that waits, unless the server has shown the board again on which that was made
pub record MaySend (t : Talk) (standing : Standing) (d : DecisionValue) : Type 0 where
  pub untaken : is_taken t d ≡ false
  pub allowed : rules_allow (shown_now t) d ≡ true
  pub another : repeats standing ≡ false → IsAnother (unconfirmed_now t) d
