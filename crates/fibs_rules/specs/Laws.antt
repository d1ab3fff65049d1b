-- Laws of steps and plays.
use Rattle.std.specs.Prelude.{ℕ, ◌<◌, List}
use Rattle.fibs_rules.specs.Checkers.{Checkers}
use Rattle.fibs_rules.specs.OneChecker.{One}
use Rattle.fibs_rules.specs.LaxPlays.{LaxRun}
use Rattle.fibs_rules.specs.Hop.{Hop}
use Rattle.fibs_rules.specs.PlayValue.{IsPlay}
use Rattle.fibs_rules.specs.Runs.{Standing}
use Rattle.fibs_rules.specs.LegalPlays.{LegalPlay}

-- if two steps by one die, the second from a higher place than the first, lead from p to q, the same two in the
-- other order lead from p to q
abbrev pub StepsSwap : Type 0
StepsSwap =
    (p r q : Checkers) (low low_to high high_to die : ℕ) → 0 < die → low < high
    → One p low low_to die r → One r high high_to die q
    → (other : Checkers) × One p high high_to die other × One other low low_to die q

-- each legal play can be carried out
abbrev pub LegalIsCarriedOut : Type 0
LegalIsCarriedOut = (p : Standing) (steps : List Hop) → LegalPlay p steps → (q : Checkers) × LaxRun p.checkers steps q

-- a legal play is at most four steps, each one that a checker can make
abbrev pub LegalPlaysAreSteps : Type 0
LegalPlaysAreSteps = (p : Standing) (steps : List Hop) → LegalPlay p steps → IsPlay steps
