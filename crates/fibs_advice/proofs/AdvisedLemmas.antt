-- What is advised is the row of the state, and what may go as it is.
use Rattle.std.proofs.Common.{◌≡◌, Bool, true, false, Option, Some, IfSome, sym, subst, ◌∙◌}
use Rattle.std.proofs.lemmas.Bool.{false≢true}
use Rattle.fibs_position.specs.DecisionValue.{decision_of}
use Rattle.fibs_position.specs.declared.decision.Decision.{Decision}
use Rattle.fibs_position.specs.declared.phase.Phase.{Phase}
use Rattle.fibs_position.specs.declared.phase.Phase.TheVariants as P
use Rattle.fibs_session.specs.History.Machine.{Talk}
use Rattle.fibs_advice.specs.Advised.{AreWays, SendsWays}
use Rattle.fibs_advice.specs.Sending.{MaySend}
use Rattle.fibs_advice.specs.declared.row.Row.{Row}
use Rattle.fibs_advice.specs.declared.standing.Standing.{Standing}

-- a row that is kept if it may be said is the one that is to be said
pub kept_row : (P : Row → Type 0) (said row result : Row) → said ≡ row → (P said → result ≡ said) → P row
    → result ≡ row
kept_row P said row result same kept may = kept (subst P (sym same) may) ∙ same

-- a decision, if there is one, may go as it is
abbrev pub MayGo : Talk → Standing → Option Decision → Type 0
MayGo t standing way = IfSome way (λ d. MaySend t standing (decision_of d))

-- it goes if it may
goes : (t : Talk) (standing : Standing) (way sent : Option Decision) (d : Decision) → way ≡ Some d
    → (MayGo t standing way → sent ≡ way) → MaySend t standing (decision_of d) → sent ≡ Some d
goes t standing way sent d is kept may = kept (subst (MayGo t standing) (sym is) may) ∙ is

-- so what may go as it is in a phase is advised
pub sends_ways : (t : Talk) (standing : Standing) (p : Phase) (doubles : Bool)
    (first second send other : Option Decision) → AreWays p doubles first second
    → (MayGo t standing first → send ≡ first)
    → (MayGo t standing second → other ≡ second) → SendsWays t standing p doubles send other
sends_ways t standing P.RollOrDouble true first second send other ways kept both =
    (goes t standing first send _ ways.0 kept, λ yes may. goes t standing second other _ ways.1 both may)
sends_ways t standing P.RollOrDouble false first second send other ways kept both =
    (goes t standing first send _ ways.0 kept, λ yes may. absurd (false≢true yes))
sends_ways t standing P.AnswerDouble doubles first second send other ways kept both =
    (goes t standing first send _ ways.0 kept, goes t standing second other _ ways.1 both)
sends_ways t standing P.Move doubles first second send other ways kept both = tt
sends_ways t standing P.Over doubles first second send other ways kept both = tt
sends_ways t standing P.OpponentActs doubles first second send other ways kept both = tt
sends_ways t standing P.Passing doubles first second send other ways kept both = tt
