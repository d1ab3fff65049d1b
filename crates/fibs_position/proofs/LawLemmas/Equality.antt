-- Decisions are given by their values.
use Rattle.std.proofs.Common.{◌≡◌, ℕ, List, [], refl, ap, arith}
use Rattle.fibs_rules.specs.Hop.{Hop}
use Rattle.fibs_position.specs.DecisionValue.{DecisionValue, roll, double, accept, reject, move, resign, decision_of}
use Rattle.fibs_position.specs.declared.decision.Decision.{Decision}
use Rattle.fibs_position.specs.declared.decision.Decision.TheVariants.{Roll, Double, Accept, Reject, Move, Resign}
use Rattle.fibs_position.specs.declared.stake.Stake.{Stake}
use Rattle.fibs_position.specs.declared.stake.Stake.TheVariants.{Normal}
use Rattle.fibs_rules.proofs.LawLemmas.Equality.{same_play}

-- a number by which the kinds of decisions differ
abbrev kind : DecisionValue → ℕ
kind roll = 0
kind double = 1
kind accept = 2
kind reject = 3
kind (move steps) = 4
kind (resign stake) = 5

-- the steps of a decision
abbrev moves : DecisionValue → List Hop
moves (move steps) = steps
moves other = []

-- the stake of a decision
abbrev stake_of : DecisionValue → Stake
stake_of (resign stake) = stake
stake_of other = Normal

-- decisions with one value are one
pub same_decision : (a b : Decision) → decision_of a ≡ decision_of b → a ≡ b
same_decision Roll Roll e = refl
same_decision Double Double e = refl
same_decision Accept Accept e = refl
same_decision Reject Reject e = refl
same_decision (Move p) (Move q) e = ap (λ play. Move play) (same_play p q (ap moves e))
same_decision (Resign s) (Resign t) e = ap (λ stake. Resign stake) (ap stake_of e)
same_decision a b e = absurd (omega (arith, ap kind e))
