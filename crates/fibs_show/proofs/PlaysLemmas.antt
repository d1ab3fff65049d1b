-- The lines of `fibs plays`.
use Rattle.std.proofs.Common.{◌≡◌, ℕ, List, [], ◌∷◌, sym, arith, subst, inl, inr, Result, Ok, Err, IsErrOf, MatchResult}
use Rattle.fibs_fields.specs.Board.{BoardFields}
use Rattle.fibs_messages.specs.Line.{ReadingValue, board_line}
use Rattle.fibs_position.specs.First.{IsFirst}
use Rattle.fibs_position.specs.GoodBoard.{IsGood, HasFault, faults}
use Rattle.fibs_position.specs.declared.position_fault.PositionFault.{PositionFault}
use Rattle.fibs_position.specs.declared.position_fault.PositionFault.TheVariants.{NotYou, TooManyOwn, TooManyOther}
use Rattle.fibs_show.specs.Plays.{Refusal}
use Rattle.fibs_engine.specs.declared.fault.EngineFault.{EngineFault}
use Rattle.fibs_engine.specs.declared.fault.EngineFault.TheVariants.{Device, Memory}

-- the first that fits does fit
first_fits : {X : Type 0} (fits : X → Type 0) (xs : List X) (x : X) → IsFirst fits xs x → fits x
first_fits fits [] x first = absurd first
first_fits fits (y ∷ ys) x first = elim first [
  | inl head ↦ subst fits
      (sym head.1) head.0
  | inr later ↦ first_fits fits ys x later.1
]

-- a good board has no fault
no_fault : (b : BoardFields) (fault : PositionFault) → IsGood b → HasFault b fault → ⊥
no_fault b NotYou good fault = fault good.plays
no_fault b TooManyOwn good fault = let few = good.own in omega arith
no_fault b TooManyOther good fault = let few = good.other in omega arith

-- and so it is not refused
pub good_not_refused : (b : BoardFields) (reading : ReadingValue) (why : List ℕ) → reading ≡ board_line b → IsGood b
    → Refusal reading why → ⊥
good_not_refused b reading why e good refusal =
    let told = subst (λ r. Refusal r why) e refusal in
    no_fault b told.0 good (first_fits (HasFault b) faults told.0 told.1)

-- what answers a status or the fault of a device does not say that memory ran out
pub device_alone : (r : Result ℕ EngineFault) (P : ℕ → Type 0) (Q : Type 0)
    → MatchResult r P (λ fault. (fault ≡ Device) × Q) → IsErrOf r Memory → ⊥
device_alone (Ok status) P Q told failed = cc
device_alone (Err Device) P Q told failed = cc
device_alone (Err Memory) P Q told failed = cc
