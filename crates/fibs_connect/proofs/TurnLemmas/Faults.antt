-- What an answer of a part of a turn says, if a fault is handed on.
use Rattle.std.proofs.Common.{◌≡◌, List, ◌++◌, Result, Ok, Err}
use Rattle.std.specs.Prelude.{⊤, IsErrAnd}
use Rattle.fibs_engine.specs.Writing.{Progress, Whole, Broken, progress_of}
use Rattle.fibs_engine.specs.declared.writing.Unwritten as declared
use Rattle.fibs_connect.specs.declared.turns.turn_fault.TurnFault.{TurnFault}
use Rattle.fibs_connect.specs.declared.turns.turn_fault.TurnFault.TheVariants.{Stream, Output}
use Rattle.fibs_connect.specs.Told.{SaidValue, Joins}
use Rattle.fibs_connect.specs.Turns.Acts.{Act}
use Rattle.fibs_connect.specs.Turns.Script.{Outside, Did, Silent, untold}
use Rattle.fibs_connect.specs.Turns.Answering.{Goes}
use Rattle.fibs_connect.proofs.TurnLemmas.Scripts.{did_joined, did_hushed}

-- after a failed write the answer says so
pub broken_on : (Holds : Progress → Type 0) (r : Result ⊤ declared.Unwritten) (v : declared.Unwritten)
    → IsErrAnd r (λ e. e ≡ v) → Holds Broken → Holds (progress_of r)
broken_on Holds (Ok x) v h p = absurd h
broken_on Holds (Err e) v h p = p

-- a part of a turn at a failed write
pub at_stream : {F : Type 0} (Tells : F → List SaidValue → F → Type 0) (r : Result ⊤ TurnFault) (a b : Outside F)
    (Holds : (List Act → Type 0) → Progress → Type 0) → IsErrAnd r (λ e. e ≡ Stream)
    → Holds (λ script. Did Tells a b script Broken) Broken → Goes Tells r a b Holds
at_stream Tells (Ok x) a b Holds h p = absurd h
at_stream Tells (Err Stream) a b Holds h p = p
at_stream Tells (Err Output) a b Holds h p = absurd cc

-- a part of a turn at something that could not be reported
pub at_output : {F : Type 0} (Tells : F → List SaidValue → F → Type 0) (r : Result ⊤ TurnFault) (a b : Outside F)
    (Holds : (List Act → Type 0) → Progress → Type 0) → IsErrAnd r (λ e. e ≡ Output)
    → Holds (λ script. Did Silent (untold a.wrote) (untold b.wrote) script Whole) Broken → Goes Tells r a b Holds
at_output Tells (Ok x) a b Holds h p = absurd h
at_output Tells (Err Stream) a b Holds h p = absurd cc
at_output Tells (Err Output) a b Holds h p = p

-- a part of a turn that hands a fault on: what was done before goes before what was done at the fault
pub goes_on : {F : Type 0} {Tells : F → List SaidValue → F → Type 0} → Joins Tells → (r : Result ⊤ TurnFault)
    (e : TurnFault) (a b c : Outside F) (Holds Now : (List Act → Type 0) → Progress → Type 0) → IsErrAnd r (λ y. y ≡ e)
    → ((Late All : List Act → Type 0)
    → ((xs ys : List Act) → Did Tells a b xs Whole → Late ys → All (xs ++ ys)) → Holds Late Broken → Now All Broken)
    → Goes Tells (Err e) b c Holds → Goes Tells r a c Now
goes_on joins (Ok x) e a b c Holds Now h more p = absurd h
goes_on joins (Err Stream) Stream a b c Holds Now h more p =
    more _ _ (λ xs ys first late. did_joined joins Broken a b c xs ys first late) p
goes_on joins (Err Output) Output a b c Holds Now h more p =
    more _ _ (λ xs ys first late. did_hushed a b c.wrote xs ys first late) p
goes_on joins (Err Stream) Output a b c Holds Now h more p = absurd cc
goes_on joins (Err Output) Stream a b c Holds Now h more p = absurd cc
