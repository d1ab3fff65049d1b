-- The numbers and names of a client's refusals (the project's own).
use Rattle.std.specs.Prelude.{ℕ, List}
use Rattle.fibs_commands.specs.PlainFaults.{plain_fault_number, plain_fault_name}
use Rattle.fibs_game.specs.declared.refusal.Refusal.TheVariants.{Offline, NotOn}
use Rattle.fibs_session.specs.declared.histories.refusal.PlainRefusal.{PlainRefusal}
use Rattle.fibs_session.specs.declared.histories.refusal.PlainRefusal.TheVariants as P
pub use Rattle.fibs_game.specs.RefusalNames.{refusal_number, refusal_name}

-- the number and the name of the same refusal of a decision, or of the fault

abbrev pub plain_refusal_number : PlainRefusal → ℕ
plain_refusal_number P.Offline = refusal_number Offline
plain_refusal_number P.NotOn = refusal_number NotOn
plain_refusal_number (P.Fault fault) = plain_fault_number fault

abbrev pub plain_refusal_name : PlainRefusal → List ℕ
plain_refusal_name P.Offline = refusal_name Offline
plain_refusal_name P.NotOn = refusal_name NotOn
plain_refusal_name (P.Fault fault) = plain_fault_name fault
