-- The numbers and names of what can be wrong with a plain command or a login.
use Rattle.std.specs.Prelude.{ℕ, List, codes}
use Rattle.fibs_commands.specs.declared.plain.PlainFault.{PlainFault}
use Rattle.fibs_commands.specs.declared.plain.PlainFault.TheVariants.{BadName, BadText, TooLong}

abbrev pub plain_fault_number : PlainFault → ℕ
plain_fault_number BadName = 1
plain_fault_number BadText = 2
plain_fault_number TooLong = 3

abbrev pub plain_fault_name : PlainFault → List ℕ
plain_fault_name BadName = codes "BadName"
plain_fault_name BadText = codes "BadText"
plain_fault_name TooLong = codes "TooLong"
