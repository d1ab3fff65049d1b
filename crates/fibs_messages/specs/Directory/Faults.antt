-- The numbers and names of the reasons for which a directory does not note a message.
use Rattle.std.specs.Prelude.{ℕ, List, codes}
use Rattle.fibs_messages.specs.declared.directory.fault.DirectoryFault.{DirectoryFault}
use Rattle.fibs_messages.specs.declared.directory.fault.DirectoryFault.TheVariants.{Memory, Full}

abbrev pub directory_fault_number : DirectoryFault → ℕ
directory_fault_number Memory = 1
directory_fault_number Full = 2

abbrev pub directory_fault_name : DirectoryFault → List ℕ
directory_fault_name Memory = codes "Memory"
directory_fault_name Full = codes "Full"
