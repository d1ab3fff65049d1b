-- The name and the number of each fault of a field, and how it is printed (the project's own).
use Rattle.std.specs.Prelude.{ℕ, List, ◌++◌, codes, decimal}
use Rattle.fibs_fields.specs.declared.fault.FieldFault.{FieldFault}
use Rattle.fibs_fields.specs.declared.fault.Fault.{Fault}
use Rattle.fibs_fields.specs.declared.fault.Fault.TheVariants.{Missing, Extra, NotANumber, OutOfRange, BadName}

-- the name that is printed
abbrev pub fault_name : Fault → List ℕ
fault_name Missing = codes "Missing"
fault_name Extra = codes "Extra"
fault_name NotANumber = codes "NotANumber"
fault_name OutOfRange = codes "OutOfRange"
fault_name BadName = codes "BadName"

-- the number that is printed
abbrev pub fault_number : Fault → ℕ
fault_number Missing = 1
fault_number Extra = 2
fault_number NotANumber = 3
fault_number OutOfRange = 4
fault_number BadName = 5

-- a wrong field as it is printed: `field`, its number, a colon, and the name of what is wrong
abbrev pub field_fault_text : FieldFault → List ℕ
field_fault_text e = codes "field " ++ decimal e.field ++ codes ": " ++ fault_name e.fault
