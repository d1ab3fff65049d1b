-- The statuses: 0, or a family's hundred and the number of a refusal or a fault in it; and their names.
use Rattle.std.specs.Prelude.{◌≡◌, ℕ, ◌+◌, ◌/◌, ◌%◌, List, [], Option, None, Some, codes, nat_eq, if◌then◌else◌}
use Rattle.fibs_commands.specs.PlainFaults.{plain_fault_number, plain_fault_name}
use Rattle.fibs_commands.specs.declared.plain.PlainFault.{PlainFault}
use Rattle.fibs_messages.specs.Directory.Faults.{directory_fault_number, directory_fault_name}
use Rattle.fibs_messages.specs.declared.directory.fault.DirectoryFault.{DirectoryFault}
use Rattle.fibs_fields.specs.Faults.{fault_number, fault_name}
use Rattle.fibs_fields.specs.declared.fault.Fault.{Fault}
use Rattle.fibs_position.specs.Names.{disallowed_number, position_fault_number, position_fault_name}
use Rattle.fibs_position.specs.declared.disallowed.Disallowed.{Disallowed}
use Rattle.fibs_position.specs.declared.position_fault.PositionFault.{PositionFault}
use Rattle.fibs_session.specs.History.Refusals.{refusal_number, refusal_name}
use Rattle.fibs_game.specs.declared.refusal.Refusal.{Refusal}
use Rattle.fibs_game.specs.declared.refusal.Refusal.TheVariants as R
use Rattle.fibs_session.specs.declared.histories.refusal.PlainRefusal.{PlainRefusal}
use Rattle.fibs_session.specs.declared.histories.refusal.PlainRefusal.TheVariants as P

-- the client's refusal, or 0 if it does not refuse
abbrev pub refusal_status : Option Refusal → ℕ
refusal_status None = 0
refusal_status (Some why) = refusal_number why

-- the refusal of a plain command
abbrev pub plain_refusal_status : PlainRefusal → ℕ
plain_refusal_status P.Offline = refusal_number R.Offline
plain_refusal_status P.NotOn = refusal_number R.NotOn
plain_refusal_status (P.Fault fault) = 100 + plain_fault_number fault

-- the same, or 0
abbrev pub plain_status : Option PlainRefusal → ℕ
plain_status None = 0
plain_status (Some why) = plain_refusal_status why

-- why a decision is not allowed on a board, by the number of the client's refusal of that name, or 0
abbrev pub allowed_status : Option Disallowed → ℕ
allowed_status None = 0
allowed_status (Some why) = 6 + disallowed_number why

-- the names, family by family; there is no status if the name is empty

abbrev pub refusal_named : ℕ → List ℕ
refusal_named n =
    if nat_eq n 0 then codes "Done" else if nat_eq n 1 then codes "AlreadyOpen" else if nat_eq n 2 then codes "Offline"
    else if nat_eq n 3 then codes "NotReady" else if nat_eq n 4 then codes "ServerPlays"
    else if nat_eq n 5 then codes "NoBoard" else if nat_eq n 6 then codes "Waiting"
    else if nat_eq n 7 then codes "NotYours" else if nat_eq n 8 then codes "WrongKind"
    else if nat_eq n 9 then codes "IllegalPlay" else if nat_eq n 10 then codes "NotOn"
    else if nat_eq n 11 then codes "AlreadyOrdered" else if nat_eq n 12 then codes "NotOrdered" else []

abbrev pub plain_fault_named : ℕ → List ℕ
plain_fault_named n =
    if nat_eq n 1 then codes "BadName" else if nat_eq n 2 then codes "BadText" else if nat_eq n 3 then codes "TooLong"
    else []

abbrev pub position_fault_named : ℕ → List ℕ
position_fault_named n =
    if nat_eq n 1 then codes "NotYou" else if nat_eq n 2 then codes "TooManyOwn"
    else if nat_eq n 3 then codes "TooManyOther" else []

abbrev pub field_fault_named : ℕ → List ℕ
field_fault_named n =
    if nat_eq n 1 then codes "Missing" else if nat_eq n 2 then codes "Extra" else if nat_eq n 3 then codes "NotANumber"
    else if nat_eq n 4 then codes "OutOfRange" else if nat_eq n 5 then codes "BadName" else []

abbrev pub directory_fault_named : ℕ → List ℕ
directory_fault_named n = if nat_eq n 1 then codes "Memory" else if nat_eq n 2 then codes "Full" else []

-- what the library itself answers
abbrev pub own_named : ℕ → List ℕ
own_named n =
    if nat_eq n 1 then codes "NoHandle" else if nat_eq n 2 then codes "Held" else if nat_eq n 3 then codes "Short"
    else if nat_eq n 4 then codes "NoDecision" else if nat_eq n 5 then codes "NoCommand"
    else if nat_eq n 6 then codes "NoField" else if nat_eq n 7 then codes "NothingWaits"
    else if nat_eq n 8 then codes "NoPlayer" else if nat_eq n 9 then codes "NoStatus"
    else if nat_eq n 10 then codes "NoEffect" else if nat_eq n 11 then codes "NoDirection"
    else if nat_eq n 12 then codes "Taken" else []

-- the name of a number in a family of statuses
abbrev pub name_in : ℕ → ℕ → List ℕ
name_in family n =
    if nat_eq family 0 then refusal_named n else if nat_eq family 1 then plain_fault_named n
    else if nat_eq family 2 then position_fault_named n else if nat_eq family 3 then field_fault_named n
    else if nat_eq family 4 then directory_fault_named n else if nat_eq family 5 then own_named n else []

-- the name of a status
unfoldable pub status_name : ℕ → List ℕ
status_name status = name_in (status / 100) (status % 100)

-- it is that of the refusal or the fault
pub record StatusesAreNamed : Type 0 where
  pub refusals : (why : Refusal) → status_name (refusal_number why) ≡ refusal_name why
  pub plain_faults : (f : PlainFault) → status_name (100 + plain_fault_number f) ≡ plain_fault_name f
  pub position_faults : (f : PositionFault) → status_name (200 + position_fault_number f) ≡ position_fault_name f
  pub field_faults : (f : Fault) → status_name (300 + fault_number f) ≡ fault_name f
  pub directory_faults : (f : DirectoryFault) → status_name (400 + directory_fault_number f) ≡ directory_fault_name f
