-- Each name is computed.
use Rattle.std.proofs.Common.{◌≡◌, ◌+◌, refl}
use Rattle.fibs_commands.specs.PlainFaults.{plain_fault_number, plain_fault_name}
use Rattle.fibs_commands.specs.declared.plain.PlainFault.{PlainFault}
use Rattle.fibs_commands.specs.declared.plain.PlainFault.TheVariants.{BadName, BadText, TooLong}
use Rattle.fibs_messages.specs.Directory.Faults.{directory_fault_number, directory_fault_name}
use Rattle.fibs_messages.specs.declared.directory.fault.DirectoryFault.{DirectoryFault}
use Rattle.fibs_messages.specs.declared.directory.fault.DirectoryFault.TheVariants.{Memory, Full}
use Rattle.fibs_fields.specs.Faults.{fault_number, fault_name}
use Rattle.fibs_fields.specs.declared.fault.Fault.{Fault}
use Rattle.fibs_fields.specs.declared.fault.Fault.TheVariants as F
use Rattle.fibs_position.specs.Names.{position_fault_number, position_fault_name}
use Rattle.fibs_position.specs.declared.position_fault.PositionFault.{PositionFault}
use Rattle.fibs_position.specs.declared.position_fault.PositionFault.TheVariants.{NotYou, TooManyOwn, TooManyOther}
use Rattle.fibs_session.specs.History.Refusals.{refusal_number, refusal_name}
use Rattle.fibs_game.specs.declared.refusal.Refusal.{Refusal}
use Rattle.fibs_game.specs.declared.refusal.Refusal.TheVariants as R
use Rattle.fibs_c.specs.Records.Statuses.{status_name}
use Rattle.fibs_c.proofs.records.laws.statuses_are_named.Goals as goal

refusals : (why : Refusal) → status_name (refusal_number why) ≡ refusal_name why
unfolding status_name
refusals R.AlreadyOpen = refl
refusals R.Offline = refl
refusals R.NotReady = refl
refusals R.ServerPlays = refl
refusals R.NoBoard = refl
refusals R.Waiting = refl
refusals R.NotYours = refl
refusals R.WrongKind = refl
refusals R.IllegalPlay = refl
refusals R.NotOn = refl
refusals R.AlreadyOrdered = refl
refusals R.NotOrdered = refl

plain_faults : (f : PlainFault) → status_name (100 + plain_fault_number f) ≡ plain_fault_name f
unfolding status_name
plain_faults BadName = refl
plain_faults BadText = refl
plain_faults TooLong = refl

position_faults : (f : PositionFault) → status_name (200 + position_fault_number f) ≡ position_fault_name f
unfolding status_name
position_faults NotYou = refl
position_faults TooManyOwn = refl
position_faults TooManyOther = refl

field_faults : (f : Fault) → status_name (300 + fault_number f) ≡ fault_name f
unfolding status_name
field_faults F.Missing = refl
field_faults F.Extra = refl
field_faults F.NotANumber = refl
field_faults F.OutOfRange = refl
field_faults F.BadName = refl

directory_faults : (f : DirectoryFault) → status_name (400 + directory_fault_number f) ≡ directory_fault_name f
unfolding status_name
directory_faults Memory = refl
directory_faults Full = refl

pub returns : goal.returns
returns c = record {
  refusals = refusals;
  plain_faults = plain_faults;
  position_faults = position_faults;
  field_faults = field_faults;
  directory_faults = directory_faults;
}
