-- The names and numbers of phases, of the faults of boards, and of refusals, as they are printed.
use Rattle.std.specs.Prelude.{ℕ, List, codes}
use Rattle.fibs_position.specs.declared.phase.Phase.{Phase}
use Rattle.fibs_position.specs.declared.phase.Phase.TheVariants.{Over, AnswerDouble, OpponentActs, RollOrDouble, Move, Passing}
use Rattle.fibs_position.specs.declared.position_fault.PositionFault.{PositionFault}
use Rattle.fibs_position.specs.declared.position_fault.PositionFault.TheVariants.{NotYou, TooManyOwn, TooManyOther}
use Rattle.fibs_position.specs.declared.disallowed.Disallowed.{Disallowed}
use Rattle.fibs_position.specs.declared.disallowed.Disallowed.TheVariants.{NotYours, WrongKind, IllegalPlay}

-- the name of a phase
abbrev pub phase_name : Phase → List ℕ
phase_name Over = codes "Over"
phase_name AnswerDouble = codes "AnswerDouble"
phase_name OpponentActs = codes "OpponentActs"
phase_name RollOrDouble = codes "RollOrDouble"
phase_name Move = codes "Move"
phase_name Passing = codes "Passing"

-- the name of the fault of a board that is not good
abbrev pub position_fault_name : PositionFault → List ℕ
position_fault_name NotYou = codes "NotYou"
position_fault_name TooManyOwn = codes "TooManyOwn"
position_fault_name TooManyOther = codes "TooManyOther"

-- its number, in the order in which faults are named
abbrev pub position_fault_number : PositionFault → ℕ
position_fault_number NotYou = 1
position_fault_number TooManyOwn = 2
position_fault_number TooManyOther = 3

-- the name of a refusal
abbrev pub disallowed_name : Disallowed → List ℕ
disallowed_name NotYours = codes "NotYours"
disallowed_name WrongKind = codes "WrongKind"
disallowed_name IllegalPlay = codes "IllegalPlay"

-- its number, in the order in which reasons are named
abbrev pub disallowed_number : Disallowed → ℕ
disallowed_number NotYours = 1
disallowed_number WrongKind = 2
disallowed_number IllegalPlay = 3
