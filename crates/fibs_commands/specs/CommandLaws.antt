-- What the laws of the commands say.
use Rattle.std.specs.Prelude.{◌≡◌, ◌↔◌, ◌≤◌, ◌<◌, ℕ, false, List, [], ◌∷◌, Some, None, All, length}
use Rattle.fibs_lines.specs.Lines.{lines_of}
use Rattle.fibs_lines.specs.StreamLaws.{IsSendable, with_line_end}
use Rattle.fibs_fields.specs.Printed.{IsPrinted}
use Rattle.fibs_position.specs.DecisionValue.{DecisionValue, roll, double, accept, reject, move, resign, IsDecision}
use Rattle.fibs_position.specs.declared.direction.Direction.{Direction}
use Rattle.fibs_position.specs.declared.direction.Direction.TheVariants.{Down, Up}
use Rattle.fibs_commands.specs.Commands.{command_of}
use Rattle.fibs_commands.specs.CommandReading.{ReadCommand, read_command}
use Rattle.fibs_commands.specs.FirstCommands.{style_text, autoboard_text, moreboards_text, board_text}
use Rattle.fibs_commands.specs.Logins.{IsLogin, login_text}
use Rattle.fibs_commands.specs.PlainCommands.{PlainValue, plain_of, plain_fault_of}
use Rattle.fibs_commands.specs.PlainReading.{ReadsAs, read_plain}

-- in each direction, decisions with one command are one
abbrev pub CommandsTellDecisions : Type 0
CommandsTellDecisions =
    (direction : Direction) (a b : DecisionValue) → IsDecision a → IsDecision b
    → command_of direction a ≡ command_of direction b → a ≡ b

-- a command is `move` and at most four steps of a space and seven bytes
abbrev pub CommandsAreShort : Type 0
CommandsAreShort = (direction : Direction) (d : DecisionValue) → IsDecision d → length (command_of direction d) ≤ 36

-- a command has a byte, and all its bytes are printed text: none is a line end or a telnet command
abbrev pub CommandsArePrinted : Type 0
CommandsArePrinted =
    (direction : Direction) (d : DecisionValue) → IsDecision d
    → All IsPrinted (command_of direction d) × (0 < length (command_of direction d))

-- a decision that moves no checker
abbrev pub MovesNothing : DecisionValue → Type 0
MovesNothing roll = Unit {0}
MovesNothing double = Unit {0}
MovesNothing accept = Unit {0}
MovesNothing reject = Unit {0}
MovesNothing (move steps) = ⊥
MovesNothing (resign stake) = Unit {0}

-- such a decision has one command in both directions
abbrev pub PlainInBothDirections : Type 0
PlainInBothDirections = (d : DecisionValue) → MovesNothing d → command_of Down d ≡ command_of Up d

-- which decision a command is: the function says what the relation says
abbrev pub ReadCommandIsExact : Type 0
ReadCommandIsExact =
    (direction : Direction) (text : List ℕ) (d : DecisionValue)
    → (read_command direction text ≡ Some d) ↔ ReadCommand text direction d

-- which plain command a text is: the function says what the relation says
abbrev pub ReadPlainIsExact : Type 0
ReadPlainIsExact = (text : List ℕ) (plain : PlainValue) → (read_plain text ≡ Some plain) ↔ ReadsAs text plain

-- a plain command without a fault is read from its text
abbrev pub PlainReadsBack : Type 0
PlainReadsBack = (plain : PlainValue) → plain_fault_of plain ≡ None → read_plain (plain_of plain) ≡ Some plain

-- a text as it is sent: all its bytes are printed, so none is a line end, a carriage return or of a telnet command; it
-- fits a command's room, and begins with no prompt; and with its line end it is read as the one line that it is
pub record IsSent (text : List ℕ) : Type 0 where
  pub printed : All IsPrinted text
  pub fits : length text ≤ 512
  pub sendable : IsSendable text
  pub line : lines_of (with_line_end text) ≡ (record { bytes = text; cut = false }) ∷ []

-- the command of each decision is such a text
abbrev pub DecisionsAreSent : Type 0
DecisionsAreSent = (direction : Direction) (d : DecisionValue) → IsDecision d → IsSent (command_of direction d)

-- the text of each plain command without a fault is such a text
abbrev pub PlainIsSent : Type 0
PlainIsSent = (plain : PlainValue) → plain_fault_of plain ≡ None → IsSent (plain_of plain)

-- each login is such a text
abbrev pub LoginsAreSent : Type 0
LoginsAreSent = (name password : List ℕ) → IsLogin name password → IsSent (login_text name password)

-- the commands that set up a connection are such texts
abbrev pub FirstAreSent : Type 0
FirstAreSent = IsSent style_text × IsSent autoboard_text × IsSent moreboards_text × IsSent board_text

-- a text of printed bytes that is the command of no decision, whichever way the player goes
pub record IsOther (text : List ℕ) : Type 0 where
  pub printed : All IsPrinted text
  pub no_decision : (direction : Direction) → read_command direction text ≡ None

-- no plain command without a fault is a decision's
abbrev pub PlainIsOther : Type 0
PlainIsOther = (plain : PlainValue) → plain_fault_of plain ≡ None → IsOther (plain_of plain)

-- no login is
abbrev pub LoginIsOther : Type 0
LoginIsOther = (name password : List ℕ) → IsLogin name password → IsOther (login_text name password)

-- the command that asks for board style 3 is not a decision's
abbrev pub StyleIsOther : Type 0
StyleIsOther = IsOther style_text

-- nor are the other commands that set up a connection
abbrev pub InitialAreOther : Type 0
InitialAreOther = IsOther autoboard_text × IsOther moreboards_text × IsOther board_text
