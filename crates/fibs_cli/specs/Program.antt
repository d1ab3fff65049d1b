-- What the program does with a command line.
use Rattle.std.specs.Prelude.{◌≡◌, ◌⊎◌, ◌++◌, ◌∷◌, [], ℕ, List, Option, Result, Ok, Err, string_bytes, codes}
use Rattle.std.specs.Io.KnownBytes.{Appends, Keeps, IsAtEnd}
use Rattle.fibs_fields.specs.Board.{BoardFields}
use Rattle.fibs_messages.specs.Line.{ReadingValue, board_line, IsReading}
use Rattle.fibs_position.specs.GoodBoard.{IsGood}
use Rattle.fibs_show.specs.Plays.{PlaysText, Refusal}
use Rattle.fibs_replay.specs.Output.{LoggedInPart, Replayed, ReplayFailed, ReplayedInPart}
use Rattle.fibs_show.specs.Show.{WroteAll, WroteRead, WroteLines, WroteFront}
use Rattle.fibs_json.specs.Plays.{PlaysObject}
use Rattle.fibs_json.specs.Told.{SaysLine}
use Rattle.fibs_json.specs.Streams as objects
use Rattle.fibs_json.specs.Eventful as eventful
use Rattle.fibs_cli.specs.Replayed.{ObjectsFailed, ObjectsInPart, ReplayedObjects}
use Rattle.fibs_engine.specs.Printing.{Printed, line_bytes}
use Rattle.fibs_engine.specs.Writing.{GainedFront}
use Rattle.fibs_cli.specs.declared.arguments.Answer.{Answer}
use Rattle.fibs_cli.specs.declared.arguments.Answer.TheVariants.{Engine, Help, Refused, Memory}
use Rattle.fibs_cli.specs.declared.arguments.Request.{Request}
use Rattle.fibs_cli.specs.declared.arguments.Request.TheVariants.{Show, ShowJson, ShowEvents, Plays, PlaysJson, Replay, ReplayJson, Loop}
use Rattle.fibs_engine.specs.declared.fault.EngineFault.{EngineFault}
use Rattle.fibs_engine.specs.declared.fault.EngineFault.TheVariants as fault

-- what the standard input has left to read, and what the standard output and the standard error hold: Some list if
-- the prover knows the bytes of a stream, None if it does not
pub record Streams : Type 0 where
  pub input : Option (List ℕ)
  pub out : Option (List ℕ)
  pub err : Option (List ℕ)

-- the three standard streams
abbrev pub streams : Option (List ℕ) → Option (List ℕ) → Option (List ℕ) → Streams
streams input out err = record { input = input; out = out; err = err }

-- In what follows a are the streams before, and b those after.

-- the engine `show` answered so
abbrev pub Showed : Result ℕ EngineFault → Streams → Streams → Type 0
Showed (Ok status) a b = (status ≡ 0) × WroteAll a.input b.input a.out b.out × IsAtEnd b.input
Showed (Err fault.Device) a b = WroteRead a.input b.input a.out b.out ⊎ WroteFront a.input b.input a.out b.out
Showed (Err fault.Memory) a b = WroteLines a.input b.input a.out b.out

-- the engine `show --json` answered so
abbrev pub ShowedObjects : Result ℕ EngineFault → Streams → Streams → Type 0
ShowedObjects (Ok status) a b =
    (status ≡ 0) × objects.WroteAll a.input b.input a.out b.out × IsAtEnd b.input
ShowedObjects (Err fault.Device) a b =
    objects.WroteRead a.input b.input a.out b.out ⊎ objects.WroteFront a.input b.input a.out b.out
ShowedObjects (Err fault.Memory) a b = objects.WroteLines a.input b.input a.out b.out

-- the engine `show --events` answered so
abbrev pub ShowedEvents : Result ℕ EngineFault → Streams → Streams → Type 0
ShowedEvents (Ok status) a b =
    (status ≡ 0) × eventful.WroteAll a.input b.input a.out b.out × IsAtEnd b.input
ShowedEvents (Err fault.Device) a b =
    eventful.WroteRead a.input b.input a.out b.out ⊎ eventful.WroteFront a.input b.input a.out b.out
ShowedEvents (Err fault.Memory) a b = eventful.WroteLines a.input b.input a.out b.out

-- the engine `plays` answered so for a good board
abbrev pub Listed : BoardFields → Result ℕ EngineFault → Streams → Streams → Type 0
Listed board (Ok status) a b = (status ≡ 0) × ((text : List ℕ) × PlaysText board text × Appends a.out b.out text)
Listed board (Err fault.Device) a b = (text : List ℕ) × PlaysText board text × GainedFront a.out b.out text
Listed board (Err fault.Memory) a b = Keeps a.out b.out

-- the engine `plays` answered so for this line: the plays of a good board go to the standard output, and why any other
-- line has none to the standard error
abbrev pub Played : List ℕ → Result ℕ EngineFault → Streams → Streams → Type 0
Played line result a b =
    ((board : BoardFields) → IsReading line (board_line board) → IsGood board →
    Listed board result a b × Keeps a.err b.err)
    × ((reading : ReadingValue) → (why : List ℕ) → IsReading line reading → Refusal reading why →
    Printed 3 (why ++ (10 ∷ [])) result a.err b.err × Keeps a.out b.out)

-- the engine `plays` answered so for the line that this word says
abbrev pub PlayedWord : List ℕ → Result ℕ EngineFault → Streams → Streams → Type 0
PlayedWord word result a b = (line : List ℕ) × SaysLine word line × Played line result a b

-- the engine `plays --json` answered so for this line
abbrev pub ListedObject : List ℕ → Result ℕ EngineFault → Streams → Streams → Type 0
ListedObject line (Ok status) a b =
    (text : List ℕ) × PlaysObject line text status × Appends a.out b.out (line_bytes text)
ListedObject line (Err fault.Device) a b =
    (text : List ℕ) × (status : ℕ) × PlaysObject line text status × GainedFront a.out b.out (line_bytes text)
ListedObject line (Err fault.Memory) a b = Keeps a.out b.out

-- the engine `plays --json` answered so for the line that this word says
abbrev pub ListedWord : List ℕ → Result ℕ EngineFault → Streams → Streams → Type 0
ListedWord word result a b = (line : List ℕ) × SaysLine word line × ListedObject line result a b

-- the engine `replay` answered so
abbrev pub RanScript : Result ℕ EngineFault → Streams → Streams → Type 0
RanScript (Ok status) a b = Replayed status a.input b.input a.out b.out
RanScript (Err fault.Device) a b = ReplayFailed a.input b.input a.out b.out
RanScript (Err fault.Memory) a b = ReplayedInPart a.input b.input a.out b.out

-- the engine `replay --json` answered so
abbrev pub RanObjects : Result ℕ EngineFault → Streams → Streams → Type 0
RanObjects (Ok status) a b = ReplayedObjects status a.input b.input a.out b.out
RanObjects (Err fault.Device) a b = ObjectsFailed a.input b.input a.out b.out
RanObjects (Err fault.Memory) a b = ObjectsInPart a.input b.input a.out b.out

-- the engine `loop` answered so: as `replay`; but a socket may also have failed, and then the log so far was printed
abbrev pub PlayedScript : Result ℕ EngineFault → (left still held now : Option (List ℕ)) → Type 0
PlayedScript (Ok status) left still held now = Replayed status left still held now
PlayedScript (Err fault.Device) left still held now =
    ReplayFailed left still held now ⊎ LoggedInPart left still held now
PlayedScript (Err fault.Memory) left still held now = ReplayedInPart left still held now

-- an engine answered so for a request
abbrev pub Served : Request → Result ℕ EngineFault → Streams → Streams → Type 0
Served Show result a b = Showed result a b × Keeps a.err b.err
Served ShowJson result a b = ShowedObjects result a b × Keeps a.err b.err
Served ShowEvents result a b = ShowedEvents result a b × Keeps a.err b.err
Served (Plays word) result a b = PlayedWord word.now result a b × Keeps a.input b.input
Served (PlaysJson word) result a b = ListedWord word.now result a b × Keeps a.input b.input × Keeps a.err b.err
Served Replay result a b = RanScript result a b × Keeps a.err b.err
Served ReplayJson result a b = RanObjects result a b × Keeps a.err b.err
Served Loop result a b = PlayedScript result a.input b.input a.out b.out × Keeps a.err b.err

-- a command line is answered so: help is printed on standard output with status 0, and what is wrong with it on
-- standard error with status 2
abbrev pub Answered : Answer → Result ℕ EngineFault → Streams → Streams → Type 0
Answered (Engine request) result a b = Served request result a b
Answered (Help text) result a b = Printed 0 (string_bytes text) result a.out b.out × Keeps a.err b.err
Answered (Refused text) result a b = Printed 2 (string_bytes text) result a.err b.err × Keeps a.out b.out
Answered Memory result a b = (result ≡ Err fault.Memory) × Keeps a.out b.out × Keeps a.err b.err

-- the exit status
abbrev pub status_of : Result ℕ EngineFault → ℕ
status_of (Ok status) = status
status_of (Err fault.Device) = 4
status_of (Err fault.Memory) = 5

-- the line that says why the program stopped before its end
abbrev pub fault_line : EngineFault → List ℕ
fault_line fault.Device = codes "fibs: device\n"
fault_line fault.Memory = codes "fibs: memory\n"

-- what standard error gains as the program ends: nothing after an end, else the line that says why, or a front of it
-- if it can't be written
abbrev pub SaysWhy : Result ℕ EngineFault → Option (List ℕ) → Option (List ℕ) → Type 0
SaysWhy (Ok status) held now = Keeps held now
SaysWhy (Err why) held now = Appends held now (fault_line why) ⊎ GainedFront held now (fault_line why)
