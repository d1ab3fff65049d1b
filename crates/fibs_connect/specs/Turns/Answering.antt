-- What the client's answer to a typed line calls for, and what an answer of a part of a turn says. No public contract
-- rests on it.
use Rattle.std.specs.Prelude.{ℕ, List, Option, None, Some, ◌∷◌, [], ⊤, Result, Ok, Err}
use Rattle.fibs_commands.specs.TextOf.{text_of}
use Rattle.fibs_connect.specs.declared.turns.typing.Answer.{Answer}
use Rattle.fibs_connect.specs.declared.turns.typing.Answer.TheVariants as A
use Rattle.fibs_connect.specs.declared.turns.turn_fault.TurnFault.{TurnFault}
use Rattle.fibs_connect.specs.declared.turns.turn_fault.TurnFault.TheVariants as F
use Rattle.fibs_engine.specs.Writing.{Progress, Whole, Broken}
use Rattle.fibs_connect.specs.SaidOf.{said_of}
use Rattle.fibs_connect.specs.Told.{SaidValue}
use Rattle.fibs_connect.specs.declared.fault.FrontFault.{FrontFault}
use Rattle.fibs_session.specs.History.Machine.{Talk}
use Rattle.fibs_session.specs.Calls.Standing.{ClientValue}
use Rattle.fibs_connect.specs.declared.turns.Ending.{Ending}
use Rattle.fibs_connect.specs.Turns.Script.{Outside, Did, Silent, untold}
use Rattle.fibs_connect.specs.Turns.Turn.{TurnedBy, Stopped}
use Rattle.fibs_connect.specs.Turns.Acts.{Act, answer_act}

abbrev pub answered_act : Answer → Act
answered_act (A.Sent command) = answer_act None (text_of command ∷ [])
answered_act (A.Told said) = answer_act (Some (said_of said)) []

-- what holds of a part of a turn, of what was done with its acts and of how far it came: all was done, as the front end
-- is told; or a write failed; or all was written, but something could not be reported
abbrev pub Goes : {G : Type 0} → (G → List SaidValue → G → Type 0) → Result ⊤ TurnFault → Outside G → Outside G
    → ((List Act → Type 0) → Progress → Type 0) → Type 0
Goes Tells (Ok done) a b Holds = Holds (λ script. Did Tells a b script Whole) Whole
Goes Tells (Err F.Stream) a b Holds = Holds (λ script. Did Tells a b script Broken) Broken
Goes Tells (Err F.Output) a b Holds =
    Holds (λ script. Did Silent (untold a.wrote) (untold b.wrote) script Whole) Broken

-- a turn without a typed line ended so, or it stopped
abbrev pub Listened : {G : Type 0} → (G → List SaidValue → G → Type 0) → Result Ending FrontFault → Talk → ClientValue
    → Option (List ℕ) → Option (List ℕ) → Outside G → Outside G → Type 0
Listened Tells (Ok e) t new left still a b = TurnedBy Tells t new None left still a b e
Listened Tells (Err why) t new left still a b = Stopped t new None left still a.wrote b.wrote
