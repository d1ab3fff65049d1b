-- How far a script was run, and what is printed then. No public contract rests on it.
use Rattle.std.specs.Prelude.{◌≡◌, ◌++◌, ◌⊎◌, ℕ, Bool, true, List, codes, length, Option, None, Some, Result, Ok, Err}
use Rattle.fibs_fields.specs.Board.{BoardFields}
use Rattle.fibs_model.specs.declared.halt.Stop.{Stop}
use Rattle.fibs_model.specs.declared.halt.Stop.TheVariants as S
use Rattle.fibs_game.specs.declared.world_refusal.WorldRefusal.TheVariants as W
use Rattle.fibs_model.specs.Events.{Event}
use Rattle.fibs_model.specs.Runs.{MayBe, world_after}
use Rattle.fibs_model.specs.WorldCalls.{WorldStandsAfter, HaltsAt}
use Rattle.fibs_model.specs.WorldOf.{WorldValue}
use Rattle.fibs_engine.specs.declared.fault.EngineFault.{EngineFault}
use Rattle.fibs_engine.specs.declared.fault.EngineFault.TheVariants as fault
use Rattle.std.specs.Io.KnownBytes.{Appends}
use Rattle.fibs_engine.specs.Printing.{Printed}
use Rattle.fibs_engine.specs.Writing.{GainedFront}
use Rattle.fibs_replay.specs.Output.{script_login, end_text, refused_text, ReplayText, LogOf, IsFor}

-- the world is reached by these events of the user of scripts
abbrev pub StandsFrom : WorldValue → BoardFields → List Event → Type 0
StandsFrom world first events = WorldStandsAfter world (codes "ann") (codes "secret") first events

-- so many of the events were done, and the next one was not for this reason; none is left if there is no reason
pub record RanTo (first : BoardFields) (events : List Event) (world : WorldValue) (done : ℕ)
    (stop : Option Stop) : Type 0 where
  pub before : List Event
  pub later : List Event
  pub cut : events ≡ before ++ later
  pub may_be : MayBe script_login first before
  pub stands : StandsFrom world first before
  pub count : done ≡ length before
  pub stops : HaltsAt stop (world_after script_login first before) later

-- memory ran out, and the text was given; or a write failed, and a front of the text was written
abbrev pub GaveUp : List ℕ → Result ℕ EngineFault → Option (List ℕ) → Option (List ℕ) → Type 0
GaveUp text (Ok answered) held now = ⊥
GaveUp text (Err fault.Device) held now = GainedFront held now text
GaveUp text (Err fault.Memory) held now = Appends held now text

-- the carrier broke, and the text was given; or a write failed, and a front of the text was written
abbrev pub Broke : List ℕ → Result ℕ EngineFault → Option (List ℕ) → Option (List ℕ) → Type 0
Broke text (Ok answered) held now = ⊥
Broke text (Err fault.Device) held now = GainedFront held now text ⊎ Appends held now text
Broke text (Err fault.Memory) held now = ⊥

-- what is printed after a run that ended so: its log, and a last line
abbrev pub RunPrinted : Option Stop → ℕ → List ℕ → Result ℕ EngineFault → Option (List ℕ) → Option (List ℕ)
    → Type 0
RunPrinted None done log result held now = Printed 0 (log ++ end_text done) result held now
RunPrinted (Some (S.Refused W.Memory)) done log result held now = GaveUp log result held now
RunPrinted (Some (S.Refused why)) done log result held now = Printed 3 (log ++ refused_text done why) result held now
RunPrinted (Some S.Broken) done log result held now = Broke log result held now

-- what was printed for a script, with its status; or a front of it, if a write failed; or just the log so far, if
-- memory ran out, or a carrier broke that may
abbrev pub PrintedFor : Bool → List ℕ → Result ℕ EngineFault → Option (List ℕ) → Option (List ℕ) → Type 0
PrintedFor may_break script (Ok status) held now =
    (text : List ℕ) × ReplayText script text status × Appends held now text
PrintedFor may_break script (Err fault.Device) held now =
    ((text : List ℕ) × IsFor script text × GainedFront held now text)
    ⊎ ((may_break ≡ true) × (text : List ℕ) × LogOf script text × Appends held now text)
PrintedFor may_break script (Err fault.Memory) held now = (text : List ℕ) × LogOf script text × Appends held now text
