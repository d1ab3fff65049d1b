-- What is printed after a run of a script. No public contract rests on it.
use Rattle.std.specs.Prelude.{◌≡◌, ◌⊎◌, ◌++◌, ℕ, List, Option, None, Some, Result, Ok, Err}
use Rattle.std.specs.Io.KnownBytes.{Appends, Keeps}
use Rattle.fibs_engine.specs.Writing.{GainedFront}
use Rattle.fibs_engine.specs.declared.fault.EngineFault.{EngineFault}
use Rattle.fibs_engine.specs.declared.fault.EngineFault.TheVariants as fault
use Rattle.fibs_game.specs.declared.world_refusal.WorldRefusal.TheVariants as W
use Rattle.fibs_model.specs.declared.halt.Stop.{Stop}
use Rattle.fibs_model.specs.declared.halt.Stop.TheVariants as S
use Rattle.fibs_replay.specs.Output.{IsFor, LogOf, ReplayText}
use Rattle.fibs_session.specs.History.Log.{Entry}
use Rattle.fibs_cli.specs.Endings.{ObjectsOf, last_object}
use Rattle.fibs_cli.specs.Entries.{LogObjects}
use Rattle.fibs_cli.specs.declared.objects.endings.Last.{Last}
use Rattle.fibs_cli.specs.declared.objects.endings.Last.TheVariants as L

-- a text has the objects of a log, and that of a last line
abbrev pub AllObjects : List Entry → Last → List ℕ → Type 0
AllObjects log last text = (objects : List ℕ) × LogObjects log objects × (text ≡ objects ++ last_object last)

-- the objects of a log and of a last line were printed, with this status; or a write failed, and a front of them was;
-- or memory ran out, and nothing was
abbrev pub LogPrinted : ℕ → List Entry → Last → Result ℕ EngineFault → Option (List ℕ) → Option (List ℕ) → Type 0
LogPrinted status log last (Ok answered) held now =
    (answered ≡ status) × ((text : List ℕ) × AllObjects log last text × Appends held now text)
LogPrinted status log last (Err fault.Device) held now =
    (text : List ℕ) × AllObjects log last text × GainedFront held now text
LogPrinted status log last (Err fault.Memory) held now = Keeps held now

-- the same, if memory had run out before
abbrev pub GaveUp : List Entry → Result ℕ EngineFault → Option (List ℕ) → Option (List ℕ) → Type 0
GaveUp log (Ok answered) held now = ⊥
GaveUp log (Err fault.Device) held now = (text : List ℕ) × AllObjects log L.Nothing text × GainedFront held now text
GaveUp log (Err fault.Memory) held now =
    Keeps held now ⊎ ((text : List ℕ) × AllObjects log L.Nothing text × Appends held now text)

-- what is printed after a run that ended so, over a carrier that does not break
abbrev pub RunObjects : Option Stop → ℕ → List Entry → Result ℕ EngineFault → Option (List ℕ) → Option (List ℕ)
    → Type 0
RunObjects None done log result held now = LogPrinted 0 log (L.End done) result held now
RunObjects (Some (S.Refused W.Memory)) done log result held now = GaveUp log result held now
RunObjects (Some (S.Refused why)) done log result held now = LogPrinted 3 log (L.Refused done why) result held now
RunObjects (Some S.Broken) done log result held now = ⊥

-- what was printed for a script, with its status; or a front of it, if a write failed; or nothing, or just the log so
-- far, if memory ran out
abbrev pub ObjectsFor : List ℕ → Result ℕ EngineFault → Option (List ℕ) → Option (List ℕ) → Type 0
ObjectsFor script (Ok status) held now =
    (plain text : List ℕ) × ReplayText script plain status × ObjectsOf plain text × Appends held now text
ObjectsFor script (Err fault.Device) held now =
    (plain text : List ℕ) × IsFor script plain × ObjectsOf plain text × GainedFront held now text
ObjectsFor script (Err fault.Memory) held now = Keeps held now
    ⊎ ((plain text : List ℕ) × LogOf script plain × ObjectsOf plain text × Appends held now text)
