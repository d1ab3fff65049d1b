-- What is printed after a run of a script is for the script.
use Rattle.std.proofs.Common.{◌≡◌, ◌++◌, ℕ, List, [], true, false, Option, Some, None, Result, Ok, Err, refl, sym, subst, append-nil, inl, inr, IfOk}
use Rattle.std.specs.Result.{IsErrOf}
use Rattle.fibs_fields.specs.Board.{BoardFields}
use Rattle.fibs_engine.specs.declared.fault.EngineFault.{EngineFault}
use Rattle.fibs_engine.specs.declared.fault.EngineFault.TheVariants as fault
use Rattle.fibs_game.specs.declared.world_refusal.WorldRefusal.{WorldRefusal}
use Rattle.fibs_game.specs.declared.world_refusal.WorldRefusal.TheVariants as W
use Rattle.fibs_model.specs.Events.{Event}
use Rattle.fibs_model.specs.Runs.{world_after}
use Rattle.fibs_model.specs.WorldOf.{WorldValue}
use Rattle.fibs_model.specs.declared.halt.Stop.{Stop}
use Rattle.fibs_model.specs.declared.halt.Stop.TheVariants as S
use Rattle.fibs_replay.specs.Running.{StandsFrom, RanTo, RunPrinted, PrintedFor}
use Rattle.fibs_replay.proofs.ReplayLemmas.Runs.{IsRun, printed_run}
use Rattle.fibs_replay.specs.LogLines.{log_text}
use Rattle.fibs_replay.specs.Output.{LogOf, ReadLines, ReadWhole, ReplayText, end_text, refused_text, script_login, unread_text}
use Rattle.fibs_replay.specs.declared.script.Script.TheVariants.{Unreadable}
use Rattle.fibs_session.specs.History.Log.{Entry}
use Rattle.fibs_cli.specs.Endings.{ObjectsOf, last_text}
use Rattle.fibs_cli.specs.Printing.{AllObjects, GaveUp, LogPrinted, ObjectsFor, RunObjects}
use Rattle.fibs_cli.specs.Replayed.{ObjectsFailed, ObjectsInPart, ReplayedObjects}
use Rattle.fibs_cli.specs.declared.objects.endings.Last.{Last}
use Rattle.fibs_cli.specs.declared.objects.endings.Last.TheVariants as L

-- the objects are those of the plain lines
are_objects : (log : List Entry) (last : Last) (text : List ℕ) → AllObjects log last text
    → ObjectsOf (log_text log ++ last_text last) text
are_objects log last text h = (log, last, h.0, refl, h.1, h.2)

-- the objects of a text that is for a script
pub printed_objects : (script : List ℕ) (status : ℕ) (log : List Entry) (last : Last) (r : Result ℕ EngineFault)
    (held now : Option (List ℕ)) → ReplayText script (log_text log ++ last_text last) status
    → LogPrinted status log last r held now → ObjectsFor script r held now
printed_objects script status log last (Ok answered) held now for h = (
  log_text log ++ last_text last,
  h.1.0,
  subst (ReplayText script (log_text log ++ last_text last)) (sym h.0) for,
  are_objects log last h.1.0 h.1.1,
  h.1.2,
)
printed_objects script status log last (Err fault.Device) held now for h =
    (log_text log ++ last_text last, h.0, inl (status, for), are_objects log last h.0 h.1, h.2)
printed_objects script status log last (Err fault.Memory) held now for h = inl h

-- those of the log so far
gave_up : (script : List ℕ) (log : List Entry) (r : Result ℕ EngineFault) (held now : Option (List ℕ))
    → LogOf script (log_text log) → GaveUp log r held now → ObjectsFor script r held now
gave_up script log (Ok answered) held now for h = absurd h
gave_up script log (Err fault.Device) held now for h = (
  log_text log ++ last_text L.Nothing,
  h.0,
  inr (subst (LogOf script) (sym (append-nil (log_text log))) for),
  are_objects log L.Nothing h.0 h.1,
  h.2,
)
gave_up script log (Err fault.Memory) held now for h = elim h [
  | inl none ↦ inl none
  | inr some ↦ inr (
    log_text log ++ last_text L.Nothing,
    some.0,
    subst (LogOf script) (sym (append-nil (log_text log))) for,
    are_objects log L.Nothing some.0 some.1,
    some.2,
  )
]

-- what a writer gained that had nothing is for the script
alone : (script plain : List ℕ) (status : ℕ) → PrintedFor false script (Ok status) (Some []) (Some plain)
    → ReplayText script plain status
alone script plain status h = subst (λ (t : List ℕ). ReplayText script t status) (sym h.2) h.1

-- if memory runs out what a writer gained that had nothing is a log of the script
log_alone : (script plain : List ℕ) → PrintedFor false script (Err fault.Memory) (Some []) (Some plain)
    → LogOf script plain
log_alone script plain h = subst (LogOf script) (sym h.2) h.1

-- a run that ended did not break
not_broken : (why : Option WorldRefusal) → None ≡ Some S.Broken → false ≡ true
not_broken why e = absurd cc

-- a run at which an event was refused did not break
refused_not_broken : (why : WorldRefusal) → Some (S.Refused why) ≡ Some S.Broken → false ≡ true
refused_not_broken why e = absurd cc

module _ (script : List ℕ) (first : BoardFields) (events : List Event) (world : WorldValue) (noted : List Entry)
    (done : ℕ) (is : IsRun script first events)
    (log : (es : List Event) → StandsFrom world first es → noted ≡ (world_after script_login first es).log)
    (held now : Option (List ℕ)) (r : Result ℕ EngineFault) where
  -- an event was refused
  told : (why : WorldRefusal) → RanTo first events world done (Some (S.Refused why))
      → RunPrinted (Some (S.Refused why)) done (log_text noted) (Ok 3) (Some [])
      (Some (log_text noted ++ refused_text done why))
      → LogPrinted 3 noted (L.Refused done why) r held now → ObjectsFor script r held now
  told why ran plain h =
      let now_plain : List ℕ = log_text noted ++ refused_text done why in
      printed_objects script 3 noted (L.Refused done why) r held now
      (alone script now_plain 3
      (printed_run false script first events world noted done (Some (S.Refused why)) (Some []) (Some now_plain)
      (Ok 3) is
      ran (refused_not_broken why) log plain))
      h

  -- the objects of a run are those of its script, whether it ended, was refused or broke
  pub run_for : (stop : Option Stop) → RanTo first events world done stop → RunObjects stop done noted r held now
      → ObjectsFor script r held now
  run_for None ran h =
      let plain : List ℕ = log_text noted ++ end_text done in
      printed_objects script 0 noted (L.End done) r held now
      (alone script plain 0
      (printed_run false script first events world noted done None (Some []) (Some plain) (Ok 0) is ran
      (not_broken None) log (refl, refl)))
      h
  run_for (Some S.Broken) ran h = absurd h
  run_for (Some (S.Refused W.Memory)) ran h =
      gave_up script noted r held now
      (log_alone script (log_text noted)
      (printed_run false script first events world noted done (Some (S.Refused W.Memory)) (Some [])
      (Some (log_text noted)) (Err fault.Memory) is ran (refused_not_broken W.Memory) log refl))
      h
  run_for (Some (S.Refused W.AlreadyOpen)) ran h = told W.AlreadyOpen ran (refl, refl) h
  run_for (Some (S.Refused W.NotOpen)) ran h = told W.NotOpen ran (refl, refl) h
  run_for (Some (S.Refused W.NoSuchConnection)) ran h = told W.NoSuchConnection ran (refl, refl) h
  run_for (Some (S.Refused W.NothingToServe)) ran h = told W.NothingToServe ran (refl, refl) h
  run_for (Some (S.Refused W.UserDecides)) ran h = told W.UserDecides ran (refl, refl) h
  run_for (Some (S.Refused W.BoardAsText)) ran h = told W.BoardAsText ran (refl, refl) h
  run_for (Some (S.Refused W.BadBoard)) ran h = told W.BadBoard ran (refl, refl) h
  run_for (Some (S.Refused W.BadDice)) ran h = told W.BadDice ran (refl, refl) h

-- a script that is not run

-- a script that says no events is answered by its object
pub unread_done : (r : Result ℕ EngineFault) (number : ℕ) (left still held now : Option (List ℕ))
    → ReadLines (Unreadable number) left still → LogPrinted 3 [] (L.Script number) r held now
    → IfOk r (λ status. ReplayedObjects status left still held now)
unread_done (Ok status) number left still held now read h = (
  read.0,
  unread_text number,
  h.1.0,
  read.1,
  read.2,
  subst (ReplayText read.0 (unread_text number)) (sym h.0) read.3,
  are_objects [] (L.Script number) h.1.0 h.1.1,
  h.1.2,
)
unread_done (Err why) number left still held now read h = tt

-- a device may fail at that object
pub unread_failed : (r : Result ℕ EngineFault) (number : ℕ) (left still held now : Option (List ℕ))
    → ReadLines (Unreadable number) left still → LogPrinted 3 [] (L.Script number) r held now
    → IsErrOf r fault.Device → ObjectsFailed left still held now
unread_failed (Ok status) number left still held now read h failed = absurd cc
unread_failed (Err fault.Device) number left still held now read h failed =
    inr (
      read.0,
      unread_text number,
      h.0,
      read.1,
      read.2,
      inl (3, read.3),
      are_objects [] (L.Script number) h.0 h.1,
      h.2,
    )
unread_failed (Err fault.Memory) number left still held now read h failed = absurd cc

-- memory may run out before it is printed
pub unread_in_part : (r : Result ℕ EngineFault) (number : ℕ) (left still held now : Option (List ℕ))
    → LogPrinted 3 [] (L.Script number) r held now → IsErrOf r fault.Memory → ObjectsInPart left still held now
unread_in_part (Ok status) number left still held now h failed = absurd cc
unread_in_part (Err fault.Device) number left still held now h failed = absurd cc
unread_in_part (Err fault.Memory) number left still held now h failed = inl h

-- a script whose lines are readable

-- a script that was read whole is answered by the objects of its run
pub readable_done : (r : Result ℕ EngineFault) (script : List ℕ) (left still held now : Option (List ℕ))
    → ReadWhole (Some script) left still → ObjectsFor script r held now
    → IfOk r (λ status. ReplayedObjects status left still held now)
readable_done (Ok status) script left still held now read h =
    (script, h.0, h.1, read.0, inl read.1, h.2, h.3, h.4)
readable_done (Err why) script left still held now read h = tt

-- a device may fail while they are printed
pub readable_failed : (r : Result ℕ EngineFault) (script : List ℕ) (left still held now : Option (List ℕ))
    → ReadWhole (Some script) left still → ObjectsFor script r held now → IsErrOf r fault.Device
    → ObjectsFailed left still held now
readable_failed (Ok status) script left still held now read h failed = absurd cc
readable_failed (Err fault.Device) script left still held now read h failed =
    inr (script, h.0, h.1, read.0, inl read.1, h.2, h.3, h.4)
readable_failed (Err fault.Memory) script left still held now read h failed = absurd cc

-- memory may run out while they are made
pub readable_in_part : (r : Result ℕ EngineFault) (script : List ℕ) (left still held now : Option (List ℕ))
    → ReadWhole (Some script) left still → ObjectsFor script r held now → IsErrOf r fault.Memory
    → ObjectsInPart left still held now
readable_in_part (Ok status) script left still held now read h failed = absurd cc
readable_in_part (Err fault.Device) script left still held now read h failed = absurd cc
readable_in_part (Err fault.Memory) script left still held now read h failed = elim h [
  | inl none ↦ inl none
  | inr some ↦ inr (script, some.0, some.1, read.0, read.1, some.2, some.3, some.4)
]
