-- What a run gives to its carrier.
use Rattle.std.proofs.Common.{◌≡◌, ℕ, List, [], ◌∷◌, ◌++◌, length, take, Option, Some, None, Result, Ok, Err, append-nil, refl, ap, sym, ◌∙◌, subst, inl, inr}
use Rattle.std.specs.Result.{IsErrOf}
use Rattle.std.specs.Io.KnownBytes.{Appends}
use Rattle.fibs_fields.specs.Board.{BoardFields}
use Rattle.fibs_session.specs.History.Log.{Entry}
use Rattle.fibs_model.specs.Carrying.{Crossing, Joins}
use Rattle.fibs_model.specs.Crossings.{CrossingsJoin, crossings, crossings_of}
use Rattle.fibs_model.specs.Events.{Event}
use Rattle.fibs_model.specs.Runs.{world_after}
use Rattle.fibs_model.specs.WorldOf.{WorldValue}
use Rattle.fibs_model.specs.declared.halt.Stop.{Stop}
use Rattle.fibs_model.specs.declared.halt.Stop.TheVariants as S
use Rattle.fibs_game.specs.declared.world_refusal.WorldRefusal.{WorldRefusal}
use Rattle.fibs_game.specs.declared.world_refusal.WorldRefusal.TheVariants as W
use Rattle.fibs_engine.specs.Printing.{Printed}
use Rattle.fibs_engine.specs.declared.fault.EngineFault.{EngineFault}
use Rattle.fibs_engine.specs.declared.fault.EngineFault.TheVariants as fault
use Rattle.fibs_replay.specs.Carried.{IsLast, CarriedFor, Carried}
use Rattle.fibs_replay.specs.LogLines.{log_text}
use Rattle.fibs_replay.specs.Output.{script_login, ReadWhole, unread_text, end_text, refused_text, log_after}
use Rattle.fibs_replay.specs.Running.{StandsFrom, RanTo, GaveUp, RunPrinted}
use Rattle.fibs_replay.specs.Scripts.{script_lines, SayScript}
use Rattle.fibs_replay.proofs.ReplayLemmas.Runs.{may_be_none}

-- the events in front
take_front : (xs ys : List Event) → take (length xs) (xs ++ ys) ≡ xs
take_front [] [] = refl
take_front [] (y ∷ ys) = refl
take_front (x ∷ xs) ys = ap (λ l. x ∷ l) (take_front xs ys)

-- of a run so many are done
pub front_is : (events before later : List Event) (done : ℕ) → done ≡ length before → events ≡ before ++ later
    → take done events ≡ before
front_is events before later done count cut =
    ap (λ n. take n events) count ∙ ap (take (length before)) cut ∙ take_front before later

module _ {A : Type 0} (Carries : A → List Crossing → A → Type 0) (law : Joins Carries) (join : CrossingsJoin)
    (first : BoardFields) where
  -- before the first event nothing is given
  pub given_none : (a : A) (es : List Event) → es ≡ [] → Carries a (crossings script_login first es) a
  given_none a es none =
      subst (λ xs. Carries a xs a) (sym (ap (crossings script_login first) none ∙ join.at_first script_login first))
      (law.nothing a)

  -- an event is done
  pub given_more : (a b c : A) (fronts before next : List Event) (e : Event) → fronts ≡ before
      → next ≡ before ++ e ∷ [] → Carries a (crossings script_login first fronts) b
      → Carries b (crossings_of (world_after script_login first before) e) c
      → Carries a (crossings script_login first next) c
  given_more a b c fronts before next e is more given gives =
      subst (λ xs. Carries a xs c)
      (sym (ap (crossings script_login first) more ∙ join.one_more script_login first before e))
      (law.joined a b c _ _ (subst (λ es. Carries a (crossings script_login first es) b) is given) gives)

-- one is refused
pub given_still : {A : Type 0} (Carries : A → List Crossing → A → Type 0) (a b c : A) (given : List Crossing)
    (stop : Stop) → Carries a given b
    → ((why : WorldRefusal) → Some stop ≡ Some (S.Refused why) → c ≡ b) → (Some stop ≡ Some S.Broken → ⊥)
    → Carries a given c
given_still Carries a b c given (S.Refused why) h kept whole = subst (λ x. Carries a given x) (sym (kept why refl)) h
given_still Carries a b c given S.Broken h kept whole = absurd (whole refl)

-- a run that is printed, and did not fail, did not break
unbroken_run : (stop : Option Stop) (done : ℕ) (log : List ℕ) (held now : Option (List ℕ)) (r : Result ℕ EngineFault)
    → (IsErrOf r fault.Device → ⊥) → RunPrinted stop done log r held now → stop ≡ Some S.Broken → ⊥
unbroken_run None done log held now r fine h e = cc
unbroken_run (Some (S.Refused why)) done log held now r fine h e = cc
unbroken_run (Some S.Broken) done log held now (Ok status) fine h e = h
unbroken_run (Some S.Broken) done log held now (Err fault.Device) fine h e = fine refl
unbroken_run (Some S.Broken) done log held now (Err fault.Memory) fine h e = h

-- what was printed, if it did not fail

-- a text whose print did not fail was printed whole
printed_all : (status : ℕ) (text : List ℕ) (held now : Option (List ℕ)) (r : Result ℕ EngineFault)
    → (IsErrOf r fault.Device → ⊥) → Printed status text r held now → Appends held now text
printed_all status text held now (Ok answered) fine h = h.1
printed_all status text held now (Err fault.Device) fine h = absurd (fine refl)
printed_all status text held now (Err fault.Memory) fine h = let wrong = h.0 in absurd cc

-- a log whose print did not fail was printed whole
gave_up_all : (log : List ℕ) (held now : Option (List ℕ)) (r : Result ℕ EngineFault) → (IsErrOf r fault.Device → ⊥)
    → GaveUp log r held now → Appends held now log
gave_up_all log held now (Ok answered) fine h = absurd h
gave_up_all log held now (Err fault.Device) fine h = absurd (fine refl)
gave_up_all log held now (Err fault.Memory) fine h = h

-- the log, and what comes after it
abbrev Behind : ℕ → List ℕ → Option (List ℕ) → Option (List ℕ) → Type 0
Behind done log held now = (rest : List ℕ) × IsLast done rest × Appends held now (log ++ rest)

-- what is printed after a refused event comes behind the log
behind : (status done : ℕ) (why : WorldRefusal) (log : List ℕ) (held now : Option (List ℕ)) (r : Result ℕ EngineFault)
    → (IsErrOf r fault.Device → ⊥) → Printed status (log ++ refused_text done why) r held now → Behind done log held now
behind status done why log held now r fine h =
    (refused_text done why, inr (inr (why, refl)), printed_all status (log ++ refused_text done why) held now r fine h)

-- the log of a run is printed, and behind it its last line
log_printed : (stop : Option Stop) (done : ℕ) (log : List ℕ) (held now : Option (List ℕ)) (r : Result ℕ EngineFault)
    → (IsErrOf r fault.Device → ⊥) → RunPrinted stop done log r held now → Behind done log held now
log_printed None done log held now r fine h =
    (end_text done, inr (inl refl), printed_all 0 (log ++ end_text done) held now r fine h)
log_printed (Some S.Broken) done log held now (Ok status) fine h = absurd h
log_printed (Some S.Broken) done log held now (Err fault.Device) fine h = absurd (fine refl)
log_printed (Some S.Broken) done log held now (Err fault.Memory) fine h = absurd h
log_printed (Some (S.Refused W.Memory)) done log held now r fine h =
    ([], inl refl, subst (Appends held now) (sym (append-nil log)) (gave_up_all log held now r fine h))
log_printed (Some (S.Refused W.AlreadyOpen)) done log held now r fine h =
    behind 3 done W.AlreadyOpen log held now r fine h
log_printed (Some (S.Refused W.NotOpen)) done log held now r fine h = behind 3 done W.NotOpen log held now r fine h
log_printed (Some (S.Refused W.NoSuchConnection)) done log held now r fine h =
    behind 3 done W.NoSuchConnection log held now r fine h
log_printed (Some (S.Refused W.NothingToServe)) done log held now r fine h =
    behind 3 done W.NothingToServe log held now r fine h
log_printed (Some (S.Refused W.UserDecides)) done log held now r fine h =
    behind 3 done W.UserDecides log held now r fine h
log_printed (Some (S.Refused W.BoardAsText)) done log held now r fine h =
    behind 3 done W.BoardAsText log held now r fine h
log_printed (Some (S.Refused W.BadBoard)) done log held now r fine h = behind 3 done W.BadBoard log held now r fine h
log_printed (Some (S.Refused W.BadDice)) done log held now r fine h = behind 3 done W.BadDice log held now r fine h

-- what a run that is printed gave
pub run_carried : {A : Type 0} (Carries : A → List Crossing → A → Type 0) (a b : A) (script : List ℕ)
    (first : BoardFields) (events : List Event) (world : WorldValue) (done : ℕ) (stop : Option Stop)
    (noted : List Entry) (held now : Option (List ℕ)) (r : Result ℕ EngineFault)
    → SayScript (script_lines script) first events → RanTo first events world done stop
    → ((es : List Event) → StandsFrom world first es → noted ≡ (world_after script_login first es).log)
    → RunPrinted stop done (log_text noted) r held now
    → ((stop ≡ Some S.Broken → ⊥) → Carries a (crossings script_login first (take done events)) b)
    → (IsErrOf r fault.Device → ⊥) → CarriedFor Carries script held now a b
run_carried Carries a b script first events world done stop noted held now r says ran log printed given fine =
    let is = front_is events ran.before ran.later done ran.count ran.cut in
    let text = log_printed stop done (log_text noted) held now r fine printed in (
      first,
      ran.before,
      ran.later,
      subst (SayScript (script_lines script) first) ran.cut says,
      ran.may_be,
      text.0,
      subst (λ n. IsLast n text.0) ran.count text.1,
      subst (λ l. Appends held now (log_text l ++ text.0)) (log ran.before ran.stands) text.2,
      subst (λ es. Carries a (crossings script_login first es) b) is
          (given (unbroken_run stop done (log_text noted) held now r fine printed)),
    )

-- at first nothing is in the log
log_none : (first : BoardFields) → log_after first [] ≡ []
unfolding world_after
log_none first = refl

-- one that is not begun
pub none_carried : {A : Type 0} (Carries : A → List Crossing → A → Type 0) (law : Joins Carries)
    (join : CrossingsJoin) (a : A) (script : List ℕ) (first : BoardFields) (events : List Event) (status : ℕ)
    (why : WorldRefusal) (text : List ℕ) (held now : Option (List ℕ)) (r : Result ℕ EngineFault)
    → Printed status text r held now
    → text ≡ refused_text 0 why → SayScript (script_lines script) first events → (IsErrOf r fault.Device → ⊥)
    → CarriedFor Carries script held now a a
none_carried Carries law join a script first events status why text held now r printed is says fine = (
  first,
  [],
  events,
  says,
  may_be_none script_login first,
  text,
  inr (inr (why, is)),
  subst (λ l. Appends held now (l ++ text)) (sym (log_none first)) (printed_all status text held now r fine printed),
  given_none Carries law join first a [] refl,
)

-- by the reader
pub read_carried : {A : Type 0} (Carries : A → List Crossing → A → Type 0) (a b : A) (script : List ℕ)
    (left still held now : Option (List ℕ)) → ReadWhole (Some script) left still
    → CarriedFor Carries script held now a b → Carried Carries left still held now a b
read_carried Carries a b script left still held now read h = inr (script, read.0, read.1, h)

-- a script that is not run
pub unread_carried : {A : Type 0} (Carries : A → List Crossing → A → Type 0) (a : A) (text : List ℕ) (number : ℕ)
    (left still held now : Option (List ℕ)) (r : Result ℕ EngineFault) → text ≡ unread_text number
    → Printed 3 text r held now → (IsErrOf r fault.Device → ⊥) → Carried Carries left still held now a a
unread_carried Carries a text number left still held now r is printed fine =
    inl (refl, inr (number, subst (Appends held now) is (printed_all 3 text held now r fine printed)))
