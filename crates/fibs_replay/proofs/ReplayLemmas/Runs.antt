-- The lines of a script are run on a world, and what they led to is printed.
use Rattle.std.proofs.Common.{◌≡◌, Bool, true, false, if◌then◌else◌, ℕ, ◌+◌, ◌≤◌, List, [], ◌∷◌, ◌++◌, ◌⊎◌, length, Option, Some, None, Result, Ok, Err, IfOk, refl, ap, sym, ◌∙◌, subst, arith, append_assoc, append-nil, length-append, inl, inr}
use Rattle.std.specs.Result.{IsErrOf}
use Rattle.fibs_fields.specs.Board.{BoardFields, BoardText}
use Rattle.fibs_position.specs.GoodBoard.{good, IsGood}
use Rattle.fibs_position.specs.Laws.{GoodIsExact}
use Rattle.fibs_session.specs.Fibs.{fibs}
use Rattle.fibs_session.specs.History.Log.{Entry}
use Rattle.fibs_model.specs.EventOf.{event_of}
use Rattle.fibs_model.specs.Events.{Event}
use Rattle.fibs_model.specs.Refusals.{refusal}
use Rattle.fibs_model.specs.Runs.{AllAccepted, after_all, MayBe, world_after}
use Rattle.fibs_model.specs.World.{World, start, after}
use Rattle.fibs_model.specs.WorldCalls.{Tells, Halts, HaltsAt}
use Rattle.fibs_model.specs.WorldOf.{WorldValue}
use Rattle.fibs_model.specs.declared.event.Event.{Event as ProgramEvent}
use Rattle.fibs_model.specs.declared.halt.Stop.{Stop}
use Rattle.fibs_model.specs.declared.halt.Stop.TheVariants as S
use Rattle.fibs_game.specs.declared.world_refusal.WorldRefusal.{WorldRefusal}
use Rattle.fibs_game.specs.declared.world_refusal.WorldRefusal.TheVariants as W
use Rattle.fibs_engine.specs.declared.fault.EngineFault.{EngineFault}
use Rattle.fibs_engine.specs.declared.fault.EngineFault.TheVariants as fault
use Rattle.fibs_engine.specs.Printing.{Printed}
use Rattle.fibs_replay.specs.LogLines.{log_text}
use Rattle.fibs_replay.specs.Output.{script_login, unread_text, end_text, refused_text, log_after, ReplayText, refused, to_the_end, LogOf, Replayed, LoggedInPart, ReplayFailed, ReplayedInPart, ReadWhole, ReadLines}
use Rattle.fibs_replay.specs.Running.{StandsFrom, RanTo, Broke, RunPrinted, PrintedFor}
use Rattle.fibs_replay.specs.Scripts.{script_limit, script_lines, SayEvents, SayScript}
use Rattle.fibs_replay.specs.declared.script.Script.TheVariants.{Unreadable}
use Rattle.fibs_replay.proofs.ScriptLemmas.Scripts.{ReadsLine}

-- events that may be

-- no event is refused if there is none
pub may_be_none : (login : List ℕ) (first : BoardFields) → MayBe {G = fibs} login first []
unfolding MayBe
may_be_none login first = tt

-- one more
accepted_more : (login : List ℕ) (w : World) (events : List Event) (e : Event) → AllAccepted login w events
    → refusal (after_all login w events) e ≡ None
    → AllAccepted login w (events ++ e ∷ [])
accepted_more login w [] e h r = (r, tt)
accepted_more login w (f ∷ events) e h r = (h.0, accepted_more login (after login w f) events e h.1 r)

-- one more event that is not refused follows events that may be
pub may_be_more : (login : List ℕ) (first : BoardFields) (events : List Event) (e : Event) → MayBe login first events
    → refusal (world_after login first events) e ≡ None
    → MayBe login first (events ++ e ∷ [])
unfolding MayBe world_after
may_be_more login first events e h r = accepted_more login (start first) events e h r

-- the run

-- some of the events were done, and the lines say the others
pub record Running (first : BoardFields) (events : List Event) (world : WorldValue) (lines : List (List ℕ))
    (done : ℕ) : Type 0 where
  pub before : List Event
  pub later : List Event
  pub cut : events ≡ before ++ later
  pub said : SayEvents lines later
  pub may_be : MayBe script_login first before
  pub stands : StandsFrom world first before
  pub count : done ≡ length before

-- at first none of the events was done
pub run_begins : (first : BoardFields) (events : List Event) (world : WorldValue) (lines : List (List ℕ))
    → StandsFrom world first [] → SayEvents lines events → Running first events world lines 0
run_begins first events world lines stands said =
    record {
      before = [];
      later = events;
      cut = refl;
      said = said;
      may_be = may_be_none script_login first;
      stands = stands;
      count = refl;
    }

-- the events that were done are none then
pub run_begins_none : (first : BoardFields) (events : List Event) (world : WorldValue) (lines : List (List ℕ))
    (stands : StandsFrom world first []) (said : SayEvents lines events)
    → (run_begins first events world lines stands said).before ≡ []
unfolding run_begins
run_begins_none first events world lines stands said = refl

-- the first of some lines says the event that was read of it
pub record FirstSaid (lines rest : List (List ℕ)) (later : List Event) (e : Event) : Type 0 where
  pub others : List Event
  pub is : later ≡ e ∷ others
  pub said : SayEvents rest others

-- the first of some lines, if it is read as an event, says it, and the rest say the others
first_said : (line : List ℕ) (rest : List (List ℕ)) (later : List Event) (event : ProgramEvent)
    → SayEvents (line ∷ rest) later → ReadsLine (Some event) line
    → FirstSaid (line ∷ rest) rest later (event_of event)
first_said line rest [] event said exact = absurd said
first_said line rest (e ∷ others) event said exact =
    let read : Some (event_of event) ≡ Some e = (exact e).1 said.0 in
    let same : e ≡ event_of event = cc in
    record { others = others; is = ap (λ x. x ∷ others) same; said = said.1 }

-- the same of lines that are a first and a rest
pub said_first : (lines rest : List (List ℕ)) (line : List ℕ) (later : List Event) (event : ProgramEvent)
    → lines ≡ line ∷ rest → SayEvents lines later → ReadsLine (Some event) line
    → FirstSaid lines rest later (event_of event)
said_first lines rest line later event is said exact =
    subst (λ l. FirstSaid l rest later (event_of event)) (sym is)
    (first_said line rest later event (subst (λ l. SayEvents l later) is said) exact)

-- the next event is done
pub run_more : (first : BoardFields) (events : List Event) (old new : WorldValue) (lines rest : List (List ℕ))
    (line : List ℕ) (done : ℕ) (event : ProgramEvent)
    → Running first events old lines done → lines ≡ line ∷ rest → ReadsLine (Some event) line
    → ((es : List Event) → StandsFrom old first es
    → refusal (world_after script_login first es) (event_of event) ≡ None)
    → ((es : List Event) → StandsFrom old first es → StandsFrom new first (es ++ event_of event ∷ []))
    → Running first events new rest (done + 1)
run_more first events old new lines rest line done event run is exact accepts goes =
    let next = said_first lines rest line run.later event is run.said exact in
    let e : Event = event_of event in
    let long : length (run.before ++ e ∷ []) ≡ length run.before + 1 = length-append run.before (e ∷ []) in
    let count = run.count in
    record {
      before = run.before ++ e ∷ [];
      later = next.others;
      cut = run.cut ∙ ap (λ l. run.before ++ l) next.is ∙ sym (append_assoc run.before (e ∷ []) next.others);
      said = next.said;
      may_be = may_be_more script_login first run.before e run.may_be (accepts run.before run.stands);
      stands = goes run.before run.stands;
      count = omega arith;
    }

-- the events that were done are one more then
pub run_more_one : (first : BoardFields) (events : List Event) (old new : WorldValue) (lines rest : List (List ℕ))
    (line : List ℕ) (done : ℕ) (event : ProgramEvent) (run : Running first events old lines done)
    (is : lines ≡ line ∷ rest) (exact : ReadsLine (Some event) line)
    (accepts : (es : List Event) → StandsFrom old first es
    → refusal (world_after script_login first es) (event_of event) ≡ None)
    (goes : (es : List Event) → StandsFrom old first es → StandsFrom new first (es ++ event_of event ∷ []))
    → (run_more first events old new lines rest line done event run is exact accepts goes).before
    ≡ run.before ++ event_of event ∷ []
unfolding run_more
run_more_one first events old new lines rest line done event run is exact accepts goes = refl

-- it is not
pub run_stops : (first : BoardFields) (events : List Event) (old new : WorldValue) (lines rest : List (List ℕ))
    (line : List ℕ) (done : ℕ) (event : ProgramEvent) (stop : Stop)
    → Running first events old lines done → lines ≡ line ∷ rest → ReadsLine (Some event) line
    → ((es : List Event) → StandsFrom old first es
    → Halts (Some stop) (refusal (world_after script_login first es) (event_of event)))
    → new ≡ old
    → RanTo first events new done (Some stop)
run_stops first events old new lines rest line done event stop run is exact halts kept =
    let next = said_first lines rest line run.later event is run.said exact in
    record {
      before = run.before;
      later = run.later;
      cut = run.cut;
      may_be = run.may_be;
      stands = subst (λ w. StandsFrom w first run.before) (sym kept) run.stands;
      count = run.count;
      stops = subst (HaltsAt (Some stop) (world_after script_login first run.before)) (sym next.is)
          (halts run.before run.stands);
    }

-- no line is left
no_event_left : (later : List Event) → SayEvents [] later → later ≡ []
no_event_left [] said = refl
no_event_left (e ∷ later) said = absurd said

-- if no line is left the run has done all events
pub run_ends : (first : BoardFields) (events : List Event) (world : WorldValue) (lines : List (List ℕ)) (done : ℕ)
    → Running first events world lines done → lines ≡ []
    → RanTo first events world done None
run_ends first events world lines done run none = record {
  before = run.before;
  later = run.later;
  cut = run.cut;
  may_be = run.may_be;
  stands = run.stands;
  count = run.count;
  stops = no_event_left run.later (subst (λ l. SayEvents l run.later) none run.said);
}

-- the lines that are left say events

-- the lines say events
abbrev pub Readable : List (List ℕ) → Type 0
Readable lines = (events : List Event) × SayEvents lines events

-- if lines say events so do all but the first
pub rest_readable : (lines rest : List (List ℕ)) (line : List ℕ) → lines ≡ line ∷ rest → Readable lines → Readable rest
rest_readable lines rest line is said = go (subst Readable is said)
  where
    cut : (events : List Event) → SayEvents (line ∷ rest) events → Readable rest
    cut [] h = absurd h
    cut (e ∷ events) h = (events, h.1)

    go : Readable (line ∷ rest) → Readable rest
    go h = cut h.0 h.1

-- what is printed for the script

-- a text that is for the script was printed
pub printed_for : (may_break : Bool) (r : Result ℕ EngineFault) (script text wanted : List ℕ) (status : ℕ)
    (held now : Option (List ℕ)) → ReplayText script wanted status → text ≡ wanted
    → Printed status text r held now → PrintedFor may_break script r held now
printed_for may_break (Ok answered) script text wanted status held now for same h =
    (text, subst (ReplayText script text) (sym h.0) (subst (λ t. ReplayText script t status) (sym same) for), h.1)
printed_for may_break (Err fault.Device) script text wanted status held now for same h =
    inl (text, inl (status, subst (λ t. ReplayText script t status) (sym same) for), h.1)
printed_for may_break (Err fault.Memory) script text wanted status held now for same h = let wrong = h.0 in absurd cc

-- the log so far
log_for : (may_break : Bool) (r : Result ℕ EngineFault) (script text : List ℕ) (held now : Option (List ℕ))
    → LogOf script text → RunPrinted (Some (S.Refused W.Memory)) 0 text r held now
    → PrintedFor may_break script r held now
log_for may_break (Ok answered) script text held now for h = absurd h
log_for may_break (Err fault.Device) script text held now for h = inl (text, inr for, h)
log_for may_break (Err fault.Memory) script text held now for h = (text, for, h)

-- the log so far, if the carrier broke
log_for_broken : (may_break : Bool) (r : Result ℕ EngineFault) (script text : List ℕ) (held now : Option (List ℕ))
    → may_break ≡ true → LogOf script text → Broke text r held now → PrintedFor may_break script r held now
log_for_broken may_break (Ok answered) script text held now may for h = absurd h
log_for_broken may_break (Err fault.Device) script text held now may for h = elim h [
  | inl front ↦ inl (text, inr for, front)
  | inr whole ↦ inr (may, text, for, whole)
]
log_for_broken may_break (Err fault.Memory) script text held now may for h = absurd h

-- a script whose lines are readable, and whose first board is good
pub record IsRun (script : List ℕ) (first : BoardFields) (events : List Event) : Type 0 where
  pub short : length script ≤ script_limit
  pub says : SayScript (script_lines script) first events
  pub is_good : IsGood first

module _ (may_break : Bool) (script : List ℕ) (first : BoardFields) (events : List Event) (world : WorldValue)
    (noted : List Entry) (done : ℕ) (held now : Option (List ℕ)) (is : IsRun script first events) where
  -- it was run to its end
  ended : (r : Result ℕ EngineFault) (ran : RanTo first events world done None)
      → noted ≡ (world_after script_login first ran.before).log
      → RunPrinted None done (log_text noted) r held now → PrintedFor may_break script r held now
  ended r ran log h =
      let whole : events ≡ ran.before = ran.cut ∙ ap (λ l. ran.before ++ l) ran.stops ∙ append-nil ran.before in
      printed_for may_break r script (log_text noted ++ end_text done)
      (log_after first ran.before ++ end_text (length ran.before)) 0 held now
      (to_the_end first ran.before is.short (subst (SayScript (script_lines script) first) whole is.says) is.is_good
      ran.may_be)
      (ap (λ l. log_text l ++ end_text done) log ∙ ap (λ n. log_after first ran.before ++ end_text n) ran.count) h

  -- it stopped because memory ran out
  gave_up : (r : Result ℕ EngineFault) (before later : List Event) → events ≡ before ++ later
      → MayBe script_login first before → noted ≡ (world_after script_login first before).log
      → RunPrinted (Some (S.Refused W.Memory)) done (log_text noted) r held now → PrintedFor may_break script r held now
  gave_up r before later cut may_be log h =
      log_for may_break r script (log_text noted) held now
      (first, before, later, subst (SayScript (script_lines script) first) cut is.says, may_be, ap log_text log) h

  -- it stopped because the carrier broke
  broke : (r : Result ℕ EngineFault) (before later : List Event) → may_break ≡ true → events ≡ before ++ later
      → MayBe script_login first before → noted ≡ (world_after script_login first before).log
      → Broke (log_text noted) r held now → PrintedFor may_break script r held now
  broke r before later may cut may_be log h =
      log_for_broken may_break r script (log_text noted) held now may
      (first, before, later, subst (SayScript (script_lines script) first) cut is.says, may_be, ap log_text log) h

  -- it stopped at an event that is refused
  stopped : (r : Result ℕ EngineFault) (why : WorldRefusal) (before : List Event) (e : Event) (later : List Event)
      → events ≡ before ++ e ∷ later → MayBe script_login first before
      → done ≡ length before → refusal (world_after script_login first before) e ≡ Some why
      → noted ≡ (world_after script_login first before).log
      → Printed 3 (log_text noted ++ refused_text done why) r held now → PrintedFor may_break script r held now
  stopped r why before e later cut may_be count told log h =
      printed_for may_break r script (log_text noted ++ refused_text done why)
      (log_after first before ++ refused_text (length before) why) 3 held now
      (refused first before e later why is.short (subst (SayScript (script_lines script) first) cut is.says) is.is_good
      may_be told)
      (ap (λ l. log_text l ++ refused_text done why) log ∙ ap (λ n. log_after first before ++ refused_text n why) count)
      h

-- a refusal says that memory ran out, or is the table's
told_or_memory : (why : WorldRefusal) (answer : Option WorldRefusal) (done : ℕ) (log : List ℕ)
    (r : Result ℕ EngineFault) (held now : Option (List ℕ)) → Tells why answer
    → RunPrinted (Some (S.Refused why)) done log r held now
    → (why ≡ W.Memory) ⊎ ((answer ≡ Some why) × Printed 3 (log ++ refused_text done why) r held now)
told_or_memory W.Memory answer done log r held now t h = inl refl
told_or_memory W.AlreadyOpen answer done log r held now t h = inr (t, h)
told_or_memory W.NotOpen answer done log r held now t h = inr (t, h)
told_or_memory W.NoSuchConnection answer done log r held now t h = inr (t, h)
told_or_memory W.NothingToServe answer done log r held now t h = inr (t, h)
told_or_memory W.UserDecides answer done log r held now t h = inr (t, h)
told_or_memory W.BoardAsText answer done log r held now t h = inr (t, h)
told_or_memory W.BadBoard answer done log r held now t h = inr (t, h)
told_or_memory W.BadDice answer done log r held now t h = inr (t, h)

-- what is printed after a run is for the script
pub printed_run : (may_break : Bool) (script : List ℕ) (first : BoardFields) (events : List Event) (world : WorldValue)
    (noted : List Entry) (done : ℕ) (stop : Option Stop) (held now : Option (List ℕ)) (r : Result ℕ EngineFault)
    → IsRun script first events → RanTo first events world done stop → (stop ≡ Some S.Broken → may_break ≡ true)
    → ((es : List Event) → StandsFrom world first es → noted ≡ (world_after script_login first es).log)
    → RunPrinted stop done (log_text noted) r held now → PrintedFor may_break script r held now
printed_run may_break script first events world noted done None held now r is ran may log h =
    ended may_break script first events world noted done held now is r ran (log ran.before ran.stands) h
printed_run may_break script first events world noted done (Some S.Broken) held now r is ran may log h =
    broke may_break script first events world noted done held now is r ran.before ran.later (may refl) ran.cut
    ran.may_be (log ran.before ran.stands) h
printed_run may_break script first events world noted done (Some (S.Refused why)) held now r is ran may log h =
    go ran.later refl ran.stops
  where
    same_log : noted ≡ (world_after script_login first ran.before).log
    same_log = log ran.before ran.stands

    out_of_memory : why ≡ W.Memory → PrintedFor may_break script r held now
    out_of_memory e =
        gave_up may_break script first events world noted done held now is r ran.before ran.later ran.cut ran.may_be
        same_log (subst (λ w. RunPrinted (Some (S.Refused w)) done (log_text noted) r held now) e h)

    go : (later : List Event) → ran.later ≡ later
        → HaltsAt (Some (S.Refused why)) (world_after script_login first ran.before) later
        → PrintedFor may_break script r held now
    go [] e stops = absurd stops
    go (f ∷ later) e stops = elim (told_or_memory why (refusal (world_after script_login first ran.before) f) done
        (log_text noted) r held now stops h) [
          | inl memory ↦ out_of_memory memory
          | inr told ↦ stopped may_break script first events world noted done held now is r why ran.before f later
              (ran.cut ∙ ap (λ l. ran.before ++ l) e) ran.may_be ran.count told.0 same_log told.1
        ]

-- the first board

-- what the lines say, with the board that was read
pub record FirstRead (all rest : List (List ℕ)) (first : BoardFields) (events : List Event) : Type 0 where
  pub says : SayScript all first events
  pub others : SayEvents rest events

-- lines whose first says a board say a script with that board, and the rest its events
pub first_read : (all rest : List (List ℕ)) (line : List ℕ) (b first : BoardFields) (events : List Event)
    → all ≡ line ∷ rest → SayScript all b events → BoardText first line
    → FirstRead all rest first events
first_read all rest line b first events is says said =
    let split = subst (λ l. SayScript l b events) is says in
    record { says = subst (λ l. SayScript l first events) (sym is) (said, split.1); others = split.1 }

-- a first board that is refused is not good
refused_first : (t : Bool) (why : WorldRefusal) → Some why ≡ (if t then None else Some W.BadBoard) → (t ≡ false)
    × (why ≡ W.BadBoard)
refused_first true why h = absurd cc
refused_first false why h = (refl, cc)

-- a first board that is refused is not good, and the refusal says so
pub bad_first : GoodIsExact → (b : BoardFields) (why : WorldRefusal)
    → Some why ≡ (if good b then None else Some W.BadBoard) → (¬ IsGood b) × (why ≡ W.BadBoard)
bad_first exact b why h =
    let is = refused_first (good b) why h in
    (λ h. let yes = (exact b).1 h in let not = is.0 in absurd cc, is.1)

-- one that is not is
taken_first : (t : Bool) → None ≡ (if t then None else Some W.BadBoard) → t ≡ true
taken_first true h = refl
taken_first false h = absurd cc

-- a first board that is taken is good
pub good_first : GoodIsExact → (b : BoardFields) → None ≡ (if good b then None else Some W.BadBoard) → IsGood b
good_first exact b h = (exact b).0 (taken_first (good b) h)

-- a script that is not run

-- a device may fail while it is printed that a script says no events
pub unread_failed : (r : Result ℕ EngineFault) (number : ℕ) (left still held now : Option (List ℕ)) (text : List ℕ)
    → ReadLines (Unreadable number) left still → text ≡ unread_text number → Printed 3 text r held now
    → IsErrOf r fault.Device → ReplayFailed left still held now
unread_failed (Ok status) number left still held now text read is h failed = absurd cc
unread_failed (Err why) number left still held now text read is h failed =
    inr (read.0, text, read.1, read.2, inl (3, subst (λ t. ReplayText read.0 t 3) (sym is) read.3), h.1)

-- a script whose lines are readable

-- a script that was read whole is answered by the text of its run
pub readable_done : (may_break : Bool) (r : Result ℕ EngineFault) (script : List ℕ)
    (left still held now : Option (List ℕ)) → ReadWhole (Some script) left still
    → PrintedFor may_break script r held now
    → IfOk r (λ status. Replayed status left still held now)
readable_done may_break (Ok status) script left still held now read h = (script, h.0, read.0, inl read.1, h.1, h.2)
readable_done may_break (Err why) script left still held now read h = tt

-- a device may fail while that is printed, or the carrier may break
pub readable_failed : (may_break : Bool) (r : Result ℕ EngineFault) (script : List ℕ)
    (left still held now : Option (List ℕ)) → ReadWhole (Some script) left still
    → PrintedFor may_break script r held now
    → IsErrOf r fault.Device
    → ReplayFailed left still held now ⊎ ((may_break ≡ true) × LoggedInPart left still held now)
readable_failed may_break (Ok status) script left still held now read h failed = absurd cc
readable_failed may_break (Err fault.Device) script left still held now read h failed = elim h [
  | inl front ↦ inl (inr (script, front.0, read.0, inl read.1, front.1, front.2))
  | inr whole ↦ inr (whole.0, (script, whole.1, read.0, read.1, whole.2, whole.3))
]
readable_failed may_break (Err fault.Memory) script left still held now read h failed = absurd cc

-- memory may run out while it is made
pub readable_in_part : (may_break : Bool) (r : Result ℕ EngineFault) (script : List ℕ)
    (left still held now : Option (List ℕ)) → ReadWhole (Some script) left still
    → PrintedFor may_break script r held now
    → IsErrOf r fault.Memory → ReplayedInPart left still held now
readable_in_part may_break (Ok status) script left still held now read h failed = absurd cc
readable_in_part may_break (Err fault.Device) script left still held now read h failed = absurd cc
readable_in_part may_break (Err fault.Memory) script left still held now read h failed =
    inr (script, h.0, read.0, read.1, h.1, h.2)
