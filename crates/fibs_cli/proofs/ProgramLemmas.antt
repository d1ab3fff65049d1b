-- What the engines answer, in the words of the program.
use Rattle.std.proofs.Common.{◌≡◌, ◌⊎◌, [], ℕ, List, Option, Result, Ok, Err, IfOk, OnOk, IsErrOf, Some, None, MatchResult, refl, sym, subst, inl, arith}
use Rattle.std.proofs.KnownBytes.{Keeps-refl}
use Rattle.std.specs.Borrow.{Bor}
use Rattle.std.specs.Io.KnownBytes.{Appends, Keeps, IsAtEnd}
use Rattle.fibs_fields.specs.Board.{BoardFields}
use Rattle.fibs_show.specs.Plays.{PlaysText}
use Rattle.fibs_cli.specs.Program.{Streams, Showed, ShowedObjects, ShowedEvents, Listed, Played, PlayedWord, RanScript, ListedObject, ListedWord, PlayedScript, RanObjects, Served}
use Rattle.fibs_engine.specs.Printing.{Printed, line_bytes}
use Rattle.fibs_replay.specs.Output.{LoggedInPart, Replayed, ReplayFailed, ReplayedInPart}
use Rattle.fibs_replay.specs.Scripts.{script_limit}
use Rattle.fibs_engine.specs.Reads.{LostAtMost}
use Rattle.fibs_show.specs.Show.{WroteAll, WroteRead, WroteLines, WroteFront}
use Rattle.fibs_json.specs.Plays.{PlaysObject}
use Rattle.fibs_json.specs.Told.{SaysLine}
use Rattle.fibs_json.specs.Streams as objects
use Rattle.fibs_json.specs.Eventful as eventful
use Rattle.fibs_cli.specs.Replayed.{ObjectsFailed, ObjectsInPart, ReplayedObjects}
use Rattle.fibs_engine.specs.Writing.{GainedFront}
use Rattle.fibs_cli.specs.declared.arguments.Request.{Request}
use Rattle.fibs_cli.specs.declared.arguments.Request.TheVariants.{Show, ShowJson, ShowEvents, Plays, PlaysJson, Replay, ReplayJson, Loop}
use Rattle.fibs_engine.specs.declared.fault.EngineFault.{EngineFault}
use Rattle.fibs_engine.specs.declared.fault.EngineFault.TheVariants.{Device, Memory}

-- the clauses of `show` in one
pub showed : (r : Result ℕ EngineFault) (a b : Streams) → IfOk r (λ status. status ≡ 0)
    → OnOk r (WroteAll a.input b.input a.out b.out) → OnOk r (IsAtEnd b.input)
    → (IsErrOf r Device → WroteRead a.input b.input a.out b.out ⊎ WroteFront a.input b.input a.out b.out)
    → (IsErrOf r Memory → WroteLines a.input b.input a.out b.out) → Showed r a b
showed (Ok status) a b is whole end device memory = (is, whole, end)
showed (Err Device) a b is whole end device memory = device refl
showed (Err Memory) a b is whole end device memory = memory refl

-- the clauses of `show_json` in one
pub showed_objects : (r : Result ℕ EngineFault) (a b : Streams) → IfOk r (λ status. status ≡ 0)
    → OnOk r (objects.WroteAll a.input b.input a.out b.out) → OnOk r (IsAtEnd b.input)
    → (IsErrOf r Device → objects.WroteRead a.input b.input a.out b.out
    ⊎ objects.WroteFront a.input b.input a.out b.out)
    → (IsErrOf r Memory → objects.WroteLines a.input b.input a.out b.out) → ShowedObjects r a b
showed_objects (Ok status) a b is whole end device memory = (is, whole, end)
showed_objects (Err Device) a b is whole end device memory = device refl
showed_objects (Err Memory) a b is whole end device memory = memory refl

-- the clauses of `plays` for a good board in one
pub listed : (r : Result ℕ EngineFault) (board : BoardFields) (a b : Streams)
    → IfOk r (λ status. (status ≡ 0) × ((text : List ℕ) × PlaysText board text × Appends a.out b.out text))
    → (IsErrOf r Device → (text : List ℕ) × PlaysText board text × GainedFront a.out b.out text)
    → (IsErrOf r Memory → Keeps a.out b.out) → Listed board r a b
listed (Ok status) board a b whole device memory = whole
listed (Err Device) board a b whole device memory = device refl
listed (Err Memory) board a b whole device memory = memory refl

-- a text that was printed, or a front of it
pub printed : (r : Result ℕ EngineFault) (status : ℕ) (text : List ℕ) (held now : Option (List ℕ))
    → MatchResult r (λ answered. (answered ≡ status) × Appends held now text)
    (λ fault. (fault ≡ Device) × GainedFront held now text)
    → Printed status text r held now
printed (Ok answered) status text held now told = told
printed (Err fault) status text held now told = told

-- the clauses of `replay` in one
pub ran_script : (r : Result ℕ EngineFault) (a b : Streams)
    → IfOk r (λ status. Replayed status a.input b.input a.out b.out)
    → (IsErrOf r Device → ReplayFailed a.input b.input a.out b.out)
    → (IsErrOf r Memory → ReplayedInPart a.input b.input a.out b.out) → RanScript r a b
ran_script (Ok status) a b done device memory = done
ran_script (Err Device) a b done device memory = device refl
ran_script (Err Memory) a b done device memory = memory refl

-- the clauses of `plays_json` in one
pub listed_object : (r : Result ℕ EngineFault) (line : List ℕ) (a b : Streams)
    → IfOk r (λ status. (text : List ℕ) × PlaysObject line text status × Appends a.out b.out (line_bytes text))
    → (IsErrOf r Device → (text : List ℕ) × (status : ℕ) × PlaysObject line text status
    × GainedFront a.out b.out (line_bytes text))
    → (IsErrOf r Memory → Keeps a.out b.out) → ListedObject line r a b
listed_object (Ok status) line a b done device memory = done
listed_object (Err Device) line a b done device memory = device refl
listed_object (Err Memory) line a b done device memory = memory refl

-- a request for the plays of a word as JSON is served so
pub served_listed : (request : Request) (word : Bor (List ℕ)) (r : Result ℕ EngineFault) (a b : Streams)
    → request ≡ PlaysJson word → ListedWord word.now r a b → Keeps a.input b.input → Keeps a.err b.err
    → Served request r a b
served_listed request word r a b is listed kept silent = subst (λ q. Served q r a b) (sym is) (listed, kept, silent)

-- the clauses of `replay_json` in one
pub ran_objects : (r : Result ℕ EngineFault) (a b : Streams)
    → IfOk r (λ status. ReplayedObjects status a.input b.input a.out b.out)
    → (IsErrOf r Device → ObjectsFailed a.input b.input a.out b.out)
    → (IsErrOf r Memory → ObjectsInPart a.input b.input a.out b.out) → RanObjects r a b
ran_objects (Ok status) a b done device memory = done
ran_objects (Err Device) a b done device memory = device refl
ran_objects (Err Memory) a b done device memory = memory refl

-- a request to replay as JSON is served so
pub served_ran : (request : Request) (r : Result ℕ EngineFault) (a b : Streams) → request ≡ ReplayJson
    → RanObjects r a b → Keeps a.err b.err → Served request r a b
served_ran request r a b is ran kept = subst (λ q. Served q r a b) (sym is) (ran, kept)

-- a request to replay is served so
pub served_replay : (request : Request) (r : Result ℕ EngineFault) (a b : Streams) → request ≡ Replay
    → RanScript r a b → Keeps a.err b.err → Served request r a b
served_replay request r a b is ran kept = subst (λ q. Served q r a b) (sym is) (ran, kept)

-- a request to show is served so
pub served_show : (request : Request) (r : Result ℕ EngineFault) (a b : Streams) → request ≡ Show
    → Showed r a b → Keeps a.err b.err → Served request r a b
served_show request r a b is shown kept = subst (λ q. Served q r a b) (sym is) (shown, kept)

-- a request to show as JSON is served so
pub served_objects : (request : Request) (r : Result ℕ EngineFault) (a b : Streams) → request ≡ ShowJson
    → ShowedObjects r a b → Keeps a.err b.err → Served request r a b
served_objects request r a b is shown kept = subst (λ q. Served q r a b) (sym is) (shown, kept)

-- the clauses of `show_events` in one
pub showed_events : (r : Result ℕ EngineFault) (a b : Streams) → IfOk r (λ status. status ≡ 0)
    → OnOk r (eventful.WroteAll a.input b.input a.out b.out) → OnOk r (IsAtEnd b.input)
    → (IsErrOf r Device → eventful.WroteRead a.input b.input a.out b.out
    ⊎ eventful.WroteFront a.input b.input a.out b.out)
    → (IsErrOf r Memory → eventful.WroteLines a.input b.input a.out b.out) → ShowedEvents r a b
showed_events (Ok status) a b is whole end device memory = (is, whole, end)
showed_events (Err Device) a b is whole end device memory = device refl
showed_events (Err Memory) a b is whole end device memory = memory refl

-- a request to show events is served so
pub served_events : (request : Request) (r : Result ℕ EngineFault) (a b : Streams) → request ≡ ShowEvents
    → ShowedEvents r a b → Keeps a.err b.err → Served request r a b
served_events request r a b is shown kept = subst (λ q. Served q r a b) (sym is) (shown, kept)

-- a request for the plays of a word is served so
pub served_plays : (request : Request) (word : Bor (List ℕ)) (r : Result ℕ EngineFault) (a b : Streams)
    → request ≡ Plays word → PlayedWord word.now r a b → Keeps a.input b.input → Served request r a b
served_plays request word r a b is played kept = subst (λ q. Served q r a b) (sym is) (played, kept)

-- what was answered for the line that the bytes of a word say
pub for_word : (word bytes line : List ℕ) (r : Result ℕ EngineFault) (a b : Streams) → bytes ≡ word
    → SaysLine bytes line → Played line r a b → PlayedWord word r a b
for_word word bytes line r a b is says played = (line, subst (λ l. SaysLine l line) is says, played)

-- the same as JSON
pub listed_word : (word bytes line : List ℕ) (r : Result ℕ EngineFault) (a b : Streams) → bytes ≡ word
    → SaysLine bytes line → ListedObject line r a b → ListedWord word r a b
listed_word word bytes line r a b is says listed = (line, subst (λ l. SaysLine l line) is says, listed)

-- a request to play a script over sockets is served so
pub served_loop : (request : Request) (r : Result ℕ EngineFault) (a b : Streams)
    → request ≡ Loop → PlayedScript r a.input b.input a.out b.out → Keeps a.err b.err → Served request r a b
served_loop request r a b is played kept = subst (λ q. Served q r a b) (sym is) (played, kept)

-- the clauses of `play_loop` in one
pub played_script : (r : Result ℕ EngineFault) (left still held now : Option (List ℕ))
    → IfOk r (λ status. Replayed status left still held now)
    → (IsErrOf r Device → ReplayFailed left still held now ⊎ LoggedInPart left still held now)
    → (IsErrOf r Memory → ReplayedInPart left still held now) → PlayedScript r left still held now
played_script (Ok status) left still held now done device memory = done
played_script (Err Device) left still held now done device memory = device refl
played_script (Err Memory) left still held now done device memory = memory refl

-- nothing is read and nothing printed
reads_nothing : (left : Option (List ℕ)) → LostAtMost script_limit left left
reads_nothing None = ([], omega arith, tt)
reads_nothing (Some bytes) = ([], omega arith, refl)

-- a fault of a device before anything is read or printed is an ending of a script that is played
pub not_begun : (left held : Option (List ℕ)) → PlayedScript (Err Device) left left held held
not_begun left held = inl (inl (reads_nothing left, Keeps-refl held))
