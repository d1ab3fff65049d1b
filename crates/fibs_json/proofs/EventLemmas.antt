-- That what is appended for a line is its object and the objects of events.
use Rattle.std.proofs.Common.{◌≡◌, ◌∙◌, sym, ap, append_assoc, refl, ◌∷◌, [], ◌++◌, ℕ, Bool, true, false, List, Option, None, Result, Ok, Err}
use Rattle.std.specs.Prelude.{IfOk, IfSome}
use Rattle.fibs_lines.specs.Lines.{ReadLine}
use Rattle.fibs_fields.specs.Board.{BoardFields}
use Rattle.fibs_messages.specs.Line.{ReadingValue, board_line}
use Rattle.fibs_rules.specs.PlayValue.{hops_of}
use Rattle.fibs_events.specs.InOrder.{events_of}
use Rattle.fibs_events.specs.Known.{IsHeard, IsRollHeard}
use Rattle.fibs_events.specs.declared.happened.Happened.{Happened}
use Rattle.fibs_engine.specs.declared.fault.EngineFault.{EngineFault}
use Rattle.fibs_engine.specs.declared.fault.EngineFault.TheVariants as F
use Rattle.fibs_engine.specs.declared.stream_fault.StreamFault.{StreamFault}
use Rattle.fibs_engine.specs.declared.stream_fault.StreamFault.TheVariants as S
use Rattle.fibs_json.specs.Counting.{one_more}
use Rattle.fibs_json.specs.Eventful.{HappenedAs, HappenedBy, event_lines}
use Rattle.fibs_json.specs.Passing.{EventfulAt, ObjectAt}
use Rattle.fibs_json.specs.declared.place.Place.{Place}

-- three texts were appended: the object, the objects of events, and a line end
pub line_and_events : (p : Place) (line : ReadLine) (happened : Happened) (object old one two three : List ℕ)
    → ObjectAt p line object → HappenedBy line happened → one ≡ old ++ object
    → two ≡ one ++ event_lines (one_more p.lines) (events_of happened) → three ≡ two ++ (10 ∷ [])
    → (text : List ℕ) × EventfulAt p line text × (three ≡ old ++ (text ++ (10 ∷ [])))
line_and_events p line happened object old one two three told heard first second third =
    let more : List ℕ = event_lines (one_more p.lines) (events_of happened) in (
      object ++ more,
      (object, happened, told, heard, refl),
      third ∙ ap (λ (l : List ℕ). l ++ (10 ∷ [])) (second ∙ ap (λ (l : List ℕ). l ++ more) first
          ∙ append_assoc old object more)
          ∙ append_assoc old (object ++ more) (10 ∷ []),
    )

-- what was heard of a line that was not cut
pub heard_by : {E : Type 0} (r : Result Happened E) (cut : Bool) (known : Option BoardFields) (reading : ReadingValue)
    → cut ≡ false
    → IfOk r (λ happened. IfSome happened.played (λ turned. IsHeard known reading turned.who (hops_of turned.play)))
    → IfOk r (λ happened. IfSome happened.rolled (λ rolled. IsRollHeard reading rolled))
    → ((b : BoardFields) → reading ≡ board_line b → IfOk r (λ happened. happened.said ≡ None))
    → IfOk r (λ happened. HappenedAs cut known reading happened)
heard_by (Err e) cut known reading whole played rolled said = tt
heard_by (Ok happened) true known reading whole played rolled said = absurd cc
heard_by (Ok happened) false known reading whole played rolled said =
    record { played = played; rolled = rolled; said = said }

-- five texts were appended
pub gained_five : (old a b c d e one two three four five : List ℕ) → one ≡ old ++ a → two ≡ one ++ b
    → three ≡ two ++ c → four ≡ three ++ d → five ≡ four ++ e → five ≡ old ++ (a ++ (b ++ (c ++ (d ++ e))))
gained_five old a b c d e one two three four five first second third fourth fifth =
    fifth
    ∙ ap (λ (l : List ℕ). l ++ e) (fourth
    ∙ ap (λ (l : List ℕ). l ++ d) (third ∙ ap (λ (l : List ℕ). l ++ c) (second
    ∙ ap (λ (l : List ℕ). l ++ b) first)))
    ∙ append_assoc (((old ++ a) ++ b) ++ c) d e
    ∙ append_assoc ((old ++ a) ++ b) c (d ++ e)
    ∙ append_assoc (old ++ a) b (c ++ (d ++ e))
    ∙ append_assoc old a (b ++ (c ++ (d ++ e)))

-- a device is no memory
no_device : F.Device ≡ F.Memory → ⊥
no_device e = cc

-- an answer of memory is one of a stream that had none
memory_of : (fault : StreamFault) (result : EngineFault) → (fault ≡ S.Reader → result ≡ F.Device)
    → (fault ≡ S.Endless → result ≡ F.Device) → (fault ≡ S.Writer → result ≡ F.Device) → result ≡ F.Memory
    → fault ≡ S.Memory
memory_of S.Reader result reader endless writer is = absurd (no_device (sym (reader refl) ∙ is))
memory_of S.Endless result reader endless writer is = absurd (no_device (sym (endless refl) ∙ is))
memory_of S.Writer result reader endless writer is = absurd (no_device (sym (writer refl) ∙ is))
memory_of S.Memory result reader endless writer is = refl

-- what failed is told by an answer
faults_tell : {T : Type 0} (a b : EngineFault) → ◌≡◌ {A = Result T EngineFault} (Err a) (Err b) → a ≡ b
faults_tell a b e = cc

-- an engine ends for want of memory only if its stream did
pub memory_only : {T U : Type 0} (r : Result T StreamFault) (fault : StreamFault) (result : EngineFault)
    → r ≡ Err fault → (fault ≡ S.Reader → result ≡ F.Device) → (fault ≡ S.Endless → result ≡ F.Device)
    → (fault ≡ S.Writer → result ≡ F.Device) → ◌≡◌ {A = Result U EngineFault} (Err result) (Err F.Memory)
    → r ≡ Err S.Memory
memory_only r fault result is reader endless writer failed =
    is ∙ ap (λ f. Err f) (memory_of fault result reader endless writer (faults_tell result F.Memory failed))
