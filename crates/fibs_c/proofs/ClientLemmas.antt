-- What a handle holds is put back, and a call that refuses left it as it was.
use Rattle.std.proofs.Common.{◌≡◌, ◌≢◌, ℕ, List, [], drop, refl, sym, ap, subst, ◌∙◌}
use Rattle.std.specs.Prelude.{Option, Some, Result, Ok, Err, IsErr}
use Rattle.std.specs.Result.{result_err}
use Rattle.arrayvec.specs.ArrayString.{ArrayString}
use Rattle.fibs_game.specs.declared.refusal.Refusal.{Refusal}
use Rattle.fibs_session.specs.declared.histories.refusal.PlainRefusal.{PlainRefusal}
use Rattle.fibs_session.specs.Calls.Doing.{Does}
use Rattle.fibs_session.specs.Calls.SessionOf.{refusal_in}
use Rattle.fibs_session.specs.Calls.Standing.{ClientValue}
use Rattle.fibs_session.specs.History.Machine.{InputValue, step, wire_of}
use Rattle.fibs_c.specs.Records.Statuses.{refusal_status, plain_status}
use Rattle.fibs_c.specs.Records.Wires.{Holds, IsEmptied}
use Rattle.fibs_c.specs.declared.records.wire.WireRecord.{WireRecord}
use Rattle.fibs_c.specs.ClientDoor.{DoesOnWire, DoesUnsaid}

-- a fact of what a handle held and of what it holds again is one of the handle
pub put_back : (R : Option ClientValue → Option ClientValue → Type 0) (old new : Option ClientValue)
    (lent held after : ClientValue) → lent ≡ held → Some held ≡ old → new ≡ Some after → R (Some lent) (Some after)
    → R old new
put_back R old new lent held after same was is h =
    subst (λ (o : Option ClientValue). R o new) (ap (λ (v : ClientValue). Some v) same ∙ was)
    (subst (λ (n : Option ClientValue). R (Some lent) n) (sym is) h)

-- what a wire holds after it was emptied it holds after what it was before
pub held : (first cleared last : WireRecord) (bytes : List ℕ) → IsEmptied first cleared → Holds cleared last bytes
    → Holds first last bytes
held first cleared last bytes one holds = record {
  few = holds.few;
  len_is = holds.len_is;
  bytes_are = holds.bytes_are;
  rest = holds.rest ∙ ap (λ (b : List ℕ). drop last.len b) one.bytes_are;
}

-- the commands that were handed out are on the wire, which was emptied before
pub on_wire : (old new : ClientValue) (i : InputValue) (send : List (List ℕ)) (first cleared last : WireRecord)
    → Does old new i send → IsEmptied first cleared → Holds cleared last (wire_of send)
    → DoesOnWire old new i first last
on_wire old new i send first cleared last does one holds = record {
  stands = does.stands;
  hands = λ t s. held first cleared last (wire_of (step t i).send) one
      (subst (λ (commands : List (List ℕ)). Holds cleared last (wire_of commands)) (does.hands t s) holds);
}

-- a call that hands out no command needs no wire
pub unsaid : (old new : ClientValue) (i : InputValue) → Does old new i [] → DoesUnsaid old new i
unsaid old new i does = record { stands = does.stands; hands_none = λ t s. ap wire_of (does.hands t s) }

-- a wire that is emptied twice is emptied
pub emptied : (first cleared last : WireRecord) → IsEmptied first cleared → IsEmptied cleared last
    → IsEmptied first last
emptied first cleared last one other =
    record { len_is = other.len_is; bytes_are = other.bytes_are ∙ one.bytes_are }

-- a decision whose status is not 0 is refused
pub is_refused : (answer : Result ArrayString Refusal) (status : ℕ) → status ≡ refusal_status (refusal_in answer)
    → status ≢ 0 → IsErr answer
is_refused (Ok command) status is nonzero = absurd (nonzero is)
is_refused (Err why) status is nonzero = refl

-- a plain command whose status is not 0 is refused
pub is_plain_refused : (answer : Result ArrayString PlainRefusal) (status : ℕ)
    → status ≡ plain_status (refusal_in answer) → status ≢ 0 → IsErr answer
is_plain_refused (Ok command) status is nonzero = absurd (nonzero is)
is_plain_refused (Err why) status is nonzero = refl

-- a call without commands whose status is not 0 is refused
pub is_silently_refused : {T : Type 0} (answer : Result T Refusal) (status : ℕ)
    → status ≡ refusal_status (result_err answer) → status ≢ 0 → IsErr answer
is_silently_refused (Ok done) status is nonzero = absurd (nonzero is)
is_silently_refused (Err why) status is nonzero = refl
