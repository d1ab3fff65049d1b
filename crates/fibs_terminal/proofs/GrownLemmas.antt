-- What a terminal has written is kept.
use Rattle.std.proofs.Common.{◌≡◌, [], List, ℕ, Option, Result, Ok, Err, subst}
use Rattle.std.specs.Prelude.{OnOk}
use Rattle.std.specs.Io.KnownBytes.{Appends, Keeps}
use Rattle.std.proofs.KnownBytes.{Appends-kept, Appends-nil}
use Rattle.fibs_session.specs.Calls.Standing.{ClientValue}
use Rattle.fibs_wording.specs.declared.environment.settings.Settings.{Settings}
use Rattle.fibs_terminal.specs.declared.memory.Memory.{Memory}
use Rattle.fibs_terminal.specs.Grown.{Grown}
use Rattle.fibs_terminal.specs.Resting.{Rests, ShowsAdvice}

-- what holds in any case holds of a success
pub on_any_ok : {T E P : Type 0} (r : Result T E) → P → OnOk r P
on_any_ok (Ok x) p = p
on_any_ok (Err e) p = tt

-- nothing was added
pub grown_kept : (held now : Option (List ℕ)) → Keeps held now → Grown held now
grown_kept held now k = ([], Appends-kept held held now [] (Appends-nil held) k)

-- a text was added, and then nothing
pub grown_then_kept : (a b c : Option (List ℕ)) (text : List ℕ) → Appends a b text → Keeps b c → Grown a c
grown_then_kept a b c text p k = (text, Appends-kept a b c text p k)

-- what is said is shown
pub advice_shown : (client : ClientValue) (s : Settings) (m : Memory) (a b c : Option (List ℕ))
    (text written : List ℕ) → Rests client s m [] text → written ≡ text → Appends a b written → Keeps b c
    → ShowsAdvice client s m a c
advice_shown client s m a b c text written said same p k =
    (text, said, subst (Appends a c) same (Appends-kept a b c written p k))
