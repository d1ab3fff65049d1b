-- What holds if a call succeeds.
use Rattle.std.proofs.Common.{◌≡◌, List, Result, Ok, Err, OnOk, IfOk, is_ok, if◌then◌else◌, ◌∙◌}

-- what a list that grows if a call succeeds is then
pub on_ok_grown : {T E A : Type 0} (r : Result T E) (now grown kept wanted : List A)
    → now ≡ (if is_ok r then grown else kept) → grown ≡ wanted → OnOk r (now ≡ wanted)
on_ok_grown (Ok x) now grown kept wanted e same = e ∙ same
on_ok_grown (Err x) now grown kept wanted e same = tt

-- what follows from what holds if a call succeeds holds then too
pub on_ok_weaker : {T E P Q : Type 0} (r : Result T E) → (P → Q) → OnOk r P → OnOk r Q
on_ok_weaker (Ok x) f h = f h
on_ok_weaker (Err e) f h = tt

-- what follows from what holds of a result holds of it
pub if_ok_weaker : {T E : Type 0} {P Q : T → Type 0} (r : Result T E) → ((x : T) → P x → Q x) → IfOk r P → IfOk r Q
if_ok_weaker (Ok x) f h = f x h
if_ok_weaker (Err e) f h = tt
