-- What holds whatever a call answers holds if it succeeds.
use Rattle.std.specs.Prelude.{Err, Ok, OnOk, Result}

-- a fact that does not speak of the outcome
pub on_any : {X E P : Type 0} (result : Result X E) → P → OnOk result P
on_any (Ok x) p = p
on_any (Err x) p = tt
