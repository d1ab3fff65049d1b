-- What a call of the client writes.
use Rattle.std.specs.Prelude.{◌≡◌, ◌++◌, ℕ, List}
use Rattle.fibs_session.specs.History.Machine.{InputValue, wire_of}
use Rattle.fibs_session.specs.Calls.Standing.{ClientValue}
use Rattle.fibs_session.specs.Calls.Doing.{Does}

-- the client took the input, and the commands that it handed out were appended
pub record Writes (old new : ClientValue) (i : InputValue) (before after : List ℕ) : Type 0 where
  pub send : List (List ℕ)
  pub does : Does old new i send
  pub written : after ≡ before ++ wire_of send
