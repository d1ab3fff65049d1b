-- A client is reached by what has happened.
use Rattle.std.specs.Prelude.{ℕ, List}
use Rattle.fibs_lines.specs.LinesValue.{LinesValue, StandsAfter as LinesStandAfter}
use Rattle.fibs_session.specs.History.Machine.{Talk, InputValue, start, run}
use Rattle.fibs_session.specs.Calls.SessionValue.{SessionValue, At}

-- a session is reached by what has happened. Callers use this name, and never unfold it
unfoldable pub SessionStandsAfter : SessionValue → Talk → Type 0
SessionStandsAfter v t = At v t

-- what a client keeps
pub record ClientValue : Type 0 where
  pub lines : LinesValue
  pub session : SessionValue

-- a client is reached by what has happened: its lines by the bytes, its session by the rest. Callers never
-- unfold it either
unfoldable pub StandsAfter : ClientValue → Talk → Type 0
StandsAfter v t = LinesStandAfter v.lines t.stream × At v.session t

-- the same after a list of inputs
abbrev pub StandsAfterInputs : ClientValue → List ℕ → List InputValue → Type 0
StandsAfterInputs v login inputs = StandsAfter v (run (start login) inputs).talk
