-- What a reader lost.
use Rattle.std.proofs.Common.{ℕ, List, [], Option, None, Some, sym}
use Rattle.std.specs.Io.KnownBytes.{Consumes, Keeps}

-- a reader that keeps its bytes loses none
pub kept_consumes : (left still : Option (List ℕ)) → Keeps left still → Consumes left still []
kept_consumes None still h = tt
kept_consumes (Some xs) None h = h
kept_consumes (Some xs) (Some ys) h = sym h
