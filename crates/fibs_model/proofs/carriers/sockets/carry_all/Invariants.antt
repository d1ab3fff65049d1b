use Rattle.std.proofs.Common.{◌≡◌, ℕ, List, ◌++◌, length}
use Rattle.std.specs.Io.KnownBytes.{Appends, Consumes}
use Rattle.fibs_model.proofs.carriers.sockets.carry_all.Given as goal

-- a front of the bytes was written at one end, and read at the other
abbrev pub invariant-loop-rest : goal.invariant-loop-rest
invariant-loop-rest g l = record {
  done : List ℕ;
  whole : l.fn.bytes ≡ done ++ l.rest;
  written : Appends (g.F.Write.contents l.fn.from) (g.F.Write.contents l.from) done;
  read : Consumes (g.T.Read.remaining l.fn.to) (g.T.Read.remaining l.to) done;
}

abbrev pub decreases-loop-rest : goal.decreases-loop-rest
decreases-loop-rest g l = length l.rest
