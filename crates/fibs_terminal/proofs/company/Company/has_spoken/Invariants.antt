use Rattle.std.proofs.Common.{take}
use Rattle.fibs_terminal.specs.KeptLists.{IsNotAmong}
use Rattle.fibs_terminal.proofs.company.Company.has_spoken.Given as goal

-- it is not among those so far
abbrev pub invariant-loop-spoken : goal.invariant-loop-spoken
invariant-loop-spoken l = IsNotAmong l.name (take l.spoken-index l.self.spoken.items)
