use Rattle.std.proofs.Common.{take}
use Rattle.fibs_terminal.specs.KeptLists.{IsNotAmong}
use Rattle.fibs_terminal.proofs.people.People.is_gagged.Given as goal

-- it is not among those so far
abbrev pub invariant-loop-gagged : goal.invariant-loop-gagged
invariant-loop-gagged l = IsNotAmong l.name (take l.gagged-index l.self.gagged.items)
