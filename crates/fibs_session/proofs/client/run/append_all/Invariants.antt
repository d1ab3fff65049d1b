use Rattle.std.proofs.Common.{◌≡◌, ◌++◌, drop}
use Rattle.fibs_session.specs.History.Machine.{wire_of}
use Rattle.fibs_session.specs.Calls.SessionOf.{texts_of}
use Rattle.fibs_session.proofs.client.run.append_all.Given as goal

-- what is still to be written comes after what was written
abbrev pub invariant-loop-command : goal.invariant-loop-command
invariant-loop-command l =
    l.out.items ++ wire_of (texts_of (drop l.command-index l.commands))
    ≡ l.fn.out.items ++ wire_of (texts_of l.commands)
