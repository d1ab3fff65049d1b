use Rattle.std.proofs.Common.{◌≡◌, ◌++◌, ℕ, List, drop}
use Rattle.std.specs.Io.KnownBytes.{Appends, Keeps}
use Rattle.fibs_session.specs.History.Machine.{wire_of}
use Rattle.fibs_session.specs.Calls.SessionOf.{texts_of}
use Rattle.fibs_connect.proofs.turns.sending.send_commands.Given as goal

-- what is written, and the commands that are left
abbrev pub invariant-loop-command : goal.invariant-loop-command
invariant-loop-command g l = (front : List ℕ)
    × (wire_of (texts_of l.commands) ≡ front ++ wire_of (texts_of (drop l.command-index l.commands)))
    × Appends (g.S.Write.contents l.initial.stream) (g.S.Write.contents l.stream) front
    × Keeps (g.S.Read.remaining l.initial.stream) (g.S.Read.remaining l.stream)
