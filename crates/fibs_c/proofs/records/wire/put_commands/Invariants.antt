use Rattle.std.proofs.Common.{◌≡◌, ◌≤◌, ◌*◌, take, length}
use Rattle.fibs_session.specs.Calls.SessionOf.{texts_of}
use Rattle.fibs_session.specs.History.Machine.{wire_of}
use Rattle.fibs_c.specs.Records.Wires.{wire_in, RestStays}
use Rattle.fibs_c.proofs.records.wire.put_commands.Given as goal

abbrev pub invariant-loop-command : goal.invariant-loop-command
invariant-loop-command l =
    (wire_in l.wire ≡ wire_of (texts_of (take l.command-index l.commands)))
    × (l.wire.len ≡ length (wire_of (texts_of (take l.command-index l.commands))))
    × (l.wire.len ≤ 514 * l.command-index)
    × RestStays l.fn.wire l.wire
