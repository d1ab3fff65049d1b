use Rattle.std.proofs.Common.{◌≡◌, ◌≤◌, ◌+◌, ◌++◌, length, drop}
use Rattle.fibs_session.specs.History.Machine.{wire_of}
use Rattle.fibs_session.specs.Calls.SessionOf.{texts_of}
use Rattle.fibs_model.proofs.world.hearing.put_all.Given as goal

-- what is still to be put comes after what was put, and has room
abbrev pub invariant-loop-command : goal.invariant-loop-command
invariant-loop-command l = record {
  items : l.wire.items ++ wire_of (texts_of (drop l.command-index l.commands)) ≡ l.fn.wire.items ++ wire_of
      (texts_of l.commands);
  room : length (wire_of (texts_of (drop l.command-index l.commands))) ≤ l.wire.room;
  spent : l.fn.wire.room + length (wire_of (texts_of (drop l.command-index l.commands))) ≤ l.wire.room + length
      (wire_of (texts_of l.commands));
}
