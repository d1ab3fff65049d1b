-- The bytes come after those that the wire had.
use Rattle.std.proofs.Common.{rules, ◌-◌}
use Rattle.fibs_c.proofs.RoomLemmas.{append_bytes, rest_stays}
use Rattle.fibs_c.proofs.records.wire.append.Goals as goal

pub returns-clause-appended : goal.returns-clause-appended
returns-clause-appended c =
    append_bytes c.args.wire.now.len (1542 - c.args.wire.now.len) c.args.wire.now.bytes c.put-written.new.room
    c.args.bytes.now
    c.put-written.result (search rules) (search rules) c.put-written.ensures.bytes

pub returns-clause-rest : goal.returns-clause-rest
returns-clause-rest c =
    rest_stays c.args.wire.now.len (1542 - c.args.wire.now.len) c.args.wire.now.bytes c.put-written.new.room
    c.put-written.result (search rules) (search rules) (search rules) c.put-written.ensures.rest
