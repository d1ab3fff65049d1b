use Rattle.std.proofs.Common.{subst, inl}
use Rattle.fibs_replay.specs.Carried.{CarriedFor}
use Rattle.fibs_replay.specs.Running.{PrintedFor}
use Rattle.fibs_replay.proofs.ReplayLemmas.Carrying.{read_carried, unread_carried}
use Rattle.fibs_replay.proofs.ReplayLemmas.Runs.{unread_failed, readable_done, readable_failed, readable_in_part}
use Rattle.fibs_replay.proofs.replay_over.Goals as goal

pub returns-in-Unreadable-clause-device : goal.returns-in-Unreadable-clause-device
returns-in-Unreadable-clause-device g c = λ failed.
    inl (unread_failed c.print_unrun.result c.in-Unreadable.number (g.R.Read.remaining c.args.reader.now)
    (g.R.Read.remaining c.read_lines.new.reader)
    (g.W.Write.contents c.args.writer.now) (g.W.Write.contents c.print_unrun.new.writer) c.unread_line.result.items
    (rw c.in-Unreadable.is at c.in_ok-number.ensures.ok) c.unread_line.ensures c.print_unrun.ensures failed)

pub returns-in-Readable-clause-memory : goal.returns-in-Readable-clause-memory
returns-in-Readable-clause-memory g c =
    let held = g.W.Write.contents c.args.writer.now in
    let now = g.W.Write.contents c.replay_readable.new.writer in
    readable_in_part g.C.Carrier.may_break c.replay_readable.result c.in-Readable.script.items
    (g.R.Read.remaining c.args.reader.now) (g.R.Read.remaining c.read_lines.new.reader)
    held now (rw c.in-Readable.is at c.in_ok-number.ensures.ok).0
    (subst (λ s. PrintedFor g.C.Carrier.may_break s c.replay_readable.result held now) c.as_slice.ensures.value
    c.replay_readable.ensures.printed)

pub returns-in-Readable-clause-device : goal.returns-in-Readable-clause-device
returns-in-Readable-clause-device g c =
    let held = g.W.Write.contents c.args.writer.now in
    let now = g.W.Write.contents c.replay_readable.new.writer in
    readable_failed g.C.Carrier.may_break c.replay_readable.result c.in-Readable.script.items
    (g.R.Read.remaining c.args.reader.now) (g.R.Read.remaining c.read_lines.new.reader)
    held now (rw c.in-Readable.is at c.in_ok-number.ensures.ok).0
    (subst (λ s. PrintedFor g.C.Carrier.may_break s c.replay_readable.result held now) c.as_slice.ensures.value
    c.replay_readable.ensures.printed)

pub returns-in-Readable-clause-carries : goal.returns-in-Readable-clause-carries
returns-in-Readable-clause-carries g c = λ fine.
    read_carried g.C.Carrier.carries c.args.carrier.now c.replay_readable.new.carrier c.in-Readable.script.items
    (g.R.Read.remaining c.args.reader.now) (g.R.Read.remaining c.read_lines.new.reader)
    (g.W.Write.contents c.args.writer.now) (g.W.Write.contents c.replay_readable.new.writer)
    (rw c.in-Readable.is at c.in_ok-number.ensures.ok).0
    (subst (λ s. CarriedFor g.C.Carrier.carries s (g.W.Write.contents c.args.writer.now)
    (g.W.Write.contents c.replay_readable.new.writer) c.args.carrier.now c.replay_readable.new.carrier)
    c.as_slice.ensures.value (c.replay_readable.ensures.carries fine))

pub returns-in-Readable-clause-done : goal.returns-in-Readable-clause-done
returns-in-Readable-clause-done g c =
    let held = g.W.Write.contents c.args.writer.now in
    let now = g.W.Write.contents c.replay_readable.new.writer in
    readable_done g.C.Carrier.may_break c.replay_readable.result c.in-Readable.script.items
    (g.R.Read.remaining c.args.reader.now) (g.R.Read.remaining c.read_lines.new.reader)
    held now (rw c.in-Readable.is at c.in_ok-number.ensures.ok).0
    (subst (λ s. PrintedFor g.C.Carrier.may_break s c.replay_readable.result held now) c.as_slice.ensures.value
    c.replay_readable.ensures.printed)

pub returns-in-Unreadable-clause-carries : goal.returns-in-Unreadable-clause-carries
returns-in-Unreadable-clause-carries g c = λ fine.
    unread_carried g.C.Carrier.carries c.args.carrier.now c.unread_line.result.items c.in-Unreadable.number
    (g.R.Read.remaining c.args.reader.now) (g.R.Read.remaining c.read_lines.new.reader)
    (g.W.Write.contents c.args.writer.now) (g.W.Write.contents c.print_unrun.new.writer) c.print_unrun.result
    c.unread_line.ensures c.print_unrun.ensures fine
