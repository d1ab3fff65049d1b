use Rattle.std.proofs.Common.{subst}
use Rattle.fibs_cli.specs.Printing.{ObjectsFor}
use Rattle.fibs_cli.proofs.ReplayLemmas.{unread_done, unread_failed, unread_in_part, readable_done, readable_failed, readable_in_part}
use Rattle.fibs_cli.proofs.objects.replay.replay_json.Goals as goal

pub returns-in-Unreadable-clause-done : goal.returns-in-Unreadable-clause-done
returns-in-Unreadable-clause-done g c =
    unread_done c.print_log.result c.in-Unreadable.number (g.R.Read.remaining c.args.reader.now)
    (g.R.Read.remaining c.read_lines.new.reader)
    (g.W.Write.contents c.args.writer.now) (g.W.Write.contents c.print_log.new.writer)
    (rw c.in-Unreadable.is at c.in_ok-number.ensures.ok) c.print_log.ensures

pub returns-in-Unreadable-clause-device : goal.returns-in-Unreadable-clause-device
returns-in-Unreadable-clause-device g c =
    unread_failed c.print_log.result c.in-Unreadable.number (g.R.Read.remaining c.args.reader.now)
    (g.R.Read.remaining c.read_lines.new.reader)
    (g.W.Write.contents c.args.writer.now) (g.W.Write.contents c.print_log.new.writer)
    (rw c.in-Unreadable.is at c.in_ok-number.ensures.ok) c.print_log.ensures

pub returns-in-Unreadable-clause-memory : goal.returns-in-Unreadable-clause-memory
returns-in-Unreadable-clause-memory g c =
    unread_in_part c.print_log.result c.in-Unreadable.number (g.R.Read.remaining c.args.reader.now)
    (g.R.Read.remaining c.read_lines.new.reader)
    (g.W.Write.contents c.args.writer.now) (g.W.Write.contents c.print_log.new.writer) c.print_log.ensures

pub returns-in-Readable-clause-done : goal.returns-in-Readable-clause-done
returns-in-Readable-clause-done g c =
    let held = g.W.Write.contents c.args.writer.now in
    let now = g.W.Write.contents c.replay_readable.new.writer in
    readable_done c.replay_readable.result c.in-Readable.script.items
    (g.R.Read.remaining c.args.reader.now) (g.R.Read.remaining c.read_lines.new.reader)
    held now (rw c.in-Readable.is at c.in_ok-number.ensures.ok).0
    (subst (λ s. ObjectsFor s c.replay_readable.result held now) c.as_slice.ensures.value c.replay_readable.ensures)

pub returns-in-Readable-clause-device : goal.returns-in-Readable-clause-device
returns-in-Readable-clause-device g c =
    let held = g.W.Write.contents c.args.writer.now in
    let now = g.W.Write.contents c.replay_readable.new.writer in
    readable_failed c.replay_readable.result c.in-Readable.script.items
    (g.R.Read.remaining c.args.reader.now) (g.R.Read.remaining c.read_lines.new.reader)
    held now (rw c.in-Readable.is at c.in_ok-number.ensures.ok).0
    (subst (λ s. ObjectsFor s c.replay_readable.result held now) c.as_slice.ensures.value c.replay_readable.ensures)

pub returns-in-Readable-clause-memory : goal.returns-in-Readable-clause-memory
returns-in-Readable-clause-memory g c =
    let held = g.W.Write.contents c.args.writer.now in
    let now = g.W.Write.contents c.replay_readable.new.writer in
    readable_in_part c.replay_readable.result c.in-Readable.script.items
    (g.R.Read.remaining c.args.reader.now) (g.R.Read.remaining c.read_lines.new.reader)
    held now (rw c.in-Readable.is at c.in_ok-number.ensures.ok).0
    (subst (λ s. ObjectsFor s c.replay_readable.result held now) c.as_slice.ensures.value c.replay_readable.ensures)
