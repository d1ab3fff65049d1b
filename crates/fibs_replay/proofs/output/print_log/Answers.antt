use Rattle.std.proofs.Common.{◌++◌, map, subst}
use Rattle.fibs_model.specs.EntryOf.{entry_of}
use Rattle.fibs_replay.specs.LogLines.{log_text}
use Rattle.fibs_engine.specs.Writing.{Wrote, progress_of}
use Rattle.fibs_replay.proofs.ScriptLemmas.Outputs.{broken_on, entry_passed, entry_broken, all_passed}
use Rattle.fibs_replay.proofs.output.print_log.Goals as goal

pub returns-in_err-make_room : goal.returns-in_err-make_room
returns-in_err-make_room g c =
    broken_on (λ p. Wrote p (g.W.Write.contents c.args.writer.now) (g.W.Write.contents c.make_room.new.writer)
    (log_text (map entry_of c.args.entries.now) ++ c.args.last.now)) c.from_residual.result _ c.from_residual.ensures.1
    (entry_broken (g.W.Write.contents c.args.writer.now) (g.W.Write.contents c.loop-entry.writer)
    (g.W.Write.contents c.make_room.new.writer)
    c.args.entries.now c.loop-entry.entry-index c.loop-entry.text.items c.args.last.now c.loop-entry.invariant
    c.in_err-make_room.ensures)

pub loop-entry-preserved : goal.loop-entry-preserved
loop-entry-preserved g c =
    entry_passed (g.W.Write.contents c.args.writer.now) (g.W.Write.contents c.loop-entry.writer)
    (g.W.Write.contents c.make_room.new.writer)
    c.args.entries.now c.loop-entry.entry-index c.entry-item.result c.loop-entry.text.items c.make_room.new.text.items
    c.append_entry.new.text.items
    c.loop-entry-test.true c.entry-item.is c.loop-entry.invariant c.in_ok-make_room.ensures.0 c.append_entry.ensures

pub returns-in_err-make_room-2 : goal.returns-in_err-make_room-2
returns-in_err-make_room-2 g c =
    broken_on (λ p. Wrote p (g.W.Write.contents c.args.writer.now) (g.W.Write.contents c.make_room-2.new.writer)
    (log_text (map entry_of c.args.entries.now) ++ c.args.last.now)) c.from_residual-in_err-make_room-2.result _
    c.from_residual-in_err-make_room-2.ensures.1
    (entry_broken (g.W.Write.contents c.args.writer.now) (g.W.Write.contents c.loop-entry.writer)
    (g.W.Write.contents c.make_room-2.new.writer)
    c.args.entries.now c.loop-entry.entry-index c.loop-entry.text.items c.args.last.now c.loop-entry.invariant
    c.in_err-make_room-2.ensures)

pub returns : goal.returns
returns g c =
    all_passed (progress_of c.write_bytes.result) (g.W.Write.contents c.args.writer.now)
    (g.W.Write.contents c.loop-entry.writer) (g.W.Write.contents c.make_room-2.new.writer)
    (g.W.Write.contents c.write_bytes.new.writer) c.args.entries.now c.loop-entry.entry-index c.loop-entry.text.items
    c.make_room-2.new.text.items c.args.last.now
    c.append.new.text.items c.loop-entry-test.false c.loop-entry.invariant c.in_ok-make_room-2.ensures.0
    c.append.ensures
    (subst (Wrote (progress_of c.write_bytes.result) (g.W.Write.contents c.make_room-2.new.writer)
    (g.W.Write.contents c.write_bytes.new.writer)) c.as_slice.ensures.value c.write_bytes.ensures)
