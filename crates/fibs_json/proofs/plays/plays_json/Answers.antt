use Rattle.std.proofs.Common.{sym, subst}
use Rattle.std.specs.Io.KnownBytes.{Appends}
use Rattle.fibs_engine.specs.Status.{code_of}
use Rattle.fibs_engine.specs.Writing.{GainedFront}
use Rattle.fibs_json.specs.Plays.{PlaysObject}
use Rattle.fibs_json.proofs.ObjectLemmas.{line_whole}
use Rattle.fibs_json.proofs.plays.plays_json.Goals as goal

pub returns-in_err-write_bytes-clause-device : goal.returns-in_err-write_bytes-clause-device
returns-in_err-write_bytes-clause-device g c = λ failed.
    let h = c.in_ok-status.ensures in
    let whole = line_whole c.new-text.result.items c.append_object.new.text.items c.push.new.self.items
    c.as_slice.result.now h.0 c.new-text.ensures.items h.2 c.in_ok-push.ensures.items c.as_slice.ensures.value in (
      h.0,
      code_of c.in_ok-status.status,
      h.1,
      subst (GainedFront (g.W.Write.contents c.args.out.now) (g.W.Write.contents c.write_bytes.new.writer)) whole
          c.in_err-write_bytes.ensures,
    )

pub returns-clause-done : goal.returns-clause-done
returns-clause-done g c =
    let h = c.in_ok-status.ensures in
    let whole = line_whole c.new-text.result.items c.append_object.new.text.items c.push.new.self.items
    c.as_slice.result.now h.0 c.new-text.ensures.items h.2 c.in_ok-push.ensures.items c.as_slice.ensures.value in (
      h.0,
      subst (PlaysObject c.args.line.now h.0) (sym c.code.ensures) h.1,
      subst (Appends (g.W.Write.contents c.args.out.now) (g.W.Write.contents c.write_bytes.new.writer)) whole
          c.in_ok-write_bytes.ensures,
    )
