use Rattle.std.proofs.Common.{subst}
use Rattle.fibs_engine.specs.Writing.{GainedFront}
use Rattle.fibs_show.proofs.plays.print_plays.Goals as goal

pub returns-in_err-write_bytes-clause-device : goal.returns-in_err-write_bytes-clause-device
returns-in_err-write_bytes-clause-device g c = λ _. (
  c.in_ok-text.text.items,
  c.in_ok-text.ensures,
  subst (GainedFront (g.W.Write.contents c.args.out.now)
      (g.W.Write.contents c.write_bytes.new.writer)) c.as_slice.ensures.value c.in_err-write_bytes.ensures,
)
