use Rattle.std.proofs.Common.{rules, ◌≡◌, ◌++◌, [], arith, sym, subst, ap, ◌∙◌, take, length}
use Rattle.std.specs.Io.KnownBytes.{Appends}
use Rattle.fibs_engine.specs.Streams.{WroteLinesOf}
use Rattle.fibs_engine.specs.Writing.{GainedFront}
use Rattle.fibs_engine.proofs.OkLemmas.{on_ok_weaker}
use Rattle.fibs_engine.proofs.ReadLemmas.{kept_consumes}
use Rattle.fibs_engine.proofs.StreamLemmas.{passed_more, passed_part, passed_front, passed_whole, passed_whole_front, passed_few, took_none, portion_part, portion_some}
use Rattle.fibs_engine.proofs.line_printer.print_stream.Goals as goal

pub returns-in-Ok-eq0-clause-whole : goal.returns-in-Ok-eq0-clause-whole
returns-in-Ok-eq0-clause-whole g c =
    let took = took_none _ _ _ _ c.in-Ok-eq0.field-0-test c.in-Ok-eq0.ensures.bytes.0 in
    on_ok_weaker c.finish.result (λ e. passed_whole g.P.LinePrinter.reads g.P.LinePrinter.prints g.P.LinePrinter.ends
    _ _ _ _ _ _ _ _ _ e.0 _ _
    c.loop-made.invariant.0 took e.1 e.2)
    c.finish.ensures.ok

pub returns-in-Ok-eq0-clause-writer : goal.returns-in-Ok-eq0-clause-writer
returns-in-Ok-eq0-clause-writer g c = λ failed.
    let took = took_none _ _ _ _ c.in-Ok-eq0.field-0-test c.in-Ok-eq0.ensures.bytes.0 in
    let e = c.finish.ensures.writer failed in
    passed_whole_front g.P.LinePrinter.reads g.P.LinePrinter.prints g.P.LinePrinter.ends
    _ _ _ _ _ _ _ _ _ e.0 _ _ c.loop-made.invariant.0 took
    e.1 e.2

pub returns-in-Ok-eq0-clause-memory : goal.returns-in-Ok-eq0-clause-memory
returns-in-Ok-eq0-clause-memory g c = λ failed.
    let took = took_none _ _ _ _ c.in-Ok-eq0.field-0-test c.in-Ok-eq0.ensures.bytes.0 in
    let stream = c.loop-made.invariant.0.stream in (
      stream,
      [],
      omega arith,
      subst (WroteLinesOf g.P.LinePrinter.prints stream [] _ _ _) (sym (c.finish.ensures.memory failed))
          (passed_part _ _ _ _ _ _ _ _ _ _ [] _ _ c.loop-made.invariant.0 took),
    )

pub returns-in-Ok-eq0-clause-few : goal.returns-in-Ok-eq0-clause-few
returns-in-Ok-eq0-clause-few g c =
    let took = took_none _ _ _ _ c.in-Ok-eq0.field-0-test c.in-Ok-eq0.ensures.bytes.0 in
    passed_few _ _ _ _ _ _ _ _ _ _ [] _ _ _ c.loop-made.invariant.0 took (omega arith) c.loop-made-test.true

pub returns-in-Err-clause-few : goal.returns-in-Err-clause-few
returns-in-Err-clause-few g c = passed_few _ _ _ _ _ _ _ _ _ _ [] _ _ _ c.loop-made.invariant.0
    (kept_consumes _ _ c.in-Err.ensures.bytes) (omega arith) c.loop-made-test.true

pub returns-in_err-append_portion-clause-memory : goal.returns-in_err-append_portion-clause-memory
returns-in_err-append_portion-clause-memory g c = λ _.
    let piece = take c.in-Ok.count c.read.new.buf in
    let whole : length c.read.new.buf ≡ length c.loop-made.portion = search rules in (
      c.loop-made.invariant.0.stream,
      piece,
      portion_part c.in-Ok.count c.read.new.buf _ (whole ∙ c.loop-made.invariant.1),
      passed_part _ _ _ _ _ _ _ _ _ _ piece _ _ c.loop-made.invariant.0 c.in-Ok.ensures.bytes.0,
    )

pub returns-in_err-append_portion-clause-few : goal.returns-in_err-append_portion-clause-few
returns-in_err-append_portion-clause-few g c =
    let whole : length c.read.new.buf ≡ length c.loop-made.portion = search rules in
    passed_few _ _ _ _ _ _ _ _ _ _ _ _ _ _ c.loop-made.invariant.0 c.in-Ok.ensures.bytes.0
    (portion_part c.in-Ok.count c.read.new.buf _ (whole ∙ c.loop-made.invariant.1))
    c.loop-made-test.true

pub returns-in_err-write_bytes-clause-writer : goal.returns-in_err-write_bytes-clause-writer
returns-in_err-write_bytes-clause-writer g c = λ _.
    let shown = c.in_ok-append_portion.ensures in
    let before = g.W.Write.contents c.loop-made.writer in
    let after = g.W.Write.contents c.write_bytes.new.writer in
    let text : c.as_slice.result.now ≡ shown.0 = c.as_slice.ensures.value ∙ shown.1
    ∙ ap (λ l. l ++ shown.0) c.loop-made.invariant.0.clear in
    let broke : GainedFront before after shown.0 = subst (GainedFront before after) text c.in_err-write_bytes.ensures in
    passed_front g.P.LinePrinter.reads g.P.LinePrinter.prints g.P.LinePrinter.ends c.begin.ensures.may_end
    _ _ _ _ _ _ _ _ _ _ _ _ shown.0 _ _ c.loop-made.invariant.0
    c.in-Ok.ensures.bytes.0 shown.2 broke

pub returns-in_err-write_bytes-clause-few : goal.returns-in_err-write_bytes-clause-few
returns-in_err-write_bytes-clause-few g c =
    let whole : length c.read.new.buf ≡ length c.loop-made.portion = search rules in
    passed_few _ _ _ _ _ _ _ _ _ _ _ _ _ _ c.loop-made.invariant.0 c.in-Ok.ensures.bytes.0
    (portion_part c.in-Ok.count c.read.new.buf _ (whole ∙ c.loop-made.invariant.1))
    c.loop-made-test.true

pub loop-made-preserved : goal.loop-made-preserved
loop-made-preserved g c =
    let whole : length c.read.new.buf ≡ length c.loop-made.portion = search rules in
    let shown = c.in_ok-append_portion.ensures in
    let before = g.W.Write.contents c.loop-made.writer in
    let after = g.W.Write.contents c.write_bytes.new.writer in
    let text : c.as_slice.result.now ≡ shown.0 = c.as_slice.ensures.value ∙ shown.1
    ∙ ap (λ l. l ++ shown.0) c.loop-made.invariant.0.clear in
    let wrote : Appends before after shown.0 = subst (Appends before after) text c.in_ok-write_bytes.ensures in
    let some = portion_some c.in-Ok.count c.read.new.buf c.in-Ok.count-test.1 c.in-Ok.ensures.bound.0 in (
      passed_more _ _ _ _ _ _ _ _ _ _ _ _ _ _ shown.0 _ _ _ c.loop-made.invariant.0 c.in-Ok.ensures.bytes.0 some
          (portion_part c.in-Ok.count c.read.new.buf _
          (whole ∙ c.loop-made.invariant.1)) shown.2 wrote c.clear.ensures.items,
      whole ∙ c.loop-made.invariant.1,
    )
