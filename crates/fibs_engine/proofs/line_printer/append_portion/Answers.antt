use Rattle.std.proofs.Common.{◌++◌, [], take, refl, sym, ap, ◌∙◌, append-nil, append_assoc}
use Rattle.std.proofs.lemmas.List.{take_rest}
use Rattle.fibs_engine.proofs.StreamLemmas.{goes_nowhere, goes_more}
use Rattle.fibs_engine.proofs.WriteLemmas.{front_more}
use Rattle.fibs_engine.proofs.line_printer.append_portion.Goals as goal

pub loop-rest-init : goal.loop-rest-init
loop-rest-init g c = (
  [],
  refl,
  (
    [],
    sym (append-nil c.args.text.now.items),
    goes_nowhere g.P.LinePrinter.reads g.P.LinePrinter.prints c.args.lines.now c.args.printer.now,
  ),
)

pub loop-rest-preserved : goal.loop-rest-preserved
loop-rest-preserved g c =
    let front = c.loop-rest.invariant.0 in
    let gained = c.loop-rest.invariant.2 in
    let used = c.in_ok-used.used in
    let rest = c.loop-rest.rest.now in
    let next = c.in_ok-used.ensures.goes_on in (
      front ++ take used rest,
      front_more c.args.portion.now front rest used c.loop-rest.invariant.1
          ∙ ap (λ l. front ++ take used rest ++ l) (sym (take_rest rest used)),
      (
        gained.0 ++ next.0,
        next.1 ∙ ap (λ l. l ++ next.0) gained.1 ∙ append_assoc c.args.text.now.items gained.0 next.0,
        goes_more g.P.LinePrinter.reads g.P.LinePrinter.prints c.args.lines.now c.loop-rest.lines
            c.append_next.new.lines c.args.printer.now c.loop-rest.printer c.append_next.new.printer front
            (take used rest) gained.0 next.0 gained.2 next.2,
      ),
    )
