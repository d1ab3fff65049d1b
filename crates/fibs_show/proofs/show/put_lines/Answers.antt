use Rattle.std.proofs.Common.{◌≡◌, ◌+◌, ◌-◌, [], length, take, drop, length-drop, arith, sym, subst}
use Rattle.std.proofs.lemmas.List.{length-take}
use Rattle.fibs_engine.specs.Streams.{Gains}
use Rattle.fibs_engine.proofs.StreamLemmas.{gains_nothing}
use Rattle.fibs_show.specs.Show.{ShownLine}
use Rattle.fibs_show.proofs.ShowLemmas.{gains_put}
use Rattle.fibs_show.proofs.show.put_lines.Goals as goal

pub loop-at-init : goal.loop-at-init
loop-at-init c =
    let lines = c.args.lines.now in
    record {
      in_range = omega arith;
      gains = subst (Gains ShownLine lines lines []) (sym c.clear.ensures) (gains_nothing ShownLine lines);
    }

pub returns-then-used-eq0-clause-gains : goal.returns-then-used-eq0-clause-gains
returns-then-used-eq0-clause-gains c =
    let lines = c.args.lines.now in
    let piece = c.args.piece.now in
    let at = c.loop-at.at in
    let used = c.put_next-used.result in
    let next = c.put_next-used.ensures.gains in
    let put = c.put_next-used.new.page in
    let before = c.loop-at.invariant in
    let all : Gains ShownLine lines lines (take (at + used) piece) put =
    gains_put lines piece c.loop-at.page put next.0 at used before.in_range before.gains next.1 next.2 in
    let none : at + used ≡ at = omega (arith, c.if-used-eq0.true) in
    subst (λ n. Gains ShownLine lines lines (take n piece) put) none all

pub loop-at-preserved : goal.loop-at-preserved
loop-at-preserved c =
    let piece = c.args.piece.now in
    let at = c.loop-at.at in
    let used = c.put_next-used.result in
    let next = c.put_next-used.ensures.gains in
    let fits = c.loop-at.invariant.in_range in
    record {
      in_range =
          omega (
            arith,
            fits,
            c.put_next-used.ensures.range,
            length-take (length piece - at) (drop at piece),
            length-drop at piece,
          );
      gains = gains_put c.args.lines.now piece c.loop-at.page c.put_next-used.new.page next.0 at used fits
          c.loop-at.invariant.gains next.1 next.2;
    }
