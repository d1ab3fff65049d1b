use Rattle.std.proofs.Common.{◌≡◌, ◌+◌, ◌-◌, ◌<◌, length, take, drop, get_or, true, refl, ap, subst, ◌∙◌, arith, length-drop}
use Rattle.std.proofs.lemmas.List.{take_rest, get_or-drop}
use Rattle.fibs_lines.specs.Progress.{kept, Advances, ends_run}
use Rattle.fibs_lines.proofs.Advancing.{Advances-taken, Advances-next, Advances-opened}
use Rattle.fibs_lines.proofs.unfinished.Unfinished.take_up_to_end.Goals as goal
use Rattle.fibs_lines.proofs.unfinished.Unfinished.take_up_to_end.Goals.{then-eq+else-at-piece+else-piece-at-eq10, else-eq}

pub returns-then-piece-at-eq10-clause-end : goal.returns-then-piece-at-eq10-clause-end
returns-then-piece-at-eq10-clause-end c =
    let at = c.loop-at.at in
    let piece = c.args.piece.now in
    let run = c.take_run-at.result in
    let whole : take (length piece - at) (drop at piece) ≡ drop at piece = take_rest piece at in
    let new = kept c.take_run-at.new.self in
    let taken = subst (λ l. Advances (kept c.loop-at.self) new (take run l)) whole c.take_run-at.ensures.advances in
    record {
      in_range =
          omega (arith, c.take_run-at.ensures.in_range, ap length whole, length-drop at piece, c.if-at-piece.false);
      advances = Advances-taken _ _ _ piece at run c.loop-at.invariant.advances taken;
      no_command = c.take_run-at.ensures.telnet;
      end = c.if-piece-at-eq10.true;
    }

pub loop-at-preserved : goal.loop-at-preserved
loop-at-preserved c = elim c.if-eq.branch [
  | then-eq+else-at-piece+else-piece-at-eq10 w ↦
      let at = c.loop-at.at in
      let piece = c.args.piece.now in
      let run = w.take_run-at.result in
      let whole : take (length piece - at) (drop at piece) ≡ drop at piece = take_rest piece at in
      let mid = kept w.take_run-at.new.self in
      let taken = subst (λ l. Advances (kept c.loop-at.self) mid (take run l)) whole w.take_run-at.ensures.advances in
      let more = Advances-taken _ _ _ piece at run c.loop-at.invariant.advances taken in
      let within : at + run < length piece =
      omega (arith, w.take_run-at.ensures.in_range, ap length whole, length-drop at piece, w.if-at-piece.false) in
      let stops : ends_run (get_or piece (at + run) 0) ≡ true =
      subst (λ b. ends_run b ≡ true) (ap (λ l. get_or l run 0) whole ∙ get_or-drop at piece run 0)
      (w.take_run-at.ensures.stops (omega (arith, ap length whole, length-drop at piece))) in
      let opens : get_or piece (at + run) 0 ≡ 255 = grind (arith, stops, w.if-piece-at-eq10.false) in
      rw (w.self-is, w.at-is) (record {
        in_range = omega arith;
        advances =
            Advances-next _ _ _ piece (at + run) within more
            (Advances-opened _ _ _ opens w.take_run-at.ensures.telnet refl refl refl);
      })
  | else-eq w ↦
      let at = c.loop-at.at in
      let piece = c.args.piece.now in
      rw (w.self-is, w.at-is) (record {
        in_range = omega arith;
        advances = Advances-next _ _ _ piece at c.loop-at-test.true c.loop-at.invariant.advances w.take_command.ensures;
      })
]
