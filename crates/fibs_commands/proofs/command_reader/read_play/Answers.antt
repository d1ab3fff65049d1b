use Rattle.std.proofs.Common.{ap, sym, ◌∙◌, ◌<◌, ◌∷◌, [], length, arith, length-append}
use Rattle.std.specs.Prelude.{option_map}
use Rattle.fibs_fields.specs.Split.{seen}
use Rattle.fibs_rules.specs.PlayValue.{hops_of}
use Rattle.fibs_rules.specs.Hop.{hop_of}
use Rattle.fibs_commands.proofs.ReadingPlays.{no_step, no_room, none_left, one_more, less_left, was_full}
use Rattle.fibs_commands.proofs.command_reader.read_play.Goals as goal

pub returns-in_err-step : goal.returns-in_err-step
returns-in_err-step c =
    ap (option_map hops_of) c.from_residual.ensures
    ∙ sym (no_step c.args.direction (hops_of c.loop-rest.play) _ (seen c.loop-rest.rest) c.in-Some.text.now
    c.split.result.0.now
    (ap seen c.in-Some.is) c.split.ensures.before (sym c.in_err-step.ensures) c.loop-rest.invariant.goes_on)

pub returns-then-not-push : goal.returns-then-not-push
returns-then-not-push c =
    sym (no_room c.args.direction (hops_of c.loop-rest.play) _ (seen c.loop-rest.rest) c.in-Some.text.now
    (ap seen c.in-Some.is) (was_full c.push.result (length (hops_of c.loop-rest.play)) c.push.ensures.room.1
    c.if-not-push.true) c.loop-rest.invariant.goes_on)

pub loop-rest-smaller : goal.loop-rest-smaller
loop-rest-smaller c =
    less_left (seen c.loop-rest.rest) (seen c.split.result.1) c.in-Some.text.now (ap seen c.in-Some.is)
    c.split.ensures.after

pub loop-rest-preserved : goal.loop-rest-preserved
loop-rest-preserved c = record {
  goes_on = one_more c.args.direction (hops_of c.loop-rest.play) (hops_of c.push.new.self) (hop_of c.in_ok-step.step) _
      (seen c.loop-rest.rest) (seen c.split.result.1) c.in-Some.text.now c.split.result.0.now
      (ap seen c.in-Some.is) c.split.ensures.before c.split.ensures.after (sym c.in_ok-step.ensures)
      c.if-not-push.ensures.pushed
      c.loop-rest.invariant.goes_on;
  few =
      let room : length (hops_of c.loop-rest.play) < 4 = c.push.ensures.room.0 c.if-not-push.false in
      omega (
        arith,
        ap length c.if-not-push.ensures.pushed,
        length-append (hops_of c.loop-rest.play) (hop_of c.in_ok-step.step ∷ []),
      );
}

pub returns : goal.returns
returns c =
    sym (none_left c.args.direction (hops_of c.loop-rest.play) _ (seen c.loop-rest.rest) (ap seen c.in_default.is)
    c.loop-rest.invariant.few c.loop-rest.invariant.goes_on)
