use Rattle.std.proofs.Common.{◌≡◌, ◌+◌, ◌∙◌, ap, arith, length, take, codes}
use Rattle.fibs_model.specs.Crossings.{crossings}
use Rattle.fibs_model.specs.EventOf.{event_of}
use Rattle.fibs_replay.specs.Output.{script_login}
use Rattle.fibs_replay.proofs.ReplayLemmas.Carrying.{front_is, given_none, given_more, given_still}
use Rattle.fibs_replay.proofs.ReplayLemmas.Runs.{run_begins, run_begins_none, run_more, run_more_one, run_stops, run_ends, rest_readable}
use Rattle.fibs_replay.proofs.run.run_lines.Goals as goal

pub loop-line-init : goal.loop-line-init
loop-line-init g c = record {
  count = omega arith;
  readable = c.requires.readable;
  run = λ first events stands said. run_begins first events c.args.world.now c.args.lines.now stands said;
  given = λ first events stands said.
      let run = run_begins first events c.args.world.now c.args.lines.now stands said in
      given_none g.C.Carrier.carries g.met.C.Carrier.joins c.crossings_join.ensures first c.args.carrier.now
      (take 0 events) (front_is events run.before run.later 0 run.count run.cut
      ∙ run_begins_none first events c.args.world.now c.args.lines.now stands said);
}

pub loop-line-preserved : goal.loop-line-preserved
loop-line-preserved g c =
    let before = c.loop-line.invariant in
    let is = c.in-Some.ensures.steps in
    let long : length c.loop-line.lines ≡ length c.next.new.self + 1 = ap length is ∙ omega arith in
    let count : c.loop-line.done + length c.loop-line.lines ≡ length c.args.lines.now = before.count in
    record {
      count = omega arith;
      readable = rest_readable c.loop-line.lines c.next.new.self c.in-Some.line.now is before.readable;
      run = λ first events stands said.
          run_more first events c.loop-line.world c.carry_out.new.self c.loop-line.lines c.next.new.self
          c.in-Some.line.now c.loop-line.done c.in-Some-read_event.event
          (before.run first events stands said) is c.in-Some-read_event.ensures.exact
          (λ es h. c.in-Ok.ensures.refusal (codes "ann") (codes "secret") first es h)
          (λ es h. c.in-Ok.ensures.stands (codes "ann") (codes "secret") first es h);
      given = λ first events stands said.
          let run = before.run first events stands said in
          let more =
          run_more first events c.loop-line.world c.carry_out.new.self c.loop-line.lines c.next.new.self
          c.in-Some.line.now c.loop-line.done c.in-Some-read_event.event run is c.in-Some-read_event.ensures.exact
          (λ es h. c.in-Ok.ensures.refusal (codes "ann") (codes "secret") first es h)
          (λ es h. c.in-Ok.ensures.stands (codes "ann") (codes "secret") first es h) in
          given_more g.C.Carrier.carries g.met.C.Carrier.joins c.crossings_join.ensures first c.args.carrier.now
          c.loop-line.carrier c.carry_out.new.carrier (take c.loop-line.done events) run.before
          (take (c.loop-line.done + 1) events) (event_of c.in-Some-read_event.event)
          (front_is events run.before run.later c.loop-line.done run.count run.cut)
          (front_is events more.before more.later (c.loop-line.done + 1) more.count more.cut
          ∙ run_more_one first events c.loop-line.world c.carry_out.new.self c.loop-line.lines c.next.new.self
          c.in-Some.line.now c.loop-line.done c.in-Some-read_event.event run is c.in-Some-read_event.ensures.exact
          (λ es h. c.in-Ok.ensures.refusal (codes "ann") (codes "secret") first es h)
          (λ es h. c.in-Ok.ensures.stands (codes "ann") (codes "secret") first es h))
          (before.given first events stands said)
          (c.in-Ok.ensures.carries (codes "ann") (codes "secret") first run.before run.stands);
    }

pub returns-in-Err-clause-ran : goal.returns-in-Err-clause-ran
returns-in-Err-clause-ran g c = λ first events stands said.
    run_stops first events c.loop-line.world c.carry_out.new.self c.loop-line.lines c.next.new.self c.in-Some.line.now
    c.loop-line.done c.in-Some-read_event.event c.in-Err.stop
    (c.loop-line.invariant.run first events stands said) c.in-Some.ensures.steps c.in-Some-read_event.ensures.exact
    (λ es h. c.in-Err.ensures.refusal (codes "ann") (codes "secret") first es h) c.in-Err.ensures.refused

pub returns-clause-ran : goal.returns-clause-ran
returns-clause-ran g c = λ first events stands said.
    run_ends first events c.loop-line.world c.loop-line.lines c.loop-line.done
    (c.loop-line.invariant.run first events stands said) c.in_default.ensures.steps.0

pub returns-in-Err-clause-carries : goal.returns-in-Err-clause-carries
returns-in-Err-clause-carries g c = λ first events stands said whole.
    given_still g.C.Carrier.carries c.args.carrier.now c.loop-line.carrier c.carry_out.new.carrier
    (crossings script_login first (take c.loop-line.done events)) c.in-Err.stop
    (c.loop-line.invariant.given first events stands said) c.in-Err.ensures.untouched whole

pub returns-clause-carries : goal.returns-clause-carries
returns-clause-carries g c = λ first events stands said whole. c.loop-line.invariant.given first events stands said
