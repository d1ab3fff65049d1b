use Rattle.fibs_commands.specs.Logins.{login_text}
use Rattle.std.proofs.Common.{◌≡◌, ◌+◌, ◌<◌, ◌++◌, get_or, map, take, length, sym, ap, subst, ◌∙◌, arith}
use Rattle.fibs_model.specs.EventOf.{event_of}
use Rattle.fibs_model.specs.WorldCalls.{machine_after}
use Rattle.fibs_model.specs.WorldOf.{WorldValue}
use Rattle.fibs_model.proofs.Likeness.Running.{headline_of, log_of, done_more, left_more, stands_next, stops}
use Rattle.fibs_model.proofs.world.World.run.Goals as goal

pub returns-in-Err-clause-stops : goal.returns-in-Err-clause-stops
returns-in-Err-clause-stops c = λ name password first before h.
    let xs = c.args.events.now in
    let x = c.event-item.result in
    let n = c.loop-event.done in
    let i = c.loop-event.invariant in
    let is = subst (λ m. x ≡ get_or xs m x) (sym i.count) c.event-item.is in
    let within : n < length xs = omega (arith, i.count, c.loop-event-test.true) in
    stops (machine_after name password first (before ++ take n (map event_of xs))) _ _ (event_of x) c.in-Err.why
    (left_more event_of xs n x is within)
    (c.in-Err.ensures.refusal name password first (before ++ take n (map event_of xs))
    (i.stands name password first before h))

pub returns-in-Err-clause-log : goal.returns-in-Err-clause-log
returns-in-Err-clause-log c = λ name password first before h.
    ap (λ (v : WorldValue). v.log) c.in-Err.ensures.refused
    ∙ log_of c.loop-event.self name password first _ (c.loop-event.invariant.stands name password first before h)

pub loop-event-preserved : goal.loop-event-preserved
loop-event-preserved c =
    let xs = c.args.events.now in
    let x = c.event-item.result in
    let n = c.loop-event.done in
    let i = c.loop-event.invariant in
    let is = subst (λ m. x ≡ get_or xs m x) (sym i.count) c.event-item.is in
    let within : n < length xs = omega (arith, i.count, c.loop-event-test.true) in
    record {
      count = ap (λ m. m + 1) i.count;
      stands = λ name password first before h.
          stands_next c.step.new.self name password first before (take n (map event_of xs)) _ (event_of x)
          (done_more event_of xs n x is within)
          (c.in-Ok.ensures.stands name password first (before ++ take n (map event_of xs))
          (i.stands name password first before h));
    }

pub returns-clause-log : goal.returns-clause-log
returns-clause-log c = λ name password first before h. log_of c.loop-event.self name password first _
    (c.loop-event.invariant.stands name password first before h)

pub returns-clause-headline : goal.returns-clause-headline
returns-clause-headline c = λ name password first before h.
    headline_of c.headline.ensures.headline c.loop-event.self name password first _
    (c.loop-event.invariant.stands name password first before h)

pub returns-clause-once : goal.returns-clause-once
returns-clause-once c = λ name password first before h. c.once.ensures (login_text name password) first _
