use Rattle.std.proofs.Common.{sym, subst, refl, ◌∙◌}
use Rattle.fibs_commands.specs.Logins.{login_text}
use Rattle.fibs_model.specs.EventOf.{event_of}
use Rattle.fibs_model.specs.WorldCalls.{machine_after}
use Rattle.fibs_model.proofs.Likeness.Stepping.{tells, told, stands_for, stands_more, stands_still}
use Rattle.fibs_model.proofs.Likeness.Crossing.{crossings_seen}
use Rattle.fibs_model.proofs.Likeness.Running.{headline_of}
use Rattle.fibs_model.proofs.world.World.carry_out.Goals as goal

pub returns-in-Some-clause-refusal : goal.returns-in-Some-clause-refusal
returns-in-Some-clause-refusal g c = λ name password first events h.
    tells c.in-Some.why _ (told (machine_after name password first events) (event_of c.args.event.now))
    (sym c.in-Some.is ∙ c.refusal.ensures (login_text name password) (machine_after name password first events)
    (stands_for c.args.self.now name password first events h))

pub returns-in-Some-clause-headline : goal.returns-in-Some-clause-headline
returns-in-Some-clause-headline g c = λ name password first events h.
    headline_of c.headline.ensures.headline c.args.self.now name password first _
    (stands_still c.args.self.now c.args.self.now name password first events refl h)

pub returns-in-Ok-clause-refusal : goal.returns-in-Ok-clause-refusal
returns-in-Ok-clause-refusal g c = λ name password first events h.
    sym (c.refusal.ensures (login_text name password) (machine_after name password first events)
    (stands_for c.args.self.now name password first events h)) ∙ c.in-None.is

pub returns-in-Ok-clause-stands : goal.returns-in-Ok-clause-stands
returns-in-Ok-clause-stands g c = λ name password first events h.
    stands_more c.args.self.now c.take.new.self name password first events (event_of c.args.event.now) h
    (sym (c.refusal.ensures (login_text name password) (machine_after name password first events)
    (stands_for c.args.self.now name password first events h)) ∙ c.in-None.is)
    c.in-Ok.ensures.ok

pub returns-in-Ok-clause-headline : goal.returns-in-Ok-clause-headline
returns-in-Ok-clause-headline g c = λ name password first events h.
    headline_of c.headline.ensures.headline c.take.new.self name password first _
    (stands_more c.args.self.now c.take.new.self name password first events (event_of c.args.event.now) h
    (sym (c.refusal.ensures (login_text name password) (machine_after name password first events)
    (stands_for c.args.self.now name password first events h)) ∙ c.in-None.is)
    c.in-Ok.ensures.ok)

pub returns-in-Err-Memory-clause-refusal : goal.returns-in-Err-Memory-clause-refusal
returns-in-Err-Memory-clause-refusal g c = λ name password first events h.
    sym (c.refusal.ensures (login_text name password) (machine_after name password first events)
    (stands_for c.args.self.now name password first events h)) ∙ c.in-None.is

pub returns-in-Err-Broken-clause-refusal : goal.returns-in-Err-Broken-clause-refusal
returns-in-Err-Broken-clause-refusal g c = λ name password first events h.
    sym (c.refusal.ensures (login_text name password) (machine_after name password first events)
    (stands_for c.args.self.now name password first events h)) ∙ c.in-None.is

pub returns-in-Err-Memory-clause-headline : goal.returns-in-Err-Memory-clause-headline
returns-in-Err-Memory-clause-headline g c = λ name password first events h.
    headline_of c.headline.ensures.headline c.args.self.now name password first _
    (stands_still c.args.self.now c.args.self.now name password first events refl h)

pub returns-in-Err-Broken-clause-headline : goal.returns-in-Err-Broken-clause-headline
returns-in-Err-Broken-clause-headline g c = λ name password first events h.
    headline_of c.headline.ensures.headline c.args.self.now name password first _
    (stands_still c.args.self.now c.args.self.now name password first events refl h)

pub returns-in-Some-clause-once : goal.returns-in-Some-clause-once
returns-in-Some-clause-once g c = λ name password first events h. c.once.ensures (login_text name password) first _

pub returns-in-Ok-clause-once : goal.returns-in-Ok-clause-once
returns-in-Ok-clause-once g c = λ name password first events h. c.once.ensures (login_text name password) first _

pub returns-in-Err-Memory-clause-once : goal.returns-in-Err-Memory-clause-once
returns-in-Err-Memory-clause-once g c = λ name password first events h.
    c.once.ensures (login_text name password) first _

pub returns-in-Err-Broken-clause-once : goal.returns-in-Err-Broken-clause-once
returns-in-Err-Broken-clause-once g c = λ name password first events h.
    c.once.ensures (login_text name password) first _

pub returns-in-Ok-clause-carries : goal.returns-in-Ok-clause-carries
returns-in-Ok-clause-carries g c = λ name password first events h.
    subst (λ xs. g.C.Carrier.carries c.args.carrier.now xs c.take.new.carrier)
    (crossings_seen c.args.self.now (login_text name password) (machine_after name password first events)
    (event_of c.args.event.now) (stands_for c.args.self.now name password first events h))
    c.in-Ok.ensures.carries
