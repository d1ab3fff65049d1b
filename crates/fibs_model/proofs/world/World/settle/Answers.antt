use Rattle.std.proofs.Common.{◌≡◌, ◌≤◌, ◌+◌, ◌++◌, Some, None, sym, ap, subst, ◌∙◌, arith, slice_index, option_map, length}
use Rattle.fibs_commands.specs.Logins.{login_text}
use Rattle.fibs_model.specs.CanRest.{asked_now, next_to_rest}
use Rattle.fibs_model.specs.EventOf.{event_of}
use Rattle.fibs_model.specs.Settling.{Settled, settle_refusal}
use Rattle.fibs_model.specs.WorldCalls.{machine_after}
use Rattle.fibs_model.specs.WorldOf.{WorldValue}
use Rattle.fibs_model.proofs.Likeness.Stepping.{tells, stands_for}
use Rattle.fibs_model.proofs.Likeness.Settling.{nothing_done, told_settle, may_settle, way_goes_on, way_refused, way_ends, way_settles, way_stops}
use Rattle.fibs_model.proofs.world.World.settle.Goals as goal

pub returns-in-Some-clause-refusal : goal.returns-in-Some-clause-refusal
returns-in-Some-clause-refusal c = λ name password first before h.
    tells c.in-Some.why _
    (told_settle (slice_index c.args.dice 0) (slice_index c.args.dice 1) (machine_after name password first before))
    (sym c.in-Some.is
    ∙ c.settle_refusal.ensures (login_text name password) (machine_after name password first before)
    (stands_for c.args.self.now name password first before h))

pub returns-in-Some-clause-settles : goal.returns-in-Some-clause-settles
returns-in-Some-clause-settles c = λ name password first before h.
    nothing_done name password first before (slice_index c.args.dice 0) (slice_index c.args.dice 1)
    c.agrees.ensures.agrees c.args.self.now c.in-Some.why h

pub returns-in-None-next_to_rest-clause-refusal : goal.returns-in-None-next_to_rest-clause-refusal
returns-in-None-next_to_rest-clause-refusal c = λ name password first before h.
    sym (c.settle_refusal.ensures (login_text name password) (machine_after name password first before)
    (stands_for c.args.self.now name password first before h)) ∙ c.in-None.is

pub returns-in-None-next_to_rest-clause-settles : goal.returns-in-None-next_to_rest-clause-settles
returns-in-None-next_to_rest-clause-settles c = λ name password first before h.
    let d1 = slice_index c.args.dice 0 in
    let d2 = slice_index c.args.dice 1 in
    let m = machine_after name password first before in
    let none : settle_refusal d1 d2 m ≡ None =
    sym (c.settle_refusal.ensures (login_text name password) m
    (stands_for c.args.self.now name password first before h)) ∙ c.in-None.is in
    let may = may_settle d1 d2 m none in
    let a = c.loop-done.invariant name password first before h in
    let next : next_to_rest d1 d2 (machine_after name password first (before ++ a.events)) ≡ None =
    sym (c.next_to_rest.ensures (login_text name password)
    (machine_after name password first (before ++ a.events))
    (stands_for c.loop-done.self name password first (before ++ a.events) a.stands))
    ∙ ap (option_map event_of) c.in-None-next_to_rest.is in
    way_settles name password first before d1 d2 c.agrees.ensures.agrees c.can_rest.ensures.way
    c.args.self.now h may.0 may.1 may.2
    c.loop-done.self c.loop-done.done a None (λ e. next)

pub returns-in-Err-clause-refusal : goal.returns-in-Err-clause-refusal
returns-in-Err-clause-refusal c = λ name password first before h.
    let d1 = slice_index c.args.dice 0 in
    let d2 = slice_index c.args.dice 1 in
    let m = machine_after name password first before in
    let none : settle_refusal d1 d2 m ≡ None =
    sym (c.settle_refusal.ensures (login_text name password) m
    (stands_for c.args.self.now name password first before h)) ∙ c.in-None.is in
    let may = may_settle d1 d2 m none in
    let a = c.loop-done.invariant name password first before h in
    let e = event_of c.in-Some-next_to_rest.event in
    let next : next_to_rest d1 d2 (machine_after name password first (before ++ a.events)) ≡ Some e =
    sym (c.next_to_rest.ensures (login_text name password)
    (machine_after name password first (before ++ a.events))
    (stands_for c.loop-done.self name password first (before ++ a.events) a.stands))
    ∙ ap (option_map event_of) c.in-Some-next_to_rest.is in
    way_refused name password first before d1 d2 c.agrees.ensures.agrees c.can_rest.ensures.way
    c.args.self.now h may.0 may.1 may.2
    c.loop-done.self c.loop-done.done a e c.in-Err.why next none
    (c.in-Err.ensures.refusal name password first (before ++ a.events) a.stands)

pub returns-in-Err-clause-settles : goal.returns-in-Err-clause-settles
returns-in-Err-clause-settles c = λ name password first before h.
    let d1 = slice_index c.args.dice 0 in
    let d2 = slice_index c.args.dice 1 in
    let m = machine_after name password first before in
    let none : settle_refusal d1 d2 m ≡ None =
    sym (c.settle_refusal.ensures (login_text name password) m
    (stands_for c.args.self.now name password first before h)) ∙ c.in-None.is in
    let may = may_settle d1 d2 m none in
    let a = c.loop-done.invariant name password first before h in
    subst (λ (v : WorldValue). Settled v name password first before d1 d2
    c.loop-done.done (Some c.in-Err.why)) (sym c.in-Err.ensures.refused)
    (way_stops name password first before d1 d2 c.agrees.ensures.agrees c.can_rest.ensures.way
    c.args.self.now h may.0 may.1 may.2
    c.loop-done.self c.loop-done.done a c.in-Err.why)

pub loop-done-preserved : goal.loop-done-preserved
loop-done-preserved c = λ name password first before h.
    let d1 = slice_index c.args.dice 0 in
    let d2 = slice_index c.args.dice 1 in
    let a = c.loop-done.invariant name password first before h in
    let e = event_of c.in-Some-next_to_rest.event in
    let next : next_to_rest d1 d2 (machine_after name password first (before ++ a.events)) ≡ Some e =
    sym (c.next_to_rest.ensures (login_text name password)
    (machine_after name password first (before ++ a.events))
    (stands_for c.loop-done.self name password first (before ++ a.events) a.stands))
    ∙ ap (option_map event_of) c.in-Some-next_to_rest.is in
    way_goes_on name password first before d1 d2
    c.loop-done.self c.step.new.self c.loop-done.done a e next
    (c.in-Ok.ensures.stands name password first (before ++ a.events) a.stands)

pub returns-clause-refusal : goal.returns-clause-refusal
returns-clause-refusal c = λ name password first before h.
    sym (c.settle_refusal.ensures (login_text name password) (machine_after name password first before)
    (stands_for c.args.self.now name password first before h)) ∙ c.in-None.is

pub returns-clause-settles : goal.returns-clause-settles
returns-clause-settles c = λ name password first before h.
    let d1 = slice_index c.args.dice 0 in
    let d2 = slice_index c.args.dice 1 in
    let m = machine_after name password first before in
    let none : settle_refusal d1 d2 m ≡ None =
    sym (c.settle_refusal.ensures (login_text name password) m
    (stands_for c.args.self.now name password first before h)) ∙ c.in-None.is in
    let may = may_settle d1 d2 m none in
    let a = c.loop-done.invariant name password first before h in
    let past : c.most_to_rest-most.result ≤ c.loop-done.done = c.loop-done-test.false in
    let all : c.loop-done.done ≡ c.most_to_rest-most.result = omega (arith, past, c.loop-done.auto.done-end) in
    let most : length (asked_now m) + 8 ≤ c.most_to_rest-most.result =
    c.most_to_rest-most.ensures (login_text name password) m
    (stands_for c.args.self.now name password first before h) in
    let ended = way_ends name password first before d1 d2 c.agrees.ensures.agrees c.can_rest.ensures.way
    c.args.self.now h may.0 may.1 may.2
    c.loop-done.self c.loop-done.done a (omega (arith, most, past)) in
    subst (λ n. Settled c.loop-done.self name password first before d1 d2 n None) all
    (way_settles name password first before d1 d2 c.agrees.ensures.agrees c.can_rest.ensures.way
    c.args.self.now h may.0 may.1 may.2
    c.loop-done.self c.loop-done.done a None (λ e. ended))
