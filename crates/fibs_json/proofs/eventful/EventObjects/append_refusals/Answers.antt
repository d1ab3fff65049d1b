use Rattle.std.proofs.Common.{◌++◌, ◌∙◌, [], append-nil, arith, refl, sym, subst, ap}
use Rattle.std.proofs.lemmas.List.{take_all}
use Rattle.fibs_events.specs.declared.event.Event.TheVariants as E
use Rattle.fibs_json.specs.Counting.{one_more}
use Rattle.fibs_json.specs.Events.{event_object}
use Rattle.fibs_json.specs.Passing.{Refused, told_text}
use Rattle.fibs_json.proofs.AskedLemmas.{refused_next, refused_nothing}
use Rattle.fibs_json.proofs.eventful.EventObjects.append_refusals.Goals as goal

pub loop-byte-init : goal.loop-byte-init
loop-byte-init c = (
  refl,
  refl,
  (
    [],
    sym (append-nil c.args.text.now.items),
    refused_nothing c.args.self.now.asking (event_object (one_more c.args.self.now.place.lines) E.LoginRefused),
  ),
)

pub loop-byte-preserved : goal.loop-byte-preserved
loop-byte-preserved c =
    let told = c.in_ok-append_refusal.ensures.told in
    let object = event_object (one_more c.args.self.now.place.lines) in (
      c.in_ok-append_refusal.ensures.place ∙ c.loop-byte.invariant.0,
      c.in_ok-append_refusal.ensures.lines ∙ c.loop-byte.invariant.1,
      refused_next object c.args.self.now.asking c.loop-byte.self.asking c.append_refusal.new.self.asking
          c.args.bytes.now c.args.text.now.items c.loop-byte.text.items c.append_refusal.new.text.items
          c.loop-byte.byte-index told.0 c.loop-byte-test.true c.loop-byte.invariant.2
          told.1
          (told.2 ∙ ap (λ p. c.loop-byte.text.items ++ told_text (event_object (one_more p.lines)) told.0)
          c.loop-byte.invariant.0),
    )

pub returns-clause-told : goal.returns-clause-told
returns-clause-told c =
    let so_far = c.loop-byte.invariant.2 in (
      so_far.0,
      so_far.1,
      subst (λ l. Refused c.args.self.now.asking c.loop-byte.self.asking l
          (event_object (one_more c.args.self.now.place.lines) E.LoginRefused) so_far.0)
          (take_all c.loop-byte.byte-index c.args.bytes.now (omega (arith, c.loop-byte-test.false))) so_far.2,
    )
