use Rattle.fibs_connect.proofs.TypedLemmas.Spent.{spends_nothing, spends_more}
use Rattle.std.proofs.Common.{refl}
use Rattle.fibs_connect.proofs.answer_lines.Goals.{in-Heard+in_ok-take_turn-in-Heard, in-Typed+in_ok-wish-in-Typed+in_ok-answer-in-Typed+in_default}
use Rattle.fibs_connect.proofs.answer_lines.Goals as goal

pub loop-init : goal.loop-init
loop-init g c = (
  c.in_ok-open.ensures.fits,
  spends_nothing c.args.lines.now c.args.lines.now
      (g.R.Read.remaining c.args.typed.now) refl,
)

pub returns-in_err-rest-clause-spends : goal.returns-in_err-rest-clause-spends
returns-in_err-rest-clause-spends g c = c.loop.invariant.1

pub returns-in_err-next-clause-spends : goal.returns-in_err-next-clause-spends
returns-in_err-next-clause-spends g c =
    spends_more c.args.lines.now c.loop.lines c.next.new.self _ _ _ c.loop.invariant.1 c.next.ensures.spends

pub returns-in-Ended-clause-spends : goal.returns-in-Ended-clause-spends
returns-in-Ended-clause-spends g c =
    spends_more c.args.lines.now c.loop.lines c.next.new.self _ _ _ c.loop.invariant.1 c.next.ensures.spends

pub returns-in_err-take_turn-in-Heard-clause-spends : goal.returns-in_err-take_turn-in-Heard-clause-spends
returns-in_err-take_turn-in-Heard-clause-spends g c =
    spends_more c.args.lines.now c.loop.lines c.next.new.self _ _ _ c.loop.invariant.1 c.next.ensures.spends

pub returns-in_err-wish-in-Typed-clause-spends : goal.returns-in_err-wish-in-Typed-clause-spends
returns-in_err-wish-in-Typed-clause-spends g c =
    spends_more c.args.lines.now c.loop.lines c.next.new.self _ _ _ c.loop.invariant.1 c.next.ensures.spends

pub returns-in_err-answer-in-Typed-clause-spends : goal.returns-in_err-answer-in-Typed-clause-spends
returns-in_err-answer-in-Typed-clause-spends g c =
    spends_more c.args.lines.now c.loop.lines c.next.new.self _ _ _ c.loop.invariant.1 c.next.ensures.spends

pub returns-in_err-rest-in-Typed-clause-spends : goal.returns-in_err-rest-in-Typed-clause-spends
returns-in_err-rest-in-Typed-clause-spends g c =
    spends_more c.args.lines.now c.loop.lines c.next.new.self _ _ _ c.loop.invariant.1 c.next.ensures.spends

pub returns-in-Away-clause-spends : goal.returns-in-Away-clause-spends
returns-in-Away-clause-spends g c =
    spends_more c.args.lines.now c.loop.lines c.next.new.self _ _ _ c.loop.invariant.1 c.next.ensures.spends

pub loop-preserved : goal.loop-preserved
loop-preserved g c = (
  elim c.match-next.branch [
    | in-Heard+in_ok-take_turn-in-Heard w ↦ rw w.seat-is w.in_ok-take_turn-in-Heard.ensures.fits
    | in-Typed+in_ok-wish-in-Typed+in_ok-answer-in-Typed+in_default w ↦
        rw w.seat-is w.in_ok-answer-in-Typed.ensures.fits
  ],
  spends_more c.args.lines.now c.loop.lines c.next.new.self _ _ _ c.loop.invariant.1 c.next.ensures.spends,
)

pub returns-clause-spends : goal.returns-clause-spends
returns-clause-spends g c = c.loop.invariant.1
