use Rattle.std.proofs.Common.{◌≡◌, ◌-◌, suc, length, arith}
use Rattle.fibs_rules.specs.Hop.{hop_of}
use Rattle.fibs_rules.specs.PlayValue.{hops_of}
use Rattle.fibs_commands.proofs.ReadingPlays.{was_full}
use Rattle.fibs_advice.proofs.SpellingLemmas.{made_once, never_made, no_room}
use Rattle.fibs_advice.proofs.spelling.moves.+with_times.Goals as goal

pub returns-then-times-eq0 : goal.returns-then-times-eq0
returns-then-times-eq0 t c =
    never_made (hops_of c.args.play) c.args.times (hop_of c.args.step) (omega (arith, c.if-times-eq0.true))

pub returns : goal.returns
returns t c =
    let count : c.args.times ≡ suc (c.args.times - 1) = omega (arith, c.if-times-eq0.false) in
    made_once (hops_of c.args.play) (hops_of c.push.new.self) _ c.args.times (c.args.times - 1) (hop_of c.args.step)
    (c.push.ensures.room.0 c.if-not-push.false) c.if-not-push.ensures.pushed count c.with_times.ensures

pub returns-then-not-push : goal.returns-then-not-push
returns-then-not-push t c =
    let count : c.args.times ≡ suc (c.args.times - 1) = omega (arith, c.if-times-eq0.false) in
    no_room (hops_of c.args.play) c.args.times (c.args.times - 1) (hop_of c.args.step)
    (was_full c.push.result (length (hops_of c.args.play)) c.push.ensures.room.1 c.if-not-push.true) count
