use Rattle.std.proofs.Common.{[], refl, sym, append-nil, arith}
use Rattle.fibs_cli.proofs.LogLemmas.{shown_next, shown_all}
use Rattle.fibs_cli.proofs.objects.entries.append_log.Goals as goal

pub loop-entry-init : goal.loop-entry-init
loop-entry-init c = ([], refl, sym (append-nil c.args.text.now.items))

pub loop-entry-preserved : goal.loop-entry-preserved
loop-entry-preserved c =
    shown_next c.args.log.now c.loop-entry.entry-index c.entry-item.result c.args.text.now.items
    c.loop-entry.text.items c.append_object.new.text.items c.loop-entry-test.true c.entry-item.is
    c.loop-entry.invariant c.in_ok-append_object.ensures

pub returns : goal.returns
returns c =
    shown_all c.args.log.now c.loop-entry.entry-index c.args.text.now.items c.loop-entry.text.items
    (omega (arith, c.loop-entry-test.false))
    c.loop-entry.invariant
