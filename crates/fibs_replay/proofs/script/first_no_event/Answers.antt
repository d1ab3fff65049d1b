use Rattle.std.proofs.Common.{◌∙◌, ap, not}
use Rattle.fibs_replay.proofs.ScriptLemmas.Scripts.{read_more}
use Rattle.fibs_replay.proofs.script.first_no_event.Goals as goal

pub loop-line-preserved : goal.loop-line-preserved
loop-line-preserved c =
    read_more c.args.lines.now c.loop-line.lines c.next.new.self c.in-Some.line.now c.loop-line.number
    c.read_event.result
    c.loop-line.invariant c.in-Some.ensures.steps (c.is_none.ensures ∙ ap not c.if-is_none.false)
    c.read_event.ensures.exact
