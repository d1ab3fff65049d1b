use Rattle.std.proofs.Common.{true, false}
use Rattle.std.proofs.lemmas.Str.Ascii.{trim_ascii_start_is}
use Rattle.fibs_terminal.proofs.SendingLemmas.{says}
use Rattle.fibs_terminal.proofs.sending.after_send.Goals as goal

pub returns-then-is_send : goal.returns-then-is_send
returns-then-is_send c = says c.args.line.now c.trim_ascii_start.result.now c.split.result.0.now true
    (trim_ascii_start_is c.args.line.now c.trim_ascii_start.result.now c.trim_ascii_start.ensures.value)
    c.split.ensures.before c.if-is_send.ensures

pub returns-else-is_send : goal.returns-else-is_send
returns-else-is_send c = says c.args.line.now c.trim_ascii_start.result.now c.split.result.0.now false
    (trim_ascii_start_is c.args.line.now c.trim_ascii_start.result.now c.trim_ascii_start.ensures.value)
    c.split.ensures.before c.if-is_send.ensures
