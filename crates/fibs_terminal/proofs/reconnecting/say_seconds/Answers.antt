use Rattle.std.proofs.Common.{codes, decimal}
use Rattle.fibs_wording.proofs.GrowingLemmas.{three-joined}
use Rattle.fibs_terminal.proofs.reconnecting.say_seconds.Goals as goal

pub returns : goal.returns
returns c =
    three-joined c.say-2.result c.args.page.now.text.items c.args.before.now (decimal c.args.seconds)
    (codes " s; stay leaves it closed, quit ends\n") _ _ _ c.in_ok-say.ensures.said c.in_ok-append_number.ensures.put
    c.say-2.ensures.said
