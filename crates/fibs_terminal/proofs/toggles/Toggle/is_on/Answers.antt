use Rattle.std.proofs.Common.{sym, arith}
use Rattle.fibs_terminal.proofs.TogglesLemmas.{flipped-even, flipped-odd}
use Rattle.fibs_terminal.proofs.toggles.Toggle.is_on.Goals as goal

pub returns-then-self-eq0 : goal.returns-then-self-eq0
returns-then-self-eq0 c =
    sym (flipped-even c.args.self.unanswered c.args.self.told (grind (arith, c.if-self-eq0.true)))

pub returns-else-self-eq0 : goal.returns-else-self-eq0
returns-else-self-eq0 c =
    sym (flipped-odd c.args.self.unanswered c.args.self.told (grind (arith, c.if-self-eq0.false)))
