use Rattle.std.proofs.Common.{inr}
use Rattle.fibs_terminal.proofs.screen.Screen.end_match.Goals as goal

pub returns-clause-ends : goal.returns-clause-ends
returns-clause-ends c = inr (c.in-Some.ending.score, c.end_with.ensures.ends)
