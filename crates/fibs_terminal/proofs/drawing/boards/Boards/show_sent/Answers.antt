use Rattle.std.proofs.Common.{inr}
use Rattle.fibs_terminal.proofs.drawing.boards.Boards.show_sent.Goals as goal

pub returns : goal.returns
returns c = inr (c.in-Some.sent, c.in-Some.ensures, c.in_ok-append_sent.ensures)
