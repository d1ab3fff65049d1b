use Rattle.std.proofs.Common.{ap, sym, ◌∙◌}
use Rattle.fibs_model.specs.Refusals.{is_board_text}
use Rattle.fibs_model.proofs.wire.is_board_text.Goals as goal

pub returns-in-Some : goal.returns-in-Some
returns-in-Some c = c.reads_as_board.ensures ∙ sym (ap is_board_text c.in-Some.ensures.line)
