use Rattle.std.proofs.Common.{◌≡◌, ◌∙◌, sym, ap, subst}
use Rattle.std.specs.Prelude.{IfNone, IfOk}
use Rattle.fibs_fields.specs.Board.{BoardFields}
use Rattle.fibs_fields.specs.StoredBoard.{fields_of}
use Rattle.fibs_messages.specs.Line.{board_line, reading_of}
use Rattle.fibs_events.specs.Happenings.{NonePlayed}
use Rattle.fibs_events.specs.Known.{IsGoingOn}
use Rattle.fibs_events.specs.declared.happened.Happened.{Happened}
use Rattle.fibs_events.proofs.memory.Events.hear.Goals as goal

pub returns-in-Board-clause-unplayed : goal.returns-in-Board-clause-unplayed
returns-in-Board-clause-unplayed c =
    λ before b is going.
    let line : board_line (fields_of c.in-Board.board) ≡ board_line b = sym (ap reading_of c.in-Board.is) ∙ is in
    let same : fields_of c.in-Board.board ≡ b = cc in
    subst (λ (f : BoardFields). IfOk c.hear_board.result
    (λ (happened : Happened). IfNone happened.played (NonePlayed before f))) same
    (c.hear_board.ensures.unplayed before
    (subst (λ (f : BoardFields). IsGoingOn c.args.self.now before f) (sym same) going))
