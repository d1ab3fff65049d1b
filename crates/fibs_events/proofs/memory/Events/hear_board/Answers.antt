use Rattle.std.proofs.Common.{sym, subst}
use Rattle.std.specs.Prelude.{IfNone}
use Rattle.fibs_fields.specs.Board.{BoardFields}
use Rattle.fibs_events.specs.Happenings.{NonePlayed}
use Rattle.fibs_events.specs.Known.{IsGoingOn}
use Rattle.fibs_events.proofs.memory.Events.hear_board.Goals as goal

pub returns-clause-unplayed : goal.returns-clause-unplayed
returns-clause-unplayed c =
    λ before going.
    subst (λ (b : BoardFields). IfNone c.in_ok-happened.happened.played (NonePlayed before b))
    c.in-Ok.ensures.board
    (c.in_ok-happened.ensures.unplayed before
    (subst (λ (b : BoardFields). IsGoingOn c.args.self.now before b) (sym c.in-Ok.ensures.board) going))
