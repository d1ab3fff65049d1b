use Rattle.std.proofs.Common.{sym, subst, Option}
use Rattle.std.specs.Prelude.{IfNone}
use Rattle.fibs_fields.specs.Board.{BoardFields}
use Rattle.fibs_fields.specs.StoredBoard.{fields_of}
use Rattle.fibs_position.specs.GameOf.{game_of}
use Rattle.fibs_events.specs.Happenings.{NonePlayed}
use Rattle.fibs_events.specs.declared.happened.Turned.{Turned}
use Rattle.fibs_events.proofs.memory.Events.hear_after.Goals as goal

pub returns-clause-unplayed : goal.returns-clause-unplayed
returns-clause-unplayed c =
    let before = game_of c.args.before.now in
    λ same. subst (λ (b : BoardFields). IfNone c.hear_more.result.played (NonePlayed before b)) c.board.ensures.value
    (subst (λ (o : Option Turned). IfNone o (NonePlayed before (fields_of c.board.result.now)))
    (sym c.hear_more.ensures.played) c.in_ok-played.ensures.none)
