use Rattle.std.proofs.Common.{◌≡◌, sym, ap, subst, false}
use Rattle.std.specs.Prelude.{IfNone, IfOk, option_map}
use Rattle.fibs_fields.specs.Board.{BoardFields}
use Rattle.fibs_position.specs.GameOf.{game_of}
use Rattle.fibs_events.specs.Ends.{is_next_game}
use Rattle.fibs_events.specs.Happenings.{NonePlayed}
use Rattle.fibs_events.specs.declared.happened.Happened.{Happened}
use Rattle.fibs_events.proofs.FindingLemmas.{something_is_it}
use Rattle.fibs_events.proofs.memory.Events.hear_game.Goals as goal

pub returns-clause-unplayed : goal.returns-clause-unplayed
returns-clause-unplayed c =
    let game = game_of c.args.game.now in
    λ before going.
    let is : game_of c.in-Some.before ≡ before =
    something_is_it going.known (ap (option_map game_of) c.in-Some.is) in
    subst (λ (b : BoardFields). IfOk c.hear_after.result
    (λ (happened : Happened). IfNone happened.played (NonePlayed b game))) is
    (c.hear_after.ensures.unplayed
    (subst (λ (b : BoardFields). is_next_game b game c.args.self.now.game.is_over ≡ false) (sym is) going.same))
