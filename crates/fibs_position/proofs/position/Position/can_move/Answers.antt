use Rattle.std.proofs.lemmas.Bool.Decides.{same_from_decides}
use Rattle.fibs_position.specs.PositionValue.{position_value}
use Rattle.fibs_rules.specs.Runs.{can_move}
use Rattle.fibs_position.proofs.DecidingLemmas.PhaseTable.{SmallDice, can_move_decides}
use Rattle.fibs_position.proofs.position.Position.can_move.Goals as goal

pub returns : goal.returns
unfolding position_value
returns c =
    let p = (position_value c.args.self.now).standing in
    let small : SmallDice p = record { first = c.args.self.now.first; second = c.args.self.now.second } in
    same_from_decides c.can_move.result (can_move p) c.can_move.ensures (can_move_decides p small)
