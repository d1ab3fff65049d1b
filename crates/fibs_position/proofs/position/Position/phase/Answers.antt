use Rattle.std.proofs.Common.{sym}
use Rattle.fibs_position.specs.PositionValue.{position_value}
use Rattle.fibs_position.proofs.DecidingLemmas.PhaseTable.{SmallDice, phase_exact}
use Rattle.fibs_position.proofs.position.Position.phase.Goals as goal

pub returns-clause-first : goal.returns-clause-first
unfolding position_value
returns-clause-first c =
    let small : SmallDice (position_value c.args.self.now).standing =
    record { first = c.args.self.now.first; second = c.args.self.now.second } in
    (phase_exact (position_value c.args.self.now) _ small).0 (sym c.phase_by_table.ensures)
