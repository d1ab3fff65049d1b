-- The phase of the position is told by its number.
use Rattle.std.proofs.Common.{refl, inr}
use Rattle.fibs_position.specs.PositionValue.{position_value}
use Rattle.fibs_c.proofs.positions.fibs_phase.Goals as goal

pub returns-in-Ok : goal.returns-in-Ok
returns-in-Ok c = inr (record {
  position = position_value c.in-Ok.position;
  is = c.in-Ok.ensures.position;
  phase = c.phase.result;
  fits = c.phase.ensures.first;
  number = c.number_of.ensures;
  done = refl;
})
