use Rattle.std.proofs.Common.{◌+◌, ℕ, ap, ◌∙◌}
use Rattle.fibs_position.specs.PositionValue.{position_value}
use Rattle.fibs_json.specs.Boards.{own_numbered}
use Rattle.fibs_json.proofs.ObjectLemmas.{checkers_more}
use Rattle.fibs_json.proofs.boards.checkers_of.Goals as goal

pub loop-place-preserved : goal.loop-place-preserved
loop-place-preserved c = (
  checkers_more (own_numbered c.args.side (position_value c.args.position.now).standing.checkers)
      c.loop-place.checkers.items c.push.new.self.items c.loop-place.place c.own_numbered.result
      c.loop-place.invariant.0 c.push.ensures.items c.own_numbered.ensures.value,
  c.push.ensures.len ∙ ap (λ (n : ℕ). n + 1) c.loop-place.invariant.1,
)
