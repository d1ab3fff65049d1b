-- The reason against a decision is told by its status.
use Rattle.std.proofs.Common.{ap, subst, inr, ◌∙◌}
use Rattle.std.specs.Prelude.{Option}
use Rattle.fibs_position.specs.DecisionValue.{DecisionValue}
use Rattle.fibs_position.specs.PositionValue.{position_value}
use Rattle.fibs_c.specs.Records.Statuses.{allowed_status}
use Rattle.fibs_c.specs.PositionDoor.{IsAllowedTold}
use Rattle.fibs_c.proofs.positions.fibs_allows.Goals as goal

pub returns-in-Err-allows : goal.returns-in-Err-allows
returns-in-Err-allows c =
    subst (λ (d : Option DecisionValue). IsAllowedTold c.args.line.now d c.disallowed_status.result) c.in-Some.ensures
    (inr (record {
      position = position_value c.in-Ok.position;
      is = c.in-Ok.ensures.position;
      status_is = c.disallowed_status.ensures ∙ ap allowed_status c.in-Err-allows.ensures.value;
    }))
