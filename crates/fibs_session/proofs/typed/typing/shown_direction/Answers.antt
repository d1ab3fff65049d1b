use Rattle.std.proofs.Common.{◌≡◌, ◌∙◌, ap, refl, Option, Some, None, option_map}
use Rattle.std.specs.Prelude.{unwrap_or}
use Rattle.fibs_fields.specs.Board.{BoardFields}
use Rattle.fibs_position.specs.DirectionOf.{direction_of}
use Rattle.fibs_position.specs.declared.direction.Direction.TheVariants.{Down}
use Rattle.fibs_session.specs.History.Machine.{shown_now}
use Rattle.fibs_session.specs.Typing.{shown_direction}
use Rattle.fibs_session.proofs.typed.typing.shown_direction.Goals as goal

-- it is the direction of a board, if there is one, and else down
directed : (shown : Option BoardFields) → unwrap_or (option_map direction_of shown) Down ≡ shown_direction shown
directed None = refl
directed (Some b) = refl

pub returns : goal.returns
returns c = λ t at. c.unwrap_or.ensures
    ∙ ap (λ d. unwrap_or d Down) (c.direction.ensures t at) ∙ directed (shown_now t)
