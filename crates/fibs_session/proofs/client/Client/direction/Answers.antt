use Rattle.std.proofs.Common.{◌∙◌, ap, sym, Bor, Option, Some, option_map}
use Rattle.std.specs.Option.{option_copied}
use Rattle.fibs_position.specs.DirectionOf.{direction_of}
use Rattle.fibs_position.specs.GameOf.{game_of}
use Rattle.fibs_position.specs.declared.direction.Direction.{Direction}
use Rattle.fibs_position.specs.declared.game_board.GameBoard.{GameBoard}
use Rattle.fibs_session.proofs.client.Client.direction.Goals as goal

-- the direction of a board that is lent
abbrev lent : Option (Bor GameBoard) → Option Direction
lent game = option_map direction_of (option_map game_of (option_copied game))

pub returns-in-None : goal.returns-in-None
returns-in-None c = λ t at. ap lent (sym c.in-None.is) ∙ ap (option_map direction_of) (c.game.ensures t at)

pub returns-in-Some : goal.returns-in-Some
returns-in-Some c = λ t at. ap Some c.direction.ensures ∙ ap lent (sym c.in-Some.is)
    ∙ ap (option_map direction_of) (c.game.ensures t at)
