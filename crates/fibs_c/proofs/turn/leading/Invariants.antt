use Rattle.std.proofs.Common.{take}
use Rattle.std.specs.List.{All}
use Rattle.fibs_fields.specs.StoredBoard.{fields_of}
use Rattle.fibs_position.specs.GameOf.{game_of}
use Rattle.fibs_rules.specs.PlayValue.{hops_of}
use Rattle.fibs_c.specs.TurnDoor.{LeadsTo}
use Rattle.fibs_c.proofs.turn.leading.Given as goal

-- none of the plays so far leads there
abbrev pub invariant-loop-play : goal.invariant-loop-play
invariant-loop-play l =
    All (λ play. ¬ LeadsTo (game_of l.game) (hops_of play) (fields_of l.after)) (take l.play-index l.plays)
