use Rattle.std.proofs.Common.{◌≡◌, map, take, drop, length}
use Rattle.fibs_rules.specs.PlayValue.{hops_of}
use Rattle.fibs_c.specs.Records.Decisions.{as_move, move_in}
use Rattle.fibs_c.proofs.positions.put_plays.Given as goal

abbrev pub invariant-loop-i : goal.invariant-loop-i
invariant-loop-i l =
    (map move_in (take l.i l.room) ≡ map as_move (map hops_of (take l.i l.plays)))
    × (length l.room ≡ length l.initial.room)
    × (drop (length l.plays) l.room ≡ drop (length l.plays) l.initial.room)
