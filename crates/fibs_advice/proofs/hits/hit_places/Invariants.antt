use Rattle.std.proofs.Common.{◌≡◌}
use Rattle.fibs_position.specs.PositionValue.{position_value}
use Rattle.fibs_rules.specs.PlayValue.{hops_of}
use Rattle.fibs_advice.specs.Hits.{hit_on}
use Rattle.fibs_advice.proofs.hits.hit_places.Given as goal

-- the places so far on which the play hits
abbrev pub invariant-loop-nearer : goal.invariant-loop-nearer
invariant-loop-nearer l =
    l.places.items ≡ hit_on l.roller (position_value l.before).standing.checkers (hops_of l.play) l.nearer
