use Rattle.std.proofs.Common.{◌≡◌, ◌++◌, take, map}
use Rattle.std.specs.List.{flat_map}
use Rattle.fibs_rules.specs.PlayValue.{hops_of}
use Rattle.fibs_show.specs.Plays.{play_line}
use Rattle.fibs_show.proofs.plays.listing.Given as goal

abbrev pub invariant-loop-play : goal.invariant-loop-play
invariant-loop-play l = l.text.items ≡ l.initial.text.items ++ flat_map (play_line l.direction)
    (map hops_of (take l.play-index l.plays))
