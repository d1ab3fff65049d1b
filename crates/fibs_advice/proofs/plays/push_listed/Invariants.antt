use Rattle.std.proofs.Common.{◌≡◌, ◌++◌, take}
use Rattle.fibs_advice.specs.Listings.{chosen}
use Rattle.fibs_advice.proofs.plays.push_listed.Given as goal

-- those that are listed of the moves so far
abbrev pub invariant-loop-play : goal.invariant-loop-play
invariant-loop-play l = l.found.items ≡ l.initial.found.items ++ chosen l.listing (take l.play-index l.plays)
