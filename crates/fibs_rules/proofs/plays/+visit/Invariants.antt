use Rattle.std.proofs.Common.{length, ◌≡◌, drop, get_or}
use Rattle.std.specs.List.{fold}
use Rattle.fibs_rules.specs.PlayValue.{hops_of}
use Rattle.fibs_rules.specs.Search.{kept_in, noted, reaches_by}
use Rattle.fibs_rules.proofs.plays.+visit.Given as goal

abbrev pub decreases-visit : goal.decreases-visit
decreases-visit l = length l.dice.now

abbrev pub invariant-loop-place : goal.invariant-loop-place
invariant-loop-place l =
    kept_in l.kept ≡ fold noted (kept_in l.fn.kept)
    (reaches_by l.p (get_or l.dice 0 0) (drop 1 l.dice) (hops_of l.play) l.place)
