use Rattle.std.proofs.Common.{length, ◌≡◌, ◌≤◌, drop, get_or}
use Rattle.fibs_rules.specs.Search.{longest_by}
use Rattle.fibs_rules.proofs.search.+longest_from.Given as goal

abbrev pub decreases-longest_from : goal.decreases-longest_from
decreases-longest_from l = length l.dice.now

abbrev pub invariant-loop-place : goal.invariant-loop-place
invariant-loop-place l = record {
  best : l.best ≡ longest_by l.p (get_or l.dice 0 0) (drop 1 l.dice) l.place;
  short : l.best ≤ length l.dice;
}
