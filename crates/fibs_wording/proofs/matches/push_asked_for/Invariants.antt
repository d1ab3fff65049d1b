use Rattle.std.proofs.Common.{◌≡◌, ◌++◌, List, Bor, map, ℕ}
use Rattle.fibs_wording.specs.MatchRows.{AreSaid}
use Rattle.fibs_wording.specs.declared.matches.PlayedMatch.{PlayedMatch}
use Rattle.fibs_wording.proofs.matches.push_asked_for.Given as goal

-- the lines so far say the matches so far
abbrev pub invariant-loop-line : goal.invariant-loop-line
invariant-loop-line l =
    (asked : List PlayedMatch) × (l.found.items ≡ l.fn.found.items ++ asked)
    × AreSaid l.name (map (λ (line : Bor (List ℕ)). line.now) l.yielded) asked
