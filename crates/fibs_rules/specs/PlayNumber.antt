-- Plays as numbers. Only private functions and proofs use this file: no public clause rests on it.
use Rattle.std.specs.Prelude.{ℕ, ◌+◌, ◌*◌, List, [], ◌∷◌}
use Rattle.fibs_rules.specs.declared.step.Step.{Step}

-- the places of steps as the bytes of a number, the first step's highest, after those of another number
abbrev pub number_from : ℕ → List Step → ℕ
number_from above [] = above
number_from above (step ∷ steps) = number_from ((above * 256 + step.source) * 256 + step.target) steps
