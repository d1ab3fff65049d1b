-- One checker's way.
use Rattle.std.specs.Prelude.{ℕ, ◌<◌, ◌≤◌, Bool, ◌&&◌, ◌==◌}
use Rattle.fibs_rules.specs.declared.step.Step.{Step}

-- from a place to a place
pub record Hop : Type 0 where
  pub source : ℕ
  pub target : ℕ

-- a step that a checker can make: from a place or the bar, to a place or off
abbrev pub IsStep : Hop → Type 0
IsStep step = (0 < step.source) × (step.source ≤ 25) × (step.target ≤ 24)

-- ---- the steps of the program as values

-- a step's places
abbrev pub hop_of : Step → Hop
hop_of step = record { source = step.source; target = step.target }

-- the step that fills the places of a play that are not in use
abbrev pub is_blank : Step → Bool
is_blank step = (step.source == 1) && (step.target == 0)
