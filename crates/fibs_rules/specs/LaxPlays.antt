-- Plays as the server carries them out: it asks for less than the rules do.
use Rattle.std.specs.Prelude.{◌≡◌, ◌<◌, ◌&&◌, nat_lt, List, [], ◌∷◌, slice_index, Option, Some, None, if◌then◌else◌}
use Rattle.fibs_rules.specs.Hop.{Hop}
use Rattle.fibs_rules.specs.Checkers.{Checkers, IsOpen, moved, is_open}

-- one step as the server carries it out: it asks only for a checker and for a place that is open
pub record LaxOne (p : Checkers) (step : Hop) (q : Checkers) : Type 0 where
  pub occupied : 0 < slice_index p.own step.source
  pub free : IsOpen p step.target
  pub leads : q ≡ moved p step.source step.target

-- such steps one after another
abbrev pub LaxRun : Checkers → List Hop → Checkers → Type 0
LaxRun p [] q = p ≡ q
LaxRun p (step ∷ steps) q = (r : Checkers) × LaxOne p step r × LaxRun r steps q

-- ---- the same as functions

-- one step as the server carries it out
abbrev pub lax_one : Checkers → Hop → Option Checkers
lax_one p step =
    if nat_lt 0 (slice_index p.own step.source) && is_open p step.target
    then Some (moved p step.source step.target)
    else None

-- what follows from an arrangement, if there is one
abbrev pub lax_then : (Checkers → Option Checkers) → Option Checkers → Option Checkers
lax_then more None = None
lax_then more (Some q) = more q

-- a play as the server carries it out
abbrev pub lax_of : Checkers → List Hop → Option Checkers
lax_of p [] = Some p
lax_of p (step ∷ steps) = lax_then (λ q. lax_of q steps) (lax_one p step)
