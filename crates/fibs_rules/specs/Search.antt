-- What the code computes as it collects the plays. Only proofs use this file: no public clause rests on it.
use Rattle.std.specs.Prelude.{ℕ, zero, suc, ◌-◌, ◌<◌, ◌≤◌, ◌==◌, ◌&&◌, max, List, [], ◌∷◌, ◌++◌, take, Option, Some, None, if◌then◌else◌, option_map}
use Rattle.std.specs.Ordering.{is_lt}
use Rattle.std.specs.HashMap.{HashMap, get}
use Rattle.fibs_rules.specs.Hop.{Hop}
use Rattle.fibs_rules.specs.Checkers.{Checkers}
use Rattle.fibs_rules.specs.OneChecker.{one_of}
use Rattle.fibs_rules.specs.Runs.{Standing, held_of, best_of, most_of}
use Rattle.fibs_rules.specs.LegalPlays.{play_cmp, are_two, larger_first}
use Rattle.fibs_rules.specs.PlayValue.{hops_of}
use Rattle.fibs_rules.specs.Reached.{checkers_eq}
use Rattle.fibs_rules.specs.ReachedValue.{reached_eq}
use Rattle.fibs_rules.specs.declared.play.Play.{Play}
use Rattle.fibs_rules.specs.declared.reached.Reached.{Reached}

-- dice of a cube
abbrev pub AreDice : List ℕ → Type 0
AreDice [] = Unit {0}
AreDice (die ∷ dice) = (0 < die) × (die ≤ 6) × AreDice dice

-- a play, and the arrangement that it leads to
pub record Reach : Type 0 where
  pub play : List Hop
  pub leads : Checkers

-- what follows from an arrangement, and nothing if there is no arrangement
abbrev pub onward : (Checkers → List Reach) → Option Checkers → List Reach
onward more None = []
onward more (Some q) = more q

-- what goes on after one step by this die from a place up to n
unfoldable pub reach_by : (Hop → Checkers → List Reach) → Checkers → ℕ → ℕ → List Reach
reach_by more p die zero = []
reach_by more p die (suc n) =
    reach_by more p die n ++ onward (more (record { source = suc n; target = suc n - die })) (one_of p (suc n) die)

-- the highest place from which the step after one by this die is tried: after a step by the same die its own place,
-- since two such steps may be played in either order
abbrev pub next_top : ℕ → List ℕ → ℕ → ℕ
next_top die [] source = 25
next_top die (next ∷ dice) source = if next == die then source else 25

-- the runs by just these dice that are tried, after the steps of a play: the first step from a place up to top, and
-- each from no higher place than the one before, since two steps may be played in either order
abbrev pub reaches : Checkers → List ℕ → ℕ → List Hop → List Reach
reaches p [] top play = record { play = play; leads = p } ∷ []
reaches p (die ∷ dice) top play =
    reach_by (λ hop q. reaches q dice hop.source (play ++ hop ∷ [])) p die top

-- the reaches of one die and others, from a place up to n
unfoldable pub reaches_by : Checkers → ℕ → List ℕ → List Hop → ℕ → List Reach
reaches_by p die dice play n =
    reach_by (λ hop q. reaches q dice hop.source (play ++ hop ∷ [])) p die n

-- how many of these dice can be played one after another by what is tried, the first step from a place up to top
abbrev pub longest_tried : Checkers → List ℕ → ℕ → ℕ
longest_tried p [] top = 0
longest_tried p (die ∷ dice) top =
    best_of (λ source q. suc (longest_tried q dice (next_top die dice source))) p die top

-- the same for one die and others, from a place up to n
unfoldable pub longest_by : Checkers → ℕ → List ℕ → ℕ → ℕ
longest_by p die dice n = best_of (λ source q. suc (longest_tried q dice (next_top die dice source))) p die n

-- the greater of a play that is kept, if there is one, and a play that is found
abbrev pub greater : Option (List Hop) → List Hop → List Hop
greater None found = found
greater (Some kept) found = if is_lt (play_cmp kept found) then found else kept

-- a play for each arrangement that is reached
abbrev pub Kept : Type 0
Kept = Checkers → Option (List Hop)

-- none yet
abbrev pub nothing : Kept
nothing q = None

-- after one more is found, the greater is kept for the arrangement that it leads to
abbrev pub noted : Kept → Reach → Kept
noted kept found q =
    if checkers_eq found.leads q then Some (greater (kept q) found.play) else kept q

-- what a map keeps
abbrev pub kept_in : {S : Type 0} → HashMap Reached Play S → Kept
kept_in m q = option_map hops_of (get reached_eq m (record { at = q }))

-- the runs of the greatest length that are tried in one order of the dice
abbrev pub all_in_order : Standing → ℕ → ℕ → List Reach
all_in_order p a b = reaches p.checkers (take (most_of p) (held_of a b)) 25 []

-- all runs that are tried: of the larger die alone if that is the rule, else in each order of the dice
abbrev pub all_of : Standing → List Reach
all_of p =
    if (most_of p == 1) && larger_first p
    then reaches p.checkers (max p.first p.second ∷ []) 25 []
    else (if are_two p.first p.second
    then all_in_order p p.first p.second ++ all_in_order p p.second p.first
    else all_in_order p p.first p.second)
