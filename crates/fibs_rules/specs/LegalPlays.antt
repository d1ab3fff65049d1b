-- Legal plays, and the list of them (rules of backgammon).
use Rattle.std.specs.Prelude.{◌≡◌, ◌≢◌, ◌↔◌, ℕ, ◌<◌, ◌≤◌, ◌==◌, ◌&&◌, ◌||◌, not, nat_lt, Bool, max, List, [], ◌∷◌, length, Contains, if◌then◌else◌}
use Rattle.std.specs.declared.cmp.Ordering.TheVariants.{Greater}
use Rattle.std.specs.declared.cmp.Ordering.{Ordering}
use Rattle.std.specs.Ordering.{ordering_then, nat_cmp}
use Rattle.std.specs.Cmp.Lexicographic.{slice_cmp}
use Rattle.std.specs.List.{AllAdjacentBelow}
use Rattle.fibs_rules.specs.Hop.{Hop}
use Rattle.fibs_rules.specs.Checkers.{Checkers}
use Rattle.fibs_rules.specs.Runs.{Run, RunOf, CanPlay, Standing, held, held_of, most_of, follows, can_play}

-- two different dice are held, and this is the larger
abbrev pub IsLarger : Standing → ℕ → Type 0
IsLarger p die = (0 < p.first) × (0 < p.second) × (p.first ≢ p.second) × (die ≡ max p.first p.second)

-- A run than which no run is longer. If that is one step, and the larger of two different dice can be played,
-- a run of the larger.
pub record LegalPlay (p : Standing) (steps : List Hop) : Type 0 where
  pub run : (q : Checkers) × RunOf p.checkers (held p) steps q
  pub longest : (others : List Hop) (q : Checkers) → RunOf p.checkers (held p) others q → length others ≤ length steps
  pub larger : (die : ℕ) → IsLarger p die → length steps ≡ 1 → CanPlay p.checkers die
      → (q : Checkers) × Run p.checkers (die ∷ []) steps q

-- steps by source, then by target
abbrev pub hop_cmp : Hop → Hop → Ordering
hop_cmp a b = ordering_then (nat_cmp a.source b.source) (nat_cmp a.target b.target)

-- plays by their first steps, then by their second, and so on
abbrev pub play_cmp : List Hop → List Hop → Ordering
play_cmp = slice_cmp hop_cmp

-- a legal play that leads to this arrangement
abbrev pub Leads : Standing → List Hop → Checkers → Type 0
Leads p steps q = LegalPlay p steps × RunOf p.checkers (held p) steps q

-- a legal play that is the greatest of those that lead to the same arrangement
pub record IsGreatest (p : Standing) (steps : List Hop) : Type 0 where
  pub to : Checkers
  pub leads : Leads p steps to
  pub greatest : (others : List Hop) → Leads p others to → play_cmp others steps ≢ Greater

-- for each arrangement that a legal play reaches, the greatest such play, in descending order
pub record PlayList (p : Standing) (plays : List (List Hop)) : Type 0 where
  pub each : (steps : List Hop) → Contains plays steps ↔ IsGreatest p steps
  pub descending : AllAdjacentBelow (λ a b. play_cmp a b ≡ Greater) plays (length plays)

-- ---- the rule of legal plays as a function

-- two different dice are held
abbrev pub are_two : ℕ → ℕ → Bool
are_two a b = nat_lt 0 a && (nat_lt 0 b && not (a == b))

-- two different dice are held and the larger can be played
abbrev pub larger_first : Standing → Bool
larger_first p = are_two p.first p.second && can_play p.checkers (max p.first p.second)

-- the steps are as many as can be played, and can be played by the dice that the rule leaves
abbrev pub legal_of : Standing → List Hop → Bool
legal_of p steps =
    (length steps == most_of p)
    && (if (length steps == 1) && larger_first p
    then follows p.checkers (max p.first p.second ∷ []) steps
    else follows p.checkers (held_of p.first p.second) steps || follows p.checkers (held_of p.second p.first) steps)
