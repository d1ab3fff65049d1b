-- Which legal moves of a board are listed (the project's own).
use Rattle.std.specs.Prelude.{◌≡◌, ◌≤◌, ◌<◌, ◌==◌, ◌++◌, ◌∷◌, ℕ, Bool, true, List, [], codes, length, Option, Some, None}
use Rattle.std.specs.List.{filter, list_any}
use Rattle.fibs_commands.specs.Commands.{command_of}
use Rattle.fibs_position.specs.DecisionValue.{move}
use Rattle.fibs_position.specs.declared.direction.Direction.{Direction}
use Rattle.fibs_rules.specs.Checkers.{Checkers}
use Rattle.fibs_rules.specs.Hop.{Hop}
use Rattle.fibs_rules.specs.PlayValue.{hops_of}
use Rattle.fibs_rules.specs.declared.play.Play.{Play}
use Rattle.fibs_advice.specs.Hits.{hit_on, listed}
use Rattle.fibs_advice.specs.declared.hits.Roller.TheVariants.{Own}
use Rattle.fibs_advice.specs.declared.plays.Listing.{Listing}

-- all, from the first on
abbrev pub all_plays : Listing
all_plays = record { from = None; listed = 0 }

-- a step of a move leaves a place
abbrev pub leaves : ℕ → List Hop → Bool
leaves place steps = list_any (λ step. step.source == place) steps

-- a move is listed: all are, or those that move a checker from a place
abbrev pub is_listed : Option ℕ → List Hop → Bool
is_listed None steps = true
is_listed (Some place) steps = leaves place steps

-- those of some moves, in their order
abbrev pub chosen : Listing → List Play → List Play
chosen l plays = filter (λ play. is_listed l.from (hops_of play)) plays

-- those from a place, from the first on; None if it is no place
abbrev pub listing_from : Option ℕ → Option Listing
listing_from None = None
listing_from (Some place) = Some (record { from = Some place; listed = 0 })

-- what is listed next, of so many moves: those from the same place, and further on if there were others
pub record GoesOn (l next : Listing) (count : ℕ) : Type 0 where
  pub from : next.from ≡ l.from
  pub further : l.listed < count → l.listed < next.listed
  pub within : next.listed ≤ count

-- of a board on which nothing can be moved nothing is listed
abbrev pub IsNext : Listing → Listing → List Play → Type 0
IsNext l next [] = next ≡ l
IsNext l next (play ∷ plays) = GoesOn l next (length (chosen l (play ∷ plays)))

-- where a move hits, in words, if it does
abbrev pub hits_said : Direction → List ℕ → List ℕ
hits_said way [] = []
hits_said way (far ∷ places) = codes ", hits on " ++ listed way (far ∷ places)

-- a move in a row, and where it hits, by numbers by which the user goes this way
abbrev pub told_row : Direction → Checkers → List Hop → List ℕ
told_row way c steps = codes "  " ++ (command_of way (move steps) ++ (hits_said way (hit_on Own c steps 24) ++ 10 ∷ []))
