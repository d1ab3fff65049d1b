-- The function of phases is the table: the phase of a position is the first line that fits.
use Rattle.std.proofs.Common.{◌≡◌, ℕ, ◌≤◌, [], ◌∷◌, Some, lit≤, refl, sym, ap, ◌∙◌, arith}
use Rattle.std.specs.Prelude.{ℤ, pos, negsuc, nat_eq, ◌↔◌, ◌≤ℤ◌, find, unwrap_or}
use Rattle.std.specs.Bool.{Decides}
use Rattle.std.specs.Ordering.{int_eq}
use Rattle.std.proofs.lemmas.Int.{ints}
use Rattle.std.proofs.lemmas.Bool.Decides.{Decides-and, Decides-not, Decides-eqb, Decides-int_eq}
use Rattle.fibs_fields.specs.Board.{BoardFields, IsBoard, field_of}
use Rattle.fibs_fields.specs.FieldRanges.{FieldRanges}
use Rattle.fibs_fields.specs.FieldReading.{natural}
use Rattle.fibs_position.specs.PositionValue.{PositionValue, position_of}
use Rattle.fibs_rules.specs.Runs.{Standing, CanMove, can_move}
use Rattle.fibs_position.specs.Phases.{PhaseFits, phases, InPhase, phase_fits, phase_in}
use Rattle.fibs_position.specs.declared.phase.Phase.{Phase}
use Rattle.fibs_position.specs.declared.phase.Phase.TheVariants.{Over, AnswerDouble, OpponentActs, RollOrDouble, Move, Passing}
use Rattle.fibs_position.proofs.DecidingLemmas.FirstFit.{find_first, find_some}
use Rattle.fibs_rules.proofs.SearchLemmas.SomeStep.{can_sound, can_complete}

-- no die shows more than 6
pub record SmallDice (p : Standing) : Type 0 where
  pub first : p.first ≤ 6
  pub second : p.second ≤ 6

-- a number of 6 at most is so as a natural number
natural_small : (z : ℤ) → z ≤ℤ pos 6 → natural z ≤ 6
natural_small (pos n) h = omega (arith, ints)
natural_small (negsuc n) h = omega arith

-- no field of a die is above 6
die_small : FieldRanges → (b : BoardFields) → IsBoard b → (n : ℕ) → 34 ≤ n → n ≤ 37 → natural (field_of b n) ≤ 6
die_small ranges b board n low high =
    natural_small (field_of b n)
    ((ranges.dice n (field_of b n) low high).0 (ranges.held b n board (omega arith) (omega arith))).1

-- so are the dice of a board
pub board_dice : FieldRanges → (b : BoardFields) → IsBoard b → SmallDice (position_of b).standing
board_dice ranges b board =
    record {
      first = die_small ranges b board 34 (lit≤ tt) (lit≤ tt);
      second =
          die_small ranges b board 35 (lit≤ tt) (lit≤ tt);
    }

-- some die can be played exactly if a run has a step
pub can_move_decides : (p : Standing) → SmallDice p → Decides (can_move p) (CanMove p)
can_move_decides p small = (can_sound p small.first small.second, can_complete p)

-- each line's test is true exactly if the line fits
fits_decides : (p : PositionValue) → SmallDice p.standing → (phase : Phase)
    → Decides (phase_fits p phase) (PhaseFits p phase)
fits_decides p small Over = Decides-int_eq p.turn (pos 0)
fits_decides p small AnswerDouble = Decides-int_eq p.was_doubled (pos 1)
fits_decides p small OpponentActs = Decides-not (int_eq p.turn p.colour) (Decides-int_eq p.turn p.colour)
fits_decides p small RollOrDouble =
    Decides-and (nat_eq p.standing.first 0) (nat_eq p.standing.second 0) (Decides-eqb p.standing.first 0)
    (Decides-eqb p.standing.second 0)
fits_decides p small Move = can_move_decides p.standing small
fits_decides p small Passing = (λ _. tt, λ _. refl)

-- some line fits, and the function gives it
phase_found : (p : PositionValue) → find (phase_fits p) phases ≡ Some (phase_in p)
unfolding phase_in
phase_found p =
    let (x, e) =
    find_some (phase_fits p) (Over ∷ AnswerDouble ∷ OpponentActs ∷ RollOrDouble ∷ Move ∷ []) Passing refl in
    e ∙ ap Some (sym (ap (λ o. unwrap_or o Passing) e))

-- the function is the relation
pub phase_exact : (p : PositionValue) (phase : Phase) → SmallDice p.standing → (phase_in p ≡ phase) ↔ InPhase p phase
phase_exact p phase small =
    let exact = find_first (phase_fits p) (PhaseFits p) (fits_decides p small) phases phase in
    (λ e. exact.0 (phase_found p ∙ ap Some e), λ h. let same = sym (phase_found p) ∙ exact.1 h in cc)
