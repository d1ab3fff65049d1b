-- The row that says what can be done tells the phase.
use Rattle.std.proofs.Common.{◌≡◌, ◌==◌, ◌&&◌, ◌||◌, ◌++◌, ℕ, Bool, true, false, not, cond, List, [], ◌∷◌, refl, sym, ◌∙◌, ap, nat_le}
use Rattle.std.specs.Prelude.{slice_index_or}
use Rattle.std.proofs.lemmas.List.{append_cancel_right}
use Rattle.fibs_position.specs.DecisionValue.{accept, double}
use Rattle.fibs_position.specs.Phases.{phase_in}
use Rattle.fibs_position.specs.PositionValue.{PositionValue}
use Rattle.fibs_position.specs.declared.phase.Phase.{Phase}
use Rattle.fibs_position.specs.declared.phase.Phase.TheVariants as phase
use Rattle.fibs_picture.specs.Picture.{deed, deed_in, may}
use Rattle.fibs_picture.specs.Whole.{is_passing, has_deed, deed_row}
use Rattle.fibs_picture.specs.declared.look.Look.{Look}

-- a phase is known by the fifth letter
abbrev phase_read : List ℕ → Phase
phase_read text = let letter = slice_index_or text 4 0 in cond (letter == 103) phase.Over (cond
    (letter == 97) phase.AnswerDouble (cond (letter == 111) phase.OpponentActs (cond
    (letter == 114) phase.RollOrDouble (cond (letter == 109) phase.Move phase.Passing))))

-- the phase is read back from what can be done
deed-read : (p : Phase) (accepts doubles : Bool) → phase_read (deed p accepts doubles) ≡ p
deed-read phase.Over accepts doubles = refl
deed-read phase.AnswerDouble true doubles = refl
deed-read phase.AnswerDouble false doubles = refl
deed-read phase.OpponentActs accepts doubles = refl
deed-read phase.RollOrDouble accepts true = refl
deed-read phase.RollOrDouble accepts false = refl
deed-read phase.Move accepts doubles = refl
deed-read phase.Passing accepts doubles = refl

-- positions in which the same can be done are in the same phase
pub deed_in-tells : (p q : PositionValue) → deed_in p ≡ deed_in q → phase_in p ≡ phase_in q
unfolding deed_in
deed_in-tells p q e =
    sym (deed-read (phase_in p) (may p accept) (may p double)) ∙ ap phase_read e
    ∙ deed-read (phase_in q) (may q accept) (may q double)

-- ---- the row

-- rows that are there or not tell whether they are, and then the phase
deed-cases : (x y : Bool) (p q : PositionValue)
    → cond x (32 ∷ (deed_in p ++ 10 ∷ [])) [] ≡ cond y (32 ∷ (deed_in q ++ 10 ∷ [])) []
    → (x ≡ y) × (x ≡ true → phase_in p ≡ phase_in q)
deed-cases true true p q e =
    let rest : deed_in p ++ 10 ∷ [] ≡ deed_in q ++ 10 ∷ [] = cc in
    (refl, λ h. deed_in-tells p q (append_cancel_right (deed_in p) (deed_in q) (10 ∷ []) rest))
deed-cases true false p q e = cc
deed-cases false true p q e = cc
deed-cases false false p q e = (refl, λ h. cc)

-- it is there if it is wanted and there is room
is-shown : (watched wanted passing : Bool) → (not watched && wanted) ≡ true
    → (not watched && (wanted || passing)) ≡ true
is-shown true wanted passing h = cc
is-shown false true passing h = refl
is-shown false false passing h = cc

-- else it tells whether the player can move
shows-passing : (watched wanted s t : Bool) → watched ≡ false
    → (not watched && (wanted || s)) ≡ (not watched && (wanted || t))
    → ((not watched && (wanted || s)) ≡ true → s ≡ t) → s ≡ t
shows-passing true wanted s t h e k = cc
shows-passing false true s t h e k = k refl
shows-passing false false s t h e k = e

-- what it tells of two positions
pub record SameRow (look : Look) (watched wanted : Bool) (p q : PositionValue) : Type 0 where
  pub phase : (not watched && (wanted && nat_le 79 look.columns)) ≡ true → phase_in p ≡ phase_in q
  pub passing : watched ≡ false → is_passing (phase_in p) ≡ is_passing (phase_in q)

-- equal rows tell it
pub deed-tells : (look : Look) (watched wanted : Bool) (p q : PositionValue)
    → deed_row look watched wanted p ≡ deed_row look watched wanted q → SameRow look watched wanted p q
unfolding deed_row
deed-tells look watched wanted p q e =
    let room = wanted && nat_le 79 look.columns in
    let t = deed-cases (has_deed look watched wanted (phase_in p)) (has_deed look watched wanted (phase_in q)) p q e in
    record {
      phase = λ h. t.1 (is-shown watched room (is_passing (phase_in p)) h);
      passing = λ h. shows-passing watched room (is_passing (phase_in p)) (is_passing (phase_in q)) h t.0
          (λ k. ap is_passing (t.1 k));
    }
