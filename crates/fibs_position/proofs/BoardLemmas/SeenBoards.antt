-- What a position that is found, whoever plays, says of a board on which the user plays, and of one that he watches.
use Rattle.std.proofs.Common.{◌≡◌, ◌≤◌, [], ◌∷◌, codes, inl, inr, sym, true, false, refl}
use Rattle.std.specs.Prelude.{◌↔◌, ◌≢◌, Result, Ok, Err, IsOk, is_ok}
use Rattle.std.proofs.lemmas.Bool.{false≢true}
use Rattle.fibs_fields.specs.Board.{BoardFields, IsBoard}
use Rattle.fibs_position.specs.First.{IsFirst}
use Rattle.fibs_position.specs.GoodBoard.{IsGood, HasFault, faults, good}
use Rattle.fibs_position.specs.OwnView.{own_placed, other_placed}
use Rattle.fibs_position.specs.Watched.{watched}
use Rattle.fibs_position.specs.declared.position.Position.{Position}
use Rattle.fibs_position.specs.declared.position_fault.PositionFault.{PositionFault}
use Rattle.fibs_position.specs.declared.position_fault.PositionFault.TheVariants.{TooManyOwn, TooManyOther}
use Rattle.fibs_position.proofs.BoardLemmas.GoodTest.{BoardTest, good_from, good_fails}
use Rattle.fibs_position.proofs.BoardLemmas.WatchedTest.{watched_from, watched_fails}

-- neither side has too many checkers
abbrev pub HasFew : BoardFields → Type 0
HasFew b = (own_placed b ≤ 15) × (other_placed b ≤ 15)

-- if the user plays, there is a position exactly if the board is good
pub good-if-few : (b : BoardFields) (r : Result Position PositionFault) → IsBoard b → b.player ≡ codes "You"
    → (IsOk r ↔ HasFew b) → IsOk r ↔ IsGood b
good-if-few b r board plays few = (
  λ ok. let counts = few.0 ok in record { board = board; plays = plays; own = counts.0; other = counts.1 },
  λ g. few.1 (g.own, g.other),
)

-- and the test says so
pub test-if-few : BoardTest → (b : BoardFields) (r : Result Position PositionFault) → IsBoard b
    → b.player ≡ codes "You" → (IsOk r ↔ HasFew b) → is_ok r ≡ good b
test-if-few test b (Ok p) board plays few = sym (good_from test b ((good-if-few b (Ok p) board plays few).0 refl))
test-if-few test b (Err f) board plays few =
    sym (good_fails test b (λ g. false≢true ((good-if-few b (Err f) board plays few).1 g)))

-- the first of the other two faults is the first of the three
pub fault-if-yours : (b : BoardFields) (f : PositionFault) → b.player ≡ codes "You"
    → IsFirst (HasFault b) (TooManyOwn ∷ TooManyOther ∷ []) f ↔ IsFirst (HasFault b) faults f
fault-if-yours b f plays = (
  λ first. inr (λ other. other plays, first),
  λ first. elim first [ inl now ↦ absurd (now.0 plays) | inr later ↦ later.1 ],
)

-- if another one plays, a board with few checkers is watched
pub watched-if-few : BoardTest → (b : BoardFields) → IsBoard b → b.player ≢ codes "You" → HasFew b → watched b ≡ true
watched-if-few test b board others few =
    watched_from test b (record { board = board; others = others; own = few.0; other = few.1 })

-- and one with too many is not
pub unwatched-if-many : BoardTest → (b : BoardFields) → ¬ HasFew b → watched b ≡ false
unwatched-if-many test b many = watched_fails test b (λ w. many (w.own, w.other))

-- nor is one on which the user plays
pub unwatched-if-yours : BoardTest → (b : BoardFields) → b.player ≡ codes "You" → watched b ≡ false
unwatched-if-yours test b plays = watched_fails test b (λ w. w.others plays)
