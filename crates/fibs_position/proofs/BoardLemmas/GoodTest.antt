-- The test `good` is exact.
use Rattle.std.proofs.Common.{◌≡◌, ◌≤◌, ◌&&◌, true, false, Bool, ℕ, inl, inr, arith, codes, nat_le}
use Rattle.std.specs.Prelude.{◌↔◌}
use Rattle.std.specs.Str.{bytes_eq}
use Rattle.std.proofs.lemmas.Bool.{and_parts, and_from, cases_Bool}
use Rattle.std.proofs.lemmas.Bool.Decides.{nat_tests}
use Rattle.std.proofs.lemmas.Slice.Eq.{bytes_eq-Decides}
use Rattle.fibs_fields.specs.Board.{BoardFields, IsBoard, is_board}
use Rattle.fibs_position.specs.OwnView.{own_placed, other_placed}
use Rattle.fibs_position.specs.GoodBoard.{IsGood, good}
use Rattle.fibs_position.specs.Laws.{GoodIsExact}

-- that the test of boards is exact
abbrev pub BoardTest : Type 0
BoardTest = (b : BoardFields) → (is_board b ≡ true) ↔ IsBoard b

-- what a test of two numbers decides
pub le_tells : (a b : ℕ) → nat_le a b ≡ true → a ≤ b
le_tells a b h = grind (arith, nat_tests)

-- what makes it true
pub le_from : (a b : ℕ) → a ≤ b → nat_le a b ≡ true
le_from a b h = grind (arith, nat_tests)

-- the two tests of numbers of checkers
abbrev few : BoardFields → Bool
few b = nat_le (own_placed b) 15 && nat_le (other_placed b) 15

-- values that pass the test are a good board
pub good_tells : BoardTest → (b : BoardFields) → good b ≡ true → IsGood b
unfolding good
good_tells test b h =
    let p = and_parts (is_board b) (bytes_eq b.player (codes "You") && few b) h in
    let q = and_parts (bytes_eq b.player (codes "You")) (few b) p.1 in
    let r = and_parts (nat_le (own_placed b) 15) (nat_le (other_placed b) 15) q.1 in
    record {
      board = (test b).0 p.0;
      plays = (bytes_eq-Decides b.player (codes "You")).0 q.0;
      own = le_tells (own_placed b) 15 r.0;
      other = le_tells (other_placed b) 15 r.1;
    }

-- a good board passes the test
pub good_from : BoardTest → (b : BoardFields) → IsGood b → good b ≡ true
unfolding good
good_from test b h =
    let own = le_from (own_placed b) 15 h.own in
    let other = le_from (other_placed b) 15 h.other in
    let numbers = and_from (nat_le (own_placed b) 15) (nat_le (other_placed b) 15) own other in
    let name = (bytes_eq-Decides b.player (codes "You")).1 h.plays in
    and_from (is_board b) (bytes_eq b.player (codes "You") && few b) ((test b).1 h.board)
    (and_from (bytes_eq b.player (codes "You")) (few b) name numbers)

-- a board that is not good fails the test
pub good_fails : BoardTest → (b : BoardFields) → ¬ IsGood b → good b ≡ false
good_fails test b h = elim (cases_Bool (good b)) [ inl t ↦ absurd (h (good_tells test b t)) | inr f ↦ f ]

-- the test is true of exactly the good boards
pub good_is_exact : BoardTest → GoodIsExact
good_is_exact test b = (good_tells test b, good_from test b)
