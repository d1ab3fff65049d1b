-- The test `watched` is exact, and no board that passes it is good.
use Rattle.std.proofs.Common.{◌≡◌, ◌&&◌, not, true, false, Bool, inl, inr, codes, nat_le, refl}
use Rattle.std.specs.Prelude.{◌≢◌}
use Rattle.std.specs.Str.{bytes_eq}
use Rattle.std.proofs.lemmas.Bool.{and_parts, and_from, cases_Bool, false≢true}
use Rattle.std.proofs.lemmas.Slice.Eq.{bytes_eq-Decides}
use Rattle.fibs_fields.specs.Board.{BoardFields, is_board}
use Rattle.fibs_position.specs.OwnView.{own_placed, other_placed}
use Rattle.fibs_position.specs.Watched.{IsWatched, watched, WatchedIsExact, WatchedIsNotGood}
use Rattle.fibs_position.proofs.BoardLemmas.GoodTest.{BoardTest, le_tells, le_from, good_fails}

-- a test fails if it is not true
not_true : (b : Bool) → ¬ (b ≡ true) → not b ≡ true
not_true true h = absurd (h refl)
not_true false h = refl

-- a test that fails is not true
not_tells : (b : Bool) → not b ≡ true → ¬ (b ≡ true)
not_tells true h = λ e. absurd (false≢true h)
not_tells false h = λ e. absurd (false≢true e)

-- the two tests of numbers of checkers
abbrev few : BoardFields → Bool
few b = nat_le (own_placed b) 15 && nat_le (other_placed b) 15

-- values that pass the test are a watched board
pub watched_tells : BoardTest → (b : BoardFields) → watched b ≡ true → IsWatched b
unfolding watched
watched_tells test b h =
    let another = not (bytes_eq b.player (codes "You")) in
    let p = and_parts (is_board b) (another && few b) h in
    let q = and_parts another (few b) p.1 in
    let r = and_parts (nat_le (own_placed b) 15) (nat_le (other_placed b) 15) q.1 in
    record {
      board = (test b).0 p.0;
      others = λ e. not_tells (bytes_eq b.player (codes "You")) q.0 ((bytes_eq-Decides b.player (codes "You")).1 e);
      own = le_tells (own_placed b) 15 r.0;
      other = le_tells (other_placed b) 15 r.1;
    }

-- a watched board passes the test
pub watched_from : BoardTest → (b : BoardFields) → IsWatched b → watched b ≡ true
unfolding watched
watched_from test b h =
    let own = le_from (own_placed b) 15 h.own in
    let other = le_from (other_placed b) 15 h.other in
    let numbers = and_from (nat_le (own_placed b) 15) (nat_le (other_placed b) 15) own other in
    let name = not_true (bytes_eq b.player (codes "You"))
    (λ e. h.others ((bytes_eq-Decides b.player (codes "You")).0 e)) in
    and_from (is_board b) (not (bytes_eq b.player (codes "You")) && few b) ((test b).1 h.board)
    (and_from (not (bytes_eq b.player (codes "You"))) (few b) name numbers)

-- a board that is not watched fails the test
pub watched_fails : BoardTest → (b : BoardFields) → ¬ IsWatched b → watched b ≡ false
watched_fails test b h = elim (cases_Bool (watched b)) [ inl t ↦ absurd (h (watched_tells test b t)) | inr f ↦ f ]

-- the test is true of exactly the watched boards
pub watched_is_exact : BoardTest → WatchedIsExact
watched_is_exact test b = (watched_tells test b, watched_from test b)

-- a watched board is not good: its player is another one
pub watched_is_not_good : BoardTest → WatchedIsNotGood
watched_is_not_good test b h = good_fails test b (λ g. (watched_tells test b h).others g.plays)
