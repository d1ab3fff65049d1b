-- Whether a connection has moved on from the last decision sent there, as a test, and what more entries change in it.
use Rattle.std.proofs.Common.{◌≡◌, ℕ, Bool, true, false, not, ◌&&◌, List, [], ◌∷◌, ◌++◌, Some, if◌then◌else◌, nat_eq, refl, sym, ◌∙◌, ap, inl, inr, ◌⊎◌, true≢false}
use Rattle.fibs_game.specs.Log.{Entry, Shown, Sent}
use Rattle.fibs_game.specs.Words.{Ask, one_if, is_empty, last, each, shown_by, sent_by, shown, sent}
use Rattle.fibs_game.specs.Game.{Game}
use Rattle.fibs_game.specs.Lawful.{IsLikeness}
use Rattle.fibs_game.proofs.past.Lists.{snoc_not_empty, each_append, map_no_more}
use Rattle.fibs_game.proofs.past.Past.{pick, shown_more, sent_more}

module _ (G : Game) where
  -- a board was shown after the last Sent that is unlike the Sent's
  abbrev pub has_moved_on : ℕ → List (Entry G) → Bool
  has_moved_on c [] = false
  has_moved_on c (Sent d b m ∷ later) =
      if nat_eq d c && is_empty (sent c later) then not (each (G.like b) (shown c later)) else has_moved_on c later
  has_moved_on c (e ∷ later) = has_moved_on c later

  module _ (c : ℕ) where
    -- without a decision no board is after one
    moved_none : (ys : List (Entry G)) → sent c ys ≡ [] → has_moved_on c ys ≡ false
    moved_none [] h = refl
    moved_none (Sent d b m ∷ later) h = step (nat_eq d c) h (moved_none later)
      where
        step : (t : Bool) → one_if t (b, m) ++ sent c later ≡ [] → (sent c later ≡ [] → has_moved_on c later ≡ false)
            → pick G t (is_empty (sent c later)) (not (each (G.like b) (shown c later))) (has_moved_on c later) ≡ false
        step true h k = cc
        step false h k = k h
    moved_none (e ∷ later) h = moved_none later h

    -- entries without a board and without a decision move nothing on
    pub moved_quiet : (xs ys : List (Entry G)) → shown c ys ≡ [] → sent c ys ≡ []
        → has_moved_on c (xs ++ ys) ≡ has_moved_on c xs
    moved_quiet [] ys h k = moved_none ys k
    moved_quiet (Sent d b m ∷ later) ys h k =
        let p : shown c (later ++ ys) ≡ shown c later = map_no_more (shown_by c) later ys h in
        let q : sent c (later ++ ys) ≡ sent c later = map_no_more (sent_by c) later ys k in
        let i = moved_quiet later ys h k in
        cc (p, q, i)
    moved_quiet (e ∷ later) ys h k = moved_quiet later ys h k

    -- directly after a decision no board is shown
    pub moved_sent : (xs : List (Entry G)) (b : G.Board) (m : G.Decision) → has_moved_on c (xs ++ Sent c b m ∷ [])
        ≡ false
    moved_sent [] b m = two (nat_eq c c)
      where
        two : (t : Bool) → pick G t true false false ≡ false
        two true = refl
        two false = refl
    moved_sent (Sent d b0 m0 ∷ later) b m =
        let s : is_empty (sent c (later ++ Sent c b m ∷ [])) ≡ false =
        ap is_empty (sent_more G c later b m) ∙ snoc_not_empty _ _ in
        let i = moved_sent later b m in
        ap
        (λ l. pick G (nat_eq d c) l (not (each (G.like b0) (shown c (later ++ Sent c b m ∷ []))))
        (has_moved_on c (later ++ Sent c b m ∷ []))) s
        ∙ two (nat_eq d c) _ _ i
      where
        two : (t s x : Bool) → x ≡ false → pick G t false s x ≡ false
        two true s x h = h
        two false s x h = h
    moved_sent (e ∷ later) b m = moved_sent later b m

  -- after one more board a connection has moved on if it had, or if the board is unlike that of the last Sent
  module _ (law : IsLikeness G.like) (c : ℕ) where
    -- one more board is shown: it differs from the last decision's, or one before it did
    pub moved_shown : (xs : List (Entry G)) (v : G.Board) → has_moved_on c (xs ++ Shown c v ∷ []) ≡ true
        → (has_moved_on c xs ≡ true) ⊎ ((a : Ask G) × (last (sent c xs) ≡ Some a) × (G.like a.0 v ≡ false))
    moved_shown [] v h = absurd (true≢false (sym h))
    moved_shown (Sent d b m ∷ later) v h =
        let q : sent c (later ++ Shown c v ∷ []) ≡ sent c later = map_no_more (sent_by c) later (Shown c v ∷ []) refl in
        let e : each (G.like b) (shown c (later ++ Shown c v ∷ []))
        ≡ (each (G.like b) (shown c later) && (G.like b v && true)) =
        ap (each (G.like b)) (shown_more G law c later v) ∙ each_append (G.like b) (shown c later) (v ∷ []) in
        let h' : pick G (nat_eq d c) (is_empty (sent c later))
        (not (each (G.like b) (shown c later) && (G.like b v && true)))
        (has_moved_on c (later ++ Shown c v ∷ [])) ≡ true =
        rw (← q, ← e) h in
        step (nat_eq d c) (sent c later) (each (G.like b) (shown c later)) (has_moved_on c (later ++ Shown c v ∷ []))
        (has_moved_on c later) h' (moved_shown later v)
      where
        End : List (Ask G) → Type 0
        End l = (a : Ask G) × (last l ≡ Some a) × (G.like a.0 v ≡ false)

        now : (a : Bool) (y : Bool) → not (a && (G.like b v && true)) ≡ true → (not a ≡ true) ⊎ (G.like b v ≡ false)
        now true y h = inr (three (G.like b v) h)
          where
            three : (t : Bool) → not (t && true) ≡ true → t ≡ false
            three true h = sym h
            three false h = refl
        now false y h = inl refl

        step : (t : Bool) (l : List (Ask G)) (a x y : Bool) → pick G t (is_empty l) (not (a && (G.like b v && true))) x
            ≡ true
            → (x ≡ true → (y ≡ true) ⊎ ((a : Ask G) × (last l ≡ Some a) × (G.like a.0 v ≡ false)))
            → (pick G t (is_empty l) (not a) y ≡ true)
            ⊎ ((a : Ask G) × (last (one_if t (b, m) ++ l) ≡ Some a) × (G.like a.0 v ≡ false))
        step true [] a x y h k = elim (now a y h) [ inl p ↦ inl p | inr p ↦ inr ((b, m), refl, p) ]
        step true (z ∷ l) a x y h k = k h
        step false l a x y h k = k h
    moved_shown (e ∷ later) v h = moved_shown later v h
