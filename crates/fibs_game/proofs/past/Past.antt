-- What one more entry changes in what a history says.
use Rattle.std.proofs.Common.{◌≡◌, ℕ, Bool, true, false, not, ◌&&◌, List, [], ◌∷◌, ◌++◌, Some, if◌then◌else◌, nat_eq, refl, sym, ◌∙◌, ap, true≢false}
use Rattle.fibs_game.specs.Log.{Entry, Opened, Shown, Sent, Lost}
use Rattle.fibs_game.specs.Words.{one_if, is_empty, last, each, open_from, shown_by, sent_by, shown, sent, is_spent}
use Rattle.fibs_game.specs.Game.{Game}
use Rattle.fibs_game.specs.Lawful.{IsLikeness}
use Rattle.fibs_game.proofs.past.Lists.{same_number, one_of_true, snoc_not_empty, each_append, each_last, map_more, map_no_more}

module _ (G : Game) where
  -- of two histories in a row the second begins with the connection that the first leaves open
  pub open_append : (o : ℕ) (xs ys : List (Entry G)) → open_from o (xs ++ ys) ≡ open_from (open_from o xs) ys
  open_append o [] ys = refl
  open_append o (Opened c ∷ xs) ys = open_append c xs ys
  open_append o (Lost c u ∷ xs) ys = open_append 0 xs ys
  open_append o (e ∷ xs) ys = open_append o xs ys

  -- the choice that the searches make at an entry
  abbrev pub pick : Bool → Bool → Bool → Bool → Bool
  pick t a s rest = if t && a then s else rest

  module _ (c : ℕ) where
    -- a history in which no board is shown on a connection has no spent stretch
    pub spent_none : (ys : List (Entry G)) → shown c ys ≡ [] → is_spent c ys ≡ false
    spent_none [] h = refl
    spent_none (Shown d b ∷ later) h = step (nat_eq d c) h (spent_none later)
      where
        step : (t : Bool) → one_if t b ++ shown c later ≡ [] → (shown c later ≡ [] → is_spent c later ≡ false)
            → pick t (each (G.like b) (shown c later)) (not (is_empty (sent c later))) (is_spent c later) ≡ false
        step true h k = cc
        step false h k = k h
    spent_none (e ∷ later) h = spent_none later h

    -- entries that show no board and send nothing leave the stretch as it is
    pub spent_quiet : (xs ys : List (Entry G))
        → shown c ys ≡ [] → sent c ys ≡ [] → is_spent c (xs ++ ys) ≡ is_spent c xs
    spent_quiet [] ys h k = spent_none ys h
    spent_quiet (Shown d b ∷ later) ys h k =
        let p : shown c (later ++ ys) ≡ shown c later = map_no_more (shown_by c) later ys h in
        let q : sent c (later ++ ys) ≡ sent c later = map_no_more (sent_by c) later ys k in
        let i = spent_quiet later ys h k in
        cc (p, q, i)
    spent_quiet (e ∷ later) ys h k = spent_quiet later ys h k

    -- one more Sent, if a board was shown
    pub spent_sent : (xs : List (Entry G)) (b : G.Board) (m : G.Decision)
        → is_empty (shown c xs) ≡ false → is_spent c (xs ++ Sent c b m ∷ []) ≡ true
    spent_sent [] b m h = absurd (true≢false h)
    spent_sent (Shown d b0 ∷ later) b m h =
        let one : sent {G = G} c (Sent c b m ∷ []) ≡ (b, m) ∷ [] =
        ap (λ l. l ++ []) (one_of_true (nat_eq c c) (b, m) (same_number c)) in
        let p : shown c (later ++ Sent c b m ∷ []) ≡ shown c later =
        map_no_more (shown_by c) later (Sent c b m ∷ []) refl in
        let q : sent c (later ++ Sent c b m ∷ []) ≡ sent c later ++ (b, m) ∷ [] =
        map_more (sent_by c) later (Sent c b m ∷ []) ((b, m) ∷ []) one in
        let s : not (is_empty (sent c (later ++ Sent c b m ∷ []))) ≡ true =
        ap not (ap is_empty q ∙ snoc_not_empty (sent c later) (b, m)) in
        let g = step (nat_eq d c) (shown c later) h (spent_sent later b m) in
        ap (λ l. pick (nat_eq d c) (each (G.like b0) l)
        (not (is_empty (sent c (later ++ Sent c b m ∷ [])))) (is_spent c (later ++ Sent c b m ∷ []))) p
        ∙ ap
        (λ l. pick (nat_eq d c) (each (G.like b0) (shown c later)) l (is_spent c (later ++ Sent c b m ∷ []))) s ∙ g
      where
        step : (t : Bool) (l : List G.Board) → is_empty (one_if t b0 ++ l) ≡ false
            → (is_empty l ≡ false → is_spent c (later ++ Sent c b m ∷ []) ≡ true)
            → pick t (each (G.like b0) l) true (is_spent c (later ++ Sent c b m ∷ [])) ≡ true
        step true [] h k = refl
        step true (x ∷ l) h k = two (each (G.like b0) (x ∷ l)) (k refl)
          where
            two : (a : Bool) → is_spent c (later ++ Sent c b m ∷ []) ≡ true
                → pick true a true (is_spent c (later ++ Sent c b m ∷ [])) ≡ true
            two true k = refl
            two false k = k
        step false l h k = k h
    spent_sent (e ∷ later) b m h = spent_sent later b m h

  module _ (law : IsLikeness G.like) (c : ℕ) where
    -- the entry of a board that is shown gives that board
    one_shown : (b : G.Board) → shown {G = G} c (Shown c b ∷ []) ≡ b ∷ []
    one_shown b = ap (λ l. l ++ []) (one_of_true (nat_eq c c) b (same_number c))

    -- one more entry of a board puts it after those shown before
    pub shown_more : (xs : List (Entry G)) (b : G.Board) → shown c (xs ++ Shown c b ∷ []) ≡ shown c xs ++ b ∷ []
    shown_more xs b = map_more (shown_by c) xs (Shown c b ∷ []) (b ∷ []) (one_shown b)

    -- the first board that is shown
    pub spent_first : (xs : List (Entry G)) (b : G.Board) → shown c xs ≡ [] → is_spent c (xs ++ Shown c b ∷ []) ≡ false
    spent_first [] b h = two (nat_eq c c)
      where
        two : (t : Bool) → pick t true false false ≡ false
        two true = refl
        two false = refl
    spent_first (Shown d b0 ∷ later) b h = step (nat_eq d c) h (spent_first later b)
      where
        step : (t : Bool)
            → one_if t b0 ++ shown c later ≡ [] → (shown c later ≡ [] → is_spent c (later ++ Shown c b ∷ []) ≡ false)
            → pick t (each (G.like b0) (shown c (later ++ Shown c b ∷ [])))
            (not (is_empty (sent c (later ++ Shown c b ∷ [])))) (is_spent c (later ++ Shown c b ∷ [])) ≡ false
        step true h k = cc
        step false h k = k h
    spent_first (e ∷ later) b h = spent_first later b h

    -- one more board G.like the last
    pub spent_same : (xs : List (Entry G)) (v b : G.Board)
        → last (shown c xs) ≡ Some v → G.like v b ≡ true → is_spent c (xs ++ Shown c b ∷ []) ≡ is_spent c xs
    spent_same [] v b h k = cc
    spent_same (Shown d b0 ∷ later) v b h k =
        let q : sent c (later ++ Shown c b ∷ []) ≡ sent c later = map_no_more (sent_by c) later (Shown c b ∷ []) refl in
        let e : each (G.like b0) (shown c (later ++ Shown c b ∷ []))
        ≡ (each (G.like b0) (shown c later) && (G.like b0 b && true)) =
        ap (each (G.like b0)) (shown_more later b) ∙ each_append (G.like b0) (shown c later) (b ∷ []) in
        let s = step (nat_eq d c) (shown c later) (not (is_empty (sent c later)))
        (is_spent c (later ++ Shown c b ∷ [])) (is_spent c later) h (λ g. spent_same later v b g k) in
        ap (λ l. pick (nat_eq d c)
        l (not (is_empty (sent c (later ++ Shown c b ∷ [])))) (is_spent c (later ++ Shown c b ∷ []))) e
        ∙ ap (λ l. pick (nat_eq d c) (each (G.like b0) (shown c later) && (G.like b0 b && true)) (not (is_empty l))
        (is_spent c (later ++ Shown c b ∷ []))) q ∙ s
      where
        three : (bs : List G.Board) (a a' s x y : Bool)
            → (a ≡ true → a' ≡ true) → (a ≡ false → x ≡ y) → pick true (a && (a' && true)) s x ≡ pick true a s y
        three bs true a' s x y f g = rw (f refl) refl
        three bs false a' s x y f g = g refl

        step : (t : Bool) (bs : List G.Board) (s x y : Bool)
            → last (one_if t b0 ++ bs) ≡ Some v → (last bs ≡ Some v → x ≡ y)
            → pick t (each (G.like b0) bs && (G.like b0 b && true)) s x ≡ pick t (each (G.like b0) bs) s y
        step true [] s x y h g =
            let m : b0 ≡ v = cc in
            let n : G.like b0 b ≡ true = rw m k in
            three [] true (G.like b0 b) s x y (λ z. n) (λ z. absurd (true≢false z))
        step true (a ∷ bs) s x y h g =
            three bs (each (G.like b0) (a ∷ bs)) (G.like b0 b)
            s x y (λ z. law.like_on b0 v b (each_last (G.like b0) a bs v z h) k) (λ z. g h)
        step false bs s x y h g = g h
    spent_same (e ∷ later) v b h k = spent_same later v b h k

    -- one more board unlike the last
    pub spent_other : (xs : List (Entry G)) (v b : G.Board)
        → last (shown c xs) ≡ Some v → G.like v b ≡ false → is_spent c (xs ++ Shown c b ∷ []) ≡ false
    spent_other [] v b h k = cc
    spent_other (Shown d b0 ∷ later) v b h k =
        let e : each (G.like b0) (shown c (later ++ Shown c b ∷ []))
        ≡ (each (G.like b0) (shown c later) && (G.like b0 b && true)) =
        ap (each (G.like b0)) (shown_more later b) ∙ each_append (G.like b0) (shown c later) (b ∷ []) in
        let s = step (nat_eq d c) (shown c later) (not (is_empty (sent c (later ++ Shown c b ∷ []))))
        (is_spent c (later ++ Shown c b ∷ [])) h (λ g. spent_other later v b g k) (spent_first later b) in
        ap (λ l. pick (nat_eq d c)
        l (not (is_empty (sent c (later ++ Shown c b ∷ [])))) (is_spent c (later ++ Shown c b ∷ []))) e ∙ s
      where
        unlike : G.like b0 v ≡ true → G.like b0 b ≡ true → ⊥
        unlike p q = true≢false (sym (law.like_on v b0 b (law.like_back b0 v p) q) ∙ k)

        three : (a a' s x : Bool) → (a ≡ true → a' ≡ true → ⊥) → (x ≡ false) → pick true (a && (a' && true)) s x ≡ false
        three true true s x f g = absurd (f refl refl)
        three true false s x f g = g
        three false a' s x f g = g

        step : (t : Bool) (bs : List G.Board) (s x : Bool)
            → last (one_if t b0 ++ bs) ≡ Some v → (last bs ≡ Some v → x ≡ false) → (bs ≡ [] → x ≡ false)
            → pick t (each (G.like b0) bs && (G.like b0 b && true)) s x ≡ false
        step true [] s x h g f =
            let m : b0 ≡ v = cc in
            three true (G.like b0 b) s x (λ z p. unlike (rw (← m) (law.like_itself b0)) p) (f refl)
        step true (a ∷ bs) s x h g f =
            three (each (G.like b0) (a ∷ bs)) (G.like b0 b) s x (λ z p. unlike (each_last (G.like b0) a bs v z h) p)
            (g h)
        step false bs s x h g f = g h
    spent_other (e ∷ later) v b h k = spent_other later v b h k

  module _ (c : ℕ) where
    -- the entry of a decision that is sent gives it with its board
    one_sent : (b : G.Board) (m : G.Decision) → sent {G = G} c (Sent c b m ∷ []) ≡ (b, m) ∷ []
    one_sent b m = ap (λ l. l ++ []) (one_of_true (nat_eq c c) (b, m) (same_number c))

    -- one more entry of a decision puts it after those sent before
    pub sent_more : (xs : List (Entry G)) (b : G.Board) (m : G.Decision)
        → sent c (xs ++ Sent c b m ∷ []) ≡ sent c xs ++ (b, m) ∷ []
    sent_more xs b m = map_more (sent_by c) xs (Sent c b m ∷ []) ((b, m) ∷ []) (one_sent b m)

  -- if the stretch is spent something was sent
  pub spent_has_sent : (c : ℕ) (xs : List (Entry G))
      → is_spent c xs ≡ true → is_empty (sent c xs) ≡ false
  spent_has_sent c [] h = absurd (true≢false (sym h))
  spent_has_sent c (Shown d b ∷ later) h =
      step (nat_eq d c && each (G.like b) (shown c later)) (is_empty (sent c later)) h (spent_has_sent c later)
    where
      step : (t e : Bool)
          → (if t then not e else is_spent c later) ≡ true → (is_spent c later ≡ true → e ≡ false) → e ≡ false
      step true true h k = absurd (true≢false (sym h))
      step true false h k = refl
      step false e h k = k h
  spent_has_sent c (Sent d b m ∷ later) h = step (nat_eq d c) (spent_has_sent c later h)
    where
      step : (t : Bool) → is_empty (sent c later) ≡ false → is_empty (one_if t (b, m) ++ sent c later) ≡ false
      step true k = refl
      step false k = k
  spent_has_sent c (e ∷ later) h = spent_has_sent c later h
