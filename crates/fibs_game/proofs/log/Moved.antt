-- Once a differing board is shown, all that was sent up to then took effect: by splits of the log.
use Rattle.std.proofs.Common.{◌≡◌, ℕ, Bool, true, false, not, ◌&&◌, List, [], ◌∷◌, ◌++◌, Option, Some, None, nat_eq, if◌then◌else◌, refl, sym, ◌∙◌, ap, subst, append-nil, append_assoc, true≢false}
use Rattle.fibs_game.specs.Log.{Entry, Shown, Sent}
use Rattle.fibs_game.specs.Words.{Ask, is_empty, each, shown_by, sent_by, shown, sent, took}
use Rattle.fibs_game.specs.Headline.{IsPrefixOf, AllMovedOn}
use Rattle.fibs_game.specs.Game.{Game}
use Rattle.fibs_game.specs.Lawful.{Lawful}
use Rattle.fibs_game.proofs.past.Lists.{to_list, same_number, one_of_true, map_more, empty_none}
use Rattle.fibs_game.proofs.past.Moving.{has_moved_on}

module _ (G : Game) where
  -- a list with an element in it
  not_empty_at : {A : Type 0} (xs : List A) (y : A) (ys : List A) → is_empty (xs ++ y ∷ ys) ≡ false
  not_empty_at [] y ys = refl
  not_empty_at (x ∷ xs) y ys = refl

  -- what was sent, with one decision in the midst of the log
  pub sent_with : (c : ℕ) (before rest : List (Entry G)) (b : G.Board) (d : G.Decision)
      → sent c (before ++ Sent c b d ∷ rest) ≡ sent c before ++ (b, d) ∷ sent c rest
  sent_with c before rest b d =
      map_more (sent_by c) before (Sent c b d ∷ rest) ((b, d) ∷ sent c rest)
      (ap (λ l. l ++ sent c rest) (one_of_true (nat_eq c c) (b, d) (same_number c)))

  -- what was shown, with one board in the midst of the log
  shown_with : (c : ℕ) (before rest : List (Entry G)) (b : G.Board)
      → shown c (before ++ Shown c b ∷ rest) ≡ shown c before ++ b ∷ shown c rest
  shown_with c before rest b =
      map_more (shown_by c) before (Shown c b ∷ rest) (b ∷ shown c rest)
      (ap (λ l. l ++ shown c rest) (one_of_true (nat_eq c c) b (same_number c)))

  -- a test that fails of one fails of all
  each_fails : {A : Type 0} (p : A → Bool) (xs : List A) (y : A) (ys : List A) → p y ≡ false
      → each p (xs ++ y ∷ ys) ≡ false
  each_fails p [] y ys h = rw h refl
  each_fails p (x ∷ xs) y ys h = step (p x) _ (each_fails p xs y ys h)
    where
      step : (a b : Bool) → b ≡ false → (a && b) ≡ false
      step true b h = h
      step false b h = refl

  -- the log has moved on from its last decision, if a board unlike it is shown after it
  moved_at : (c : ℕ) (before rest : List (Entry G)) (b : G.Board) (d : G.Decision)
      → sent c rest ≡ [] → each (G.like b) (shown c rest) ≡ false → has_moved_on G c (before ++ Sent c b d ∷ rest)
      ≡ true
  moved_at c [] rest b d h k =
      here (nat_eq c c) (is_empty (sent c rest)) (each (G.like b) (shown c rest)) (has_moved_on G c rest)
      (same_number c)
      (ap is_empty h) k
    where
      here : (t e z x : Bool) → t ≡ true → e ≡ true → z ≡ false → (if t && e then not z else x) ≡ true
      here t e z x p q r = rw (p, q, r) refl
  moved_at c (Sent e b' m ∷ before) rest b d h k =
      pass (nat_eq e c) (is_empty (sent c (before ++ Sent c b d ∷ rest)))
      (not (each (G.like b') (shown c (before ++ Sent c b d ∷ rest)))) (has_moved_on G c (before ++ Sent c b d ∷ rest))
      (ap is_empty (sent_with c before rest b d) ∙ not_empty_at (sent c before) (b, d) (sent c rest))
      (moved_at c before rest b d h k)
    where
      pass : (t e z x : Bool) → e ≡ false → x ≡ true → (if t && e then z else x) ≡ true
      pass true e z x p q = rw p q
      pass false e z x p q = q
  moved_at c (x ∷ before) rest b d h k = moved_at c before rest b d h k

  -- if at most the last of a list is missing, what is before others is not
  front : (t : List (Ask G)) (p : Option (Ask G)) (xs : List (Ask G)) (y : Ask G) (r : List (Ask G)) → t ++ to_list p
      ≡ xs ++ y ∷ r
      → is_empty r ≡ false → IsPrefixOf (xs ++ y ∷ []) t
  front t None xs y r h k = (r, append_assoc xs (y ∷ []) r ∙ sym h ∙ append-nil t)
  front [] (Some a) [] y r h k = let e : r ≡ [] = cc in absurd (true≢false (sym (ap is_empty e) ∙ k))
  front [] (Some a) (x ∷ xs) y r h k = absurd (nothing xs (let e : [] ≡ xs ++ y ∷ r = cc in e))
    where
      nothing : (xs : List (Ask G)) → [] ≡ xs ++ y ∷ r → ⊥
      nothing [] h = cc
      nothing (x ∷ xs) h = cc
  front (s ∷ t) (Some a) [] y r h k = let e : s ≡ y = cc in (t, ap (λ z. z ∷ t) (sym e))
  front (s ∷ t) (Some a) (x ∷ xs) y r h k =
      let e : s ≡ x = cc in
      let rest : t ++ to_list (Some a) ≡ xs ++ y ∷ r = cc in
      let f = front t (Some a) xs y r rest k in
      (f.0, ap (λ z. z ∷ ((xs ++ y ∷ []) ++ f.0)) (sym e) ∙ ap (λ l. s ∷ l) f.1)

  -- the sentence, from what holds of each connection
  pub all_moved_on : Lawful G → (log : List (Entry G))
      → ((c : ℕ) → (p : Option (Ask G)) × (sent c log ≡ took c log ++ to_list p))
      → ((c : ℕ) → has_moved_on G c log ≡ true → took c log ≡ sent c log) → AllMovedOn log
  all_moved_on law log settled moved before between later c b now d is differ =
      subst (λ l. IsPrefixOf l (took c log)) (sym (sent_with c before [] b d))
      (go (is_empty (sent c rest)) refl)
    where
      rest : List (Entry G)
      rest = between ++ Shown c now ∷ later

      all : sent c log ≡ sent c before ++ (b, d) ∷ sent c rest
      all = ap (sent c) is ∙ sent_with c before rest b d

      unlike : each (G.like b) (shown c rest) ≡ false
      unlike =
          ap (each (G.like b)) (shown_with c between later now)
          ∙ each_fails (G.like b) (shown c between) now (shown c later) (law.differ b now differ)

      go : (z : Bool) → is_empty (sent c rest) ≡ z → IsPrefixOf (sent c before ++ (b, d) ∷ []) (took c log)
      go true e =
          let none : sent c rest ≡ [] = empty_none (sent c rest) e in
          let gone : has_moved_on G c log ≡ true =
          ap (has_moved_on G c) is ∙ moved_at c before rest b d none unlike in
          ([], append-nil _ ∙ ap (λ l. sent c before ++ (b, d) ∷ l) (sym none) ∙ sym all ∙ sym (moved c gone))
      go false e =
          let s = settled c in front (took c log) s.0 (sent c before) (b, d) (sent c rest) (sym s.1 ∙ all) e
