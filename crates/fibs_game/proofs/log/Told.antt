-- What the log keeps as it grows.
use Rattle.std.proofs.Common.{◌≡◌, ℕ, ◌+◌, ◌<◌, ◌≤◌, Bool, true, false, List, [], ◌∷◌, ◌++◌, Some, None, nat_eq, length, get_or, slice_index, refl, sym, ◌∙◌, zero, suc, ap, subst, inl, inr, arith, if◌then◌else◌, length-append}
use Rattle.std.proofs.Math.ListN.{get_or-append}
use Rattle.std.proofs.Math.Seq.{get_or-append_seam}
use Rattle.std.proofs.lemmas.Bool.Decides.{eqb_tells}
use Rattle.std.proofs.lemmas.Bool.{cases_lt}
use Rattle.fibs_game.specs.declared.refusal.Refusal.{Refusal}
use Rattle.fibs_game.specs.Log.{Entry, Shown, Clicked, Sent, Took, Undone}
use Rattle.fibs_game.specs.Orders.{is_due}
use Rattle.fibs_game.specs.Words.{Ask, one_if, last, shown, shown_by, open_now, sent, took, sent_by, took_by, answer}
use Rattle.fibs_game.specs.Headline.{NoneUndone, InOrder, places, is_sent, is_took}
use Rattle.fibs_game.specs.Game.{Game}
use Rattle.fibs_game.proofs.log.Called.{roll_if, Called, called_append}
use Rattle.fibs_game.proofs.log.Fitting.{AllFit, fit_append}
use Rattle.fibs_game.proofs.past.Lists.{last_snoc, same_number, other_number, map_no_more, map_more, one_of_true, one_of_false}

module _ (G : Game) where
  -- each of the decisions was allowed on its board, which is good, by the tests
  abbrev pub AllAllowed : List (Ask G) → Type 0
  AllAllowed [] = Unit {0}
  AllAllowed (a ∷ rest) = (G.good a.0 ≡ true) × (G.allows a.0 a.1 ≡ None) × AllAllowed rest

  -- each of the boards is good, by the test
  abbrev pub AllPass : List G.Board → Type 0
  AllPass [] = Unit {0}
  AllPass (b ∷ rest) = (G.good b ≡ true) × AllPass rest

  -- what holds of a log
  pub record Told (log : List (Entry G)) : Type 0 where
    pub seen : (c : ℕ) → AllPass (shown c log)
    pub legal : (c : ℕ) → AllAllowed (sent c log)
    pub called : Called G None [] log
    pub undone : NoneUndone log
    pub fit : AllFit G [] log
    pub order : (c : ℕ) → InOrder c log

  -- none is Undone, in two parts of a log
  undone_append : (xs ys : List (Entry G)) → NoneUndone xs → NoneUndone ys → NoneUndone (xs ++ ys)
  undone_append [] ys h k = k
  undone_append (Undone c b d ∷ later) ys h k = absurd h
  undone_append (e ∷ later) ys h k = undone_append later ys h k

  -- all are allowed, in two lists
  legal_append : (xs ys : List (Ask G)) → AllAllowed xs → AllAllowed ys → AllAllowed (xs ++ ys)
  legal_append [] ys h k = k
  legal_append (a ∷ xs) ys h k = (h.0, h.1, legal_append xs ys h.2 k)

  -- all are good, in two lists
  good_append : (xs ys : List G.Board) → AllPass xs → AllPass ys → AllPass (xs ++ ys)
  good_append [] ys h k = k
  good_append (b ∷ xs) ys h k = (h.0, good_append xs ys h.1 k)

  -- so is the last of them
  last_good : (xs : List G.Board) (b : G.Board) → AllPass xs → last xs ≡ Some b → G.good b ≡ true
  last_good [] b h e = cc
  last_good (x ∷ []) b h e = let s : x ≡ b = cc in subst (λ z. G.good z ≡ true) s h.0
  last_good (x ∷ y ∷ xs) b h e = last_good (y ∷ xs) b h.1 e

  -- places

  -- one more place, or none, in front of others
  places_step : (t : Bool) (n : ℕ) (a b c : List ℕ) → a ≡ b ++ c
      → (if t then n ∷ a else a) ≡ (if t then n ∷ b else b) ++ c
  places_step true n a b c h = ap (λ l. n ∷ l) h
  places_step false n a b c h = h

  -- the places in two parts of a log
  places_append : (p : Entry G → Bool) (n : ℕ) (xs ys : List (Entry G))
      → places p n (xs ++ ys) ≡ places p n xs ++ places p (n + length xs) ys
  places_append p n [] ys = let e : n ≡ n + 0 = omega arith in ap (λ k. places p k ys) e
  places_append p n (e ∷ xs) ys =
      let k : (n + 1) + length xs ≡ n + length (e ∷ xs) = omega arith in
      places_step (p e) n _ _ _ (places_append p (n + 1) xs ys ∙ ap (λ m. places p (n + 1) xs ++ places p m ys) k)

  -- each place is in the log
  places_below : (p : Entry G → Bool) (n : ℕ) (xs : List (Entry G)) (i : ℕ) → i < length (places p n xs)
      → get_or (places p n xs) i 0 < n + length xs
  places_below p n [] i h = absurd (omega arith)
  places_below p n (e ∷ xs) i h =
      step (p e) i h (λ k z. let g = places_below p (n + 1) xs k z in
      let g' : get_or (places p (n + 1) xs) k 0 < n + length (e ∷ xs) = omega arith in g')
    where
      step : (t : Bool) (i : ℕ) → i < length (if t then n ∷ places p (n + 1) xs else places p (n + 1) xs)
          → ((k : ℕ) → k < length (places p (n + 1) xs) → get_or (places p (n + 1) xs) k 0 < n + length (e ∷ xs))
          → get_or (if t then n ∷ places p (n + 1) xs else places p (n + 1) xs) i 0 < n + length (e ∷ xs)
      step true zero h g = omega arith
      step true (suc i) h g = g i (omega arith)
      step false i h g = g i h

  -- one more place and one more element, or none
  count_step : {A : Type 0} (t : Bool) (n : ℕ) (x : A) (a : List ℕ) (b : List A) → length a ≡ length b
      → length (if t then n ∷ a else a) ≡ length (one_if t x ++ b)
  count_step true n x a b h = ap suc h
  count_step false n x a b h = h

  -- the places of what was sent are as many as that
  count_sent : (c n : ℕ) (xs : List (Entry G)) → length (places {G = G} (is_sent c) n xs) ≡ length (sent c xs)
  count_sent c n [] = refl
  count_sent c n (Sent d b m ∷ xs) =
      count_step (nat_eq d c) n (b, m) (places {G = G} (is_sent c) (n + 1) xs) (sent c xs) (count_sent c (n + 1) xs)
  count_sent c n (e ∷ xs) = count_sent c (n + 1) xs

  -- the places of what took effect are as many as that
  count_took : (c n : ℕ) (xs : List (Entry G)) → length (places {G = G} (is_took c) n xs) ≡ length (took c xs)
  count_took c n [] = refl
  count_took c n (Took d b m ∷ xs) =
      count_step (nat_eq d c) n (b, m) (places {G = G} (is_took c) (n + 1) xs) (took c xs) (count_took c (n + 1) xs)
  count_took c n (e ∷ xs) = count_took c (n + 1) xs

  -- an entry that stood keeps its place
  front_at : (p : Entry G → Bool) (xs ys : List (Entry G)) (i : ℕ) → i < length (places p 0 xs)
      → get_or (places p 0 (xs ++ ys)) i 0 ≡ get_or (places p 0 xs) i 0
  front_at p xs ys i h = ap (λ l. get_or l i 0) (places_append p 0 xs ys) ∙ get_or-append (places p 0 xs) _ 0 i h

  -- the places in the first part of a log stay
  order_front : (c : ℕ) (xs ys : List (Entry G)) → InOrder c xs → (i : ℕ) → i < length (took c xs)
      → (i < length (sent c (xs ++ ys)))
      × (slice_index (places {G = G} (is_sent c) 0 (xs ++ ys)) i < slice_index
      (places {G = G} (is_took c) 0 (xs ++ ys)) i)
  order_front c xs ys o i h =
      let q = o i h in
      let q0 = q.0 in
      let q1 = q.1 in
      let s = count_sent c 0 xs in
      let t = count_took c 0 xs in
      let a = front_at (is_sent c) xs ys i (omega arith) in
      let b = front_at (is_took c) xs ys i (omega arith) in
      let l : length (sent c (xs ++ ys)) ≡ length (sent c xs) + length (sent c ys) =
      ap length (map_more (sent_by c) xs ys (sent c ys) refl) ∙ length-append (sent c xs) (sent c ys) in
      (omega arith, omega arith)

  -- entries without a Took keep the order
  order_more : (c : ℕ) (xs ys : List (Entry G)) → InOrder c xs → took c ys ≡ [] → InOrder c (xs ++ ys)
  order_more c xs ys o k i h =
      order_front c xs ys o i (let e : took c (xs ++ ys) ≡ took c xs = map_no_more (took_by c) xs ys k in
      subst (λ (l : List (Ask G)). i < length l) e h)

  -- one more takes effect, if fewer took effect than were sent
  order_took : (c : ℕ) (xs : List (Entry G)) (b : G.Board) (d : G.Decision) → InOrder c xs
      → length (took c xs) < length (sent c xs) → InOrder c (xs ++ Took c b d ∷ [])
  order_took c xs b d o lt i h =
      elim (cases_lt i (length (took c xs))) [ inl z ↦ order_front c xs (Took c b d ∷ []) o i z | inr z ↦ final z ]
    where
      one : took {G = G} c (Took c b d ∷ []) ≡ (b, d) ∷ []
      one = ap (λ l. l ++ []) (one_of_true (nat_eq c c) (b, d) (same_number c))

      two : places {G = G} (is_took c) (0 + length xs) (Took c b d ∷ []) ≡ (0 + length xs) ∷ []
      two = rw (same_number c) refl

      final : length (took c xs) ≤ i
          → (i < length (sent c (xs ++ Took c b d ∷ [])))
          × (slice_index (places {G = G} (is_sent c) 0 (xs ++ Took c b d ∷ [])) i < slice_index
          (places {G = G} (is_took c) 0 (xs ++ Took c b d ∷ [])) i)
      final z =
          let e : took c (xs ++ Took c b d ∷ []) ≡ took c xs ++ (b, d) ∷ [] =
          map_more (took_by c) xs (Took c b d ∷ []) ((b, d) ∷ []) one in
          let ln : length (took c (xs ++ Took c b d ∷ [])) ≡ length (took c xs) + 1 =
          ap length e ∙ length-append (took c xs) ((b, d) ∷ []) in
          let es : sent c (xs ++ Took c b d ∷ []) ≡ sent c xs = map_no_more (sent_by c) xs (Took c b d ∷ []) refl in
          let ls : length (sent c (xs ++ Took c b d ∷ [])) ≡ length (sent c xs) = ap length es in
          let s = count_sent c 0 xs in
          let t = count_took c 0 xs in
          let ie : length (places {G = G} (is_took c) 0 xs) ≡ i = omega arith in
          let a = front_at (is_sent c) xs (Took c b d ∷ []) i (omega arith) in
          let below = places_below (is_sent c) 0 xs i (omega arith) in
          let at : get_or (places {G = G} (is_took c) 0 (xs ++ Took c b d ∷ []))
          (length (places {G = G} (is_took c) 0 xs)) 0
          ≡ 0 + length xs =
          ap (λ l. get_or l (length (places {G = G} (is_took c) 0 xs)) 0)
          (places_append (is_took c) 0 xs (Took c b d ∷ [])
          ∙ ap (λ l. places {G = G} (is_took c) 0 xs ++ l) two)
          ∙ get_or-append_seam (places {G = G} (is_took c) 0 xs) (0 + length xs) [] 0 in
          let at' : get_or (places {G = G} (is_took c) 0 (xs ++ Took c b d ∷ [])) i 0 ≡ 0 + length xs =
          subst (λ k. get_or (places {G = G} (is_took c) 0 (xs ++ Took c b d ∷ [])) k 0 ≡ 0 + length xs) ie at in
          (omega arith, omega arith)

  -- entries that are neither a board, a click, a Sent, a Took nor an Undone
  abbrev pub IsPlain : Entry G → Type 0
  IsPlain (Shown c b) = ⊥
  IsPlain (Clicked c d a) = ⊥
  IsPlain (Sent c b d) = ⊥
  IsPlain (Took c b d) = ⊥
  IsPlain (Undone c b d) = ⊥
  IsPlain e = Unit {0}

  -- one more board is shown
  shown_one : (log : List (Entry G)) (c : ℕ) (b : G.Board) → shown c (log ++ Shown c b ∷ []) ≡ shown c log ++ b ∷ []
  shown_one log c b =
      map_more (shown_by c) log (Shown c b ∷ []) (b ∷ [])
      (ap (λ l. l ++ []) (one_of_true (nat_eq c c) b (same_number c)))

  -- a good board, or none
  one_good : (b : G.Board) (z : Bool) → G.good b ≡ true → AllPass (one_if z b ++ [])
  one_good b true h = (h, tt)
  one_good b false h = tt

  -- what holds of a single plain entry
  plain_told : (log : List (Entry G)) (e : Entry G) → IsPlain e
      → Called G None log (e ∷ []) × NoneUndone (e ∷ []) × AllFit G log (e ∷ [])
      × ((c : ℕ) → (sent c (e ∷ []) ≡ []) × (took c (e ∷ []) ≡ []) × AllPass (shown c (e ∷ [])))
  plain_told log (Shown c b) h = absurd h
  plain_told log (Clicked c d a) h = absurd h
  plain_told log (Sent c b d) h = absurd h
  plain_told log (Took c b d) h = absurd h
  plain_told log (Undone c b d) h = absurd h
  plain_told log e h = ((refl, refl), tt, (tt, tt), λ c. (refl, refl, tt))

  -- what holds of a log and of more entries holds of both
  grown : (log es : List (Entry G)) → Told log → Called G None log es → NoneUndone es → AllFit G log es
      → ((c : ℕ) → AllPass (shown c es)) → ((c : ℕ) → AllAllowed (sent c es)) → ((c : ℕ) → InOrder c (log ++ es))
      → Told (log ++ es)
  grown log es t p u f g l o = record {
    seen =
        λ c. subst (AllPass) (sym (map_more (shown_by c) log es (shown c es) refl))
        (good_append (shown c log) (shown c es) (t.seen c) (g c));
    legal =
        λ c. subst (AllAllowed) (sym (map_more (sent_by c) log es (sent c es) refl))
        (legal_append (sent c log) (sent c es) (t.legal c) (l c));
    called = called_append G None [] log es t.called p;
    undone = undone_append log es t.undone u;
    fit = fit_append G [] log es t.fit f;
    order = o;
  }

  -- a plain entry is noted
  pub told_plain : (log : List (Entry G)) (e : Entry G) → IsPlain e → Told log → Told (log ++ e ∷ [])
  told_plain log e h t =
      let q = plain_told log e h in
      grown log (e ∷ []) t q.0 q.1 q.2 (λ c. (q.3 c).2) (λ c. subst (AllAllowed) (sym (q.3 c).0) tt)
      (λ c. order_more c log (e ∷ []) (t.order c) (q.3 c).1)

  -- a good board is shown at which no standing order is due
  pub told_shown : (log : List (Entry G)) (c : ℕ) (b : G.Board) → G.good b ≡ true → c ≡ open_now log
      → is_due c (log ++ Shown c b ∷ []) b ≡ false → Told log → Told (log ++ Shown c b ∷ [])
  told_shown log c b good here due t =
      grown log _ t (refl, ap (roll_if G c) due) tt (here, tt)
      (λ e. one_good b (nat_eq c e) good) (λ e. tt) (λ e. order_more e log _ (t.order e) refl)

  -- a good board is shown at which one is due, with the roll that is sent
  pub told_rolled : (log : List (Entry G)) (c : ℕ) (b : G.Board) → G.good b ≡ true → c ≡ open_now log
      → is_due c (log ++ Shown c b ∷ []) b ≡ true → G.allows b G.roll ≡ None → Told log
      → Told (log ++ Shown c b ∷ Sent c b G.roll ∷ [])
  told_rolled log c b good here due allowed t =
      grown log _ t (refl, (ap (roll_if G c) (sym due), refl)) tt
      (here, (ap last (shown_one log c b) ∙ last_snoc (shown c log) b, tt))
      (λ e. one_good b (nat_eq c e) good) (λ e. one (nat_eq c e)) (λ e. order_more e log _ (t.order e) refl)
    where
      one : (z : Bool) → AllAllowed (one_if z (b, G.roll) ++ [])
      one true = (good, allowed, tt)
      one false = tt

  -- a click is noted that is refused
  pub told_no : (log : List (Entry G)) (d : G.Decision) (x : Refusal) → answer log d ≡ Some x → Told log
      → Told (log ++ Clicked (open_now log) d (Some x) ∷ [])
  told_no log d x h t =
      grown log _ t (refl, refl) tt ((refl, sym h), tt) (λ c. tt) (λ c. tt) (λ c. order_more c log _ (t.order c) refl)

  -- a click is noted that is answered by yes, with what is sent
  pub told_yes : (log : List (Entry G)) (d : G.Decision) (b : G.Board) → answer log d ≡ None → G.allows b d ≡ None
      → last (shown (open_now log) log) ≡ Some b → Told log
      → Told (log ++ Clicked (open_now log) d None ∷ Sent (open_now log) b d ∷ [])
  told_yes log d b h k la t =
      grown log _ t (refl, (refl, refl)) tt (
        (refl, sym h),
        (ap last (map_no_more (shown_by (open_now log)) log (Clicked (open_now log) d None ∷ []) refl) ∙ la, tt),
      )
      (λ c. tt)
      (λ c. one (nat_eq (open_now log) c)) (λ c. order_more c log _ (t.order c) refl)
    where
      one : (z : Bool) → AllAllowed (one_if z (b, d) ++ [])
      one true = (last_good (shown (open_now log) log) b (t.seen (open_now log)) la, k, tt)
      one false = tt

  -- a decision took effect that was sent and had not yet
  pub told_took : (log : List (Entry G)) (c : ℕ) (b : G.Board) (d : G.Decision) → length (took c log) < length
      (sent c log)
      → Told log → Told (log ++ Took c b d ∷ [])
  told_took log c b d lt t = grown log _ t (refl, refl) tt (tt, tt) (λ e. tt) (λ e. tt) (λ e. elim (eqb_tells e c) [
    | inl q ↦ subst (λ e. InOrder e (log ++ Took c b d ∷ [])) (sym q.1) (order_took c log b d (t.order c) lt)
    | inr q ↦
        order_more e log _ (t.order e)
        (ap (λ l. l ++ []) (one_of_false (nat_eq c e) (b, d) (other_number c e (λ z. q.1 (sym z)))))
  ])
