-- What more entries change in the words of a history.
use Rattle.std.proofs.Common.{◌≡◌, ◌<◌, ◌≤◌, ℕ, zero, suc, Bool, true, false, not, ◌||◌, List, [], ◌∷◌, ◌++◌, length, Option, Some, None, is_some, if◌then◌else◌, nat_eq, flat_map, refl, sym, ◌∙◌, ap, subst, arith, true≢false}
use Rattle.fibs_game.specs.declared.refusal.Refusal.TheVariants.{Offline, NotReady, ServerPlays}
use Rattle.fibs_game.specs.Log.{Entry, Opened, Welcomed, Informed, Shown, Sent, Ordered, Withdrawn}
use Rattle.fibs_game.specs.Words.{one_if, is_empty, last, open_now, opened_by, connections, shown, sent, welcomed, informed, welcomed_by, informed_by, shown_by, sent_by, orders_by, is_spent, unconfirmed, answer, if_board, plays_itself}
use Rattle.fibs_game.specs.Numbering.{Quiet, Numbered}
use Rattle.fibs_game.specs.Game.{Game, Flags}
use Rattle.fibs_game.proofs.past.Lists.{other_number, one_of_true, one_of_false, same_number, map_more, map_no_more}
use Rattle.fibs_game.proofs.past.Past.{open_append, spent_quiet, spent_none, spent_has_sent}

module _ (G : Game) where
  -- what is noted of one connection gives nothing for another
  pub other : {A : Type 0} (c d : ℕ) (x : A) → (c ≡ d → ⊥) → one_if (nat_eq c d) x ++ [] ≡ []
  other c d x h = ap (λ l. l ++ []) (one_of_false (nat_eq c d) x (other_number c d h))

  -- what is noted of a connection gives it for that connection
  pub own : {A : Type 0} (c : ℕ) (x : A) → one_if (nat_eq c c) x ++ [] ≡ x ∷ []
  own c x = ap (λ l. l ++ []) (one_of_true (nat_eq c c) x (same_number c))

  -- entries of a connection are quiet on all others

  -- a message 1 of one connection says nothing of another
  pub quiet_welcomed : (c d : ℕ) → (c ≡ d → ⊥) → Quiet {G = G} d (Welcomed c ∷ [])
  quiet_welcomed c d h =
      record { no_welcome = other c d c h; no_flags = refl; no_board = refl; no_sent = refl; no_order = refl }

  -- a message 2 of one connection says nothing of another
  pub quiet_informed : (c d : ℕ) (f : Flags) → (c ≡ d → ⊥) → Quiet {G = G} d (Informed c f ∷ [])
  quiet_informed c d f h =
      record { no_welcome = refl; no_flags = other c d f h; no_board = refl; no_sent = refl; no_order = refl }

  -- a board of one connection says nothing of another
  pub quiet_shown : (c d : ℕ) (b : G.Board) → (c ≡ d → ⊥) → Quiet {G = G} d (Shown c b ∷ [])
  quiet_shown c d b h =
      record { no_welcome = refl; no_flags = refl; no_board = other c d b h; no_sent = refl; no_order = refl }

  -- a decision sent on one connection says nothing of another
  pub quiet_sent : (c d : ℕ) (b : G.Board) (m : G.Decision) → (c ≡ d → ⊥) → Quiet {G = G} d (Sent c b m ∷ [])
  quiet_sent c d b m h =
      record { no_welcome = refl; no_flags = refl; no_board = refl; no_sent = other c d (b, m) h; no_order = refl }

  -- a standing order of one connection says nothing of another
  pub quiet_ordered : (c d : ℕ) → (c ≡ d → ⊥) → Quiet {G = G} d (Ordered c ∷ [])
  quiet_ordered c d h =
      record { no_welcome = refl; no_flags = refl; no_board = refl; no_sent = refl; no_order = other c d true h }

  -- the end of an order on one connection says nothing of another
  pub quiet_withdrawn : (c d : ℕ) → (c ≡ d → ⊥) → Quiet {G = G} d (Withdrawn c ∷ [])
  quiet_withdrawn c d h =
      record { no_welcome = refl; no_flags = refl; no_board = refl; no_sent = refl; no_order = other c d false h }

  -- if two histories say nothing of a connection, neither do both in a row
  pub quiet_both : (c : ℕ) (xs ys : List (Entry G)) → Quiet {G = G} c xs → Quiet {G = G} c ys
      → Quiet {G = G} c (xs ++ ys)
  quiet_both c xs ys h k = record {
    no_welcome = map_no_more (welcomed_by c) xs ys k.no_welcome ∙ h.no_welcome;
    no_flags = map_no_more (informed_by c) xs ys k.no_flags ∙ h.no_flags;
    no_board = map_no_more (shown_by c) xs ys k.no_board ∙ h.no_board;
    no_sent = map_no_more (sent_by c) xs ys k.no_sent ∙ h.no_sent;
    no_order = map_no_more (orders_by c) xs ys k.no_order ∙ h.no_order;
  }

  -- the numbers stay in order

  -- an entry of no connection
  pub numbered_silent : (log es : List (Entry G)) → Numbered {G = G} log → flat_map opened_by es ≡ []
      → open_now (log ++ es) ≤ connections log → ((d : ℕ) → Quiet {G = G} d es) → Numbered {G = G} (log ++ es)
  numbered_silent log es n h below quiet =
      let same : connections (log ++ es) ≡ connections log = ap length (map_no_more opened_by log es h) in
      record {
        below = subst (λ k. open_now (log ++ es) ≤ k) (sym same) below;
        none = quiet_both 0 log es n.none (quiet 0);
        fresh = λ c lt. quiet_both c log es (n.fresh c (subst (λ k. k < c) same lt)) (quiet c);
      }

  -- entries of the open connection
  pub numbered_own : (log es : List (Entry G)) (c : ℕ) → Numbered {G = G} log → flat_map opened_by es ≡ []
      → open_now log ≡ c
      → (c ≡ 0 → ⊥) → open_now (log ++ es) ≡ c → ((d : ℕ) → (c ≡ d → ⊥) → Quiet {G = G} d es)
      → Numbered {G = G} (log ++ es)
  numbered_own log es c n h here some still quiet =
      let same : connections (log ++ es) ≡ connections log = ap length (map_no_more opened_by log es h) in
      let below : c ≤ connections log = subst (λ k. k ≤ connections log) here n.below in
      record {
        below = subst (λ k. open_now (log ++ es) ≤ k) (sym same) (subst (λ k. k ≤ connections log) (sym still) below);
        none = quiet_both 0 log es n.none (quiet 0 some);
        fresh = λ d lt.
            let lt' : connections log < d = subst (λ k. k < d) same lt in
            quiet_both d log es (n.fresh d lt') (quiet d (λ e. not_below c d (connections log) e below lt'));
      }
    where
      not_below : (c d k : ℕ) → c ≡ d → c ≤ k → k < d → ⊥
      not_below c d k e h l = omega (arith, e, h, l)

  -- a connection is opened
  pub numbered_opened : (log : List (Entry G)) → Numbered {G = G} log
      → Numbered {G = G} (log ++ Opened (suc (connections log)) ∷ [])
  numbered_opened log n =
      let k = connections log in
      let es : List (Entry G) = Opened (suc k) ∷ [] in
      let quiet : (d : ℕ) → Quiet {G = G} d es =
      λ d. record { no_welcome = refl; no_flags = refl; no_board = refl; no_sent = refl; no_order = refl } in
      let more : connections (log ++ es) ≡ suc k =
      ap length (map_more opened_by log es (suc k ∷ []) refl) ∙ snoc_length (flat_map opened_by log) (suc k) in
      let here : open_now (log ++ es) ≡ suc k = open_append G 0 log es in
      record {
        below = subst (λ x. x ≤ connections (log ++ es)) (sym here) (subst (λ x. suc k ≤ x) (sym more) (omega arith));
        none = quiet_both 0 log es n.none (quiet 0);
        fresh = λ c lt. quiet_both c log es (n.fresh c (less c k (connections (log ++ es)) more lt)) (quiet c);
      }
    where
      snoc_length : (xs : List ℕ) (x : ℕ) → length (xs ++ x ∷ []) ≡ suc (length xs)
      snoc_length [] x = refl
      snoc_length (y ∷ ys) x = ap suc (snoc_length ys x)

      less : (c k m : ℕ) → m ≡ suc k → m < c → k < c
      less c k m e lt = omega (arith, e, lt)

  -- words

  -- what is quiet changes nothing of the stretch
  pub unconfirmed_quiet : (c : ℕ) (log es : List (Entry G))
      → shown c es ≡ [] → sent c es ≡ [] → unconfirmed c (log ++ es) ≡ unconfirmed c log
  unconfirmed_quiet c log es h k =
      let s = spent_quiet G c log es h k in
      let m : sent c (log ++ es) ≡ sent c log = map_no_more (sent_by c) log es k in
      ap (λ z. if z then last (sent c (log ++ es)) else None) s
      ∙ ap (λ l. if is_spent c log then last l else None) m

  -- on a connection on which no board was shown nothing is unconfirmed
  pub unconfirmed_none : (c : ℕ) (log : List (Entry G)) → shown c log ≡ [] → unconfirmed c log ≡ None
  unconfirmed_none c log h = rw (spent_none G c log h) refl

  -- a list has a last element exactly if it is not empty
  pub some_last : {A : Type 0} (xs : List A) → is_some (last xs) ≡ not (is_empty xs)
  some_last [] = refl
  some_last (x ∷ []) = refl
  some_last (x ∷ y ∷ ys) = some_last (y ∷ ys)

  -- what is unconfirmed is something if the stretch is spent
  pub some_spent : (c : ℕ) (log : List (Entry G)) → is_some (unconfirmed c log) ≡ is_spent c log
  some_spent c log = go (is_spent c log) (spent_has_sent G c log)
    where
      go : (z : Bool) → (z ≡ true → is_empty (sent c log) ≡ false) → is_some (if z then last (sent c log) else None) ≡ z
      go true f = some_last (sent c log) ∙ ap not (f refl)
      go false f = refl

  -- a list without a last element is empty
  pub none_last : {A : Type 0} (xs : List A) → last xs ≡ None → xs ≡ []
  none_last [] h = refl
  none_last (x ∷ xs) h = absurd (go x xs h)
    where
      go : {A : Type 0} (x : A) (xs : List A) → last (x ∷ xs) ≡ None → ⊥
      go x [] h = cc
      go x (y ∷ ys) h = go y ys h

  -- what the answer yes to a click says
  pub record Yes (log : List (Entry G)) (d : G.Decision) : Type 0 where
    pub some : 0 < open_now log
    pub fresh : is_spent (open_now log) log ≡ false
    pub on : G.Board
    pub is_last : last (shown (open_now log) log) ≡ Some on
    pub allowed : G.allows on d ≡ None

  -- a click that nothing refuses met each condition of a yes
  pub yes : (log : List (Entry G)) (d : G.Decision)
      → answer log d ≡ None → Yes log d
  yes log d h =
      one (nat_eq (open_now log) 0) (is_empty (welcomed (open_now log) log) || is_empty (informed (open_now log) log))
      (plays_itself (last (informed (open_now log) log))) refl h
    where
      board : (s : Bool) (o : Option G.Board) → is_spent (open_now log) log ≡ s
          → last (shown (open_now log) log) ≡ o → 0 < open_now log → if_board G s d o ≡ None → Yes log d
      board s None e f n h = cc
      board true (Some b) e f n h = cc
      board false (Some b) e f n h = record { some = n; fresh = e; on = b; is_last = f; allowed = h }

      none : (n : ℕ) → nat_eq n 0 ≡ false → 0 < n
      none zero h = absurd (true≢false h)
      none (suc n) h = omega arith

      one : (x y z : Bool) → nat_eq (open_now log) 0 ≡ x
          → (if x then Some Offline else (if y then Some NotReady else (if z then Some ServerPlays
          else if_board G (is_spent (open_now log) log) d (last (shown (open_now log) log)))))
          ≡ None → Yes log d
      one true y z e h = cc
      one false true z e h = cc
      one false false true e h = cc
      one false false false e h = board _ _ refl refl (none _ e) h
