-- Each decision sent comes directly after what calls for it, and what calls for one is directly followed by it.
use Rattle.std.proofs.Common.{◌≡◌, ℕ, Bool, true, false, List, [], ◌∷◌, ◌++◌, Option, Some, None, nat_eq, refl, sym, ◌∙◌, ap, subst, append-nil, append_assoc}
use Rattle.std.proofs.lemmas.Option.{same_Some}
use Rattle.fibs_game.specs.Log.{Entry, Shown, Clicked, Sent}
use Rattle.fibs_game.specs.Orders.{is_due}
use Rattle.fibs_game.specs.Words.{open_now, last, shown, shown_by}
use Rattle.fibs_game.specs.Headline.{Answers, its_click, its_order, AllAnswerTheirs, SentNext, AllClicksSent, AllOrdersSent, AllOnShown}
use Rattle.fibs_game.specs.Game.{Game}
use Rattle.fibs_game.proofs.past.Lists.{last_snoc, map_more, one_of_true, same_number}

module _ (G : Game) where
  -- a decision to be sent, with its connection
  abbrev pub Call : Type 0
  Call = ℕ × G.Decision

  -- a roll, or nothing
  abbrev pub roll_if : ℕ → Bool → Option Call
  roll_if c true = Some (c, G.roll)
  roll_if c false = None

  -- what an entry calls for, after the log before it
  abbrev pub calls_for : List (Entry G) → Entry G → Option Call
  calls_for before (Clicked c d None) = Some (c, d)
  calls_for before (Shown c b) = roll_if c (is_due c (before ++ Shown c b ∷ []) b)
  calls_for before e = None

  -- what an entry sends
  abbrev pub sent_in : Entry G → Option Call
  sent_in (Sent c b d) = Some (c, d)
  sent_in e = None

  -- by recursion: just what is called for is sent, and at the end nothing is owed
  abbrev pub Called : Option Call → List (Entry G) → List (Entry G) → Type 0
  Called owed before [] = owed ≡ None
  Called owed before (e ∷ later) = (sent_in e ≡ owed) × Called (calls_for before e) (before ++ e ∷ []) later

  -- in two parts of a log
  pub called_append : (owed : Option Call) (before xs ys : List (Entry G)) → Called owed before xs
      → Called None (before ++ xs) ys → Called owed before (xs ++ ys)
  called_append owed before [] ys h k =
      subst (λ o. Called o before ys) (sym h) (subst (λ l. Called None l ys) (append-nil before) k)
  called_append owed before (e ∷ later) ys h k = (
    h.0,
    called_append (calls_for before e) (before ++ e ∷ []) later ys h.1
        (subst (λ l. Called None l ys) (sym (append_assoc before (e ∷ []) later)) k),
  )

  -- what is owed was called for by the last entry
  abbrev CalledLast : List (Entry G) → Option Call → Type 0
  CalledLast log None = Unit {0}
  CalledLast log (Some call) =
      (before : List (Entry G)) × (e : Entry G) × (log ≡ before ++ e ∷ []) × (calls_for before e ≡ Some call)

  -- what the last entry calls for is called for by the last entry
  called_last : (before : List (Entry G)) (e : Entry G) (owed : Option Call) → calls_for before e ≡ owed
      → CalledLast (before ++ e ∷ []) owed
  called_last before e None h = tt
  called_last before e (Some call) h = (before, e, refl, h)

  -- a board that calls for a decision is one at which an order is due, and calls for a roll
  order_calls : (c c' : ℕ) (d : G.Decision) (due : Bool) → roll_if c' due ≡ Some (c, d)
      → (due ≡ true) × (c' ≡ c) × (G.roll ≡ d)
  order_calls c c' d true h =
      let same = same_Some (c', G.roll) (c, d) h in (refl, ap (λ (x : Call). x.0) same, ap (λ (x : Call). x.1) same)
  order_calls c c' d false h = absurd cc

  -- if the board of an entry is the last one shown on its connection, and is shown on the open one
  abbrev IsShown : ℕ → G.Board → List (Entry G) → Entry G → Type 0
  IsShown c b before (Shown c' b') = (c' ≡ open_now before) × (c' ≡ c → b' ≡ b)
  IsShown c b before e = Unit {0}

  -- what calls for a decision is answered by it
  answers : (c : ℕ) (b : G.Board) (d : G.Decision) (before : List (Entry G)) (e : Entry G) → calls_for before e
      ≡ Some (c, d)
      → IsShown c b before e → Answers c b (before ++ e ∷ []) d
  answers c b d before (Clicked c' d' None) h is =
      subst (λ (x : Call). Answers c b (before ++ Clicked x.0 x.1 None ∷ []) d) (sym (same_Some (c', d') (c, d) h))
      (its_click before d)
  answers c b d before (Shown c' b') h is =
      let due = order_calls c c' d (is_due c' (before ++ Shown c' b' ∷ []) b') h in
      let same_c : c' ≡ c = due.1 in
      let same_b : b' ≡ b = is.1 same_c in
      let same_d : G.roll ≡ d = due.2 in
      let due' : is_due c (before ++ Shown c b ∷ []) b ≡ true =
      subst (λ x. is_due c (before ++ Shown c x ∷ []) x ≡ true) same_b
      (subst (λ x. is_due x (before ++ Shown x b' ∷ []) b' ≡ true) same_c due.0) in
      subst (λ x. Answers c b (before ++ Shown x b' ∷ []) d) (sym same_c)
      (subst (λ x. Answers c b (before ++ Shown c x ∷ []) d) (sym same_b)
      (subst (Answers c b (before ++ Shown c b ∷ [])) same_d (its_order before (sym same_c ∙ is.0) due')))
  answers c b d before e h is = absurd cc

  -- the entry sends this decision
  sends : (c : ℕ) (d : G.Decision) (e : Entry G) (later : List (Entry G)) → sent_in e ≡ Some (c, d)
      → SentNext c d (e ∷ later)
  sends c d (Sent c' b d') later h =
      (b, later, ap (λ (x : Call). Sent x.0 b x.1 ∷ later) (same_Some (c', d') (c, d) h))
  sends c d e later h = absurd cc

  -- what is owed is sent next
  next_sends : (c : ℕ) (d : G.Decision) (before later : List (Entry G)) → Called (Some (c, d)) before later
      → SentNext c d later
  next_sends c d before [] h = absurd cc
  next_sends c d before (e ∷ later) h = sends c d e later h.0

  -- each board is shown on the open connection
  abbrev pub AllShownHere : List (Entry G) → Type 0
  AllShownHere log =
      (before later : List (Entry G)) (c : ℕ) (b : G.Board) → log ≡ before ++ Shown c b ∷ later → c ≡ open_now before

  -- each decision comes directly after what it answers
  pub own_of : (log : List (Entry G)) → Called None [] log → AllShownHere log → AllOnShown log → AllAnswerTheirs log
  own_of log h here on before later c b d is = go None [] before refl tt (subst (Called None []) is h)
    where
      is_shown : (first : List (Entry G)) (e : Entry G) → before ≡ first ++ e ∷ [] → IsShown c b first e
      is_shown first (Shown c' b') p = (
        here first (Sent c b d ∷ later) c' b'
            (is ∙ ap (λ l. l ++ Sent c b d ∷ later) p ∙ append_assoc first (Shown c' b' ∷ []) (Sent c b d ∷ later)),
        λ q. same_Some b' b
            (sym (ap last (map_more (shown_by c) first (Shown c' b' ∷ []) (b' ∷ [])
            (ap (λ l. l ++ []) (one_of_true (nat_eq c' c) b' (subst (λ x. nat_eq c' x ≡ true) q (same_number c')))))
            ∙ last_snoc (shown c first) b')
            ∙ sym (ap (λ l. last (shown c l)) p) ∙ on before later c b d is),
      )
      is_shown first e p = tt

      now : (owed : Option Call) (first : List (Entry G)) → first ≡ before → Some (c, d) ≡ owed → CalledLast first owed
          → Answers c b first d
      now owed first p h k =
          let l = subst (CalledLast first) (sym h) k in
          subst (λ x. Answers c b x d) (sym l.2) (answers c b d l.0 l.1 l.3 (is_shown l.0 l.1 (sym p ∙ l.2)))

      go : (owed : Option Call) (first rest : List (Entry G)) → first ++ rest ≡ before → CalledLast first owed
          → Called owed first (rest ++ Sent c b d ∷ later) → Answers c b before d
      go owed first [] p k h =
          let all : first ≡ before = sym (append-nil first) ∙ p in
          subst (λ l. Answers c b l d) all (now owed first all h.0 k)
      go owed first (x ∷ rest) p k h =
          go (calls_for first x) (first ++ x ∷ []) rest (append_assoc first (x ∷ []) rest ∙ p)
          (called_last first x (calls_for first x) refl) h.1

  -- what an entry calls for is sent next
  sent_next : (log before later : List (Entry G)) (e : Entry G) (c : ℕ) (d : G.Decision) → Called None [] log
      → log ≡ before ++ e ∷ later → calls_for before e ≡ Some (c, d) → SentNext c d later
  sent_next log before later e c d h is calls = go None [] before refl (subst (Called None []) is h)
    where
      go : (owed : Option Call) (first rest : List (Entry G)) → first ++ rest ≡ before
          → Called owed first (rest ++ e ∷ later)
          → SentNext c d later
      go owed first [] p h =
          let call : calls_for first e ≡ Some (c, d) = ap (λ l. calls_for l e) (sym (append-nil first) ∙ p) ∙ calls in
          next_sends c d (first ++ e ∷ []) later (subst (λ o. Called o (first ++ e ∷ []) later) call h.1)
      go owed first (x ∷ rest) p h =
          go (calls_for first x) (first ++ x ∷ []) rest (append_assoc first (x ∷ []) rest ∙ p) h.1

  -- each click that was answered by yes is directly followed by its decision
  pub clicks_sent_of : (log : List (Entry G)) → Called None [] log → AllClicksSent log
  clicks_sent_of log h before later c d is = sent_next log before later (Clicked c d None) c d h is refl

  -- and each board at which a standing order is due by a roll
  pub orders_sent_of : (log : List (Entry G)) → Called None [] log → AllOrdersSent log
  orders_sent_of log h before later c b is due =
      sent_next log before later (Shown c b) c G.roll h is (ap (roll_if c) due)
