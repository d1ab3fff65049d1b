-- The commands that are on their way to the server.
use Rattle.std.proofs.Common.{◌≡◌, ℕ, ◌-◌, ◌<◌, ◌≤◌, Bool, true, false, List, [], ◌∷◌, ◌++◌, Option, Some, None, flat_map, take, length, refl, sym, ◌∙◌, zero, suc, ap, subst, inl, inr, ◌⊎◌, append-nil, append_assoc, true≢false, arith}
use Rattle.std.proofs.lemmas.List.{take-append-le}
use Rattle.std.proofs.lemmas.List.Concat.{flat_map-append}
use Rattle.std.proofs.lemmas.Bool.{cases_lt}
use Rattle.std.proofs.Math.Seq.{take-nil}
use Rattle.std.proofs.lemmas.Option.{some_pair_parts}
use Rattle.fibs_game.specs.Words.{Ask}
use Rattle.fibs_game.specs.Machine.{on_wire}
use Rattle.fibs_game.specs.Wires.{next_line}
use Rattle.fibs_game.specs.Game.{Game}
use Rattle.fibs_game.specs.Lawful.{AllQuiet, IsQuiet, Lawful, NoReturn}
use Rattle.fibs_game.proofs.wires.Cuts.{line_whole, line_cut, no_line}

module _ (G : Game) where
  -- at most one decision is among the commands, that of p
  abbrev pub Queue : Option (Ask G) → List (List ℕ) → Type 0
  Queue None ts = AllQuiet G ts
  Queue (Some a) [] = ⊥
  Queue (Some a) (t ∷ ts) = (IsQuiet G t × Queue (Some a) ts) ⊎ ((t ≡ G.command a.0 a.1) × NoReturn t × AllQuiet G ts)

  -- The bytes are whole commands, and at a loss a part of one; what the loss took would follow. While the connection is
  -- open nothing is lost.
  pub record OnWay (is_open : Bool) (p : Option (Ask G)) (asked : List ℕ) : Type 0 where
    pub ts : List (List ℕ)
    pub gone : List (List ℕ)
    pub part : List ℕ
    pub bytes : asked ≡ flat_map on_wire ts ++ part
    pub no_more : next_line part ≡ None
    pub queue : Queue p (ts ++ gone)
    pub exact : is_open ≡ true → (part ≡ []) × (gone ≡ [])

  -- more commands that are no decisions
  quiet_more : (ts us : List (List ℕ)) → AllQuiet G ts → AllQuiet G us → AllQuiet G (ts ++ us)
  quiet_more [] us h k = k
  quiet_more (t ∷ ts) us h k = (h.0, quiet_more ts us h.1 k)

  -- more such commands after those on their way
  queue_more : (p : Option (Ask G)) (ts us : List (List ℕ)) → Queue p ts → AllQuiet G us → Queue p (ts ++ us)
  queue_more None ts us h k = quiet_more ts us h k
  queue_more (Some a) [] us h k = absurd h
  queue_more (Some a) (t ∷ ts) us h k =
      elim h [ inl q ↦ inl (q.0, queue_more (Some a) ts us q.1 k) | inr q ↦ inr (q.0, q.1, quiet_more ts us q.2 k) ]

  -- a decision after commands that are none
  queue_decision : (a : Ask G) (ts : List (List ℕ)) → NoReturn (G.command a.0 a.1) → AllQuiet G ts
      → Queue (Some a) (ts ++ G.command a.0 a.1 ∷ [])
  queue_decision a [] n h = inr (refl, n, tt)
  queue_decision a (t ∷ ts) n h = inl (h.0, queue_decision a ts n h.1)

  -- the texts hold no CR
  abbrev pub Texts : List (List ℕ) → Type 0
  Texts [] = Unit {0}
  Texts (t ∷ ts) = NoReturn t × Texts ts

  -- commands that are no decisions hold none
  pub quiet_texts : (ts : List (List ℕ)) → AllQuiet G ts → Texts ts
  quiet_texts [] h = tt
  quiet_texts (t ∷ ts) h = (h.0.text, quiet_texts ts h.1)

  -- nor do all commands on their way
  pub texts_of : (p : Option (Ask G)) (ts : List (List ℕ)) → Queue p ts → Texts ts
  texts_of None ts q = quiet_texts ts q
  texts_of (Some a) [] q = tt
  texts_of (Some a) (t ∷ ts) q =
      elim q [ inl h ↦ (h.0.text, texts_of (Some a) ts h.1) | inr h ↦ (h.1, quiet_texts ts h.2) ]

  module _ (law : Lawful G) where
    -- nothing is on its way
    pub way_none : (o : Bool) → OnWay o None []
    way_none o =
        record {
          ts = [];
          gone = [];
          part = [];
          bytes = refl;
          no_more = no_line G;
          queue = tt;
          exact =
              λ h. (refl, refl);
        }

    -- while the connection is open, the bytes are whole commands
    whole : (p : Option (Ask G)) (asked : List ℕ) (w : OnWay true p asked) → (asked ≡ flat_map on_wire w.ts)
        × Queue p w.ts
    whole p asked w =
        let x = w.exact refl in
        let b : asked ≡ flat_map on_wire w.ts = w.bytes ∙ ap (λ l. flat_map on_wire w.ts ++ l) x.0 ∙ append-nil _ in
        let q = subst (λ l. Queue p (w.ts ++ l)) x.1 w.queue in
        (b, subst (Queue p) (append-nil w.ts) q)

    -- whole commands are on their way while the connection is open
    exactly : (p : Option (Ask G)) (asked : List ℕ) (ts : List (List ℕ)) → asked ≡ flat_map on_wire ts → Queue p ts
        → OnWay true p asked
    exactly p asked ts h q = record {
      ts = ts;
      gone = [];
      part = [];
      bytes = h ∙ sym (append-nil _);
      no_more = no_line G;
      queue = subst (Queue p) (sym (append-nil ts)) q;
      exact = λ z. (refl, refl);
    }

    -- commands that are no decisions are handed out
    pub way_more : (p : Option (Ask G)) (asked : List ℕ) (us : List (List ℕ)) → OnWay true p asked → AllQuiet G us
        → OnWay true p (asked ++ flat_map on_wire us)
    way_more p asked us w h =
        let x = whole p asked w in
        exactly p _ (w.ts ++ us) (ap (λ l. l ++ flat_map on_wire us) x.0 ∙ sym (flat_map-append on_wire w.ts us))
        (queue_more p w.ts us x.1 h)

    -- a decision is handed out
    pub way_decision : (a : Ask G) (asked : List ℕ) → NoReturn (G.command a.0 a.1) → OnWay true None asked
        → OnWay true (Some a) (asked ++ flat_map on_wire (G.command a.0 a.1 ∷ []))
    way_decision a asked n w =
        let x = whole None asked w in
        exactly (Some a) _ (w.ts ++ G.command a.0 a.1 ∷ []) (ap (λ l. l ++ flat_map on_wire (G.command a.0 a.1 ∷ []))
        x.0
        ∙ sym (flat_map-append on_wire w.ts (G.command a.0 a.1 ∷ []))) (queue_decision a w.ts n x.1)

    -- what is on its way stays so after a loss
    pub way_lost : (o : Bool) (p : Option (Ask G)) (asked : List ℕ) → OnWay o p asked → OnWay false p asked
    way_lost o p asked w =
        record {
          ts = w.ts;
          gone = w.gone;
          part = w.part;
          bytes = w.bytes;
          no_more = w.no_more;
          queue = w.queue;
          exact = λ h. absurd (true≢false (sym h));
        }

    -- a decision is on its way, so there is something to serve
    pub way_some : (a : Ask G) → OnWay true (Some a) [] → ⊥
    way_some a w = go w.ts (whole (Some a) [] w)
      where
        nothing : (t more : List ℕ) → [] ≡ on_wire t ++ more → ⊥
        nothing [] more h = cc
        nothing (x ∷ t) more h = cc

        go : (ts : List (List ℕ)) → ([] ≡ flat_map on_wire ts) × Queue (Some a) ts → ⊥
        go [] x = x.1
        go (t ∷ ts) x = nothing t _ x.0

    -- while the connection is open, if no line is left to serve, nothing is on its way
    pub way_served : (p : Option (Ask G)) (asked : List ℕ) → OnWay true p asked → next_line asked ≡ None → asked ≡ []
    way_served p asked w h = let x = whole p asked w in go w.ts x.0 (texts_of p w.ts x.1)
      where
        go : (ts : List (List ℕ)) → asked ≡ flat_map on_wire ts → Texts ts → asked ≡ []
        go [] e a = e
        go (t ∷ ts) e a =
            let n : next_line asked ≡ Some (t, flat_map on_wire ts) = ap next_line e
            ∙ line_whole G t (flat_map on_wire ts) a.0 in cc

    -- the first of some bytes: whole commands and a part of one
    record Front (bytes : List ℕ) (ts : List (List ℕ)) : Type 0 where
      kept : List (List ℕ)
      gone : List (List ℕ)
      part : List ℕ
      is : bytes ≡ flat_map on_wire kept ++ part
      no_more : next_line part ≡ None
      all : ts ≡ kept ++ gone

    -- more bytes than the first list has
    take_past : (k : ℕ) (xs ys : List ℕ) → length xs ≤ k → take k (xs ++ ys) ≡ xs ++ take (k - length xs) ys
    take_past k [] ys h = ap (λ n. take n ys) (let e : k ≡ k - 0 = omega arith in e)
    take_past zero (x ∷ xs) ys h = absurd (omega arith)
    take_past (suc k) (x ∷ xs) ys h =
        ap (λ l. x ∷ l) (take_past k xs ys (omega arith) ∙ ap (λ n. xs ++ take n ys) (omega arith))

    -- the first bytes of whole commands are whole commands and a part of one
    front : (ts : List (List ℕ)) (k : ℕ) → Texts ts → Front (take k (flat_map on_wire ts)) ts
    front [] k h = record { kept = []; gone = []; part = []; is = take-nil k; no_more = no_line G; all = refl }
    front (t ∷ ts) k h =
        elim (cases_lt k (length (on_wire t))) [
          | inl lt ↦ short lt
          | inr le ↦ long le (front ts (k - length (on_wire t)) h.1)
        ]
      where
        short : k < length (on_wire t) → Front (take k (flat_map on_wire (t ∷ ts))) (t ∷ ts)
        short lt =
            record {
              kept = [];
              gone = t ∷ ts;
              part = take k (on_wire t);
              is = take-append-le k (on_wire t) (flat_map on_wire ts) (omega arith);
              no_more = line_cut G t k h.0 lt;
              all = refl;
            }

        long : length (on_wire t) ≤ k → Front (take (k - length (on_wire t)) (flat_map on_wire ts)) ts
            → Front (take k (flat_map on_wire (t ∷ ts))) (t ∷ ts)
        long le f = record {
          kept = t ∷ f.kept;
          gone = f.gone;
          part = f.part;
          is =
              take_past k (on_wire t) (flat_map on_wire ts) le ∙ ap (λ l. on_wire t ++ l) f.is
              ∙ sym (append_assoc (on_wire t) (flat_map on_wire f.kept) f.part);
          no_more = f.no_more;
          all = ap (λ l. t ∷ l) f.all;
        }

    -- a loss keeps the first bytes on their way
    pub way_lose : (p : Option (Ask G)) (asked : List ℕ) (k : ℕ) → OnWay true p asked → OnWay false p (take k asked)
    way_lose p asked k w =
        let x = whole p asked w in
        let f = front w.ts k (texts_of p w.ts x.1) in
        record {
          ts = f.kept;
          gone = f.gone;
          part = f.part;
          bytes = ap (take k) x.0 ∙ f.is;
          no_more = f.no_more;
          queue = subst (Queue p) f.all x.1;
          exact = λ h. absurd (true≢false (sym h));
        }

    -- what the server takes: a command that is no decision, or the decision
    pub way_serve : (o : Bool) (p : Option (Ask G)) (asked t rest : List ℕ) → OnWay o p asked
        → next_line asked ≡ Some (t, rest)
        → (IsQuiet G t × OnWay o p rest) ⊎ ((a : Ask G) × (p ≡ Some a) × (t ≡ G.command a.0 a.1) × OnWay o None rest)
    way_serve o p asked t rest w h = go w.ts w.bytes w.queue
      where
        Goal : Type 0
        Goal = (IsQuiet G t × OnWay o p rest) ⊎ ((a : Ask G) × (p ≡ Some a) × (t ≡ G.command a.0 a.1)
            × OnWay o None rest)

        rest_of : (q : Option (Ask G)) (ts : List (List ℕ)) → rest ≡ flat_map on_wire ts ++ w.part
            → Queue q (ts ++ w.gone)
            → OnWay o q rest
        rest_of q ts e k =
            record { ts = ts; gone = w.gone; part = w.part; bytes = e; no_more = w.no_more; queue = k; exact = w.exact }

        first : (q : Option (Ask G)) (t0 : List ℕ) (ts : List (List ℕ)) → p ≡ q → t ≡ t0
            → rest ≡ flat_map on_wire ts ++ w.part → Queue q (t0 ∷ ts ++ w.gone)
            → (IsQuiet G t × OnWay o p rest) ⊎ ((a : Ask G) × (p ≡ Some a) × (t ≡ G.command a.0 a.1)
            × OnWay o None rest)
        first None t0 ts n e f q =
            inl (subst (IsQuiet G) (sym e) q.0, subst (λ z. OnWay o z rest) (sym n) (rest_of None ts f q.1))
        first (Some a) t0 ts n e f q = elim q [
          | inl k ↦ inl (subst (IsQuiet G) (sym e) k.0, subst (λ z. OnWay o z rest) (sym n) (rest_of (Some a) ts f k.1))
          | inr k ↦ inr (a, n, e ∙ k.0, rest_of None ts f k.2)
        ]

        go : (ts : List (List ℕ)) → asked ≡ flat_map on_wire ts ++ w.part → Queue p (ts ++ w.gone)
            → (IsQuiet G t × OnWay o p rest) ⊎ ((a : Ask G) × (p ≡ Some a) × (t ≡ G.command a.0 a.1)
            × OnWay o None rest)
        go [] e q = let n : next_line asked ≡ None = ap next_line e ∙ w.no_more in cc
        go (t0 ∷ ts) e q =
            let d = line_whole G t0 (flat_map on_wire ts ++ w.part) (texts_of p (t0 ∷ ts ++ w.gone) q).0 in
            let e' : asked ≡ on_wire t0 ++ (flat_map on_wire ts ++ w.part) =
            e ∙ append_assoc (on_wire t0) (flat_map on_wire ts) w.part in
            let s = some_pair_parts t t0 rest (flat_map on_wire ts ++ w.part) (sym h ∙ ap next_line e' ∙ d) in
            first p t0 ts refl s.0 s.1 q
