-- The joint statement that each event keeps.
use Rattle.std.proofs.Common.{◌≡◌, ℕ, ◌<◌, ◌≤◌, Bool, true, false, List, [], ◌∷◌, ◌++◌, Option, Some, None, nat_eq, refl, sym, ◌∙◌, ap, subst, inl, inr, ◌⊎◌, arith}
use Rattle.std.proofs.lemmas.Bool.Decides.{eqb_tells}
use Rattle.fibs_game.specs.Log.{Entry}
use Rattle.fibs_game.specs.Words.{Ask, is_empty, last, each, open_now, shown_by, sent_by, took_by, shown, sent, took, is_spent}
use Rattle.fibs_game.specs.Wires.{Link}
use Rattle.fibs_game.specs.World.{World, linked}
use Rattle.fibs_game.specs.Game.{Game}
use Rattle.fibs_game.proofs.past.Moving.{has_moved_on, moved_quiet}
use Rattle.fibs_game.proofs.past.Lists.{to_list, same_number, other_number, map_no_more}
use Rattle.fibs_game.proofs.past.Past.{spent_quiet}
use Rattle.fibs_game.proofs.wires.Ways.{OnWay}
use Rattle.fibs_game.proofs.wires.Boards.{Whole, waiting, whole_none}

module _ (G : Game) where
  -- what the log says of one connection
  pub record Logged : Type 0 where
    pub seen : List G.Board
    pub sends : List (Ask G)
    pub takes : List (Ask G)
    pub spent : Bool
    pub moved : Bool

  -- what the log of a world says of a connection
  abbrev pub log_of : World G → ℕ → Logged
  log_of w c =
      record {
        seen = shown c w.log;
        sends = sent c w.log;
        takes = took c w.log;
        spent = is_spent c w.log;
        moved = has_moved_on G c w.log;
      }

  -- all boards are this one
  abbrev pub AllAre : G.Board → List G.Board → Type 0
  AllAre b [] = Unit {0}
  AllAre b (x ∷ xs) = (x ≡ b) × AllAre b xs

  -- After a board in which the user decides each later one is that board, and so is the server's.
  abbrev pub Calm : G.Board → List G.Board → Type 0
  Calm now [] = Unit {0}
  Calm now (b ∷ bs) = (G.decides b ≡ true → AllAre b bs × (now ≡ b)) × Calm now bs

  -- nothing was sent in this stretch
  pub record Free (v : Logged) (now : G.Board) (ws : List G.Board) : Type 0 where
    pub fresh : v.spent ≡ false
    pub calm : Calm now (to_list (last v.seen) ++ ws)

  -- what was sent in this stretch took effect, and the board that shows it is on its way
  pub record Done (v : Logged) (now : G.Board) (ws : List G.Board) : Type 0 where
    pub spent : v.spent ≡ true
    pub on : G.Board
    pub is_last : last v.seen ≡ Some on
    pub before : List G.Board
    pub next : G.Board
    pub later : List G.Board
    pub all : ws ≡ before ++ next ∷ later
    pub alike : each (G.like on) before ≡ true
    pub unlike : G.like on next ≡ false
    pub calm : Calm now (next ∷ later)

  -- what was sent in this stretch was not served
  pub record Unserved (v : Logged) (now : G.Board) (ws : List G.Board) (a : Ask G) : Type 0 where
    pub spent : v.spent ≡ true
    pub is_last : last v.seen ≡ Some a.0
    pub calm : Calm now (a.0 ∷ ws)

  -- if nothing waits to be served, nothing was sent in this stretch, or its effect is on its way
  abbrev pub Live : Logged → G.Board → List G.Board → Option (Ask G) → Type 0
  Live v now ws None = Free v now ws ⊎ Done v now ws
  Live v now ws (Some a) = Unserved v now ws a

  -- what was not served is on the server's board
  abbrev pub Held : G.Board → Option (Ask G) → Type 0
  Held now None = Unit {0}
  Held now (Some a) = (now ≡ a.0) × (G.allows a.0 a.1 ≡ None)

  -- the connection that is logged in
  pub record Current (is_open : Bool) (v : Logged) (l : Link) (now : G.Board) (ws : List G.Board) : Type 0 where
    pub p : Option (Ask G)
    pub way : OnWay G is_open p l.asked
    pub begun : is_empty l.served ≡ false
    pub owed : v.sends ≡ v.takes ++ to_list p
    pub held : Held now p
    pub live : is_open ≡ true → Live v now ws p

  -- the log says nothing of the connection
  pub record Silent (v : Logged) : Type 0 where
    pub seen : v.seen ≡ []
    pub sends : v.sends ≡ []
    pub takes : v.takes ≡ []
    pub fresh : v.spent ≡ false

  -- a connection that is newer
  pub record Ahead (is_open : Bool) (v : Logged) (l : Link) : Type 0 where
    pub silent : Silent v
    pub served : l.served ≡ []
    pub heard : l.heard ≡ []
    pub coming : l.coming ≡ []
    pub way : OnWay G is_open None l.asked
    -- while it is open its login is on its way
    pub asks : is_open ≡ true → is_empty l.asked ≡ false

  -- all but at most one decision took effect
  pub record Settled (v : Logged) : Type 0 where
    pub p : Option (Ask G)
    pub owed : v.sends ≡ v.takes ++ to_list p

  -- once a board that differs is shown, all that was sent took effect
  abbrev pub Moved : Logged → Type 0
  Moved v = v.moved ≡ true → v.takes ≡ v.sends

  -- What holds of one connection c, by the boards that were delivered and are not noted yet, the server's board, the
  -- connection that is logged in, how many there are, and the one that is open.
  pub record At (hearing : List G.Board) (now : G.Board) (user count here c : ℕ) (v : Logged) (l : Link) : Type 0 where
    pub ahead : user < c → Ahead (nat_eq here c) v l
    pub unopened : count < c → l.asked ≡ []
    pub settled : Settled v
    pub current : 0 < c → c ≡ user → Current (nat_eq here c) v l now (waiting G hearing l)
    pub moved : Moved v
    pub wire : here ≡ c → 0 < c → Whole G (l.heard ++ l.coming)

  -- the same of a connection of a world
  abbrev pub AtIn : List G.Board → World G → ℕ → Type 0
  AtIn hearing w c = At hearing w.board w.logged_in w.count (open_now w.log) c (log_of w c) (w.links c)

  -- hearing: the boards of lines that were delivered and are not noted yet
  pub record Joint (hearing : List G.Board) (w : World G) : Type 0 where
    pub good : G.good w.board ≡ true
    pub low : w.logged_in ≤ w.count
    pub who : (open_now w.log ≡ 0) ⊎ ((open_now w.log ≡ w.count) × (0 < w.count))
    pub each : (c : ℕ) → AtIn hearing w c

  -- what it says of the connection that is logged in
  pub current : (x : List G.Board) (w : World G) → Joint x w → 0 < w.logged_in
      → Current (nat_eq (open_now w.log) w.logged_in) (log_of w w.logged_in) (w.links w.logged_in) w.board
      (waiting G x (w.links w.logged_in))
  current x w j some = (j.each w.logged_in).current some refl

  -- The same with other wires, another board of the server's, or after its loss, as long as what the log says stays.
  pub current_with : {o o' : Bool} {v : Logged} {l l' : Link} {now now' : G.Board} {ws ws' : List G.Board}
      → (cur : Current o v l now ws) → OnWay G o' cur.p l'.asked → is_empty l'.served ≡ false → Held now' cur.p
      → (o' ≡ true → Live v now' ws' cur.p) → Current o' v l' now' ws'
  current_with cur way begun held live =
      record { p = cur.p; way = way; begun = begun; owed = cur.owed; held = held; live = live }

  -- What is said of a newer connection, with other wires or after its loss, as long as the server took nothing.
  pub ahead_with : {o o' : Bool} {v : Logged} {l l' : Link} → Ahead o v l → l'.served ≡ l.served → l'.heard ≡ []
      → l'.coming ≡ [] → OnWay G o' None l'.asked → (o' ≡ true → is_empty l'.asked ≡ false) → Ahead o' v l'
  ahead_with a served heard coming way asks = record {
    silent = a.silent;
    served = served ∙ a.served;
    heard = heard;
    coming = coming;
    way = way;
    asks = asks;
  }

  -- a connection of which the log and the wires say the same in two worlds
  pub record Same (w w' : World G) (c : ℕ) : Type 0 where
    pub log : log_of w' c ≡ log_of w c
    pub link : w'.links c ≡ w.links c

  -- the log says the same of a connection if all its words are
  log_path : {a a' : List G.Board} {b b' c c' : List (Ask G)} {d d' e e' : Bool} → a ≡ a' → b ≡ b' → c ≡ c' → d ≡ d'
      → e ≡ e' →
      ◌≡◌ {A = Logged} (record { seen = a; sends = b; takes = c; spent = d; moved = e })
      (record { seen = a'; sends = b'; takes = c'; spent = d'; moved = e' })
  log_path h1 h2 h3 h4 h5 = cc

  -- entries that are not of c do not change what the log says of it
  pub same_log : (w : World G) (w' : World G) (es : List (Entry G)) (c : ℕ) → w'.log ≡ w.log ++ es → shown c es ≡ []
      → sent c es ≡ [] → took c es ≡ [] → log_of w' c ≡ log_of w c
  same_log w w' es c e h k m = log_path
      (ap (shown c) e ∙ map_no_more (shown_by c) w.log es h)
      (ap (sent c) e ∙ map_no_more (sent_by c) w.log es k)
      (ap (took c) e ∙ map_no_more (took_by c) w.log es m)
      (ap (is_spent c) e ∙ spent_quiet G c w.log es h k)
      (ap (has_moved_on G c) e ∙ moved_quiet G c w.log es h k)

  -- a wire that is set is there
  pub linked_same : (w : World G) (c : ℕ) (l : Link) → (linked w c l).links c ≡ l
  linked_same w c l = rw (same_number c) refl

  -- and no other is changed
  pub linked_other : (w : World G) (c d : ℕ) (l : Link) → (d ≡ c → ⊥) → (linked w c l).links d ≡ w.links d
  linked_other w c d l h = rw (other_number d c h) refl

  -- what holds of the wires that are set, and of the others as they were, holds of all
  pub linked_each : (P : ℕ → Link → Type 0) (w : World G) (c : ℕ) (l : Link) → P c l
      → ((d : ℕ) → (d ≡ c → ⊥) → P d (w.links d)) → (d : ℕ) → P d ((linked w c l).links d)
  linked_each P w c l here others d = elim (eqb_tells d c) [
    | inl e ↦ rw e.0 (subst (λ x. P x l) (sym e.1) here)
    | inr n ↦ rw n.0 (others d n.1)
  ]

  -- what is the same on the wires that are set is the same on all
  pub linked_keeps : {A : Type 0} (f : Link → A) (w : World G) (c : ℕ) (l : Link) → f l ≡ f (w.links c) → (d : ℕ)
      → f ((linked w c l).links d) ≡ f (w.links d)
  linked_keeps f w c l h = linked_each (λ d x. f x ≡ f (w.links d)) w c l h (λ d n. refl)

  -- what holds of a connection holds of it by any other account of the same
  pub at_by : (x : List G.Board) (now : G.Board) (user count here c : ℕ) (v v' : Logged) (l l' : Link) → v' ≡ v → l' ≡ l
      → At x now user count here c v l → At x now user count here c v' l'
  at_by x now user count here c v v' l l' e f a =
      subst (λ k. At x now user count here c v' k) (sym f) (subst (λ u. At x now user count here c u l) (sym e) a)

  -- but for the one that is logged in it holds with other boards too
  pub at_other : (x x' : List G.Board) (now now' : G.Board) (user count here c : ℕ) (v : Logged) (l : Link)
      → (0 < c → c ≡ user → (x' ≡ x) × (now' ≡ now)) → At x now user count here c v l → At x' now' user count here c v l
  at_other x x' now now' user count here c v l same a = record {
    ahead = a.ahead;
    unopened = a.unopened;
    settled = a.settled;
    current = λ some e. let s = same some e in
        subst (λ y. Current (nat_eq here c) v l now' (waiting G y l)) (sym s.0)
        (subst (λ b. Current (nat_eq here c) v l b (waiting G x l)) (sym s.1) (a.current some e));
    moved = a.moved;
    wire = a.wire;
  }

  -- what holds of the connection that is logged in
  pub at_current : (x : List G.Board) (now : G.Board) (user count here : ℕ) (v : Logged) (l : Link) → user ≤ count
      → Current (nat_eq here user) v l now (waiting G x l) → Moved v → (here ≡ user → Whole G (l.heard ++ l.coming))
      → At x now user count here user v l
  at_current x now user count here v l low cur moved wire = record {
    ahead = λ h. absurd (omega arith);
    unopened = λ h. absurd (omega arith);
    settled = record { p = cur.p; owed = cur.owed };
    current = λ some e. cur;
    moved = moved;
    wire = λ e some. wire e;
  }

  -- what holds of a connection that is newer
  pub at_ahead : (x : List G.Board) (now : G.Board) (user count here c : ℕ) (v : Logged) (l : Link) → user < c
      → Ahead (nat_eq here c) v l → (count < c → l.asked ≡ []) → At x now user count here c v l
  at_ahead x now user count here c v l lt a unopened = record {
    ahead = λ h. a;
    unopened = unopened;
    settled = record { p = None; owed = a.silent.sends ∙ ap (λ k. k ++ []) (sym a.silent.takes) };
    current = λ some e. absurd (omega arith);
    moved = λ z. a.silent.takes ∙ sym a.silent.sends;
    wire = λ e some. rw (a.heard, a.coming) (whole_none G);
  }

  -- a fact of each connection: of one, and of the others
  pub each_of : (P : ℕ → Type 0) (c : ℕ) → P c → ((d : ℕ) → (d ≡ c → ⊥) → P d) → (d : ℕ) → P d
  each_of P c one others d = elim (eqb_tells d c) [ inl e ↦ subst P (sym e.1) one | inr n ↦ others d n.1 ]

  -- One connection changes: the statement is kept if it holds of that one. The boards that are heard and the server's
  -- board may become others if it is the one that is logged in.
  joint_at : (x x' : List G.Board) (w w' : World G) (c : ℕ) → Joint x w
      → w'.logged_in ≡ w.logged_in → w'.count ≡ w.count → open_now w'.log ≡ open_now w.log
      → ((d : ℕ) → (d ≡ c → ⊥) → Same w w' d) → G.good w'.board ≡ true
      → ((d : ℕ) → (d ≡ c → ⊥) → d ≡ w.logged_in → (x' ≡ x) × (w'.board ≡ w.board))
      → At x' w'.board w.logged_in w.count (open_now w.log) c (log_of w' c) (w'.links c) → Joint x' w'
  joint_at x x' w w' c j el ec eo same good boards one = record {
    good = good;
    low = rw (el, ec) j.low;
    who = rw (eo, ec) j.who;
    each = λ d. rw (el, ec, eo) (each_of
        (λ d. At x' w'.board w.logged_in w.count (open_now w.log) d (log_of w' d) (w'.links d)) c one
        (λ d n. at_by x' w'.board w.logged_in w.count (open_now w.log) d _ _ _ _ (same d n).log (same d n).link
        (at_other x x' w.board w'.board w.logged_in w.count (open_now w.log) d _ _ (λ some. boards d n) (j.each d))) d);
  }

  -- a change at the connection that is logged in, which is one
  pub joint_current : (x x' : List G.Board) (w w' : World G) → Joint x w → 0 < w.logged_in
      → w'.logged_in ≡ w.logged_in → w'.count ≡ w.count → open_now w'.log ≡ open_now w.log
      → ((c : ℕ) → (c ≡ w.logged_in → ⊥) → Same w w' c)
      → G.good w'.board ≡ true
      → Current (nat_eq (open_now w.log) w.logged_in) (log_of w' w.logged_in) (w'.links w.logged_in) w'.board
      (waiting G x' (w'.links w.logged_in))
      → Moved (log_of w' w.logged_in)
      → (open_now w.log ≡ w.logged_in → Whole G ((w'.links w.logged_in).heard ++ (w'.links w.logged_in).coming))
      → Joint x' w'
  joint_current x x' w w' j some el ec eo same good cur moved wire =
      joint_at x x' w w' w.logged_in j el ec eo same good (λ d n e. absurd (n e))
      (at_current x' w'.board w.logged_in w.count (open_now w.log) (log_of w' w.logged_in) (w'.links w.logged_in) j.low
      cur moved wire)

  -- a change at a connection that is newer than the one logged in
  pub joint_ahead : (x : List G.Board) (w w' : World G) (c : ℕ) → Joint x w → w.logged_in < c
      → w'.board ≡ w.board → w'.logged_in ≡ w.logged_in → w'.count ≡ w.count → open_now w'.log ≡ open_now w.log
      → ((d : ℕ) → (d ≡ c → ⊥) → Same w w' d)
      → Ahead (nat_eq (open_now w.log) c) (log_of w' c) (w'.links c)
      → (w.count < c → (w'.links c).asked ≡ [])
      → Joint x w'
  joint_ahead x w w' c j lt eb el ec eo same a unopened =
      joint_at x x w w' c j el ec eo same (rw eb j.good) (λ d n e. (refl, eb))
      (at_ahead x w'.board w.logged_in w.count (open_now w.log) c (log_of w' c) (w'.links c) lt a unopened)

  -- the wires of the connection that is logged in become others, and the server's board b
  pub joint_rewired : (x x' : List G.Board) (w : World G) (b : G.Board) (l : Link) → Joint x w → 0 < w.logged_in
      → G.good b ≡ true
      → Current (nat_eq (open_now w.log) w.logged_in) (log_of w w.logged_in) l b (waiting G x' l)
      → (open_now w.log ≡ w.logged_in → Whole G (l.heard ++ l.coming))
      → Joint x' (linked (record w { board = b }) w.logged_in l)
  joint_rewired x x' w b l j some good cur wire =
      let w' : World G = linked (record w { board = b }) w.logged_in l in
      let is = sym (linked_same (record w { board = b }) w.logged_in l) in
      joint_current x x' w w' j some refl refl refl
      (λ d n. record { log = refl; link = linked_other (record w { board = b }) w.logged_in d l n })
      good
      (subst (λ k. Current (nat_eq (open_now w.log) w.logged_in) (log_of w w.logged_in) k b (waiting G x' k)) is cur)
      (j.each w.logged_in).moved
      (λ o. subst (λ (k : Link). Whole G (k.heard ++ k.coming)) is (wire o))

  -- those of a newer connection become others
  pub joint_rewired_ahead : (x : List G.Board) (w : World G) (c : ℕ) (l : Link) → Joint x w → w.logged_in < c
      → Ahead (nat_eq (open_now w.log) c) (log_of w c) l → (w.count < c → l.asked ≡ []) → Joint x (linked w c l)
  joint_rewired_ahead x w c l j lt a unopened =
      let is = sym (linked_same w c l) in
      joint_ahead x w (linked w c l) c j lt refl refl refl refl
      (λ d n. record { log = refl; link = linked_other w c d l n })
      (subst (Ahead (nat_eq (open_now w.log) c) (log_of w c)) is a)
      (λ h. subst (λ (k : Link). k.asked ≡ []) is (unopened h))

  -- nothing changes that the log and the wires say
  pub joint_same : (x : List G.Board) (w w' : World G) → Joint x w
      → w'.board ≡ w.board → w'.logged_in ≡ w.logged_in → w'.count ≡ w.count → open_now w'.log ≡ open_now w.log
      → ((c : ℕ) → Same w w' c) → Joint x w'
  joint_same x w w' j eb el ec eo same =
      joint_at x x w w' 0 j el ec eo (λ d n. same d) (rw eb j.good) (λ d n e. (refl, eb))
      (at_by x w'.board w.logged_in w.count (open_now w.log) 0 _ _ _ _ (same 0).log (same 0).link
      (at_other x x w.board w'.board w.logged_in w.count (open_now w.log) 0 _ _ (λ some e. (refl, eb)) (j.each 0)))
