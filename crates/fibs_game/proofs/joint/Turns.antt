-- The joint statement is kept if a connection is opened, lost or logged in, and if the server serves.
use Rattle.std.proofs.Common.{◌≡◌, ℕ, ◌+◌, ◌<◌, ◌≤◌, Bool, true, false, not, ◌&&◌, List, [], ◌∷◌, ◌++◌, Option, Some, None, nat_eq, flat_map, refl, sym, ◌∙◌, ap, subst, inl, inr, ◌⊎◌, append-nil, true≢false, arith}
use Rattle.std.proofs.lemmas.Bool.Decides.{eqb_tells}
use Rattle.std.proofs.lemmas.Bool.{eqb-true, le-ltb}
use Rattle.std.specs.Prelude.{if◌then◌else◌}
use Rattle.fibs_game.specs.Log.{Entry, Opened, LoggedIn, Took, Lost}
use Rattle.fibs_game.specs.Words.{Ask, is_empty, last, each, open_now, shown, sent, took, sent_by, took_by, is_spent}
use Rattle.fibs_game.specs.Wires.{next_line, Link, more_asked, taken, cut_off}
use Rattle.fibs_game.specs.Server.{Stale, LoggedIn as LoggedInNow}
use Rattle.fibs_game.specs.World.{World, noted, linked, sends, is_talking, does_served}
use Rattle.fibs_game.specs.Machine.{on_wire, gained}
use Rattle.fibs_game.specs.Game.{Game}
use Rattle.fibs_game.specs.Lawful.{IsQuiet, Lawful}
use Rattle.fibs_game.proofs.Answering.{takes_line, obeys, carries_out}
use Rattle.fibs_game.proofs.past.Lists.{same_number, other_number, and_both, one_of_false, one_of_true, map_no_more, map_more, to_list}
use Rattle.fibs_game.proofs.past.Past.{open_append, spent_quiet}
use Rattle.fibs_game.proofs.wires.Ways.{OnWay, way_none, way_more, way_lost, way_lose, way_serve}
use Rattle.fibs_game.proofs.wires.Boards.{Whole, waiting, boards, gained_none, boards_more, whole_more, printed}
use Rattle.fibs_game.proofs.joint.Joint.{Logged, log_of, AllAre, Calm, Live, Held, Current, Ahead, At, Joint, current, current_with, same_log, linked_same, linked_other, at_by, ahead_with, at_ahead, at_current, each_of, joint_current, joint_rewired}
use Rattle.fibs_game.proofs.joint.Sending.{joint_board, same_test, if_fact, not_left, with_line}
use Rattle.fibs_game.proofs.Stepping.{asks}

module _ (G : Game) where
  -- a connection is not 0
  no_number : (d : ℕ) → 0 < d → nat_eq 0 d ≡ false
  no_number d h = other_number 0 d (λ e. absurd (omega arith))

  -- bytes that a line was added to
  not_empty : (xs t : List ℕ) → is_empty (xs ++ on_wire t) ≡ false
  not_empty [] [] = refl
  not_empty [] (x ∷ t) = refl
  not_empty (x ∷ xs) t = refl

  -- the world in which the open connection is lost
  abbrev lost_at : World G → ℕ → ℕ → Option (Ask G) → World G
  lost_at w c k u = noted (linked w c (cut_off (w.links c) k)) (Lost c u ∷ [])

  module _ (law : Lawful G) where
    -- what is said of a newer connection holds after its loss
    ahead_lost : (o : Bool) (v : Logged G) (l : Link) → Ahead G o v l → Ahead G false v l
    ahead_lost o v l a =
        ahead_with G a refl a.heard a.coming (way_lost G law o None l.asked a.way) (λ z. absurd (true≢false (sym z)))

    -- what is said of the connection logged in holds after its loss, but for the boards on their way
    current_lost : (o : Bool) (v : Logged G) (l : Link) (now : G.Board) (ws ws' : List G.Board) → Current G o v l now ws
        → Current G false v l now ws'
    current_lost o v l now ws ws' c =
        current_with G c (way_lost G law o c.p l.asked c.way) c.begun c.held (λ h. absurd (true≢false (sym h)))

    -- what holds of a connection holds of it if another one is open, or none, and more are counted
    at_closed : (x x' : List G.Board) (now : G.Board) (user count count' here here' c : ℕ) (v : Logged G) (l : Link)
        → (0 < c → nat_eq here' c ≡ false) → count ≤ count'
        → At G x now user count here c v l → At G x' now user count' here' c v l
    at_closed x x' now user count count' here here' c v l shut more a = record {
      ahead = λ h. rw (shut (omega arith)) (ahead_lost _ v l (a.ahead h));
      unopened = λ h. a.unopened (omega arith);
      settled = a.settled;
      current = λ some e. rw (shut some) (current_lost _ v l now _ _ (a.current some e));
      moved = a.moved;
      wire = λ e some. absurd (true≢false (sym (same_test G _ _ e) ∙ shut some));
    }

    -- the open connection is lost, and its wires are cut off
    at_cut : (now : G.Board) (user count c k : ℕ) (v : Logged G) (l : Link) → 0 < c → c ≤ count
        → At G [] now user count c c v l → At G [] now user count 0 c v (cut_off l k)
    at_cut now user count c k v l some known a =
        let t : nat_eq c c ≡ true = same_number c in
        let shut : nat_eq 0 c ≡ false = no_number c some in
        record {
          ahead = λ h. let b = a.ahead h in
              rw shut (ahead_with G b refl b.heard refl
              (way_lose G law None l.asked k (subst (λ o. OnWay G o None l.asked) t b.way))
              (λ z. absurd (true≢false (sym z))));
          unopened = λ h. absurd (omega arith);
          settled = a.settled;
          current = λ z e. let cur = a.current z e in
              rw shut (current_with G cur (way_lose G law cur.p l.asked k
              (subst (λ o. OnWay G o cur.p l.asked) t cur.way))
              cur.begun cur.held (λ z. absurd (true≢false (sym z))));
          moved = a.moved;
          wire = λ e z. absurd (omega arith);
        }

    -- the open connection is lost
    pub joint_lose : (w : World G) (c k : ℕ) (u : Option (Ask G)) → Joint G [] w → open_now w.log ≡ c → 0 < c
        → Joint G [] (lost_at w c k u)
    joint_lose w c k u j h some = record {
      good = j.good;
      low = j.low;
      who = inl none;
      each = λ d. subst (λ o. At G [] w.board w.logged_in w.count o d (log_of G w' d) (w'.links d)) (sym none)
          (each_of G (λ d. At G [] w.board w.logged_in w.count 0 d (log_of G w' d) (w'.links d)) c
          (at_by G [] w.board w.logged_in w.count 0 c _ _ _ _ (log c) (linked_same G w c (cut_off (w.links c) k))
          (at_cut w.board w.logged_in w.count c k _ _ some known
          (subst (λ o. At G [] w.board w.logged_in w.count o c (log_of G w c) (w.links c)) h (j.each c))))
          (λ d n. at_by G [] w.board w.logged_in w.count 0 d _ _ _ _ (log d)
          (linked_other G w c d (cut_off (w.links c) k) n)
          (at_closed [] [] w.board w.logged_in w.count w.count (open_now w.log) 0 d _ _ (no_number d) (omega arith)
          (j.each d))) d);
    }
      where
        w' : World G
        w' = lost_at w c k u

        none : open_now (lost_at w c k u).log ≡ 0
        none = open_append G 0 w.log (Lost c u ∷ [])

        log : (d : ℕ) → log_of G (lost_at w c k u) d ≡ log_of G w d
        log d = same_log G w (lost_at w c k u) (Lost c u ∷ []) d refl refl refl refl

        known : c ≤ w.count
        known = elim j.who [ inl z ↦ absurd (omega arith) | inr z ↦ let z0 = z.0 in omega arith ]

    -- a connection is opened, and its login goes on its wire
    pub joint_open : (login : List ℕ) → IsQuiet G login → (w : World G) → Joint G [] w → open_now w.log ≡ 0
        → Joint G []
        (asks (noted (record w { count = w.count + 1 }) (Opened (w.count + 1) ∷ [])) (w.count + 1) (login ∷ []))
    joint_open login quiet w j h =
        let c : ℕ = w.count + 1 in
        let lo = j.low in
        let n : World G = noted (record w { count = w.count + 1 }) (Opened (w.count + 1) ∷ []) in
        let l' : Link = more_asked (w.links (w.count + 1)) (flat_map on_wire (login ∷ [])) in
        let w' : World G = asks n (w.count + 1) (login ∷ []) in
        let here : open_now w'.log ≡ w.count + 1 = open_append G 0 w.log (Opened (w.count + 1) ∷ []) in
        let log : (d : ℕ) → log_of G w' d ≡ log_of G w d =
        λ d. same_log G w w' (Opened (w.count + 1) ∷ []) d refl refl refl refl in
        let a = (j.each (w.count + 1)).ahead (omega arith) in
        let un = (j.each (w.count + 1)).unopened (omega arith) in
        let t : nat_eq (w.count + 1) (w.count + 1) ≡ true = same_number (w.count + 1) in
        let first : Ahead G (nat_eq (w.count + 1) (w.count + 1)) (log_of G w (w.count + 1)) l' =
        ahead_with G a refl a.heard a.coming
        (rw t (rw un (way_more G law None [] (login ∷ []) (way_none G law true) (quiet, tt))))
        (λ z. rw un (ap is_empty (append-nil (on_wire login)) ∙ not_empty [] login)) in
        record {
          good = j.good;
          low = omega arith;
          who = inr (here, omega arith);
          each = λ d.
              subst (λ o. At G [] w.board w.logged_in (w.count + 1) o d (log_of G w' d) (w'.links d)) (sym here)
              (each_of G (λ d. At G [] w.board w.logged_in (w.count + 1) (w.count + 1) d (log_of G w' d) (w'.links d))
              (w.count + 1)
              (at_by G [] w.board w.logged_in (w.count + 1) (w.count + 1) (w.count + 1) _ _ _ _ (log (w.count + 1))
              (linked_same G n (w.count + 1) l')
              (at_ahead G [] w.board w.logged_in (w.count + 1) (w.count + 1) (w.count + 1) _ _ (omega arith) first
              (λ z. absurd (omega arith))))
              (λ d m. at_by G [] w.board w.logged_in (w.count + 1) (w.count + 1) d _ _ _ _ (log d)
              (linked_other G n (w.count + 1) d l' m)
              (at_closed [] [] w.board w.logged_in w.count (w.count + 1) (open_now w.log) (w.count + 1) d _ _
              (λ z. other_number (w.count + 1) d (λ e. m (sym e))) (omega arith) (j.each d))) d);
        }

    -- what holds of a connection that is not logged in holds if a newer one is
    at_older : (x : List G.Board) (now : G.Board) (user user' count here c : ℕ) (v : Logged G) (l : Link) → user < user'
        → (c ≡ user' → ⊥) → At G x now user count here c v l → At G x now user' count here c v l
    at_older x now user user' count here c v l lt other a = record {
      ahead = λ h. a.ahead (omega arith);
      unopened = a.unopened;
      settled = a.settled;
      current = λ some e. absurd (other e);
      moved = a.moved;
      wire = a.wire;
    }

    -- the first line of a connection is its login
    joint_login : (w : World G) (c : ℕ) (t rest : List ℕ) → Joint G [] w → 0 < c → c ≤ w.count → w.logged_in < c
        → next_line (w.links c).asked ≡ Some (t, rest)
        → Joint G [] (noted (record (linked w c (taken (w.links c) (on_wire t) rest)) { logged_in = c })
        (LoggedIn c ∷ []))
    joint_login w c t rest j some few lt next =
        let l' : Link = taken (w.links c) (on_wire t) rest in
        let n : World G = linked w c (taken (w.links c) (on_wire t) rest) in
        let w' : World G = noted (record n { logged_in = c }) (LoggedIn c ∷ []) in
        let here : open_now w'.log ≡ open_now w.log = open_append G 0 w.log (LoggedIn c ∷ []) in
        let log : (d : ℕ) → log_of G w' d ≡ log_of G w d = λ d. same_log G w w' (LoggedIn c ∷ []) d refl refl refl refl
        in
        let a = (j.each c).ahead lt in
        let wy =
        only (nat_eq (open_now w.log) c)
        (way_serve G law (nat_eq (open_now w.log) c) None (w.links c).asked t rest a.way next) in
        let gn : gained G (w.links c).heard (w.links c).coming ≡ [] = rw a.coming (gained_none G law (w.links c).heard)
        in
        let none : waiting G [] (w.links c) ≡ [] = ap (boards G) gn in
        let cl : Calm G w.board (to_list (last (shown c w.log)) ++ waiting G [] l') = rw a.silent.seen (rw none tt) in
        let cur : Current G (nat_eq (open_now w.log) c) (log_of G w c) l' w.board (waiting G [] l') = record {
          p = None;
          way = wy;
          begun = not_empty (w.links c).served t;
          owed = a.silent.sends ∙ ap (λ l. l ++ []) (sym a.silent.takes);
          held = tt;
          live = λ o. inl (record { fresh = a.silent.fresh; calm = cl });
        } in
        record {
          good = j.good;
          low = few;
          who = rw here j.who;
          each = λ d. subst (λ o. At G [] w.board c w.count o d (log_of G w' d) (w'.links d)) (sym here)
              (each_of G (λ d. At G [] w.board c w.count (open_now w.log) d (log_of G w' d) (w'.links d)) c
              (at_by G [] w.board c w.count (open_now w.log) c _ _ _ _ (log c) (linked_same G w c l')
              (at_current G [] w.board c w.count (open_now w.log) _ _ few cur (j.each c).moved
              (λ e. (j.each c).wire e some)))
              (λ d m. at_by G [] w.board c w.count (open_now w.log) d _ _ _ _ (log d) (linked_other G w c d l' m)
              (at_older [] w.board w.logged_in c w.count (open_now w.log) d _ _ lt m (j.each d))) d);
        }
      where
        only : (o : Bool)
            → (IsQuiet G t × OnWay G o None rest) ⊎ ((a : Ask G) × (None ≡ Some a) × (t ≡ G.command a.0 a.1)
            × OnWay G o None rest)
            → OnWay G o None rest
        only o (inl q) = q.1
        only o (inr q) = let z = q.1 in cc

    -- a command that is no decision is taken
    joint_taken : (w : World G) (t rest : List ℕ) → Joint G [] w → 0 < w.logged_in
        → (cur : Current G (nat_eq (open_now w.log) w.logged_in) (log_of G w w.logged_in) (w.links w.logged_in) w.board
        (waiting G [] (w.links w.logged_in)))
        → OnWay G (nat_eq (open_now w.log) w.logged_in) cur.p rest
        → Joint G [] (linked w w.logged_in (taken (w.links w.logged_in) (on_wire t) rest))
    joint_taken w t rest j some cur way =
        joint_rewired G [] [] w w.board (taken (w.links w.logged_in) (on_wire t) rest) j some j.good
        (current_with G cur way (not_empty (w.links w.logged_in).served t) cur.held cur.live)
        (λ o. (j.each w.logged_in).wire o some)

    -- boards that are all this one are alike it
    all_alike : (b : G.Board) (bs : List G.Board) → AllAre G b bs → each (G.like b) bs ≡ true
    all_alike b [] h = refl
    all_alike b (x ∷ xs) h = and_both _ _ (rw h.0 (law.likeness.like_itself b)) (all_alike b xs h.1)

    -- The decision is taken, and if the client is there the board that it leads to goes on its wire.
    joint_took : (w w' : World G) (t rest : List ℕ) (a : Ask G) (b : G.Board) → Joint G [] w → 0 < w.logged_in
        → (cur : Current G (nat_eq (open_now w.log) w.logged_in) (log_of G w w.logged_in) (w.links w.logged_in) w.board
        (waiting G [] (w.links w.logged_in)))
        → cur.p ≡ Some a → w.board ≡ a.0 → G.allows a.0 a.1 ≡ None → G.good b ≡ true → G.like a.0 b ≡ false
        → OnWay G (nat_eq (open_now w.log) w.logged_in) None rest
        → w'.board ≡ b → w'.logged_in ≡ w.logged_in → w'.count ≡ w.count
        → w'.log ≡ w.log ++ Took w.logged_in w.board a.1 ∷ []
        → ((d : ℕ) → (d ≡ w.logged_in → ⊥) → w'.links d ≡ w.links d)
        → (w'.links w.logged_in).served ≡ (w.links w.logged_in).served ++ on_wire t → (w'.links w.logged_in).asked
        ≡ rest
        → (nat_eq (open_now w.log) w.logged_in ≡ true
        → waiting G [] (w'.links w.logged_in) ≡ waiting G [] (w.links w.logged_in) ++ b ∷ [])
        → (nat_eq (open_now w.log) w.logged_in ≡ true
        → Whole G ((w'.links w.logged_in).heard ++ (w'.links w.logged_in).coming))
        → Joint G [] w'
    joint_took w w' t rest a b j some cur isp ise al good un way eb el ec eg others hs ha more wh =
        let es : List (Entry G) = Took w.logged_in w.board a.1 ∷ [] in
        let one : took w.logged_in es ≡ (w.board, a.1) ∷ [] =
        ap (λ l. l ++ []) (one_of_true (nat_eq w.logged_in w.logged_in) (w.board, a.1) (same_number w.logged_in)) in
        let pa : ◌≡◌ {A = Ask G} (w.board, a.1) a = ap (λ z. let q : Ask G = (z, a.1) in q) ise in
        let ts : took w.logged_in w'.log ≡ took w.logged_in w.log ++ a ∷ [] =
        ap (took w.logged_in) eg ∙ map_more (took_by w.logged_in) w.log es (a ∷ []) (one ∙ ap (λ q. q ∷ []) pa) in
        let ss : sent w.logged_in w'.log ≡ sent w.logged_in w.log =
        ap (sent w.logged_in) eg ∙ map_no_more (sent_by w.logged_in) w.log es refl in
        let sb : shown w.logged_in w'.log ≡ shown w.logged_in w.log =
        ap (shown w.logged_in) eg ∙ map_no_more _ w.log es refl in
        let sp : is_spent w.logged_in w'.log ≡ is_spent w.logged_in w.log =
        ap (is_spent w.logged_in) eg ∙ spent_quiet G w.logged_in w.log es refl refl in
        let owed : sent w.logged_in w.log ≡ took w.logged_in w.log ++ a ∷ [] =
        cur.owed ∙ ap (λ p. took w.logged_in w.log ++ to_list p) isp in
        let oc : open_now w'.log ≡ open_now w.log = ap open_now eg ∙ open_append G 0 w.log es in
        let v : Current G (nat_eq (open_now w.log) w.logged_in) (log_of G w' w.logged_in) (w'.links w.logged_in)
        w'.board
        (waiting G [] (w'.links w.logged_in)) = record {
          p = None;
          way = rw ha way;
          begun = ap is_empty hs ∙ not_empty (w.links w.logged_in).served t;
          owed = ss ∙ owed ∙ sym ts ∙ sym (append-nil _);
          held = tt;
          live = λ o.
              let y =
              subst (λ p. Live G (log_of G w w.logged_in) w.board (waiting G [] (w.links w.logged_in)) p) isp
              (cur.live o) in
              let all = y.calm.0 (law.allowed_decides a.0 a.1 al) in
              inr (record {
                spent = sp ∙ y.spent;
                on = a.0;
                is_last = ap last sb ∙ y.is_last;
                before = waiting G [] (w.links w.logged_in);
                next = b;
                later = [];
                all = more o;
                alike = all_alike a.0 _ all.0;
                unlike = un;
                calm = (λ z. (tt, eb), tt);
              });
        } in
        joint_current G [] [] w w' j some el ec oc
        (λ d m. record {
          log = same_log G w w' es d eg refl refl (ap (λ l. l ++ [])
              (one_of_false (nat_eq w.logged_in d) (w.board, a.1) (other_number w.logged_in d (λ e. m (sym e)))));
          link = others d m;
        })
        (rw eb good)
        v
        (λ h. ts ∙ sym owed ∙ sym ss)
        (λ o. wh (same_test G _ _ o))

    -- the server carries out the decision
    joint_decision : (w : World G) (t rest : List ℕ) (a : Ask G) (b : G.Board) → Joint G [] w → 0 < w.logged_in
        → (cur : Current G (nat_eq (open_now w.log) w.logged_in) (log_of G w w.logged_in) (w.links w.logged_in) w.board
        (waiting G [] (w.links w.logged_in)))
        → cur.p ≡ Some a → w.board ≡ a.0 → G.allows a.0 a.1 ≡ None → G.good b ≡ true → G.like a.0 b ≡ false
        → OnWay G (nat_eq (open_now w.log) w.logged_in) None rest
        → Joint G []
        (sends
        (noted (record (linked w w.logged_in (taken (w.links w.logged_in) (on_wire t) rest)) { board = b })
        (Took w.logged_in w.board a.1 ∷ [])) (G.spelling b))
    joint_decision w t rest a b j some cur isp ise al good un way =
        let l1 : Link = taken (w.links w.logged_in) (on_wire t) rest in
        let w1 : World G = linked w w.logged_in l1 in
        let es : List (Entry G) = Took w.logged_in w.board a.1 ∷ [] in
        let n : World G = noted (record w1 { board = b }) es in
        let oc : open_now n.log ≡ open_now w.log = open_append G 0 w.log es in
        let l2 : Link = with_line G (n.links w.logged_in) (G.spelling b) in
        let k1 : n.links w.logged_in ≡ l1 = linked_same G w w.logged_in l1 in
        let k2 : (linked n w.logged_in l2).links w.logged_in ≡ l2 = linked_same G n w.logged_in l2 in
        let k3 : (linked n w.logged_in l2).links w.logged_in ≡ with_line G l1 (G.spelling b) =
        k2 ∙ ap (λ l. with_line G l (G.spelling b)) k1 in
        if_fact G (Joint G []) (is_talking n) _ _
        (λ z. joint_took w (linked n w.logged_in l2) t rest a b j some cur isp ise al good un way refl refl refl refl
        (λ d m. linked_other G n w.logged_in d l2 m ∙ linked_other G w w.logged_in d l1 m)
        (ap (λ (l : Link). l.served) k3) (ap (λ (l : Link). l.asked) k3)
        (λ o. let wire = (j.each w.logged_in).wire (eqb-true _ _ o) some in
        ap (waiting G []) k3
        ∙ boards_more G law (w.links w.logged_in).heard (w.links w.logged_in).coming (G.spelling b) (b ∷ []) wire
        (printed G law b good))
        (λ o. let wire = (j.each w.logged_in).wire (eqb-true _ _ o) some in
        rw k3 (whole_more G law (w.links w.logged_in).heard (w.links w.logged_in).coming (G.spelling b) wire)))
        (λ z. joint_took w n t rest a b j some cur isp ise al good un way refl refl refl refl
        (λ d m. linked_other G w w.logged_in d l1 m)
        (ap (λ (l : Link). l.served) k1) (ap (λ (l : Link). l.asked) k1)
        (λ o. absurd (quiet z o oc)) (λ o. absurd (quiet z o oc)))
      where
        quiet : (nat_eq (open_now (w.log ++ Took w.logged_in w.board a.1 ∷ [])) w.logged_in && not
            (nat_eq w.logged_in 0))
            ≡ false → nat_eq (open_now w.log) w.logged_in ≡ true
            → open_now (w.log ++ Took w.logged_in w.board a.1 ∷ []) ≡ open_now w.log → ⊥
        quiet z o oc =
            let p : nat_eq (open_now (w.log ++ Took w.logged_in w.board a.1 ∷ [])) w.logged_in ≡ true = rw oc o in
            let q : nat_eq w.logged_in 0 ≡ false = other_number w.logged_in 0 (λ e. absurd (omega arith)) in
            true≢false (sym p ∙ not_left G _ _ z q)

    -- the server takes a connection's next line
    pub joint_serve : (w : World G) (c d1 d2 : ℕ) (t rest : List ℕ) → Joint G [] w → 0 < c → c ≤ w.count
        → w.logged_in ≤ c
        → G.is_die d1 ≡ true → G.is_die d2 ≡ true → next_line (w.links c).asked ≡ Some (t, rest)
        → Joint G [] (takes_line G c (linked w c (taken (w.links c) (on_wire t) rest)) (is_empty (w.links c).served) t
        d1 d2)
    joint_serve w c d1 d2 t rest j some few le i1 i2 next = elim (eqb_tells c w.logged_in) [
      | inl e ↦ rw e.1 (at_current (rw e.1 at some) (rw e.1 at next))
      | inr m ↦ at_ahead m.1
    ]
      where
        at_ahead : (c ≡ w.logged_in → ⊥)
            → Joint G [] (takes_line G c (linked w c (taken (w.links c) (on_wire t) rest))
            (is_empty (w.links c).served) t d1
            d2)
        at_ahead m =
            let lt : w.logged_in < c = omega arith in
            let z : is_empty (w.links c).served ≡ true = ap is_empty ((j.each c).ahead lt).served in
            subst (λ s. Joint G [] (takes_line G c (linked w c (taken (w.links c) (on_wire t) rest)) s t d1 d2)) (sym z)
            (subst
            (λ s. Joint G [] (does_served c (linked w c (taken (w.links c) (on_wire t) rest))
            (if s then Stale else LoggedInNow)))
            (sym (le-ltb c w.logged_in (omega arith))) (joint_login w c t rest j some few lt next))

        at_current : 0 < w.logged_in → next_line (w.links w.logged_in).asked ≡ Some (t, rest)
            → Joint G []
            (takes_line G w.logged_in (linked w w.logged_in (taken (w.links w.logged_in) (on_wire t) rest))
            (is_empty (w.links w.logged_in).served) t d1 d2)
        at_current have nx =
            let cur = current G [] w j have in
            subst
            (λ s. Joint G []
            (takes_line G w.logged_in (linked w w.logged_in (taken (w.links w.logged_in) (on_wire t) rest)) s t d1 d2))
            (sym cur.begun)
            (rw (same_number w.logged_in)
            (line cur (way_serve G law _ cur.p (w.links w.logged_in).asked t rest cur.way nx)))
          where
            line :
                (cur : Current G (nat_eq (open_now w.log) w.logged_in) (log_of G w w.logged_in) (w.links w.logged_in)
                w.board
                (waiting G [] (w.links w.logged_in)))
                → (IsQuiet G t × OnWay G (nat_eq (open_now w.log) w.logged_in) cur.p rest)
                ⊎ ((a : Ask G) × (cur.p ≡ Some a) × (t ≡ G.command a.0 a.1)
                × OnWay G (nat_eq (open_now w.log) w.logged_in) None rest)
                → Joint G []
                (obeys G w.logged_in (linked w w.logged_in (taken (w.links w.logged_in) (on_wire t) rest)) d1 d2
                (G.decision_in w.board t))
            line cur (inl q) =
                let l1 : Link = taken (w.links w.logged_in) (on_wire t) rest in
                let w1 : World G = linked w w.logged_in l1 in
                let j1 : Joint G [] w1 = joint_taken w t rest j have cur q.1 in
                subst (λ m. Joint G [] (obeys G w.logged_in w1 d1 d2 m)) (sym (q.0.quiet w.board))
                (joint_board G law w1 w.board j1 j.good (inl refl))
            line cur (inr q) =
                let l1 : Link = taken (w.links w.logged_in) (on_wire t) rest in
                let w1 : World G = linked w w.logged_in l1 in
                let a : Ask G = q.0 in
                let held = subst (Held G w.board) q.1 cur.held in
                let rd : G.decision_in w.board t ≡ Some q.0.1 =
                ap (G.decision_in w.board) q.2 ∙ ap (λ b. G.decision_in b (G.command q.0.0 q.0.1)) held.0
                ∙ law.reads_back q.0.0 q.0.1 (subst (λ x. G.good x ≡ true) held.0 j.good) held.1 in
                let al : G.allows w.board q.0.1 ≡ None = rw held.0 held.1 in
                let act = law.allowed_acts w.board q.0.1 d1 d2 j.good al i1 i2 in
                let un : G.like q.0.0 act.0 ≡ false = subst (λ b. G.like b act.0 ≡ false) held.0 act.3 in
                subst (λ m. Joint G [] (obeys G w.logged_in w1 d1 d2 m)) (sym rd)
                (subst (λ m. Joint G [] (carries_out G w.logged_in w1 q.0.1 m)) (sym act.1)
                (joint_decision w t rest q.0 act.0 j have cur q.1 held.0 held.1 act.2 un q.3))
