-- The four facts of the joint statement hold after every list of events.
use Rattle.std.proofs.Common.{◌≡◌, ◌⊎◌, ℕ, ◌+◌, ◌<◌, ◌≤◌, true, false, not, ◌&&◌, List, [], ◌∷◌, ◌++◌, Option, Some, None, nat_eq, take, drop, flat_map, refl, sym, ◌∙◌, ap, subst, inl, inr, append-nil, append_assoc, true≢false, arith, if◌then◌else◌}
use Rattle.std.proofs.lemmas.Bool.{cases_lt, eqb-true}
use Rattle.std.proofs.lemmas.Bool.Decides.{eqb_tells}
use Rattle.fibs_game.specs.declared.world_refusal.WorldRefusal.TheVariants.{NotOpen}
use Rattle.fibs_game.specs.Log.{Entry, Took, Undone, Lost}
use Rattle.fibs_game.specs.Log as L
use Rattle.fibs_game.specs.Machine.{on_wire, wire_of}
use Rattle.fibs_game.specs.Words.{Ask, is_empty, one_if, open_now, sent, took, unconfirmed}
use Rattle.fibs_game.specs.Acts.{Act, Shows, Says, Serves, put_by, sending, acts_of, acts_at_line, acts_on, acts_from}
use Rattle.fibs_game.specs.Events.{Event, Open, Deliver, Lose, Serve, Own, Repeat, Text}
use Rattle.fibs_game.specs.Headline.{NoneUndone}
use Rattle.fibs_game.specs.Joint.{Carried, Steady, served_at, decisions_of, at_most_one, Left, LastUnserved}
use Rattle.fibs_game.specs.Joint as S
use Rattle.fibs_game.specs.Refusals.{refusal}
use Rattle.fibs_game.specs.Runs.{AllAccepted, after_all}
use Rattle.fibs_game.specs.Server.{Served}
use Rattle.fibs_game.specs.Server as V
use Rattle.fibs_game.specs.Wires.{Link, empty_link, taken, more_asked, cut_off}
use Rattle.fibs_game.specs.World.{World, start, after, noted, linked, sends, does_served, serves}
use Rattle.fibs_game.specs.Game.{Game}
use Rattle.fibs_game.specs.Lawful.{IsQuiet, Lawful}
use Rattle.fibs_game.specs.Talks.{IsWorld}
use Rattle.fibs_game.proofs.Answering.{answered_at as answered}
use Rattle.fibs_game.proofs.acts.Client.{does, given, there_both}
use Rattle.fibs_game.proofs.Final.{kept, told_start}
use Rattle.fibs_game.proofs.past.Lists.{other_number, to_list}
use Rattle.fibs_game.proofs.past.Past.{open_append}
use Rattle.fibs_game.proofs.joint.Acting.{Kept, only, only_none, kept_is, kept_quiet, kept_does, kept_sends, kept_serves, kept_login}
use Rattle.fibs_game.proofs.joint.Carrying.{carried_is, carried_delivered, carried_lost, carried_none}
use Rattle.fibs_game.proofs.joint.EachEvent.{over_events, joint_start}
use Rattle.fibs_game.proofs.Refusing.{served, not_refused, is_open, is_closed}
use Rattle.fibs_game.proofs.Sound.{sound_start}
use Rattle.fibs_game.proofs.Stepping.{asks, loses_is, opens_is}
use Rattle.fibs_game.proofs.joint.Joint.{Joint, current, linked_each, linked_keeps}
use Rattle.fibs_game.proofs.joint.Sending.{same_test}
use Rattle.fibs_game.proofs.joint.Left.{left_on}
use Rattle.fibs_game.proofs.joint.Serving.{serves_all}
use Rattle.fibs_game.proofs.joint.Steady.{steady_rest, steady_becomes, steady_shows, steady_says}

module _ (G : Game) where
  -- an act is sent alike in worlds that have the same connection open
  sending_alike : (w w' : World G) (a : Act G) → w'.logged_in ≡ w.logged_in → open_now w'.log ≡ open_now w.log
      → sending w' a ≡ sending w a
  sending_alike w w' a h k =
      ap (λ n. if nat_eq (open_now w'.log) n && not (nat_eq n 0) then a ∷ [] else []) h
      ∙ ap (λ n. if nat_eq n w.logged_in && not (nat_eq w.logged_in 0) then a ∷ [] else []) k

  -- no acts at an event
  kept_no_acts : (acts : ℕ → List (Act G)) (w w' : World G) → Kept G acts w'
      → Kept G (λ c. acts c ++ only G c w.logged_in []) w'
  kept_no_acts acts w w' k =
      kept_is G acts (λ c. acts c ++ only G c w.logged_in []) w'
      (λ c. ap (λ l. acts c ++ l) (only_none G c w.logged_in) ∙ append-nil (acts c)) k

  -- a decision is served, and a board is sent
  kept_decision : (acts : ℕ → List (Act G)) (w : World G) (b : G.Board) (d : G.Decision) (e : Entry G)
      → open_now (w.log ++ e ∷ []) ≡ open_now w.log
      → Kept G (λ c. acts c ++ only G c w.logged_in (Serves d ∷ [])) (noted (record w { board = b }) (e ∷ []))
      → Kept G (λ c. acts c ++ only G c w.logged_in (Serves d ∷ sending w (Shows b)))
      (sends (noted (record w { board = b }) (e ∷ [])) (G.spelling b))
  kept_decision acts w b d e o k =
      let w' : World G = noted (record w { board = b }) (e ∷ []) in
      let first : ℕ → List (Act G) = λ c. acts c ++ only G c w.logged_in (Serves d ∷ []) in
      kept_is G (λ c. first c ++ only G c w.logged_in (sending w' (Shows b)))
      (λ c. acts c ++ only G c w.logged_in (Serves d ∷ sending w (Shows b))) (sends w' (G.spelling b))
      (λ c.
      ap (λ l. acts c ++ only G c w.logged_in (Serves d ∷ l)) (sym (sending_alike w w' (Shows b) refl o))
      ∙ ap (λ l. acts c ++ l) (there_both G (nat_eq c w.logged_in) (Serves d ∷ []) (sending w' (Shows b)))
      ∙ sym (append_assoc (acts c) (only G c w.logged_in (Serves d ∷ []))
      (only G c w.logged_in (sending w' (Shows b)))))
      (kept_sends G first w' b (Shows b) (G.spelling b) refl k.now (steady_shows G b (first w.logged_in) k.now) k)

  -- the server answers a line
  kept_served : (acts : ℕ → List (Act G)) (c : ℕ) (w : World G) (s : Served G) → w.logged_in ≤ c → Kept G acts w
      → Kept G (λ d. acts d ++ only G d w.logged_in (acts_of w s)) (does_served c w s)
  kept_served acts c w V.Stale low k = kept_no_acts acts w w k
  kept_served acts c w V.LoggedIn low k =
      let w' : World G = noted (record w { logged_in = c }) (L.LoggedIn c ∷ []) in
      kept_no_acts acts w w'
      (kept_login G acts w w' refl low
      (λ d some. carried_is G _ _ _ _ _ _ refl (ap (λ n. nat_eq n d) (open_append G 0 w.log (L.LoggedIn c ∷ []))) refl
      refl
      (k.carried d some)) k)
  kept_served acts c w (V.Took d b) low k =
      kept_decision acts w b d (Took c w.board d) (open_append G 0 w.log (Took c w.board d ∷ []))
      (kept_serves G acts w b d (Took c w.board d) refl k)
  kept_served acts c w (V.Undone d) low k =
      kept_decision acts w w.board d (Undone c w.board d) (open_append G 0 w.log (Undone c w.board d ∷ []))
      (kept_serves G acts w w.board d (Undone c w.board d) refl k)
  kept_served acts c w V.Answered low k =
      kept_sends G acts w w.board (Shows w.board) (G.spelling w.board) refl k.now
      (steady_shows G w.board (acts w.logged_in) k.now) k

  -- a connection that isn't the one that was open, nor the one that is
  other_connection : (put : List ℕ) (n m c : ℕ) (l : Link) → (c ≡ n → ⊥) → (c ≡ m → ⊥)
      → Carried put (nat_eq n c) l → Carried put (nat_eq m c) l
  other_connection put n m c l h k =
      carried_is G put put (nat_eq n c) (nat_eq m c) l l refl
      (other_number m c (λ e. k (sym e)) ∙ sym (other_number n c (λ e. h (sym e)))) refl refl

  -- a connection is opened
  kept_opened : (acts : ℕ → List (Act G)) (login : List ℕ) (w : World G) → Joint G [] w → open_now w.log ≡ 0
      → Kept G acts w
      → Kept G acts (asks (noted (record w { count = w.count + 1 }) (L.Opened (w.count + 1) ∷ [])) (w.count + 1)
      (login ∷ []))
  kept_opened acts login w j closed k =
      let l : Link = more_asked (w'.links (w.count + 1)) (wire_of (login ∷ [])) in
      let k' = kept_quiet G acts w w' refl refl (λ c some. elim (eqb_tells c (w.count + 1)) [
        | inl e ↦ new c e.1
        | inr n ↦ old c some n.1
      ]) k in
      kept_quiet G acts w' (asks w' (w.count + 1) (login ∷ [])) refl refl
      (λ c some. carried_is G _ _ _ _ _ _ refl refl (linked_keeps G (λ (x : Link). x.heard) w' (w.count + 1) l refl c)
      (linked_keeps G (λ (x : Link). x.coming) w' (w.count + 1) l refl c) (k'.carried c some)) k'
    where
      w' : World G
      w' = noted (record w { count = w.count + 1 }) (L.Opened (w.count + 1) ∷ [])

      here : open_now w'.log ≡ w.count + 1
      here = open_append G 0 w.log (L.Opened (w.count + 1) ∷ [])

      new : (c : ℕ) → c ≡ w.count + 1 → Carried (put_by (acts c)) (nat_eq (open_now w'.log) c) (w.links c)
      new c e =
          let low = j.low in
          let lt : w.logged_in < c = omega arith in
          let a = (j.each c).ahead lt in
          subst (λ l. Carried (put_by l) (nat_eq (open_now w'.log) c) (w.links c)) (sym (k.newer c lt))
          (carried_none G (nat_eq (open_now w'.log) c) (w.links c) a.heard a.coming)

      old : (c : ℕ) → 0 < c → (c ≡ w.count + 1 → ⊥) → Carried (put_by (acts c)) (nat_eq (open_now w'.log) c) (w.links c)
      old c some n =
          other_connection (put_by (acts c)) (open_now w.log) (open_now w'.log) c (w.links c)
          (λ e. absurd (omega arith)) (λ e. n (e ∙ here)) (k.carried c some)

  -- bytes are delivered
  kept_delivered : (acts : ℕ → List (Act G)) (w : World G) (n : ℕ) (l : Link) → 0 < open_now w.log
      → l.heard ≡ (w.links (open_now w.log)).heard ++ take n (w.links (open_now w.log)).coming
      → l.coming ≡ drop n (w.links (open_now w.log)).coming → Kept G acts w → Kept G acts (linked w (open_now w.log) l)
  kept_delivered acts w n l some heard coming k =
      let o : ℕ = open_now w.log in
      kept_quiet G acts w (linked w o l) refl refl
      (linked_each G (λ c x. 0 < c → Carried (put_by (acts c)) (nat_eq o c) x) w o l
      (λ s. carried_delivered G (put_by (acts o)) (nat_eq o o) (w.links o) l n (same_test G o o refl) heard coming
      (k.carried o s)) (λ c m s. k.carried c s)) k

  -- the connection is lost
  kept_lost : (acts : ℕ → List (Act G)) (w : World G) (l : Link) (e : Option (Ask G)) → 0 < open_now w.log
      → l.heard ≡ (w.links (open_now w.log)).heard → l.coming ≡ [] → Kept G acts w
      → Kept G acts (noted (linked w (open_now w.log) l) (Lost (open_now w.log) e ∷ []))
  kept_lost acts w l e some h none k =
      kept_quiet G acts w w' refl refl
      (linked_each G (λ c x. 0 < c → Carried (put_by (acts c)) (nat_eq (open_now w'.log) c) x) w o l
      (λ s. carried_is G (put_by (acts o)) (put_by (acts o)) false (nat_eq (open_now w'.log) o) l l refl
      (other_number (open_now w'.log) o (λ e. let zero_is : 0 ≡ o = sym closed ∙ e in absurd (omega arith))) refl refl
      (carried_lost G (put_by (acts o)) (nat_eq o o) (w.links o) l (same_test G o o refl) h none (k.carried o s)))
      (λ c m s. other_connection (put_by (acts c)) o (open_now w'.log) c (w.links c) m
      (λ e. let zero_is : c ≡ 0 = e ∙ closed in absurd (omega arith)) (k.carried c s))) k
    where
      o : ℕ
      o = open_now w.log

      w' : World G
      w' = noted (linked w o l) (Lost o e ∷ [])

      closed : open_now w'.log ≡ 0
      closed = open_append G 0 w.log (Lost o e ∷ [])

  -- the server takes a line
  kept_line : (acts : ℕ → List (Act G)) (w : World G) (c d1 d2 : ℕ) (line : List ℕ × List ℕ) → w.logged_in ≤ c
      → Kept G acts w
      → Kept G (λ d. acts d ++ only G d w.logged_in
      (acts_of w (answered G w.board w.logged_in c (is_empty (w.links c).served) line.0 d1 d2)))
      (serves c w d1 d2 (Some line))
  kept_line acts w c d1 d2 line low k =
      let l : Link = taken (w.links c) (on_wire line.0) line.1 in
      kept_served acts c (linked w c l) (answered G w.board w.logged_in c (is_empty (w.links c).served) line.0 d1 d2)
      low
      (kept_quiet G acts w (linked w c l) refl refl
      (λ d some. carried_is G _ _ _ _ _ _ refl refl (linked_keeps G (λ (x : Link). x.heard) w c l refl d)
      (linked_keeps G (λ (x : Link). x.coming) w c l refl d) (k.carried d some)) k)

  -- each event keeps what is said of the server's acts
  kept_after : (acts : ℕ → List (Act G)) (login : List ℕ) (w : World G) (e : Event G) → IsWorld w → Joint G [] w
      → refusal w e ≡ None → Kept G acts w → Kept G (λ c. acts c ++ acts_on w e c) (after login w e)
  kept_after acts login w Open i j h k =
      let z = is_closed G w h in
      kept_no_acts acts w _
      (subst (Kept G acts) (opens_is G login w i z) (kept_opened acts login w j (eqb-true _ _ z) k))
  kept_after acts login w (Deliver n) i j h k =
      kept_no_acts acts w _
      (kept_does G acts _ (given G w (Deliver n)) _ (does G login w (Deliver n) i h tt)
      (kept_delivered acts w n _ (is_open G NotOpen _ h) refl refl k))
  kept_after acts login w (Lose n) i j h k =
      let some = is_open G NotOpen _ h in
      kept_no_acts acts w _
      (subst (Kept G acts) (loses_is G login w n i some)
      (kept_lost acts w (cut_off (w.links (open_now w.log)) n) (unconfirmed (open_now w.log) w.log) some refl refl k))
  kept_after acts login w (Serve c d1 d2) i j h k =
      let s = served G w c d1 d2 h in
      subst (λ o. Kept G (λ e. acts e ++ only G e w.logged_in (acts_at_line w c d1 d2 o)) (serves c w d1 d2 o))
      (sym s.next)
      (kept_line acts w c d1 d2 s.line s.recent k)
  kept_after acts login w (Own b) i j h k =
      let good = not_refused G (not (G.good b)) _ _ h in
      let waits = not_refused G (G.decides w.board) _ _ good.1 in
      let steady = steady_becomes G w.board b (acts w.logged_in) (λ z. absurd (true≢false (sym z ∙ waits.0))) k.now in
      kept_sends G acts w b (Shows b) (G.spelling b) refl steady (steady_shows G b (acts w.logged_in) steady) k
  kept_after acts login w Repeat i j h k =
      kept_sends G acts w w.board (Shows w.board) (G.spelling w.board) refl k.now
      (steady_shows G w.board (acts w.logged_in) k.now) k
  kept_after acts login w (Text t) i j h k =
      kept_sends G acts w w.board (Says t) t refl k.now (steady_says G w.board t (acts w.logged_in) k.now) k
  kept_after acts login w e i j h k = kept_no_acts acts w _ (kept_does G acts [] w _ (does G login w e i h tt) k)

  -- at first nothing was done
  kept_start : (b : G.Board) → Kept G (λ c. []) (start {G = G} b)
  kept_start b = record {
    carried = λ c some. carried_none G (nat_eq 0 c) empty_link refl refl;
    older = λ c low. tt;
    now = tt;
    newer = λ c high. refl;
  }

  -- if none is Undone, what was served is what was carried out
  took_is_served : (c : ℕ) (log : List (Entry G)) → NoneUndone log → took c log ≡ S.served c log
  took_is_served c [] h = refl
  took_is_served c (Undone d b m ∷ later) h = absurd h
  took_is_served c (Took d b m ∷ later) h = ap (λ l. one_if (nat_eq d c) (b, m) ++ l) (took_is_served c later h)
  took_is_served c (e ∷ later) h = took_is_served c later h

  -- one decision, or none
  one_or_none : (p : Option (Ask G)) → to_list p ≡ at_most_one p
  one_or_none None = refl
  one_or_none (Some a) = refl

  -- all but at most the last was served
  all_but_last : (w : World G) (c : ℕ) (p : Option (Ask G)) → NoneUndone w.log → sent c w.log ≡ took c w.log ++ to_list
      p
      → sent c w.log ≡ S.served c w.log ++ at_most_one p
  all_but_last w c p none owed =
      owed ∙ ap (λ l. l ++ to_list p) (took_is_served c w.log none) ∙ ap (λ l. S.served c w.log ++ l) (one_or_none p)

  -- and the last is the only decision left on the wire
  last_unserved : (w : World G) (c : ℕ) (acts : List (Act G)) → NoneUndone w.log → Joint G [] w
      → flat_map served_at acts ≡ decisions_of G (S.served c w.log) → LastUnserved c acts w
  last_unserved w c acts none j serves = go (eqb_tells c 0) (eqb_tells c w.logged_in)
    where
      settled : (0 < c → w.logged_in ≤ c → ⊥) → LastUnserved c acts w
      settled older = record {
        unserved = (j.each c).settled.p;
        all = all_but_last w c (j.each c).settled.p none (j.each c).settled.owed;
        serves = serves;
        left = λ some low. absurd (older some low);
      }

      go : ((nat_eq c 0 ≡ true) × (c ≡ 0)) ⊎ ((nat_eq c 0 ≡ false) × (c ≡ 0 → ⊥))
          → ((nat_eq c w.logged_in ≡ true) × (c ≡ w.logged_in)) ⊎
          ((nat_eq c w.logged_in ≡ false) × (c ≡ w.logged_in → ⊥))
          → LastUnserved c acts w
      go (inl z) q = let z1 = z.1 in settled (λ some low. omega arith)
      go (inr n) (inl e) =
          let e1 = e.1 in
          let n1 = n.1 in
          let cur = current G [] w j (omega arith) in
          let owed = subst (λ d. sent d w.log ≡ took d w.log ++ to_list cur.p) (sym e1) cur.owed in
          record {
            unserved = cur.p;
            all = all_but_last w c cur.p none owed;
            serves = serves;
            left = λ some low. subst (λ d. Left d cur.p w) (sym e1) (left_on G w w.logged_in cur.p cur.way cur.held);
          }
      go (inr n) (inr m) = elim (cases_lt c w.logged_in) [
        | inl lt ↦ settled (λ some low. omega arith)
        | inr le ↦
            let m1 = m.1 in
            let a = (j.each c).ahead (omega arith) in
            record {
              unserved = None;
              all = all_but_last w c None none (a.silent.sends ∙ ap (λ l. l ++ []) (sym a.silent.takes));
              serves = serves;
              left = λ some low. left_on G w c None a.way tt;
            }
      ]

  -- the boards on any connection stay while the user decides
  steady_on : (acts : ℕ → List (Act G)) (w : World G) (c : ℕ) → Kept G acts w → Steady (acts c)
  steady_on acts w c k = elim (eqb_tells c w.logged_in) [
    | inl e ↦ subst (λ d. Steady (acts d)) (sym e.1) (steady_rest G w.board (acts w.logged_in) k.now)
    | inr n ↦ elim (cases_lt c w.logged_in) [
      | inl lt ↦ k.older c lt
      | inr le ↦ let other = n.1 in subst Steady (sym (k.newer c (omega arith))) tt
    ]
  ]

  module _ (law : Lawful G) where
    -- the joint statement, after every list of events
    pub joint_holds : (login : List ℕ) → IsQuiet G login → (b : G.Board) (es : List (Event G)) → G.good b ≡ true
        → AllAccepted login (start b) es → S.Joint (acts_from login (start b) es) (after_all login (start b) es)
    joint_holds login quiet b es good a =
        let w : World G = after_all login (start b) es in
        let both = kept G law login quiet es (start b) a (sound_start G b) (joint_start G law b good)
        (told_start G law b) in
        let k = over_events G law (Kept G) (kept_is G) login quiet
        (λ acts w e i j h k. kept_after acts login w e i j h k) (λ c. []) es
        (start b) a (sound_start G b) (joint_start G law b good) (kept_start b) in
        record {
          carried = k.carried;
          steady = λ c. steady_on (acts_from login (start b) es) w c k;
          last_unserved = λ c. last_unserved w c (acts_from login (start b) es c) both.1.undone both.0
              (let n = serves_all G c login es (start b) in n.2 ∙ ap (λ l. decisions_of G (S.served c l)) (sym n.1));
          newer_unshown = λ c lt. ((both.0.each c).ahead lt).silent.seen;
        }
