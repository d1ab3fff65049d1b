-- The joint statement is kept if a decision is sent on the board shown last.
use Rattle.std.proofs.Common.{◌≡◌, ℕ, ◌<◌, true, false, List, [], ◌∷◌, ◌++◌, Option, Some, None, nat_eq, flat_map, refl, sym, ◌∙◌, ap, subst, inl, inr, append-nil, append_assoc, true≢false}
use Rattle.fibs_game.specs.Log.{Entry, Sent}
use Rattle.fibs_game.specs.Machine.{on_wire}
use Rattle.fibs_game.specs.Words.{Ask, is_empty, last, open_from, open_now, shown, sent, took, is_spent, shown_by, sent_by, took_by}
use Rattle.fibs_game.specs.Wires.{Link, more_asked}
use Rattle.fibs_game.specs.World.{World, noted}
use Rattle.fibs_game.specs.Game.{Game}
use Rattle.fibs_game.specs.Lawful.{Lawful}
use Rattle.fibs_game.proofs.past.Lists.{to_list, same_number, other_number, one_of_false, one_of_true, before_last, map_more, map_no_more}
use Rattle.fibs_game.proofs.past.Moving.{has_moved_on, moved_sent}
use Rattle.fibs_game.proofs.past.Past.{open_append, spent_sent}
use Rattle.fibs_game.proofs.wires.Boards.{waiting}
use Rattle.fibs_game.proofs.wires.Ways.{OnWay, way_decision}
use Rattle.fibs_game.proofs.joint.Joint.{log_of, Calm, Free, Live, Current, Joint, current, same_log, linked_same, linked_other, joint_current}
use Rattle.fibs_game.proofs.joint.Sending.{same_test}
use Rattle.fibs_game.proofs.Stepping.{asks}

module _ (G : Game) where
  -- entries that are none of Shown, Sent and Took, and leave open what is open
  pub record ChangesNothing (es : List (Entry G)) : Type 0 where
    pub shows_none : (c : ℕ) → shown c es ≡ []
    pub sends_none : (c : ℕ) → sent c es ≡ []
    pub takes_none : (c : ℕ) → took c es ≡ []
    pub stays_open : (o : ℕ) → open_from o es ≡ o

  -- no entries
  pub no_entries : ChangesNothing []
  no_entries = record { shows_none = λ c. refl; sends_none = λ c. refl; takes_none = λ c. refl; stays_open = λ o. refl }

  module _ (law : Lawful G) where
    -- After entries that change nothing a decision is sent on the connection that is logged in and open: nothing was
    -- sent in this stretch, and the board shown last allows it. The boards still to be noted are that one.
    pub joint_asked : (more : List G.Board) (w : World G) (first : List (Entry G)) (d : G.Decision) (b : G.Board)
        → ChangesNothing first → Joint G more w → open_now w.log ≡ w.logged_in → 0 < w.logged_in
        → is_spent w.logged_in w.log ≡ false
        → last (shown w.logged_in w.log) ≡ Some b → G.allows b d ≡ None
        → Joint G more
        (asks (noted w (first ++ Sent w.logged_in b d ∷ [])) w.logged_in (G.command b d ∷ []))
    joint_asked more w first d b idle j here some fresh la al =
        let l' : Link = more_asked (w.links w.logged_in) (flat_map on_wire (G.command b d ∷ [])) in
        let one : List (Entry G) = Sent w.logged_in b d ∷ [] in
        let es : List (Entry G) = first ++ Sent w.logged_in b d ∷ [] in
        let n : World G = noted w es in
        let w' : World G = asks n w.logged_in (G.command b d ∷ []) in
        let t : nat_eq (open_now w.log) w.logged_in ≡ true = same_test G _ _ here in
        let cur =
        subst (λ o. Current G o (log_of G w w.logged_in) (w.links w.logged_in) w.board
        (waiting G more (w.links w.logged_in))) t
        (current G more w j some) in
        let f = free cur.p cur.owed cur.way (cur.live refl) in
        let asked : sent w.logged_in es ≡ (b, d) ∷ [] =
        map_more (sent_by w.logged_in) first one ((b, d) ∷ [])
        (ap (λ l. l ++ []) (one_of_true (nat_eq w.logged_in w.logged_in) (b, d) (same_number w.logged_in)))
        ∙ ap (λ l. l ++ (b, d) ∷ []) (idle.sends_none w.logged_in) in
        let shows : (e : ℕ) → shown e es ≡ [] =
        λ e. map_no_more (shown_by e) first one refl ∙ idle.shows_none e in
        let takes : (e : ℕ) → took e es ≡ [] = λ e. map_no_more (took_by e) first one refl ∙ idle.takes_none e in
        let ss : sent w.logged_in n.log ≡ sent w.logged_in w.log ++ (b, d) ∷ [] =
        map_more (sent_by w.logged_in) w.log es ((b, d) ∷ []) asked in
        let st : took w.logged_in n.log ≡ took w.logged_in w.log =
        map_no_more (took_by w.logged_in) w.log es (takes w.logged_in) in
        let sb : shown w.logged_in n.log ≡ shown w.logged_in w.log =
        map_no_more (shown_by w.logged_in) w.log es (shows w.logged_in) in
        let two : w.log ++ es ≡ (w.log ++ first) ++ one = sym (append_assoc w.log first one) in
        let sc : shown w.logged_in (w.log ++ first) ≡ shown w.logged_in w.log =
        map_no_more (shown_by w.logged_in) w.log first (idle.shows_none w.logged_in) in
        let sp : is_spent w.logged_in n.log ≡ true = ap (is_spent w.logged_in) two
        ∙ spent_sent G w.logged_in (w.log ++ first) b d (ap is_empty sc ∙ before_last _ b la) in
        let cl : Calm G w.board (b ∷ waiting G more (w.links w.logged_in)) = rw la at f.1.calm in
        let v : Current G true (log_of G n w.logged_in) l' w.board (waiting G more l') = record {
          p = Some (b, d);
          way =
              way_decision G law (b, d) (w.links w.logged_in).asked
              (law.decision_text b d (subst (λ x. G.good x ≡ true) (cl.0 (law.allowed_decides b d al)).1 j.good) al)
              f.2;
          begun = cur.begun;
          owed = ss ∙ ap (λ l. l ++ (b, d) ∷ []) (f.0 ∙ sym st);
          held = ((cl.0 (law.allowed_decides b d al)).1, al);
          live = λ o. record { spent = sp; is_last = ap last sb ∙ la; calm = cl };
        } in
        let v' =
        subst (λ l. Current G true (log_of G n w.logged_in) l w.board (waiting G more l))
        (sym (linked_same G n w.logged_in l')) v in
        joint_current G more more w w' j some refl refl
        (open_append G 0 w.log es ∙ open_append G (open_now w.log) first one ∙ idle.stays_open (open_now w.log))
        (λ e m. record {
          log = same_log G w w' es e refl (shows e)
              (map_no_more (sent_by e) first one (ap (λ l. l ++ [])
              (one_of_false (nat_eq w.logged_in e) (b, d) (other_number w.logged_in e (λ z. m (sym z)))))
              ∙ idle.sends_none e)
              (takes e);
          link = linked_other G n w.logged_in e l' m;
        })
        j.good
        (rw t v')
        (λ h. absurd
        (true≢false (sym h
        ∙ (ap (has_moved_on G w.logged_in) two ∙ moved_sent G w.logged_in (w.log ++ first) b d))))
        (λ o. rw (linked_same G n w.logged_in l') ((j.each w.logged_in).wire o some))
      where
        free : (p : Option (Ask G)) → sent w.logged_in w.log ≡ took w.logged_in w.log ++ to_list p
            → OnWay G true p (w.links w.logged_in).asked
            → Live G (log_of G w w.logged_in) w.board (waiting G more (w.links w.logged_in)) p
            → (sent w.logged_in w.log ≡ took w.logged_in w.log)
            × Free G (log_of G w w.logged_in) w.board (waiting G more (w.links w.logged_in))
            × OnWay G true None (w.links w.logged_in).asked
        free None o way y =
            elim y [ inl f ↦ (o ∙ append-nil _, f, way) | inr z ↦ absurd (true≢false (sym z.spent ∙ fresh)) ]
        free (Some a) o way y = absurd (true≢false (sym y.spent ∙ fresh))
