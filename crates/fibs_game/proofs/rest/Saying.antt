-- What the client sent on the open connection, while the server has answered nothing there: its login.
use Rattle.std.proofs.Common.{◌≡◌, ◌⊎◌, ℕ, ◌+◌, ◌<◌, ◌≤◌, true, false, List, [], ◌∷◌, ◌++◌, Option, Some, None, nat_eq, drop, length, refl, sym, ◌∙◌, ap, subst, inl, inr, append_assoc, arith, if◌then◌else◌}
use Rattle.std.proofs.Math.Seq.{drop-append_seam}
use Rattle.std.proofs.lemmas.Bool.Decides.{eqb_tells}
use Rattle.std.proofs.lemmas.List.Concat.{flat_map-append}
use Rattle.std.proofs.lemmas.Option.{some_pair_parts}
use Rattle.fibs_game.specs.declared.world_refusal.WorldRefusal.TheVariants.{NotOpen}
use Rattle.fibs_game.specs.Log.{Opened, Lost}
use Rattle.fibs_game.specs.Machine.{on_wire, wire_of}
use Rattle.fibs_game.specs.Words.{is_empty, open_now, shown, unconfirmed}
use Rattle.fibs_game.specs.Acts.{Act, Shows, sending, acts_of, acts_at_line, acts_on, acts_from}
use Rattle.fibs_game.specs.Agrees.{board_sent, boards_sent}
use Rattle.fibs_game.specs.Events.{Event, Open, Deliver, Lose, Serve, Own, Repeat, Text}
use Rattle.fibs_game.specs.Headline.{IsAtRest}
use Rattle.fibs_game.specs.Refusals.{refusal}
use Rattle.fibs_game.specs.Runs.{AllAccepted, after_all}
use Rattle.fibs_game.specs.Server.{Served, obeyed, carried}
use Rattle.fibs_game.specs.Server as V
use Rattle.fibs_game.specs.Wires.{Link, delivered, taken, more_asked, next_line}
use Rattle.fibs_game.specs.World.{World, noted, after, start, linked, sends, is_talking, does_served, serves}
use Rattle.fibs_game.specs.Game.{Game}
use Rattle.fibs_game.specs.Lawful.{IsQuiet, Lawful}
use Rattle.fibs_game.specs.Talks.{IsWorld}
use Rattle.fibs_game.proofs.Answering.{answered_at as answered}
use Rattle.fibs_game.proofs.Final.{kept, told_start}
use Rattle.fibs_game.proofs.past.Lists.{same_number, and_both}
use Rattle.fibs_game.proofs.past.Past.{open_append}
use Rattle.fibs_game.proofs.joint.Acting.{only_here}
use Rattle.fibs_game.proofs.acts.Client.{Does, does, does_nothing, given, lines_at}
use Rattle.fibs_game.proofs.acts.Server.{Answers, answers_keep, answers_line, answers_served}
use Rattle.fibs_game.proofs.joint.EachEvent.{over_events, joint_start}
use Rattle.fibs_game.proofs.Refusing.{served, is_open, is_closed}
use Rattle.fibs_game.proofs.Sound.{sound_start}
use Rattle.fibs_game.proofs.Stepping.{asks, loses_is, opens_is}
use Rattle.fibs_game.proofs.joint.Joint.{log_of, Ahead, Joint, current, linked_same, linked_other, linked_keeps}
use Rattle.fibs_game.proofs.joint.Sending.{same_test}
use Rattle.fibs_game.proofs.rest.Agreeing.{is_some_number, agrees_holds}
use Rattle.fibs_game.proofs.wires.Boards.{boards}
use Rattle.fibs_game.proofs.wires.Cuts.{line_whole, line_is}
use Rattle.fibs_game.proofs.wires.Ways.{OnWay, way_served}

module _ (G : Game) where
  -- ---- commands and the wires to the server

  -- the client hands out commands on the open connection: they are noted and go on its wire
  record Speaks (w w' : World G) : Type 0 where
    here : open_now w'.log ≡ open_now w.log
    count : w'.count ≡ w.count
    logged_in : w'.logged_in ≡ w.logged_in
    texts : ℕ → List (List ℕ)
    none : (c : ℕ) → (c ≡ open_now w.log → ⊥) → texts c ≡ []
    said : (c : ℕ) → w'.commands c ≡ w.commands c ++ texts c
    served : (c : ℕ) → (w'.links c).served ≡ (w.links c).served
    asked : (c : ℕ) → (w'.links c).asked ≡ (w.links c).asked ++ wire_of (texts c)

  -- nothing that the client sent changes, nor what the server took
  record Still (w w' : World G) : Type 0 where
    here : open_now w'.log ≡ open_now w.log
    count : w'.count ≡ w.count
    logged_in : w'.logged_in ≡ w.logged_in
    said : (c : ℕ) → w'.commands c ≡ w.commands c
    served : (c : ℕ) → (w'.links c).served ≡ (w.links c).served
    asked : (c : ℕ) → (w'.links c).asked ≡ (w.links c).asked

  -- nothing changes in a world beside itself
  still_same : (w : World G) → Still w w
  still_same w = record {
    here = refl;
    count = refl;
    logged_in = refl;
    said = λ c. refl;
    served = λ c. refl;
    asked = λ c. refl;
  }

  -- what the server does beside taking a line changes nothing of it either, but for who is logged in
  still_answers : (c : ℕ) (t : List ℕ) (w w' : World G) → w'.logged_in ≡ w.logged_in → Answers G c t w w' → Still w w'
  still_answers c t w w' e a = record {
    here = a.here;
    count = a.count;
    logged_in = e;
    said = a.said;
    served = answers_keep G (λ (x : Link). x.served) (λ x bytes. refl) c t w w' a;
    asked = answers_keep G (λ (x : Link). x.asked) (λ x bytes. refl) c t w w' a;
  }

  -- what the client does
  speaks_does : (bs : List G.Board) (w v w' : World G) → Still w v → Does G bs v w' → Speaks w w'
  speaks_does bs w v w' s a = record {
    here = a.here ∙ s.here;
    count = a.count ∙ s.count;
    logged_in = a.logged_in ∙ s.logged_in;
    texts = a.texts;
    none = λ c n. a.none c (λ e. n (e ∙ s.here));
    said = λ c. a.said c ∙ ap (λ ts. ts ++ a.texts c) (s.said c);
    served = λ c. ap (λ (x : Link). x.served) (a.link c) ∙ s.served c;
    asked = λ c. ap (λ (x : Link). x.asked) (a.link c) ∙ ap (λ bytes. bytes ++ wire_of (a.texts c)) (s.asked c);
  }

  -- the server takes a line of c
  record Takes (c : ℕ) (w w' : World G) (t rest : List ℕ) : Type 0 where
    here : open_now w'.log ≡ open_now w.log
    count : w'.count ≡ w.count
    who : (w'.logged_in ≡ w.logged_in) ⊎ (w'.logged_in ≡ c)
    said : (d : ℕ) → w'.commands d ≡ w.commands d
    other : (d : ℕ) → (d ≡ c → ⊥)
        → ((w'.links d).served ≡ (w.links d).served) × ((w'.links d).asked ≡ (w.links d).asked)
    served : (w'.links c).served ≡ (w.links c).served ++ on_wire t
    asked : (w'.links c).asked ≡ rest

  -- whatever the server answers, it took the line
  takes_served : (c : ℕ) (w : World G) (t rest : List ℕ) (s : Served G)
      → Takes c w (does_served c (linked w c (taken (w.links c) (on_wire t) rest)) s) t rest
  takes_served c w t rest s =
      let l : Link = taken (w.links c) (on_wire t) rest in
      let a = answers_served G c (linked w c l) s in
      let served = answers_keep G (λ (x : Link). x.served) (λ x bytes. refl) c _ (linked w c l) _ a in
      let asked = answers_keep G (λ (x : Link). x.asked) (λ x bytes. refl) c _ (linked w c l) _ a in
      record {
        here = a.here;
        count = a.count;
        who = a.who;
        said = a.said;
        other = λ d m.
            let same : (linked w c l).links d ≡ w.links d = linked_other G w c d l m in
            (served d ∙ ap (λ (x : Link). x.served) same, asked d ∙ ap (λ (x : Link). x.asked) same);
        served = served c ∙ ap (λ (x : Link). x.served) (linked_same G w c l);
        asked = asked c ∙ ap (λ (x : Link). x.asked) (linked_same G w c l);
      }

  -- ---- the invariant

  -- what holds of the commands on each connection while lists of events are done
  record Said (login : List ℕ) (acts : ℕ → List (Act G)) (w : World G) : Type 0 where
    -- on the open connection the commands are all that was put on the wire, and the login is the first
    all : 0 < open_now w.log
        → (w.links (open_now w.log)).served ++ (w.links (open_now w.log)).asked ≡ wire_of (w.commands (open_now w.log))
    first : 0 < open_now w.log → (more : List (List ℕ)) × (w.commands (open_now w.log) ≡ login ∷ more)
    -- while no board was sent there, the server took the login alone
    alone : 0 < w.logged_in → open_now w.log ≡ w.logged_in → boards_sent (acts w.logged_in) ≡ []
        → (w.links w.logged_in).served ≡ on_wire login

  -- of two lists the first is empty if both are
  empty_left : {A : Type 0} (xs ys : List A) → xs ++ ys ≡ [] → xs ≡ []
  empty_left [] ys h = refl
  empty_left (x ∷ xs) ys h = cc

  -- the second of two parts is empty if both are
  empty_right : {A : Type 0} (xs ys : List A) → xs ++ ys ≡ [] → ys ≡ []
  empty_right [] ys h = h
  empty_right (x ∷ xs) ys h = cc

  -- no board among more acts, so none among the first
  fewer : (xs ys : List (Act G)) → boards_sent (xs ++ ys) ≡ [] → boards_sent xs ≡ []
  fewer xs ys h = empty_left (boards_sent xs) (boards_sent ys) (sym (flat_map-append board_sent xs ys) ∙ h)

  -- acts without a board: the later ones have none
  later : (xs ys : List (Act G)) → boards_sent (xs ++ ys) ≡ [] → boards_sent ys ≡ []
  later xs ys h = empty_right (boards_sent xs) (boards_sent ys) (sym (flat_map-append board_sent xs ys) ∙ h)

  -- other words for the same acts
  said_is : (login : List ℕ) (acts acts' : ℕ → List (Act G)) (w : World G) → ((c : ℕ) → acts' c ≡ acts c)
      → Said login acts w → Said login acts' w
  said_is login acts acts' w h s = record {
    all = s.all;
    first = s.first;
    alone = λ some here none. s.alone some here (ap boards_sent (sym (h w.logged_in)) ∙ none);
  }

  -- it is kept if the client hands out commands
  said_speaks : (login : List ℕ) (acts : ℕ → List (Act G)) (more : ℕ → List (Act G)) (w w' : World G) → Joint G [] w
      → Speaks w w'
      → Said login acts w → Said login (λ c. acts c ++ more c) w'
  said_speaks login acts more w w' j a s = record {
    all = λ some.
        let some' : 0 < open_now w.log = subst (λ n. 0 < n) a.here some in
        subst (λ o. (w'.links o).served ++ (w'.links o).asked ≡ wire_of (w'.commands o)) (sym a.here)
        (wires (open_now w.log) (s.all some'));
    first = λ some.
        let f = s.first (subst (λ n. 0 < n) a.here some) in
        subst (λ o. (more : List (List ℕ)) × (w'.commands o ≡ login ∷ more)) (sym a.here)
        (f.0 ++ a.texts (open_now w.log), a.said (open_now w.log) ∙ ap (λ ts. ts ++ a.texts (open_now w.log)) f.1);
    alone = λ some here none.
        let e = a.logged_in in
        let none' : boards_sent (acts w.logged_in) ≡ [] =
        fewer (acts w.logged_in) (more w.logged_in) (subst (λ n. boards_sent (acts n ++ more n) ≡ []) e none) in
        subst (λ n. (w'.links n).served ≡ on_wire login) (sym e)
        (a.served w.logged_in ∙ s.alone (subst (λ n. 0 < n) e some) (sym a.here ∙ here ∙ e) none');
  }
    where
      wires : (o : ℕ) → (w.links o).served ++ (w.links o).asked ≡ wire_of (w.commands o)
          → (w'.links o).served ++ (w'.links o).asked ≡ wire_of (w'.commands o)
      wires o h =
          ap (λ bytes. bytes ++ (w'.links o).asked) (a.served o)
          ∙ ap (λ bytes. (w.links o).served ++ bytes) (a.asked o)
          ∙ sym (append_assoc (w.links o).served (w.links o).asked (wire_of (a.texts o)))
          ∙ ap (λ bytes. bytes ++ wire_of (a.texts o)) h
          ∙ sym (flat_map-append on_wire (w.commands o) (a.texts o))
          ∙ ap wire_of (sym (a.said o))

  -- and if the server sends a line by itself
  said_sends : (login : List ℕ) (acts : ℕ → List (Act G)) (more : ℕ → List (Act G)) (w : World G) (b : G.Board)
      (t : List ℕ)
      → Joint G [] w → Said login acts w → Said login (λ c. acts c ++ more c) (sends (record w { board = b }) t)
  said_sends login acts more w b t j s =
      let w' : World G = sends (record w { board = b }) t in
      let a = answers_line G w.logged_in w b t in
      said_speaks login acts more w w' j
      (speaks_does [] w w' w' (still_answers w.logged_in t w w' (elim a.who [ inl e ↦ e | inr e ↦ e ]) a)
      (does_nothing G w')) s

  -- ---- a line is answered by a board

  -- a board goes out
  not_silent : (w : World G) (b : G.Board) → is_talking w ≡ true → boards_sent (sending w (Shows b)) ≡ [] → ⊥
  not_silent w b t h =
      let one : boards_sent (sending w (Shows b)) ≡ b ∷ [] =
      ap (λ z. boards_sent {G = G} (if z then Shows b ∷ [] else [])) t in
      cc

  -- what the server does at a later line of the connection logged in
  loud_obeyed : (w : World G) (d1 d2 : ℕ) → is_talking w ≡ true → (o : Option G.Decision)
      → boards_sent (acts_of w (obeyed w.board d1 d2 o)) ≡ [] → ⊥
  loud_obeyed w d1 d2 t None h = not_silent w w.board t h
  loud_obeyed w d1 d2 t (Some d) h = go (G.effect w.board d d1 d2) h
    where
      go : (o : Option G.Board) → boards_sent (acts_of w (carried d o)) ≡ [] → ⊥
      go None h = not_silent w w.board t h
      go (Some b) h = not_silent w b t h

  -- if the connection that is logged in is open, each later line of it is answered by a board
  loud : (w : World G) (c d1 d2 : ℕ) (t : List ℕ) → is_talking w ≡ true → c ≡ w.logged_in
      → is_empty (w.links c).served ≡ false
      → boards_sent (acts_of w (answered G w.board w.logged_in c (is_empty (w.links c).served) t d1 d2)) ≡ [] → ⊥
  loud w c d1 d2 t talks mine begun h =
      loud_obeyed w d1 d2 talks (G.decision_in w.board t)
      (subst (λ z. boards_sent (acts_of w (if z then obeyed w.board d1 d2 (G.decision_in w.board t) else V.Stale)) ≡ [])
      (same_test G c w.logged_in mine)
      (subst (λ z. boards_sent (acts_of w (answered G w.board w.logged_in c z t d1 d2)) ≡ []) begun h))

  module _ (law : Lawful G) where
    -- if the server takes a line
    said_takes : (login : List ℕ) → IsQuiet G login → (acts : ℕ → List (Act G)) (w : World G) (c d1 d2 : ℕ)
        (t rest : List ℕ)
        → Joint G [] w → 0 < c → w.logged_in ≤ c → next_line (w.links c).asked ≡ Some (t, rest) → Said login acts w
        → Said login
        (λ d. acts d ++ (if nat_eq d w.logged_in then acts_at_line w c d1 d2 (Some (t, rest)) else []))
        (serves c w d1 d2 (Some (t, rest)))
    said_takes login quiet acts w c d1 d2 t rest j some low next s = record {
      all = λ z.
          subst (λ o. (w'.links o).served ++ (w'.links o).asked ≡ wire_of (w'.commands o)) (sym a.here)
          (wires (open_now w.log) (s.all (subst (λ n. 0 < n) a.here z)));
      first = λ z.
          let f = s.first (subst (λ n. 0 < n) a.here z) in
          subst (λ o. (more : List (List ℕ)) × (w'.commands o ≡ login ∷ more)) (sym a.here)
          (f.0, a.said (open_now w.log) ∙ f.1);
      alone = alone;
    }
      where
        w' : World G
        w' = serves c w d1 d2 (Some (t, rest))

        more : ℕ → List (Act G)
        more d = if nat_eq d w.logged_in then acts_at_line w c d1 d2 (Some (t, rest)) else []

        a : Takes c w w' t rest
        a = takes_served c w t rest (answered G w.board w.logged_in c (is_empty (w.links c).served) t d1 d2)

        wires : (o : ℕ) → (w.links o).served ++ (w.links o).asked ≡ wire_of (w.commands o)
            → (w'.links o).served ++ (w'.links o).asked ≡ wire_of (w'.commands o)
        wires o h = elim (eqb_tells o c) [
          | inl e ↦
              subst (λ o. (w'.links o).served ++ (w'.links o).asked ≡ wire_of (w'.commands o)) (sym e.1)
              (ap (λ bytes. bytes ++ (w'.links c).asked) a.served
              ∙ ap (λ bytes. ((w.links c).served ++ on_wire t) ++ bytes) a.asked
              ∙ append_assoc (w.links c).served (on_wire t) rest
              ∙ ap (λ bytes. (w.links c).served ++ bytes) (sym (line_is G (w.links c).asked t rest next))
              ∙ subst (λ o. (w.links o).served ++ (w.links o).asked ≡ wire_of (w.commands o)) e.1 h
              ∙ ap wire_of (sym (a.said c)))
          | inr n ↦
              let k = a.other o n.1 in
              ap (λ bytes. bytes ++ (w'.links o).asked) k.0 ∙ ap (λ bytes. (w.links o).served ++ bytes) k.1 ∙ h
              ∙ ap wire_of (sym (a.said o))
        ]

        -- a connection that was not logged in: its first line is the login
        newly : (c ≡ w.logged_in → ⊥) → open_now w.log ≡ c → (w'.links c).served ≡ on_wire login
        newly n here =
            let lt : w.logged_in < c = omega arith in
            let ahead = (j.each c).ahead lt in
            let some' : 0 < open_now w.log = omega arith in
            let f = s.first some' in
            let whole : (w.links c).asked ≡ on_wire login ++ wire_of f.0 =
            ap (λ bytes. bytes ++ (w.links c).asked) (sym ahead.served)
            ∙ subst (λ o. (w.links o).served ++ (w.links o).asked ≡ wire_of (w.commands o)) here (s.all some')
            ∙ ap wire_of (subst (λ o. w.commands o ≡ login ∷ f.0) here f.1) in
            let line : next_line (w.links c).asked ≡ Some (login, wire_of f.0) =
            ap next_line whole ∙ line_whole G login (wire_of f.0) quiet.text in
            let is : t ≡ login = (some_pair_parts t login rest (wire_of f.0) (sym next ∙ line)).0 in
            a.served ∙ ap (λ bytes. bytes ++ on_wire t) ahead.served ∙ ap on_wire is

        -- the one that is logged in: a board would go out
        mine : c ≡ w.logged_in → 0 < w.logged_in → open_now w.log ≡ w.logged_in
            → boards_sent (acts w.logged_in ++ more w.logged_in) ≡ [] → ⊥
        mine e some here none =
            let begun : is_empty (w.links c).served ≡ false =
            subst (λ d. is_empty (w.links d).served ≡ false) (sym e) (current G [] w j some).begun in
            let talks : is_talking w ≡ true =
            and_both _ _ (same_test G _ _ here) (is_some_number G w.logged_in some) in
            let quiet : boards_sent (more w.logged_in) ≡ [] = later (acts w.logged_in) (more w.logged_in) none in
            let silent : boards_sent (acts_at_line w c d1 d2 (Some (t, rest))) ≡ [] =
            ap boards_sent (sym (only_here G w.logged_in (acts_at_line w c d1 d2 (Some (t, rest))))) ∙ quiet in
            loud w c d1 d2 t talks e begun silent

        alone : 0 < w'.logged_in → open_now w'.log ≡ w'.logged_in
            → boards_sent (acts w'.logged_in ++ more w'.logged_in) ≡ [] → (w'.links w'.logged_in).served ≡ on_wire login
        alone some' here none = elim (eqb_tells c w.logged_in) [
          | inl e ↦
              let same : w'.logged_in ≡ w.logged_in = elim a.who [ inl q ↦ q | inr q ↦ q ∙ e.1 ] in
              absurd (mine e.1 (subst (λ n. 0 < n) same some') (sym a.here ∙ here ∙ same)
              (subst (λ n. boards_sent (acts n ++ more n) ≡ []) same none))
          | inr n ↦ elim a.who [
            | inl same ↦
                let none' : boards_sent (acts w.logged_in) ≡ [] =
                fewer (acts w.logged_in) (more w.logged_in)
                (subst (λ n. boards_sent (acts n ++ more n) ≡ []) same none) in
                subst (λ n. (w'.links n).served ≡ on_wire login) (sym same)
                ((a.other w.logged_in (λ e. n.1 (sym e))).0
                ∙ s.alone (subst (λ n. 0 < n) same some') (sym a.here ∙ here ∙ same) none')
            | inr is ↦
                subst (λ n. (w'.links n).served ≡ on_wire login) (sym is) (newly n.1 (sym a.here ∙ here ∙ is))
          ]
        ]

    -- if a connection is opened
    said_opens : (login : List ℕ) (acts : ℕ → List (Act G)) (w : World G) → IsWorld w → Joint G [] w
        → nat_eq (open_now w.log) 0 ≡ true → Said login (λ c. acts c ++ acts_on w Open c) (after login w Open)
    said_opens login acts w i j closed = subst (Said login (λ c. acts c ++ acts_on w Open c))
        (opens_is G login w i closed)
        (record {
          all = λ z.
              subst (λ o. (w'.links o).served ++ (w'.links o).asked ≡ wire_of (w'.commands o)) (sym here)
              (ap (λ bytes. bytes ++ (w'.links c).asked) (ap (λ (x : Link). x.served) link ∙ ahead.served)
              ∙ ap (λ (x : Link). x.asked) link
              ∙ ap (λ bytes. bytes ++ wire_of (login ∷ [])) ((j.each c).unopened (omega arith))
              ∙ ap wire_of (sym commands));
          first = λ z. subst (λ o. (more : List (List ℕ)) × (w'.commands o ≡ login ∷ more)) (sym here) ([], commands);
          alone = λ some e none.
              let low = j.low in
              let o = here in absurd (omega arith);
        })
      where
        c : ℕ
        c = w.count + 1

        w' : World G
        w' =
            asks (noted (record w { count = w.count + 1 }) (Opened (w.count + 1) ∷ [])) (w.count + 1) (login ∷ [])

        here : open_now w'.log ≡ w.count + 1
        here = open_append G 0 w.log (Opened (w.count + 1) ∷ [])

        ahead : Ahead G (nat_eq (open_now w.log) c) (log_of G w c) (w.links c)
        ahead = (j.each c).ahead (let low = j.low in omega arith)

        link : w'.links (w.count + 1) ≡ more_asked (w.links (w.count + 1)) (wire_of (login ∷ []))
        link = linked_same G w (w.count + 1) (more_asked (w.links (w.count + 1)) (wire_of (login ∷ [])))

        commands : w'.commands (w.count + 1) ≡ login ∷ []
        commands =
            ap (λ z. if z then w.commands (w.count + 1) ++ login ∷ [] else w.commands (w.count + 1))
            (same_number (w.count + 1))
            ∙ ap (λ ts. ts ++ login ∷ []) (i.unsaid (w.count + 1) (omega arith))

    -- and if it is lost
    said_loses : (login : List ℕ) (acts : ℕ → List (Act G)) (w : World G) (k : ℕ) → IsWorld w → 0 < open_now w.log
        → Said login (λ c. acts c ++ acts_on w (Lose k) c) (after login w (Lose k))
    said_loses login acts w k i some =
        subst (Said login (λ c. acts c ++ acts_on w (Lose k) c)) (loses_is G login w k i some)
        (record {
          all = λ z. absurd (closed z);
          first = λ z. absurd (closed z);
          alone = λ some e none. absurd (closed (subst (λ n. 0 < n) (sym e) some));
        })
      where
        closed : 0 < open_now (w.log ++ Lost (open_now w.log) (unconfirmed (open_now w.log) w.log) ∷ []) → ⊥
        closed z =
            let o = open_append G 0 w.log (Lost (open_now w.log) (unconfirmed (open_now w.log) w.log) ∷ []) in
            absurd (omega arith)

    -- each event keeps the invariant
    said_after : (login : List ℕ) → IsQuiet G login → (acts : ℕ → List (Act G)) (w : World G) (e : Event G) → IsWorld w
        → Joint G [] w → refusal w e ≡ None → Said login acts w → Said login (λ c. acts c ++ acts_on w e c)
        (after login w e)
    said_after login quiet acts w Open i j h s = said_opens login acts w i j (is_closed G w h)
    said_after login quiet acts w (Deliver n) i j h s =
        let l : Link = w.links (open_now w.log) in
        let w1 : World G = given G w (Deliver n) in
        let still : Still w w1 = record {
          here = refl;
          count = refl;
          logged_in = refl;
          said = λ c. refl;
          served = linked_keeps G (λ (x : Link). x.served) w (open_now w.log) (delivered l n) refl;
          asked = linked_keeps G (λ (x : Link). x.asked) w (open_now w.log) (delivered l n) refl;
        } in
        said_speaks login acts (acts_on w (Deliver n)) w (after login w (Deliver n)) j
        (speaks_does (boards G (lines_at G w (Deliver n))) w w1 (after login w (Deliver n)) still
        (does G login w (Deliver n) i h tt)) s
    said_after login quiet acts w (Lose k) i j h s = said_loses login acts w k i (is_open G NotOpen _ h)
    said_after login quiet acts w (Serve c d1 d2) i j h s =
        let p = served G w c d1 d2 h in
        subst
        (λ o. Said login (λ d. acts d ++ (if nat_eq d w.logged_in then acts_at_line w c d1 d2 o else []))
        (serves c w d1 d2 o)) (sym p.next)
        (said_takes login quiet acts w c d1 d2 p.line.0 p.line.1 j p.some p.recent p.next s)
    said_after login quiet acts w (Own b) i j h s =
        said_sends login acts (acts_on w (Own b)) w b (G.spelling b) j s
    said_after login quiet acts w Repeat i j h s =
        said_sends login acts (acts_on w Repeat) w w.board (G.spelling w.board) j s
    said_after login quiet acts w (Text t) i j h s = said_sends login acts (acts_on w (Text t)) w w.board t j s
    said_after login quiet acts w e i j h s =
        said_speaks login acts (acts_on w e) w (after login w e) j
        (speaks_does [] w w (after login w e) (still_same w) (does G login w e i h tt)) s

    -- commands without bytes are none
    no_commands : (ts : List (List ℕ)) → wire_of ts ≡ [] → ts ≡ []
    no_commands [] h = refl
    no_commands ([] ∷ ts) h = absurd cc
    no_commands ((b ∷ t) ∷ ts) h = absurd cc

    -- at rest, if no board was sent, the client sent its login alone
    only_login : (login : List ℕ) → IsQuiet G login → (acts : ℕ → List (Act G)) (w : World G) → Joint G [] w
        → Said login acts w
        → IsAtRest w → boards_sent (acts w.logged_in) ≡ [] → w.commands w.logged_in ≡ login ∷ []
    only_login login quiet acts w j s r none =
        let cur = current G [] w j r.some in
        let t : nat_eq (open_now w.log) w.logged_in ≡ true = same_test G _ _ r.is_open in
        let empty : (w.links w.logged_in).asked ≡ [] =
        way_served G law cur.p (w.links w.logged_in).asked
        (subst (λ o. OnWay G o cur.p (w.links w.logged_in).asked) t cur.way) r.all_served in
        let o : ℕ = open_now w.log in
        let some : 0 < open_now w.log = subst (λ n. 0 < n) (sym r.is_open) r.some in
        let f = s.first some in
        let commands : w.commands w.logged_in ≡ login ∷ f.0 =
        subst (λ o. w.commands o ≡ login ∷ f.0) r.is_open f.1 in
        let all : (w.links w.logged_in).served ++ (w.links w.logged_in).asked ≡ wire_of (w.commands w.logged_in) =
        subst (λ o. (w.links o).served ++ (w.links o).asked ≡ wire_of (w.commands o)) r.is_open (s.all some) in
        let same : on_wire login ++ [] ≡ on_wire login ++ wire_of f.0 =
        ap (λ bytes. bytes ++ []) (sym (s.alone r.some r.is_open none))
        ∙ ap (λ bytes. (w.links w.logged_in).served ++ bytes) (sym empty) ∙ all ∙ ap wire_of commands in
        let gone : wire_of f.0 ≡ [] =
        sym (drop-append_seam (on_wire login) (wire_of f.0))
        ∙ ap (drop (length (on_wire login))) (sym same) ∙ drop-append_seam (on_wire login) [] in
        commands ∙ ap (λ ts. login ∷ ts) (no_commands f.0 gone)

    -- it holds before any event
    said_start : (login : List ℕ) (b : G.Board) → Said login (λ c. []) (start b)
    said_start login b = record {
      all = λ some. absurd (omega arith);
      first = λ some. absurd (omega arith);
      alone = λ some. absurd (omega arith);
    }

    -- at rest, if no board is shown, the client sent its login alone
    pub only_login_holds : (login : List ℕ) → IsQuiet G login → (b : G.Board) (es : List (Event G)) → G.good b ≡ true
        → AllAccepted login (start b) es → IsAtRest (after_all login (start b) es)
        → shown (after_all login (start b) es).logged_in (after_all login (start b) es).log ≡ []
        → (after_all login (start b) es).commands (after_all login (start b) es).logged_in ≡ login ∷ []
    only_login_holds login quiet b es good ok r none =
        let w : World G = after_all login (start b) es in
        let acts : ℕ → List (Act G) = acts_from login (start b) es in
        let j : Joint G [] w = (kept G law login quiet es (start b) ok (sound_start G b) (joint_start G law b good)
        (told_start G law b)).0 in
        only_login login quiet acts w j
        (over_events G law (Said login) (said_is login) login quiet
        (λ acts w e i j h s. said_after login quiet acts w e i j h s) (λ c. []) es (start b) ok (sound_start G b)
        (joint_start G law b good)
        (said_start login b)) r
        (sym ((agrees_holds G law login quiet b es good ok).all_shown r) ∙ none)
