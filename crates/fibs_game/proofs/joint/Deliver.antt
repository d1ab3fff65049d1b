-- The joint statement is kept if the client hears lines.
use Rattle.std.proofs.Common.{◌≡◌, ℕ, ◌<◌, Bool, true, false, ◌&&◌, List, [], ◌∷◌, ◌++◌, Option, Some, None, nat_eq, take, drop, refl, sym, ◌∙◌, ap, subst, inl, inr, ◌⊎◌, append-nil, append_assoc, true≢false, arith}
use Rattle.std.proofs.Math.Seq.{take-nil, drop-nil}
use Rattle.std.proofs.lemmas.Option.{same_Some}
use Rattle.std.proofs.lemmas.Bool.{cases_Bool}
use Rattle.fibs_game.specs.Log.{Welcomed, Informed, Shown, Sent}
use Rattle.fibs_game.specs.Orders.{is_due}
use Rattle.fibs_game.specs.Words.{Ask, one_if, is_empty, last, each, open_now, shown, sent, took, welcomed, informed, is_spent}
use Rattle.fibs_game.specs.Wires.{Link, delivered}
use Rattle.fibs_game.specs.World.{World, after, noted, linked}
use Rattle.fibs_game.specs.Events.{Deliver}
use Rattle.fibs_game.specs.Talks.{IsWorld}
use Rattle.fibs_game.specs.Hearing.{Heard, nothing_heard, shows_board, heard, line_says}
use Rattle.fibs_game.specs.Machine.{gained}
use Rattle.fibs_game.specs.Game.{Game, Says, welcomes, informs, shows, says_nothing}
use Rattle.fibs_game.specs.Lawful.{AllQuiet, Lawful}
use Rattle.fibs_game.proofs.past.Moving.{has_moved_on, moved_shown}
use Rattle.fibs_game.proofs.past.Lists.{other_number, and_left, and_right, and_both, one_of_false, last_snoc, map_no_more, to_list}
use Rattle.fibs_game.proofs.past.Past.{open_append, shown_more, spent_first, spent_same, spent_other}
use Rattle.fibs_game.proofs.log.Due.{due_rolls}
use Rattle.fibs_game.proofs.joint.Asked.{joint_asked, no_entries}
use Rattle.fibs_game.proofs.wires.Boards.{waiting, boards, board_of, boards_split, whole_split, gained_none}
use Rattle.fibs_game.proofs.joint.Joint.{log_of, Calm, Free, Done, Live, Held, Joint, current, current_with, ahead_with, same_log, joint_current, joint_rewired, joint_rewired_ahead}
use Rattle.fibs_game.proofs.joint.Sending.{joint_noted, joint_asks, which, same_test, if_fact}
use Rattle.fibs_game.proofs.Stepping.{asks, does_heard, hears, over_delivery}

module _ (G : Game) where
  module _ (law : Lawful G) where
    -- one more board: what was on its way to the client is shown
    live_shown : (c : ℕ) (now b : G.Board) (more : List G.Board) (p : Option (Ask G)) (w w' : World G)
        → w'.log ≡ w.log ++ Shown c b ∷ [] → Held G now p
        → Live G (log_of G w c) now (b ∷ more) p → Live G (log_of G w' c) now more p
    live_shown c now b more p w w' e = go p
      where
        seen' : last (shown c w'.log) ≡ Some b
        seen' =
            ap (λ l. last (shown c l)) e ∙ ap last (shown_more G law.likeness c w.log b)
            ∙ last_snoc (shown c w.log) b

        same : (v : G.Board) → last (shown c w.log) ≡ Some v → G.like v b ≡ true
            → is_spent c w'.log ≡ is_spent c w.log
        same v h k = ap (is_spent c) e ∙ spent_same G law.likeness c w.log v b h k

        other : (v : G.Board) → last (shown c w.log) ≡ Some v → G.like v b ≡ false → is_spent c w'.log ≡ false
        other v h k = ap (is_spent c) e ∙ spent_other G law.likeness c w.log v b h k

        none : (xs : List G.Board) → last xs ≡ None → xs ≡ []
        none [] h = refl
        none (x ∷ []) h = cc
        none (x ∷ y ∷ ys) h = absurd (some (y ∷ ys) y ys refl h)
          where
            some : (zs : List G.Board) (y : G.Board) (ys : List G.Board) → zs ≡ y ∷ ys → last zs ≡ None → ⊥
            some [] y ys k h = cc
            some (z ∷ []) y ys k h = cc
            some (z ∷ z' ∷ zs) y ys k h = some (z' ∷ zs) z' zs refl h

        fresh : (o : Option G.Board) → last (shown c w.log) ≡ o → is_spent c w.log ≡ false
            → is_spent c w'.log ≡ false
        fresh None h k =
            ap (is_spent c) e ∙ spent_first G law.likeness c w.log b (none (shown c w.log) h)
        fresh (Some v) h k = elim (cases_Bool (G.like v b)) [ inl t ↦ same v h t ∙ k | inr f ↦ other v h f ]

        drop_one : (o : Option G.Board) → Calm G now (to_list o ++ b ∷ more) → Calm G now (b ∷ more)
        drop_one None h = h
        drop_one (Some v) h = h.1

        calm' : Calm G now (b ∷ more) → Calm G now (to_list (last (shown c w'.log)) ++ more)
        calm' h = rw seen' h

        like_all : (v x : G.Board) (xs : List G.Board) → G.like v x ≡ true → each (G.like v) xs ≡ true
            → each (G.like x) xs ≡ true
        like_all v x [] h k = refl
        like_all v x (y ∷ ys) h k =
            and_both _ _ (law.likeness.like_on x v y (law.likeness.like_back v x h) (and_left _ _ k))
            (like_all v x ys h (and_right _ _ k))

        done : (d : Done G (log_of G w c) now (b ∷ more)) (xs : List G.Board) → d.before ≡ xs
            → Free G (log_of G w' c) now more ⊎ Done G (log_of G w' c) now more
        done d [] h =
            let a : b ∷ more ≡ d.next ∷ d.later = d.all ∙ ap (λ l. l ++ d.next ∷ d.later) h in
            let a0 : b ≡ d.next = cc in
            let a1 : more ≡ d.later = cc in
            inl (record { fresh = other d.on d.is_last (rw a0 d.unlike); calm = calm' (rw (a0, a1) d.calm) })
        done d (y ∷ ys) h =
            let a : b ∷ more ≡ y ∷ ys ++ d.next ∷ d.later = d.all ∙ ap (λ l. l ++ d.next ∷ d.later) h in
            let a0 : b ≡ y = cc in
            let a1 : more ≡ ys ++ d.next ∷ d.later = cc in
            let k : (G.like d.on y && each (G.like d.on) ys) ≡ true = rw h at d.alike in
            let lk : G.like d.on b ≡ true = rw a0 (and_left _ _ k) in
            let un = unlike d.on b d.next lk d.unlike (cases_Bool (G.like b d.next)) in
            inr (record {
              spent = same d.on d.is_last lk ∙ d.spent;
              on = b;
              is_last = seen';
              before = ys;
              next = d.next;
              later = d.later;
              all = a1;
              alike = like_all d.on b ys lk (and_right _ _ k);
              unlike = un;
              calm = d.calm;
            })
          where
            unlike : (v x y : G.Board) → G.like v x ≡ true → G.like v y ≡ false
                → (G.like x y ≡ true) ⊎ (G.like x y ≡ false) → G.like x y ≡ false
            unlike v x y h k z =
                elim z [ inl t ↦ absurd (true≢false (sym (law.likeness.like_on v x y h t) ∙ k)) | inr f ↦ f ]

        go : (p : Option (Ask G)) → Held G now p → Live G (log_of G w c) now (b ∷ more) p
            → Live G (log_of G w' c) now more p
        go None h y = elim y [
          | inl f ↦
              inl
              (record {
                fresh = fresh (last (shown c w.log)) refl f.fresh;
                calm = calm' (drop_one (last (shown c w.log)) f.calm);
              })
          | inr d ↦ done d d.before refl
        ]
        go (Some a) h y =
            let all = y.calm.0 (law.allowed_decides a.0 a.1 h.1) in
            let eb : b ≡ a.0 = all.0.0 in
            let lk : G.like a.0 b ≡ true = rw eb (law.likeness.like_itself a.0) in
            record {
              spent = same a.0 y.is_last lk ∙ y.spent;
              is_last = seen' ∙ ap Some eb;
              calm = (λ z. (all.0.1, all.1), y.calm.1.1);
            }

    -- a good board is heard
    pub note_shown : (w : World G) (b : G.Board) (more : List G.Board) → Joint G (b ∷ more) w → open_now w.log
        ≡ w.logged_in
        → 0 < w.logged_in
        → Joint G more (noted w (Shown w.logged_in b ∷ []))
    note_shown w b more j here some =
        let c : ℕ = w.logged_in in
        let w' : World G = noted w (Shown w.logged_in b ∷ []) in
        let t : nat_eq (open_now w.log) w.logged_in ≡ true = same_test G _ _ here in
        let cur = current G (b ∷ more) w j some in
        let es : sent w.logged_in w'.log ≡ sent w.logged_in w.log = map_no_more _ w.log (Shown w.logged_in b ∷ []) refl
        in
        let et : took w.logged_in w'.log ≡ took w.logged_in w.log = map_no_more _ w.log (Shown w.logged_in b ∷ []) refl
        in
        joint_current G (b ∷ more) more w w' j some refl refl (open_append G 0 w.log (Shown w.logged_in b ∷ []))
        (λ d m. record {
          log = same_log G w w' (Shown w.logged_in b ∷ []) d refl
              (ap (λ l. l ++ []) (one_of_false (nat_eq w.logged_in d) b (other_number w.logged_in d (λ e. m (sym e)))))
              refl refl;
          link = refl;
        })
        j.good
        (record {
          p = cur.p;
          way = cur.way;
          begun = cur.begun;
          owed = es ∙ cur.owed ∙ ap (λ l. l ++ to_list cur.p) (sym et);
          held = cur.held;
          live = λ o. live_shown w.logged_in w.board b _ cur.p w w' refl cur.held (cur.live o);
        })
        (λ h. et ∙ moved cur.p cur.owed cur.held (cur.live t) (moved_shown G law.likeness w.logged_in w.log b h)
        ∙ sym es)
        (λ o. (j.each w.logged_in).wire o some)
      where
        moved : (p : Option (Ask G)) → sent w.logged_in w.log ≡ took w.logged_in w.log ++ to_list p → Held G w.board p
            → Live G (log_of G w w.logged_in) w.board (waiting G (b ∷ more) (w.links w.logged_in)) p
            → (has_moved_on G w.logged_in w.log ≡ true)
            ⊎ ((a : Ask G) × (last (sent w.logged_in w.log) ≡ Some a) × (G.like a.0 b ≡ false))
            → took w.logged_in w.log ≡ sent w.logged_in w.log
        moved p o h y (inl k) = (j.each w.logged_in).moved k
        moved None o h y (inr k) = sym (o ∙ append-nil _)
        moved (Some a) o h y (inr k) =
            let eb : b ≡ a.0 = (y.calm.0 (law.allowed_decides a.0 a.1 h.1)).0.0 in
            let la : last (sent w.logged_in w.log) ≡ Some a = ap last o ∙ last_snoc (took w.logged_in w.log) a in
            let ea : k.0 ≡ a = same_Some _ _ (sym k.1 ∙ la) in
            let e0 : k.0.0 ≡ a.0 = ap (λ (q : Ask G). q.0) ea in
            let lk : G.like k.0.0 b ≡ true = rw (e0, eb) (law.likeness.like_itself a.0) in
            absurd (true≢false (sym lk ∙ k.2))

    -- while lines are heard: the open connection is the one logged in, and more boards were delivered
    pub record Hearing (c : ℕ) (more : List G.Board) (w : World G) : Type 0 where
      pub joint : Joint G more w
      pub here : open_now w.log ≡ c
      pub mine : w.logged_in ≡ c

    -- what is heard is noted, and commands that are no decisions are handed out
    finish : (c : ℕ) (more : List G.Board) (w : World G) (h : Heard G) → 0 < c → Joint G more (noted w h.entries)
        → open_now (w.log ++ h.entries) ≡ c → w.logged_in ≡ c → AllQuiet G h.send
        → Hearing c more (does_heard c w h)
    finish c more w h some j here mine q =
        record { joint = joint_asks G law more (noted w h.entries) c h.send j here some q; here = here; mine = mine }

    -- a line that says nothing changes nothing
    no_entry : (c : ℕ) (more : List G.Board) (w : World G) → 0 < c → Hearing c more w
        → Hearing c more (does_heard c w nothing_heard)
    no_entry c more w some y =
        finish c more w nothing_heard some (joint_noted G more w [] y.joint (λ d. refl) (λ d. refl) (λ d. refl) refl)
        (open_append G 0 w.log [] ∙ y.here) y.mine tt

    -- A good board is shown, and if a standing order is then due its roll is sent: the boards still to be noted are
    -- that one, since the user decides on it.
    shown_one : (c : ℕ) (more : List G.Board) (w : World G) (b : G.Board) → 0 < c → Hearing c (b ∷ more) w
        → (rolls : Bool)
        → is_due c (w.log ++ Shown c b ∷ []) b ≡ rolls → Hearing c more (does_heard c w (shows_board c w.log b rolls))
    shown_one c more w b some y rolls due = go rolls due
      where
        have : 0 < w.logged_in
        have = let mine = y.mine in omega (arith, some, mine)

        w1 : World G
        w1 = noted w (Shown c b ∷ [])

        noted_first : Joint G more (noted w (Shown c b ∷ []))
        noted_first =
            subst (λ d. Joint G more (noted w (Shown d b ∷ []))) y.mine
            (note_shown w b more y.joint (y.here ∙ sym y.mine) have)

        go : (rolls : Bool) → is_due c (w.log ++ Shown c b ∷ []) b ≡ rolls
            → Hearing c more (does_heard c w (shows_board c w.log b rolls))
        go false due =
            finish c more w (shows_board c w.log b false) some noted_first
            (open_append G 0 w.log (Shown c b ∷ []) ∙ y.here) y.mine tt
        go true due =
            let r = due_rolls G law c w.log b y.here due in
            let asked =
            joint_asked G law more w1 [] G.roll b (no_entries G) noted_first (r.still ∙ sym y.mine) have
            (subst (λ e. is_spent e (w.log ++ Shown c b ∷ []) ≡ false) (sym y.mine) r.fresh)
            (subst (λ e. last (shown e (w.log ++ Shown c b ∷ [])) ≡ Some b) (sym y.mine) r.is_last) r.allowed in
            record {
              joint =
                  subst (λ l. Joint G more (asks (record w { log = l }) c (G.command b G.roll ∷ [])))
                  (append_assoc w.log (Shown c b ∷ []) (Sent c b G.roll ∷ []))
                  (subst (λ e. Joint G more (asks (noted w1 (Sent e b G.roll ∷ [])) e (G.command b G.roll ∷ [])))
                  y.mine asked);
              here = open_append G 0 w.log (Shown c b ∷ Sent c b G.roll ∷ []) ∙ y.here;
              mine = y.mine;
            }

    -- a line is heard: its board is no longer among those delivered and not noted
    pub hears_one : (c : ℕ) (more : List G.Board) (w : World G) (x : (Says G.Board G.Info)) → 0 < c
        → Hearing c (board_of G x ++ more) w
        → Hearing c more (hears c w x)
    hears_one c more w (shows b) some y = if_fact G (λ h. Hearing c more (does_heard c w h)) (G.good b) _ _
        (λ z.
        shown_one c more w b some
        (record { joint = subst (λ t. Joint G (one_if t b ++ more) w) z y.joint; here = y.here; mine = y.mine })
        (is_due c (w.log ++ Shown c b ∷ []) b) refl)
        (λ z. no_entry c more w some
        (record { joint = subst (λ t. Joint G (one_if t b ++ more) w) z y.joint; here = y.here; mine = y.mine }))
    hears_one c more w welcomes some y =
        finish c more w (heard c w.log welcomes) some
        (joint_noted G more w (Welcomed c ∷ []) y.joint (λ d. refl) (λ d. refl) (λ d. refl) refl)
        (open_append G 0 w.log (Welcomed c ∷ []) ∙ y.here) y.mine
        (if_fact G (AllQuiet G) (is_empty (welcomed c w.log)) _ _ (λ z. (law.style_quiet, tt)) (λ z. tt))
    hears_one c more w (informs m) some y =
        finish c more w (heard c w.log (informs m)) some
        (joint_noted G more w (Informed c (G.flags m) ∷ []) y.joint (λ d. refl) (λ d. refl) (λ d. refl) refl)
        (open_append G 0 w.log (Informed c (G.flags m) ∷ []) ∙ y.here) y.mine
        (if_fact G (AllQuiet G) (is_empty (informed c w.log)) _ _ (λ z. law.info_quiet m) (λ z. tt))
    hears_one c more w says_nothing some y = no_entry c more w some y

    -- the next of some lines is heard
    pub hears_next : (c : ℕ) (l : G.Line) (ls : List G.Line) (w : World G) → 0 < c
        → Hearing c (boards G (l ∷ ls) ++ []) w
        → Hearing c (boards G ls ++ []) (hears (open_now w.log) w (line_says G l))
    hears_next c l ls w some y =
        subst (λ d. Hearing c (boards G ls ++ []) (hears d w (line_says G l))) (sym y.here)
        (hears_one c (boards G ls ++ []) w (line_says G l) some
        (subst (λ bs. Hearing c bs w) (append_assoc (board_of G (line_says G l)) (boards G ls) []) y))

    -- bytes are delivered to the connection that is logged in: their lines are to be heard
    pub hearing_begins : (w : World G) (n : ℕ) → Joint G [] w → open_now w.log ≡ w.logged_in → 0 < w.logged_in
        → Hearing w.logged_in (boards G (gained G (w.links w.logged_in).heard (take n (w.links w.logged_in).coming)) ++
        [])
        (linked w w.logged_in (delivered (w.links w.logged_in) n))
    hearing_begins w n j here have =
        let l : Link = w.links w.logged_in in
        let l' : Link = delivered (w.links w.logged_in) n in
        let ls : List G.Line = gained G l.heard (take n l.coming) in
        let cur = current G [] w j have in
        let ws : waiting G (boards G ls) l' ≡ waiting G [] l = sym (boards_split G law l.heard l.coming n) in
        let j' : Joint G (boards G ls) (linked w w.logged_in l') = joint_rewired G [] (boards G ls) w w.board l' j have
        j.good
        (current_with G cur cur.way cur.begun cur.held
        (λ o. subst (λ bs. Live G (log_of G w w.logged_in) w.board bs cur.p) (sym ws) (cur.live o)))
        (λ o. whole_split G law l.heard l.coming n ((j.each w.logged_in).wire o have)) in
        record {
          joint = subst (λ bs. Joint G bs (linked w w.logged_in l')) (sym (append-nil _)) j';
          here = here;
          mine = refl;
        }

    -- bytes are delivered to the open connection
    pub joint_deliver : (login : List ℕ) (w : World G) (n : ℕ) → IsWorld w → Joint G [] w → 0 < open_now w.log
        → Joint G [] (after login w (Deliver n))
    joint_deliver login w n i j some = elim (which G [] w (open_now w.log) j refl some) [
      | inl e ↦
          let have : 0 < w.logged_in = omega arith in
          (over_delivery G (λ ls v. Hearing w.logged_in (boards G ls ++ []) v)
          (λ l ls v y. hears_next w.logged_in l ls v have y) login w n i some
          (subst (λ c. Hearing w.logged_in (boards G (gained G (w.links c).heard (take n (w.links c).coming)) ++ [])
          (linked w c (delivered (w.links c) n))) (sym e) (hearing_begins w n j e have))).joint
      | inr lt ↦
          let c : ℕ = open_now w.log in
          let a = (j.each c).ahead lt in
          let tn : take n (w.links c).coming ≡ [] = ap (take n) a.coming ∙ take-nil n in
          let dn : drop n (w.links c).coming ≡ [] = ap (drop n) a.coming ∙ drop-nil n in
          (over_delivery G (λ ls v. (ls ≡ []) × Joint G [] v) (λ l ls v y. absurd (no_line l ls y.0)) login w n i some (
            ap (gained G (w.links c).heard) tn ∙ gained_none G law (w.links c).heard,
            joint_rewired_ahead G [] w c (delivered (w.links c) n) j lt
                (ahead_with G a refl (ap (λ l. l ++ take n (w.links c).coming) a.heard ∙ tn) dn a.way a.asks)
                (j.each c).unopened,
          )).1
    ]
      where
        no_line : (l : G.Line) (ls : List G.Line) → l ∷ ls ≡ [] → ⊥
        no_line l ls h = cc
