-- The headline, after every list of events.
use Rattle.std.proofs.Common.{◌≡◌, ℕ, ◌+◌, ◌<◌, ◌≤◌, Bool, true, false, List, [], ◌∷◌, ◌++◌, Option, Some, None, nat_eq, length, refl, sym, ◌∙◌, ap, subst, inl, inr, ◌⊎◌, true≢false, arith, length-append, append-nil}
use Rattle.std.proofs.lemmas.Bool.Decides.{eqb_tells, nat_tests}
use Rattle.std.specs.Prelude.{nat_lt}
use Rattle.fibs_game.specs.declared.refusal.Refusal.{Refusal}
use Rattle.fibs_game.specs.declared.world_refusal.WorldRefusal.TheVariants.{NotOpen}
use Rattle.fibs_game.specs.Log.{Entry, Opened, LoggedIn, Welcomed, Informed, Shown, Took, Lost, Ordered, Withdrawn}
use Rattle.fibs_game.specs.Orders.{is_due}
use Rattle.fibs_game.specs.Words.{Ask, is_empty, open_now, shown, sent, took, unconfirmed, answer}
use Rattle.fibs_game.specs.Hearing.{nothing_heard, shows_board, line_says}
use Rattle.fibs_game.specs.Machine.{Talk, step, clicks_by, decides_on, sends_plain, notes_if, plain_refusal, order_refusal, withdraw_refusal, on_wire, gained}
use Rattle.fibs_game.specs.Machine as M
use Rattle.fibs_game.specs.Wires.{taken, next_line}
use Rattle.fibs_game.specs.Server.{carried, obeyed, Stale, LoggedIn as LoggedInNow}
use Rattle.fibs_game.specs.Events.{Event, Open, Click, Plain, Deliver, Lose, Serve, Own, Repeat, Text, Order, Withdraw}
use Rattle.fibs_game.specs.World.{does_served, talk_of, World, noted, linked, sends, is_talking, serves, start, after}
use Rattle.fibs_game.specs.Refusals.{refusal}
use Rattle.fibs_game.specs.Headline.{Headline, IsAtRest, AllLegal, AllGood, AllAtMost}
use Rattle.fibs_game.specs.Stale.{NoneStale}
use Rattle.fibs_game.specs.Talks.{IsWorld}
use Rattle.fibs_game.specs.Runs.{AllAccepted, after_all}
use Rattle.fibs_game.specs.Game.{Game, Says, welcomes, informs, shows, says_nothing}
use Rattle.fibs_game.specs.Lawful.{IsQuiet, Lawful}
use Rattle.fibs_game.proofs.Answering.{answered_at as answered_now, takes_line, obeys, carries_out}
use Rattle.fibs_game.proofs.wires.Ways.{OnWay, way_serve, way_some, way_served}
use Rattle.fibs_game.proofs.wires.Boards.{waiting, boards, gained_none}
use Rattle.fibs_game.proofs.joint.Joint.{log_of, Live, Held, Current, Joint, current}
use Rattle.fibs_game.proofs.past.Lists.{to_list}
use Rattle.fibs_game.proofs.joint.Sending.{if_fact, same_test}
use Rattle.fibs_game.proofs.past.Words.{yes}
use Rattle.fibs_game.proofs.joint.EachEvent.{joint_after, joint_start}
use Rattle.fibs_game.proofs.log.Moved.{all_moved_on}
use Rattle.fibs_game.proofs.log.Called.{own_of, clicks_sent_of, orders_sent_of}
use Rattle.fibs_game.proofs.log.Due.{due_rolls}
use Rattle.fibs_game.proofs.log.Fitting.{answered, on_shown, shown_here}
use Rattle.fibs_game.proofs.Numbered.{all_numbers}
use Rattle.fibs_game.proofs.log.Told.{Told, AllAllowed, AllPass, IsPlain, told_plain, told_shown, told_rolled, told_no, told_yes, told_took}
use Rattle.fibs_game.proofs.Refusing.{Served, is_closed, is_open, served}
use Rattle.fibs_game.proofs.Sound.{sound_after, sound_start}
use Rattle.fibs_game.proofs.Stepping.{does_heard, hears, loses_is, opens_is, over_delivery}

module _ (G : Game) where
  module _ (law : Lawful G) where
    -- what the headline says holds of the log of a world
    abbrev Tells : World G → Type 0
    Tells w = Told G w.log

    -- a line on a wire adds nothing to the log
    told_sends : (w : World G) (t : List ℕ) → Told G w.log → Told G (sends w t).log
    told_sends w t h = if_fact G Tells (is_talking w) _ _ (λ z. h) (λ z. h)

    -- a line that says nothing adds nothing
    told_nothing : (c : ℕ) (w : World G) → Told G w.log → Told G (does_heard c w nothing_heard).log
    told_nothing c w h = subst (Told G) (sym (append-nil w.log)) h

    -- a good board is shown, and if a standing order is then due its roll is sent
    told_shows : (c : ℕ) (w : World G) (b : G.Board) → G.good b ≡ true → open_now w.log ≡ c → Told G w.log
        → (rolls : Bool)
        → is_due c (w.log ++ Shown c b ∷ []) b ≡ rolls → Told G (does_heard c w (shows_board c w.log b rolls)).log
    told_shows c w b good here h false due = told_shown G w.log c b good (sym here) due h
    told_shows c w b good here h true due =
        told_rolled G w.log c b good (sym here) due (due_rolls G law c w.log b here due).allowed h

    -- a line that is heard adds a board with or without a roll, a plain entry, or none
    told_hears : (c : ℕ) (w : World G) (x : (Says G.Board G.Info)) → open_now w.log ≡ c → Told G w.log
        → Told G (hears c w x).log
    told_hears c w (shows b) here h =
        if_fact G (λ z. Tells (does_heard c w z)) (G.good b) _ _
        (λ z. told_shows c w b z here h (is_due c (w.log ++ Shown c b ∷ []) b) refl) (λ z. told_nothing c w h)
    told_hears c w welcomes here h = told_plain G w.log (Welcomed c) tt h
    told_hears c w (informs m) here h = told_plain G w.log (Informed c (G.flags m)) tt h
    told_hears c w says_nothing here h = told_nothing c w h

    -- a click adds its answer, and after a yes what is sent
    told_click : (t : Talk G) (d : G.Decision) → Told G t.log → Told G (step t (M.Click d)).talk.log
    told_click t d h = go (answer t.log d) refl
      where
        go : (a : Option Refusal) → answer t.log d ≡ a → Told G (clicks_by t d a).talk.log
        go (Some x) e = told_no G t.log d x e h
        go None e =
            let y = yes G t.log d e in
            subst (λ o. Told G (decides_on t d o).talk.log) (sym y.is_last)
            (told_yes G t.log d y.on e y.allowed y.is_last h)

    -- a line that the server takes adds a login, what was carried out, or nothing
    told_serve : (w : World G) (c d1 d2 : ℕ) (t rest : List ℕ) (w1 : World G) → Joint G [] w → Told G w.log
        → G.is_die d1 ≡ true
        → G.is_die d2 ≡ true
        → next_line (w.links c).asked ≡ Some (t, rest) → 0 < c → w1.log ≡ w.log → w1.board ≡ w.board
        → w1.logged_in ≡ w.logged_in
        → Told G (takes_line G c w1 (is_empty (w.links c).served) t d1 d2).log
    told_serve w c d1 d2 t rest w1 j h i1 i2 next some eg eb el = go (is_empty (w.links c).served)
      where
        h1 : Told G w1.log
        h1 = rw eg h

        line : c ≡ w.logged_in
            → (cur : Current G (nat_eq (open_now w.log) w.logged_in) (log_of G w w.logged_in) (w.links w.logged_in)
            w.board
            (waiting G [] (w.links w.logged_in)))
            → (IsQuiet G t × OnWay G (nat_eq (open_now w.log) w.logged_in) cur.p rest)
            ⊎ ((a : Ask G) × (cur.p ≡ Some a) × (t ≡ G.command a.0 a.1)
            × OnWay G (nat_eq (open_now w.log) w.logged_in) None rest)
            → Told G (obeys G c w1 d1 d2 (G.decision_in w1.board t)).log
        line e cur (inl q) =
            subst (λ m. Told G (obeys G c w1 d1 d2 m).log) (sym (q.0.quiet w1.board))
            (told_sends w1 (G.spelling w1.board) h1)
        line e cur (inr q) =
            let held = subst (Held G w.board) q.1 cur.held in
            let rd : G.decision_in w1.board t ≡ Some q.0.1 =
            ap (λ b. G.decision_in b t) eb ∙ ap (G.decision_in w.board) q.2
            ∙ ap (λ b. G.decision_in b (G.command q.0.0 q.0.1)) held.0
            ∙ law.reads_back q.0.0 q.0.1 (subst (λ x. G.good x ≡ true) held.0 j.good) held.1 in
            let al : G.allows w.board q.0.1 ≡ None = rw held.0 held.1 in
            let act = law.allowed_acts w.board q.0.1 d1 d2 j.good al i1 i2 in
            let ac : G.effect w1.board q.0.1 d1 d2 ≡ Some act.0 = ap (λ b. G.effect b q.0.1 d1 d2) eb ∙ act.1 in
            let o : sent w.logged_in w.log ≡ took w.logged_in w.log ++ q.0 ∷ [] =
            cur.owed ∙ ap (λ p. took w.logged_in w.log ++ to_list p) q.1 in
            let n : length (sent w.logged_in w.log) ≡ length (took w.logged_in w.log) + 1 =
            ap length o ∙ length-append (took w.logged_in w.log) (q.0 ∷ []) in
            let lt : length (took w.logged_in w.log) < length (sent w.logged_in w.log) = omega arith in
            let lt1 : length (took c w1.log) < length (sent c w1.log) = rw (e, eg) lt in
            subst (λ m. Told G (obeys G c w1 d1 d2 m).log) (sym rd)
            (subst (λ m. Told G (carries_out G c w1 q.0.1 m).log) (sym ac)
            (told_sends (noted (record w1 { board = act.0 }) (Took c w1.board q.0.1 ∷ [])) (G.spelling act.0)
            (told_took G w1.log c w1.board q.0.1 lt1 h1)))

        go : (z : Bool) → Told G (takes_line G c w1 z t d1 d2).log
        go true =
            if_fact G (λ s. Tells (does_served c w1 s)) (nat_lt c w1.logged_in) _ _ (λ z. h1)
            (λ z. told_plain G w1.log (LoggedIn c) tt h1)
        go false = if_fact G (λ s. Tells (does_served c w1 s)) (nat_eq c w1.logged_in) _ _
            (λ z. let e : c ≡ w.logged_in = same z ∙ el in
            let have : 0 < w.logged_in = omega arith in
            let cur = current G [] w j have in
            line e cur
            (way_serve G law _ cur.p (w.links w.logged_in).asked t rest cur.way
            (subst (λ d. next_line (w.links d).asked ≡ Some (t, rest)) e next)))
            (λ z. h1)
          where
            same : nat_eq c w1.logged_in ≡ true → c ≡ w1.logged_in
            same z = elim (eqb_tells c w1.logged_in) [ inl q ↦ q.1 | inr q ↦ absurd (true≢false (sym z ∙ q.0)) ]

    -- a plain command adds nothing
    told_said : (t : Talk G) (p : G.Plain) (o : Option G.Fault) → Told G t.log → Told G (sends_plain t p o).talk.log
    told_said t p None h = subst (Told G) (sym (append-nil t.log)) h
    told_said t p (Some why) h = h

    -- an order adds its entry, or nothing
    told_if : (t : Talk G) (e : Entry G) (o : Option Refusal) → IsPlain G e → Told G t.log
        → Told G (notes_if t e o).talk.log
    told_if t e (Some why) p h = h
    told_if t e None p h = told_plain G t.log e p h

    -- each event keeps what holds of the log
    told_after : (login : List ℕ) (w : World G) (e : Event G) → IsWorld w → Joint G [] w → refusal w e ≡ None
        → Told G w.log → Told G (after login w e).log
    told_after login w Open i j k h =
        subst Tells (opens_is G login w i (is_closed G w k)) (told_plain G w.log (Opened (w.count + 1)) tt h)
    told_after login w (Click d) i j k h = told_click (talk_of login w) d h
    told_after login w (Plain p) i j k h = told_said (talk_of login w) p (plain_refusal (talk_of login w) p) h
    told_after login w (Deliver n) i j k h =
        over_delivery G (λ ls v. Told G v.log) (λ l ls v h. told_hears (open_now v.log) v (line_says G l) refl h) login
        w n
        i (is_open G NotOpen _ k) h
    told_after login w (Lose n) i j k h =
        subst Tells (loses_is G login w n i (is_open G NotOpen _ k))
        (told_plain G w.log (Lost (open_now w.log) (unconfirmed (open_now w.log) w.log)) tt h)
    told_after login w (Serve c d1 d2) i j k h =
        let s = served G w c d1 d2 k in
        subst (λ o. Told G (serves c w d1 d2 o).log) (sym s.next)
        (told_serve w c d1 d2 s.line.0 s.line.1
        (linked w c (taken (w.links c) (on_wire s.line.0) s.line.1)) j h s.die1 s.die2 s.next s.some refl refl refl)
    told_after login w (Own b) i j k h = told_sends (record w { board = b }) (G.spelling b) h
    told_after login w Repeat i j k h = told_sends w (G.spelling w.board) h
    told_after login w (Text t) i j k h = told_sends w t h
    told_after login w Order i j k h =
        told_if (talk_of login w) (Ordered (open_now w.log)) (order_refusal w.log) tt h
    told_after login w Withdraw i j k h =
        told_if (talk_of login w) (Withdrawn (open_now w.log)) (withdraw_refusal w.log) tt h

    -- it holds of the empty log
    pub told_start : (b : G.Board) → Told G (start b).log
    told_start b =
        record {
          seen = λ c. tt;
          legal = λ c. tt;
          called = refl;
          undone = tt;
          fit = tt;
          order = λ c i h. absurd (omega arith);
        }

    -- both, after every list of events
    pub kept : (login : List ℕ) → IsQuiet G login → (es : List (Event G)) (w : World G) → AllAccepted login w es
        → IsWorld w
        → Joint G [] w → Told G w.log → Joint G [] (after_all login w es) × Told G (after_all login w es).log
    kept login quiet [] w a i j t = (j, t)
    kept login quiet (e ∷ es) w a i j t =
        kept login quiet es (after login w e) a.1 (sound_after G login w e i a.0)
        (joint_after G law login quiet w e i j a.0)
        (told_after login w e i j a.0 t)

    -- at rest nothing waits: nothing is on its way in either direction, so no decision is asked or shown
    rests : (w : World G) → Joint G [] w → IsAtRest w → unconfirmed w.logged_in w.log ≡ None
    rests w j a =
        (let way = subst (λ o. OnWay G o cur.p (w.links w.logged_in).asked) t cur.way in
        go cur.p (subst (OnWay G true cur.p) (way_served G law cur.p (w.links w.logged_in).asked way a.all_served) way)
        (cur.live t))
      where
        t : nat_eq (open_now w.log) w.logged_in ≡ true
        t = same_test G _ _ a.is_open

        cur : Current G (nat_eq (open_now w.log) w.logged_in) (log_of G w w.logged_in) (w.links w.logged_in) w.board
            (waiting G [] (w.links w.logged_in))
        cur = current G [] w j a.some

        none : waiting G [] (w.links w.logged_in) ≡ []
        none =
            let g : gained G (w.links w.logged_in).heard (w.links w.logged_in).coming ≡ [] =
            rw a.all_delivered (gained_none G law (w.links w.logged_in).heard) in ap (boards G) g

        not_none : (before : List G.Board) (b : G.Board) (later : List G.Board) → [] ≡ before ++ b ∷ later → ⊥
        not_none [] b later h = cc
        not_none (x ∷ before) b later h = cc

        go : (p : Option (Ask G)) → OnWay G true p [] → Live G (log_of G w w.logged_in) w.board
            (waiting G [] (w.links w.logged_in)) p
            → unconfirmed w.logged_in w.log ≡ None
        go None o y = elim y [
          | inl f ↦ (rw f.fresh refl)
          | inr d ↦ absurd (not_none d.before d.next d.later (sym none ∙ d.all))
        ]
        go (Some x) o y = absurd (way_some G law x o)

    -- what the tests allow is allowed by the rules
    all_legal : (asks : List (Ask G)) → AllAllowed G asks → AllLegal G asks
    all_legal [] h = tt
    all_legal (a ∷ rest) h = let m = law.allowed_means a.0 a.1 h.0 h.1 in (m.0, m.1, all_legal rest h.2)

    -- what passes the test of boards is good
    all_good : (boards : List G.Board) → AllPass G boards → AllGood G boards
    all_good [] h = tt
    all_good (b ∷ rest) h = (law.good_means b h.0, all_good rest h.1)

    -- the headline, after a list of events that were all accepted
    pub headline_holds : (login : List ℕ) → IsQuiet G login → (b : G.Board) (es : List (Event G)) → G.good b ≡ true
        → AllAccepted login (start b) es → Headline (after_all login (start b) es)
    headline_holds login quiet b es g a =
        of (after_all login (start b) es)
        (kept login quiet es (start b) a (sound_start G b) (joint_start G law b g) (told_start b))
        (all_numbers G login (start b) es (sound_start G b) a tt)
      where
        few : (p : Option (Ask G)) (s t : List (Ask G)) → s ≡ t ++ to_list p → length s ≤ length t + 1
        few None s t h = let k : length s ≡ length t + 0 = ap length h ∙ length-append t [] in omega arith
        few (Some a) s t h = let k : length s ≡ length t + 1 = ap length h ∙ length-append t (a ∷ []) in omega arith

        of : (w : World G) → Joint G [] w × Told G w.log → AllAtMost (length w.log) w.log → Headline w
        of w h n =
            let j = h.0 in
            let t = h.1 in
            record {
              prefix = λ c. (to_list (j.each c).settled.p, sym (j.each c).settled.owed);
              order = t.order;
              legal = λ c. all_legal (sent c w.log) (t.legal c);
              own = own_of G w.log t.called (shown_here G w.log t.fit) (on_shown G w.log t.fit);
              clicks_sent = clicks_sent_of G w.log t.called;
              orders_sent = orders_sent_of G w.log t.called;
              on_shown = on_shown G w.log t.fit;
              at_most_one = λ c. few (j.each c).settled.p _ _ (j.each c).settled.owed;
              moved_on = all_moved_on G law w.log (λ c. ((j.each c).settled.p, (j.each c).settled.owed))
                  (λ c. (j.each c).moved);
              none_undone = t.undone;
              shown_good = λ c. all_good (shown c w.log) (t.seen c);
              numbers = n;
              answered = answered G w.log t.fit;
              at_rest = rests w j;
            }

    -- no accepted line is stale
    stale_carried : (d : G.Decision) (o : Option G.Board) → carried {G = G} d o ≡ Stale → ⊥
    stale_carried d None h = cc
    stale_carried d (Some b) h = cc

    -- what is obeyed {G = G} is not stale
    stale_obeyed : (now : G.Board) (d1 d2 : ℕ) (o : Option G.Decision) → obeyed {G = G} now d1 d2 o ≡ Stale → ⊥
    stale_obeyed now d1 d2 None h = cc
    stale_obeyed now d1 d2 (Some d) h = stale_carried d (G.effect now d d1 d2) h

    -- of a connection newer than the one logged in no line was served, so its next one is a login
    none_stale : (w : World G) → Joint G [] w → NoneStale w
    none_stale w j c d1 d2 line k next = go (is_empty (w.links c).served) refl
      where
        s : Served G w c d1 d2
        s = served G w c d1 d2 k

        go : (z : Bool) → is_empty (w.links c).served ≡ z → answered_now G w.board w.logged_in c z line.0 d1 d2 ≡ Stale
            → ⊥
        go true e =
            if_fact G (λ x. x ≡ Stale → ⊥) (nat_lt c w.logged_in) _ _ (λ z. absurd (true≢false (sym z ∙ below)))
            (λ z h. logged h)
          where
            below : nat_lt c w.logged_in ≡ false
            below = let r = s.recent in grind (arith, nat_tests)

            logged : ◌≡◌ {A = Rattle.fibs_game.specs.Server.Served G} LoggedInNow Stale → ⊥
            logged h = cc
        go false e =
            if_fact G (λ x. x ≡ Stale → ⊥) (nat_eq c w.logged_in) _ _
            (λ z h. stale_obeyed w.board d1 d2 (G.decision_in w.board line.0) h)
            (λ z. let r = s.recent in elim (eqb_tells c w.logged_in) [
              | inl q ↦ absurd (true≢false (sym q.0 ∙ z))
              | inr q ↦ let q1 =
                  q.1 in let lt : w.logged_in < c = omega arith in
                  absurd (true≢false (sym (ap is_empty ((j.each c).ahead lt).served) ∙ e))
            ])

    -- no accepted line is stale, after a list of events that were all accepted
    pub never_stale : (login : List ℕ) → IsQuiet G login → (b : G.Board) (es : List (Event G)) → G.good b ≡ true
        → AllAccepted login (start b) es → NoneStale (after_all login (start b) es)
    never_stale login quiet b es g a =
        none_stale (after_all login (start b) es)
        (kept login quiet es (start b) a (sound_start G b) (joint_start G law b g) (told_start b)).0
