-- The boards shown on a connection are the first of those sent there; at rest the last of them is the server's board.
use Rattle.std.proofs.Common.{◌≡◌, ◌⊎◌, ℕ, ◌+◌, ◌<◌, ◌≤◌, true, false, not, List, [], ◌∷◌, ◌++◌, Option, Some, None, nat_eq, take, refl, sym, ◌∙◌, ap, subst, inl, inr, append-nil, true≢false, arith, if◌then◌else◌}
use Rattle.std.proofs.lemmas.Bool.Decides.{eqb_tells}
use Rattle.std.proofs.lemmas.List.Concat.{flat_map-append}
use Rattle.std.proofs.lemmas.Option.{same_Some}
use Rattle.fibs_game.specs.declared.world_refusal.WorldRefusal.TheVariants.{NotOpen}
use Rattle.fibs_game.specs.Log.{Entry, Opened, Took, Undone, Lost}
use Rattle.fibs_game.specs.Machine.{gained, on_wire, wire_of}
use Rattle.fibs_game.specs.Words.{is_empty, last, open_now, shown, shown_by, unconfirmed}
use Rattle.fibs_game.specs.Acts.{Act, Shows, Says, Serves, put_by, sending, acts_of, acts_at_line, acts_at, acts_on, acts_from}
use Rattle.fibs_game.specs.Agrees.{BoardsAgree, board_sent, boards_sent}
use Rattle.fibs_game.specs.Events.{Event, Open, Deliver, Lose, Serve, Own, Repeat, Text}
use Rattle.fibs_game.specs.Headline.{IsAtRest}
use Rattle.fibs_game.specs.Joint as S
use Rattle.fibs_game.specs.Refusals.{refusal, is_board_text}
use Rattle.fibs_game.specs.Runs.{AllAccepted, after_all}
use Rattle.fibs_game.specs.Server.{Served}
use Rattle.fibs_game.specs.Server as V
use Rattle.fibs_game.specs.Wires.{Link, delivered, taken, cut_off, more_asked, next_line}
use Rattle.fibs_game.specs.World.{World, after, start, noted, linked, is_talking, does_served, serves}
use Rattle.fibs_game.specs.Game.{Game}
use Rattle.fibs_game.specs.Hearing.{line_says}
use Rattle.fibs_game.specs.Lawful.{IsQuiet, Lawful}
use Rattle.fibs_game.specs.Talks.{IsWorld}
use Rattle.fibs_game.proofs.Answering.{answered_at as answered}
use Rattle.fibs_game.proofs.acts.Client.{Does, does, given, there_none}
use Rattle.fibs_game.proofs.acts.Server.{Answers, answers_keep, answers_line, answers_served, servers_aside, sends_board}
use Rattle.fibs_game.proofs.Steps.{adds}
use Rattle.fibs_game.proofs.past.Lists.{same_number, other_number, and_both, last_snoc, map_more, map_no_more}
use Rattle.fibs_game.proofs.past.Past.{open_append}
use Rattle.fibs_game.proofs.joint.Acting.{only_here, only_other}
use Rattle.fibs_game.proofs.joint.EachEvent.{over_events, joint_after, joint_start}
use Rattle.fibs_game.proofs.Refusing.{served, not_refused, is_open, is_closed}
use Rattle.fibs_game.proofs.Sound.{sound_start}
use Rattle.fibs_game.proofs.Stepping.{asks, loses_is, opens_is}
use Rattle.fibs_game.proofs.joint.Joint.{Joint, linked_same, linked_other, linked_keeps}
use Rattle.fibs_game.proofs.joint.Sending.{if_fact, same_test}
use Rattle.fibs_game.proofs.joint.Stated.{joint_holds}
use Rattle.fibs_game.proofs.wires.Boards.{board_of, boards, lines_gained, printed, text_boards}

module _ (G : Game) where
  -- ---- what acts send

  -- boards among the acts are good, and other lines say none
  abbrev Readable : List (Act G) → Type 0
  Readable [] = Unit {0}
  Readable (Shows b ∷ later) = (G.good b ≡ true) × Readable later
  Readable (Says t ∷ later) = (boards G (G.lines (on_wire t)) ≡ []) × Readable later
  Readable (Serves d ∷ later) = Readable later

  -- so are those of two lists of acts
  readable_append : (xs ys : List (Act G)) → Readable xs → Readable ys → Readable (xs ++ ys)
  readable_append [] ys h k = k
  readable_append (Shows b ∷ xs) ys h k = (h.0, readable_append xs ys h.1 k)
  readable_append (Says t ∷ xs) ys h k = (h.0, readable_append xs ys h.1 k)
  readable_append (Serves d ∷ xs) ys h k = readable_append xs ys h k

  -- a good board that goes out, or does not, can be read
  readable_shows : (w : World G) (b : G.Board) → G.good b ≡ true → Readable (sending w (Shows b))
  readable_shows w b h = if_fact G Readable (is_talking w) _ _ (λ z. (h, tt)) (λ z. tt)

  -- At most one board goes out: the server's after it. If none does, the server's board stays as it is while the
  -- connection is open.
  abbrev OneBoard : World G → World G → List (Act G) → Type 0
  OneBoard w w' acts =
      ((boards_sent acts ≡ []) × (is_talking w ≡ true → w'.board ≡ w.board)) ⊎ (boards_sent acts ≡ w'.board ∷ [])

  -- the server's board goes out, or nothing does
  one_shows : (w w' : World G) (b : G.Board) → w'.board ≡ b → OneBoard w w' (sending w (Shows b))
  one_shows w w' b e =
      if_fact G (OneBoard w w') (is_talking w) _ _ (λ z. inr (ap (λ x. x ∷ []) (sym e)))
      (λ z. inl (refl, λ t. absurd (true≢false (sym t ∙ z))))

  -- at the server's answer to a line at most one board goes out, the one after it
  one_served : (c : ℕ) (w : World G) (l : Link) (s : Served G) → OneBoard w (does_served c (linked w c l) s)
      (acts_of w s)
  one_served c w l V.Stale = inl (refl, λ z. refl)
  one_served c w l V.LoggedIn = inl (refl, λ z. refl)
  one_served c w l (V.Took d b) =
      one_shows w (does_served c (linked w c l) (V.Took d b)) b
      (sends_board G (noted (record (linked w c l) { board = b }) (Took c w.board d ∷ [])) (G.spelling b))
  one_served c w l (V.Undone d) =
      one_shows w (does_served c (linked w c l) (V.Undone d)) w.board
      (sends_board G (noted (linked w c l) (Undone c w.board d ∷ [])) (G.spelling w.board))
  one_served c w l V.Answered =
      one_shows w (does_served c (linked w c l) V.Answered) w.board (sends_board G (linked w c l) (G.spelling w.board))

  -- at the next line of a connection at most one board goes out, the one after it
  one_line : (c d1 d2 : ℕ) (w : World G) (o : Option (List ℕ × List ℕ))
      → OneBoard w (serves c w d1 d2 o) (acts_at_line w c d1 d2 o)
  one_line c d1 d2 w None = inl (refl, λ z. refl)
  one_line c d1 d2 w (Some p) =
      one_served c w (taken (w.links c) (on_wire p.0) p.1)
      (answered G w.board w.logged_in c (is_empty (w.links c).served) p.0 d1 d2)

  -- so at each event at most one board goes out, the one after it
  one_at : (login : List ℕ) (w : World G) (e : Event G) → OneBoard w (after login w e) (acts_at w e)
  one_at login w (Serve c d1 d2) = one_line c d1 d2 w (next_line (w.links c).asked)
  one_at login w (Own b) = one_shows w (after login w (Own b)) b (sends_board G (record w { board = b }) (G.spelling b))
  one_at login w Repeat = one_shows w (after login w Repeat) w.board (sends_board G w (G.spelling w.board))
  one_at login w (Text t) =
      inl (if_fact G (λ a. boards_sent a ≡ []) (is_talking w) _ _ (λ z. refl) (λ z. refl), λ z. sends_board G w t)
  one_at login w e = inl (refl, λ z. (adds G login w e tt).board)

  -- ---- what is shown beside what was delivered

  -- the boards shown on each connection are those of the lines that were delivered there
  abbrev Hears : World G → Type 0
  Hears w = (c : ℕ) → shown c w.log ≡ boards G (G.lines (w.links c).heard)

  -- this stays so if no board is shown and nothing delivered
  hears_mute : (w w' : World G) (more : List (Entry G)) → w'.log ≡ w.log ++ more → ((c : ℕ) → shown c more ≡ [])
      → ((c : ℕ) → (w'.links c).heard ≡ (w.links c).heard) → Hears w → Hears w'
  hears_mute w w' more log none heard h c =
      ap (shown c) log ∙ map_no_more (shown_by c) w.log more (none c) ∙ h c
      ∙ ap (λ bytes. boards G (G.lines bytes)) (sym (heard c))

  -- so if the client hears nothing
  hears_does : (w w' : World G) → Does G [] w w' → Hears w → Hears w'
  hears_does w w' a h =
      hears_mute w w' a.more a.log
      (λ c. a.clients.shows c ∙ there_none G {A = G.Board} (nat_eq (open_now w.log) c))
      (λ c. ap (λ (x : Link). x.heard) (a.link c)) h

  -- and whatever the server answers
  hears_answers : (c : ℕ) (t : List ℕ) (w w' : World G) → Answers G c t w w' → Hears w → Hears w'
  hears_answers c t w w' a h =
      hears_mute w w' a.more a.log (servers_aside G a.more a.servers).shows
      (answers_keep G (λ (x : Link). x.heard) (λ l bytes. refl) c t w w' a) h

  -- the server takes the next line of a connection, if there is one
  hears_serves : (c d1 d2 : ℕ) (w : World G) (o : Option (List ℕ × List ℕ)) → Hears w → Hears (serves c w d1 d2 o)
  hears_serves c d1 d2 w None h = h
  hears_serves c d1 d2 w (Some p) h =
      let l : Link = taken (w.links c) (on_wire p.0) p.1 in
      let s : Served G = answered G w.board w.logged_in c (is_empty (w.links c).served) p.0 d1 d2 in
      hears_answers c (G.spelling (does_served c (linked w c l) s).board) (linked w c l)
      (does_served c (linked w c l) s)
      (answers_served G c (linked w c l) s)
      (λ d. h d ∙ ap (λ bytes. boards G (G.lines bytes)) (sym (linked_keeps G (λ (x : Link). x.heard) w c l refl d)))

  -- ---- who is logged in

  -- a newer connection logs in; or the same one is logged in, and if it is open it was open before
  abbrev Stands : World G → World G → Type 0
  Stands w w' =
      (w.logged_in < w'.logged_in)
      ⊎ ((w'.logged_in ≡ w.logged_in)
      × (0 < w.logged_in → open_now w'.log ≡ w.logged_in → open_now w.log ≡ w.logged_in))

  -- an event that changes neither
  stands_alike : (w w' : World G) → w'.logged_in ≡ w.logged_in → open_now w'.log ≡ open_now w.log → Stands w w'
  stands_alike w w' e o = inr (e, λ some h. sym o ∙ h)

  -- the server answers a line of c, or sends one by itself
  stands_answers : (c : ℕ) (t : List ℕ) (w w' : World G) → w.logged_in ≤ c → Answers G c t w w' → Stands w w'
  stands_answers c t w w' low a = elim a.who [
    | inl e ↦ stands_alike w w' e a.here
    | inr e ↦ elim (eqb_tells c w.logged_in) [
      | inl s ↦ stands_alike w w' (e ∙ s.1) a.here
      | inr n ↦ let m = n.1 in inl (omega arith)
    ]
  ]

  -- at each event
  stands_after : (login : List ℕ) (w : World G) (e : Event G) → IsWorld w → Joint G [] w → refusal w e ≡ None
      → Stands w (after login w e)
  stands_after login w Open i j h =
      subst (Stands w) (opens_is G login w i (is_closed G w h))
      (inr (
        refl,
        λ some e.
            let o : open_now (w.log ++ Opened (w.count + 1) ∷ []) ≡ w.count + 1 =
            open_append G 0 w.log (Opened (w.count + 1) ∷ []) in
            let low = j.low in
            absurd (omega arith),
      ))
  stands_after login w (Lose k) i j h =
      subst (Stands w) (loses_is G login w k i (is_open G NotOpen _ h))
      (inr (
        refl,
        λ some e.
            let o = open_append G 0 w.log (Lost (open_now w.log) (unconfirmed (open_now w.log) w.log) ∷ []) in
            absurd (omega arith),
      ))
  stands_after login w (Serve c d1 d2) i j h =
      let s = served G w c d1 d2 h in
      let l : Link = taken (w.links c) (on_wire s.line.0) s.line.1 in
      let a = answers_served G c (linked w c l)
      (answered G w.board w.logged_in c (is_empty (w.links c).served) s.line.0 d1 d2) in
      let stands = stands_answers c _ (linked w c l) (serves c w d1 d2 (Some s.line)) s.recent a in
      subst (λ o. Stands w (serves c w d1 d2 o)) (sym s.next) stands
  stands_after login w (Own b) i j h =
      stands_answers w.logged_in (G.spelling b) w (after login w (Own b)) (omega arith)
      (answers_line G w.logged_in w b (G.spelling b))
  stands_after login w Repeat i j h =
      stands_answers w.logged_in (G.spelling w.board) w (after login w Repeat) (omega arith)
      (answers_line G w.logged_in w w.board (G.spelling w.board))
  stands_after login w (Text t) i j h =
      stands_answers w.logged_in t w (after login w (Text t)) (omega arith) (answers_line G w.logged_in w w.board t)
  stands_after login w e i j h =
      let a = does G login w e i h tt in stands_alike w (after login w e) a.logged_in a.here

  -- ---- the invariant

  -- if there are boards, the last is this one
  abbrev Ends : G.Board → List G.Board → Type 0
  Ends now bs = (b : G.Board) → last bs ≡ Some b → b ≡ now

  -- the server's acts on each connection, and the world after them
  record Agreed (acts : ℕ → List (Act G)) (w : World G) : Type 0 where
    readable : (c : ℕ) → Readable (acts c)
    hears : Hears w
    newest : 0 < w.logged_in → open_now w.log ≡ w.logged_in → Ends w.board (boards_sent (acts w.logged_in))
    newer : (c : ℕ) → w.logged_in < c → acts c ≡ []

  -- a number above 0 is not 0
  pub is_some_number : (n : ℕ) → 0 < n → not (nat_eq n 0) ≡ true
  is_some_number n h = ap not (other_number n 0 (λ e. absurd (omega arith)))

  -- the last board sent on the connection logged in
  newest_after : (login : List ℕ) (acts : ℕ → List (Act G)) (w : World G) (e : Event G) → Agreed acts w
      → Stands w (after login w e)
      → 0 < (after login w e).logged_in → open_now (after login w e).log ≡ (after login w e).logged_in
      → Ends (after login w e).board
      (boards_sent (acts (after login w e).logged_in ++ acts_on w e (after login w e).logged_in))
  newest_after login acts w e a stands some here = go stands
    where
      w' : World G
      w' = after login w e

      now : ℕ
      now = w.logged_in

      at : OneBoard w w' (acts_at w e) → open_now w.log ≡ w.logged_in → 0 < w.logged_in
          → Ends w'.board (boards_sent (acts w.logged_in ++ acts_at w e))
      at (inl q) o some b h =
          let none : boards_sent (acts w.logged_in ++ acts_at w e) ≡ boards_sent (acts w.logged_in) =
          flat_map-append board_sent (acts w.logged_in) (acts_at w e)
          ∙ ap (λ bs. boards_sent (acts w.logged_in) ++ bs) q.0 ∙ append-nil (boards_sent (acts w.logged_in)) in
          a.newest some o b (sym (ap last none) ∙ h)
          ∙ sym (q.1 (and_both _ _ (same_test G _ _ o) (is_some_number w.logged_in some)))
      at (inr q) o some b h =
          let one : boards_sent (acts w.logged_in ++ acts_at w e) ≡ boards_sent (acts w.logged_in) ++ w'.board ∷ [] =
          flat_map-append board_sent (acts w.logged_in) (acts_at w e)
          ∙ ap (λ bs. boards_sent (acts w.logged_in) ++ bs) q in
          same_Some b w'.board (sym h ∙ ap last one ∙ last_snoc (boards_sent (acts w.logged_in)) w'.board)

      go : Stands w (after login w e)
          → Ends w'.board (boards_sent (acts w'.logged_in ++ acts_on w e w'.logged_in))
      go (inl lt) b h =
          let n : w'.logged_in ≡ w.logged_in → ⊥ = λ z. absurd (omega arith) in
          let none : acts w'.logged_in ++ acts_on w e w'.logged_in ≡ [] =
          ap (λ l. l ++ acts_on w e w'.logged_in) (a.newer w'.logged_in lt)
          ∙ only_other G w'.logged_in w.logged_in (acts_at w e) n in
          let bad : last {A = G.Board} [] ≡ Some b = sym (ap (λ l. last (boards_sent l)) none) ∙ h in
          absurd cc
      go (inr q) b h =
          let some' : 0 < w.logged_in = subst (λ n. 0 < n) q.0 some in
          subst (λ n. Ends w'.board (boards_sent (acts n ++ acts_on w e n))) (sym q.0)
          (subst (λ l. Ends w'.board (boards_sent (acts w.logged_in ++ l)))
          (sym (only_here G w.logged_in (acts_at w e)))
          (at (one_at login w e) (q.1 some' (here ∙ q.0)) some')) b h

  -- other words for the same acts
  agreed_is : (acts acts' : ℕ → List (Act G)) (w : World G) → ((c : ℕ) → acts' c ≡ acts c) → Agreed acts w
      → Agreed acts' w
  agreed_is acts acts' w h a = record {
    readable = λ c. subst Readable (sym (h c)) (a.readable c);
    hears = a.hears;
    newest = λ some o. subst (λ l. Ends w.board (boards_sent l)) (sym (h w.logged_in)) (a.newest some o);
    newer = λ c high. h c ∙ a.newer c high;
  }

  module _ (law : Lawful G) where
    -- what acts put on the wire says just the boards that they send
    boards_put : (acts : List (Act G)) → Readable acts → boards G (G.lines (put_by acts)) ≡ boards_sent acts
    boards_put [] h = ap (boards G) law.empty
    boards_put (Shows b ∷ later) h =
        ap (boards G) (law.alone (G.spelling b) (put_by later))
        ∙ flat_map-append (λ l. board_of G (line_says G l)) (G.lines (on_wire (G.spelling b))) (G.lines (put_by later))
        ∙ ap (λ bs. bs ++ boards G (G.lines (put_by later))) (printed G law b h.0)
        ∙ ap (λ bs. b ∷ bs) (boards_put later h.1)
    boards_put (Says t ∷ later) h =
        ap (boards G) (law.alone t (put_by later))
        ∙ flat_map-append (λ l. board_of G (line_says G l)) (G.lines (on_wire t)) (G.lines (put_by later))
        ∙ ap (λ bs. bs ++ boards G (G.lines (put_by later))) h.0
        ∙ boards_put later h.1
    boards_put (Serves d ∷ later) h = boards_put later h

    -- what the server does at an event can be read
    readable_served : (c : ℕ) (w : World G) (l : Link) (s : Served G) → G.good w.board ≡ true
        → G.good (does_served c (linked w c l) s).board ≡ true → Readable (acts_of w s)
    readable_served c w l V.Stale g g' = tt
    readable_served c w l V.LoggedIn g g' = tt
    readable_served c w l (V.Took d b) g g' =
        readable_shows w b
        (subst (λ x. G.good x ≡ true)
        (sends_board G (noted (record (linked w c l) { board = b }) (Took c w.board d ∷ [])) (G.spelling b)) g')
    readable_served c w l (V.Undone d) g g' = readable_shows w w.board g
    readable_served c w l V.Answered g g' = readable_shows w w.board g

    -- what the server does at the next line of a connection can be read
    readable_line : (c d1 d2 : ℕ) (w : World G) (o : Option (List ℕ × List ℕ)) → G.good w.board ≡ true
        → G.good (serves c w d1 d2 o).board ≡ true → Readable (acts_at_line w c d1 d2 o)
    readable_line c d1 d2 w None g g' = tt
    readable_line c d1 d2 w (Some p) g g' =
        readable_served c w (taken (w.links c) (on_wire p.0) p.1)
        (answered G w.board w.logged_in c (is_empty (w.links c).served) p.0 d1 d2) g g'

    -- what it does at each event can be read
    readable_at : (login : List ℕ) (w : World G) (e : Event G) → refusal w e ≡ None → G.good w.board ≡ true
        → G.good (after login w e).board ≡ true → Readable (acts_at w e)
    readable_at login w (Serve c d1 d2) h g g' = readable_line c d1 d2 w (next_line (w.links c).asked) g g'
    readable_at login w (Own b) h g g' =
        readable_shows w b (subst (λ x. G.good x ≡ true) (sends_board G (record w { board = b }) (G.spelling b)) g')
    readable_at login w Repeat h g g' = readable_shows w w.board g
    readable_at login w (Text t) h g g' =
        if_fact G Readable (is_talking w) _ _
        (λ z. (
          text_boards G law (G.lines (on_wire t)) (not_refused G (is_board_text G (G.lines (on_wire t))) _ _ h).0,
          tt,
        ))
        (λ z. tt)
    readable_at login w e h g g' = tt

    -- bytes are delivered: their boards are shown
    hears_delivered : (login : List ℕ) (w : World G) (n : ℕ) → IsWorld w → refusal w (Deliver n) ≡ None → Hears w
        → Hears (after login w (Deliver n))
    hears_delivered login w n i may h d = elim (eqb_tells d o) [
      | inl e ↦ subst (λ d. shown d w'.log ≡ boards G (G.lines (w'.links d).heard)) (sym e.1) here
      | inr m ↦
          shows d ∙ rw (other_number o d (λ e. m.1 (sym e))) (append-nil (shown d w.log)) ∙ h d
          ∙ ap (λ bytes. boards G (G.lines bytes))
          (sym (heard d ∙ ap (λ (x : Link). x.heard) (linked_other G w o d (delivered l n) m.1)))
    ]
      where
        o : ℕ
        o = open_now w.log

        l : Link
        l = w.links o

        ls : List G.Line
        ls = gained G l.heard (take n l.coming)

        w' : World G
        w' = after login w (Deliver n)

        a : Does G (boards G ls) (given G w (Deliver n)) w'
        a = does G login w (Deliver n) i may tt

        heard : (d : ℕ) → (w'.links d).heard ≡ ((given G w (Deliver n)).links d).heard
        heard d = ap (λ (x : Link). x.heard) (a.link d)

        shows : (d : ℕ) → shown d w'.log ≡ shown d w.log ++ (if nat_eq o d then boards G ls else [])
        shows d = ap (shown d) a.log ∙ map_more (shown_by d) w.log a.more _ (a.clients.shows d)

        here : shown o w'.log ≡ boards G (G.lines (w'.links o).heard)
        here =
            shows o ∙ rw (same_number o) (ap (λ bs. bs ++ boards G ls) (h o))
            ∙ sym (flat_map-append (λ l. board_of G (line_says G l)) (G.lines l.heard) ls)
            ∙ ap (boards G) (sym (lines_gained G law l.heard (take n l.coming)))
            ∙ ap (λ bytes. boards G (G.lines bytes))
            (sym (heard o ∙ ap (λ (x : Link). x.heard) (linked_same G w o (delivered l n))))

    -- each event keeps that the boards shown are those delivered
    hears_after : (login : List ℕ) (w : World G) (e : Event G) → IsWorld w → refusal w e ≡ None → Hears w
        → Hears (after login w e)
    hears_after login w Open i may h =
        subst Hears (opens_is G login w i (is_closed G w may))
        (hears_mute w (asks (noted (record w { count = w.count + 1 }) (Opened (w.count + 1) ∷ [])) (w.count + 1)
        (login ∷ []))
        (Opened (w.count + 1) ∷ []) refl (λ c. refl)
        (linked_keeps G (λ (x : Link). x.heard) w (w.count + 1)
        (more_asked (w.links (w.count + 1)) (wire_of (login ∷ []))) refl) h)
    hears_after login w (Deliver n) i may h = hears_delivered login w n i may h
    hears_after login w (Lose k) i may h =
        subst Hears (loses_is G login w k i (is_open G NotOpen _ may))
        (hears_mute w (noted (linked w (open_now w.log) (cut_off (w.links (open_now w.log)) k))
        (Lost (open_now w.log) (unconfirmed (open_now w.log) w.log) ∷ []))
        (Lost (open_now w.log) (unconfirmed (open_now w.log) w.log) ∷ []) refl (λ c. refl)
        (linked_keeps G (λ (x : Link). x.heard) w (open_now w.log) (cut_off (w.links (open_now w.log)) k) refl) h)
    hears_after login w (Serve c d1 d2) i may h = hears_serves c d1 d2 w (next_line (w.links c).asked) h
    hears_after login w (Own b) i may h =
        hears_answers 0 (G.spelling b) w (after login w (Own b)) (answers_line G 0 w b (G.spelling b)) h
    hears_after login w Repeat i may h =
        hears_answers 0 (G.spelling w.board) w (after login w Repeat) (answers_line G 0 w w.board (G.spelling w.board))
        h
    hears_after login w (Text t) i may h =
        hears_answers 0 t w (after login w (Text t)) (answers_line G 0 w w.board t) h
    hears_after login w e i may h = hears_does w (after login w e) (does G login w e i may tt) h

    -- each event keeps the invariant
    agreed_after : (acts : ℕ → List (Act G)) (login : List ℕ) (w : World G) (e : Event G) → IsWorld w → Joint G [] w
        → refusal w e ≡ None
        → G.good (after login w e).board ≡ true → Agreed acts w
        → Agreed (λ c. acts c ++ acts_on w e c) (after login w e)
    agreed_after acts login w e i j h g a =
        let stands = stands_after login w e i j h in
        record {
          readable = λ c. readable_append (acts c) (acts_on w e c) (a.readable c)
              (if_fact G Readable (nat_eq c w.logged_in) _ _ (λ z. readable_at login w e h j.good g) (λ z. tt));
          hears = hears_after login w e i h a.hears;
          newest = newest_after login acts w e a stands;
          newer = λ c high.
              let low : w.logged_in < c = below stands c high in
              let n : c ≡ w.logged_in → ⊥ = λ z. absurd (omega arith) in
              ap (λ l. l ++ acts_on w e c) (a.newer c low) ∙ only_other G c w.logged_in (acts_at w e) n;
        }
      where
        below : Stands w (after login w e) → (c : ℕ) → (after login w e).logged_in < c → w.logged_in < c
        below (inl lt) c high = omega arith
        below (inr q) c high = let e = q.0 in omega arith

    -- client and server agree, after every list of events
    pub agrees_holds : (login : List ℕ) → IsQuiet G login → (b : G.Board) (es : List (Event G)) → G.good b ≡ true
        → AllAccepted login (start b) es → BoardsAgree (acts_from login (start b) es) (after_all login (start b) es)
    agrees_holds login quiet b es good ok =
        record {
          first_sent = λ c some. (
            (boards G) (gained G (w.links c).heard ((w.links c).coming ++ (s.carried c some).dropped)),
            ap (λ bs. bs ++ boards G (gained G (w.links c).heard ((w.links c).coming ++ (s.carried c some).dropped)))
                (a.hears c)
                ∙ sym (flat_map-append (λ l. board_of G (line_says G l)) (G.lines (w.links c).heard)
                (gained G (w.links c).heard ((w.links c).coming ++ (s.carried c some).dropped)))
                ∙ ap (boards G) (sym (lines_gained G law (w.links c).heard
                ((w.links c).coming ++ (s.carried c some).dropped)))
                ∙ ap (λ bytes. boards G (G.lines bytes)) (sym (s.carried c some).all)
                ∙ boards_put (acts c) (a.readable c),
          );
          newest = a.newest;
          all_shown = all_shown;
          same = λ r x h. a.newest r.some r.is_open x (sym (ap last (all_shown r)) ∙ h);
        }
      where
        acts : ℕ → List (Act G)
        acts = acts_from login (start b) es

        w : World G
        w = after_all login (start b) es

        s : S.Joint acts w
        s = joint_holds G law login quiet b es good ok

        a : Agreed acts w
        a = over_events G law Agreed agreed_is login quiet
            (λ acts w e i j h a. agreed_after acts login w e i j h (joint_after G law login quiet w e i j h).good a)
            (λ c. []) es
            (start b) ok (sound_start G b) (joint_start G law b good)
            (record {
              readable = λ c. tt;
              hears = λ c. ap (boards G) (sym law.empty);
              newest = λ some. absurd (omega arith);
              newer = λ c high. refl;
            })

        all_shown : IsAtRest w → shown w.logged_in w.log ≡ boards_sent (acts w.logged_in)
        all_shown r =
            let k = s.carried w.logged_in r.some in
            let none = k.none_dropped (same_test G _ _ r.is_open) in
            let l : Link = w.links w.logged_in in
            let put : put_by (acts w.logged_in) ≡ l.heard =
            k.all ∙ ap (λ bytes. l.heard ++ (bytes ++ k.dropped)) r.all_delivered
            ∙ ap (λ bytes. l.heard ++ bytes) none ∙ append-nil l.heard in
            a.hears w.logged_in ∙ ap (λ bytes. boards G (G.lines bytes)) (sym put)
            ∙ boards_put (acts w.logged_in) (a.readable w.logged_in)
