-- A measure of what is still on its way on a connection, or may still be called forth: each line that is served, and
-- each delivery of all bytes, makes it smaller.
use Rattle.std.proofs.Common.{◌≡◌, ◌⊎◌, ℕ, ◌+◌, ◌<◌, ◌≤◌, Bool, true, false, ◌&&◌, ◌||◌, List, [], ◌∷◌, ◌++◌, Option, Some, None, nat_eq, flat_map, length, refl, sym, ◌∙◌, ap, subst, inl, inr, append-nil, append_assoc, true≢false, arith, if◌then◌else◌, length-append, take}
use Rattle.std.proofs.lemmas.Bool.{or_left, or_right}
use Rattle.std.proofs.lemmas.Option.{some_pair_parts}
use Rattle.fibs_game.specs.Hearing.{Heard, nothing_heard, shows_board, line_says}
use Rattle.fibs_game.specs.Log.{Entry, Welcomed, Informed, Shown, Sent, Took, Undone}
use Rattle.fibs_game.specs.Log as L
use Rattle.fibs_game.specs.Machine.{gained, on_wire, wire_of}
use Rattle.fibs_game.specs.Orders.{is_due}
use Rattle.fibs_game.specs.Words.{Ask, one_if, is_empty, last, open_now, shown, sent, sent_by, took, took_by, is_spent, welcomed, welcomed_by, informed, informed_by}
use Rattle.fibs_game.specs.Joint.{AreLines}
use Rattle.fibs_game.specs.Server.{Served}
use Rattle.fibs_game.specs.Server as V
use Rattle.fibs_game.specs.Wires.{Link, delivered, more_asked, next_line}
use Rattle.fibs_game.specs.World.{World, after, noted, linked, sends, does_served}
use Rattle.fibs_game.specs.Game.{Game, Flags, Says, welcomes, informs, shows, says_nothing}
use Rattle.fibs_game.specs.Lawful.{Lawful, NoReturn}
use Rattle.fibs_game.specs.Talks.{IsWorld}
use Rattle.fibs_game.specs.Events.{Deliver}
use Rattle.fibs_game.proofs.acts.Server.{sends_board, sends_log, answers_keep, answers_served}
use Rattle.fibs_game.proofs.past.Lists.{same_number, other_number, and_left, and_right, map_more, map_no_more, to_list}
use Rattle.fibs_game.proofs.past.Past.{open_append}
use Rattle.fibs_game.proofs.past.Words.{own}
use Rattle.fibs_game.proofs.log.Due.{due_rolls}
use Rattle.fibs_game.proofs.joint.Deliver.{Hearing, hearing_begins, hears_next, note_shown}
use Rattle.fibs_game.proofs.joint.Joint.{log_of, Live, Joint, current, linked_same}
use Rattle.fibs_game.proofs.wires.Ways.{Texts, quiet_texts}
use Rattle.fibs_game.proofs.joint.Sending.{if_fact, same_test}
use Rattle.fibs_game.proofs.wires.Boards.{waiting, boards, board_of}
use Rattle.fibs_game.proofs.wires.Cuts.{line_whole, line_is}
use Rattle.fibs_game.proofs.Stepping.{does_heard, hears, over_delivery}

module _ (G : Game) where
  -- ---- how many lines are on their way to the server

  -- how many of the bytes are CR
  pub returns_in : List ℕ → ℕ
  returns_in [] = 0
  returns_in (b ∷ bytes) = (if nat_eq b 13 then 1 else 0) + returns_in bytes

  -- none of no bytes is a CR
  pub returns_none : returns_in [] ≡ 0
  unfolding returns_in
  returns_none = refl

  -- at most as many as there are bytes
  pub returns_most : (bytes : List ℕ) → returns_in bytes ≤ length bytes
  unfolding returns_in
  returns_most [] = omega arith
  returns_most (b ∷ bytes) =
      let more = returns_most bytes in
      if_fact G (λ one. one + returns_in bytes ≤ length (b ∷ bytes)) (nat_eq b 13) _ _ (λ z. omega arith)
      (λ z. omega arith)

  -- the CR of two parts are those of each
  pub returns_append : (xs ys : List ℕ) → returns_in (xs ++ ys) ≡ returns_in xs + returns_in ys
  unfolding returns_in
  returns_append [] ys = omega arith
  returns_append (x ∷ xs) ys = let h = returns_append xs ys in omega arith

  -- a text without CR has none
  returns_text : (t : List ℕ) → NoReturn t → returns_in t ≡ 0
  unfolding returns_in
  returns_text [] h = refl
  returns_text (b ∷ t) h = rw h.0 (let r = returns_text t h.1 in omega arith)

  -- CR LF has one
  returns_end : returns_in (13 ∷ 10 ∷ []) ≡ 1
  unfolding returns_in
  returns_end = refl

  -- so a text with CR LF has one
  pub returns_wire : (t : List ℕ) → NoReturn t → returns_in (on_wire t) ≡ 1
  returns_wire t h =
      let r = returns_text t h in let a = returns_append t (13 ∷ 10 ∷ []) in let e = returns_end in omega arith

  -- commands on the wire have one CR each
  pub returns_commands : (ts : List (List ℕ)) → Texts G ts → returns_in (wire_of ts) ≡ length ts
  returns_commands [] h = returns_none
  returns_commands (t ∷ ts) h =
      let a = returns_append (on_wire t) (wire_of ts) in
      let r = returns_wire t h.0 in
      let s = returns_commands ts h.1 in omega arith

  -- what is left after a line was taken has fewer
  pub returns_less : (bytes t rest : List ℕ) → next_line bytes ≡ Some (t, rest) → returns_in rest < returns_in bytes
  returns_less bytes t rest h =
      let all = ap returns_in (line_is G bytes t rest h) in
      let parts = returns_append (on_wire t) rest in
      let line = returns_append t (13 ∷ 10 ∷ []) in
      let one = returns_end in omega arith

  -- whole commands have at most as many as there are lines
  pub returns_lines : (ts lines : List (List ℕ)) (bytes : List ℕ) → bytes ≡ flat_map on_wire ts → Texts G ts
      → AreLines bytes lines → returns_in bytes ≤ length lines
  returns_lines [] lines bytes e h a = let z = ap returns_in e ∙ returns_none in omega arith
  returns_lines (t ∷ ts) [] bytes e h a =
      let n : next_line bytes ≡ Some (t, flat_map on_wire ts) =
      ap next_line e ∙ line_whole G t (flat_map on_wire ts) h.0 in absurd cc
  returns_lines (t ∷ ts) (l ∷ lines) bytes e h a =
      let n : next_line bytes ≡ Some (t, flat_map on_wire ts) =
      ap next_line e ∙ line_whole G t (flat_map on_wire ts) h.0 in
      let r : a.0 ≡ flat_map on_wire ts = (some_pair_parts l t a.0 (flat_map on_wire ts) (sym a.1 ∙ n)).1 in
      let later = returns_lines ts lines a.0 r h.1 a.2 in
      let c : returns_in bytes ≡ returns_in (on_wire t) + returns_in (flat_map on_wire ts) =
      ap returns_in e ∙ returns_append (on_wire t) (flat_map on_wire ts) in
      let one = returns_wire t h.0 in
      let same = ap returns_in r in omega arith

  -- ---- what is on the wires to the server

  -- what is on the wire after commands
  asked_heard : (c : ℕ) (w : World G) (h : Heard G) → ((does_heard c w h).links c).asked ≡ (w.links c).asked ++ wire_of
      h.send
  asked_heard c w h = ap (λ (x : Link). x.asked) (linked_same G w c (more_asked (w.links c) (wire_of h.send)))

  -- a board that a decision leads to is none at which a standing order rolls
  abbrev pub NoRoll : Served G → Type 0
  NoRoll (V.Took d b) = G.rolls b ≡ false
  NoRoll s = Unit {0}

  -- ---- lines that are messages

  -- a line is a message
  abbrev pub is_message : (Says G.Board G.Info) → Bool
  is_message welcomes = true
  is_message (informs m) = true
  is_message (shows b) = false
  is_message says_nothing = false

  -- one of the lines is
  abbrev pub has_message : List G.Line → Bool
  has_message [] = false
  has_message (l ∷ ls) = is_message (line_says G l) || has_message ls

  -- lines without a message after others add none
  pub message_append : (xs ys : List G.Line) → has_message ys ≡ false → has_message (xs ++ ys) ≡ has_message xs
  message_append [] ys h = h
  message_append (x ∷ xs) ys h = ap (λ z. is_message (line_says G x) || z) (message_append xs ys h)

  -- ---- which answers a connection may still call forth: k more are counted for a roll

  -- so many answers are due at the first of these, while there was none
  first_due : {A : Type 0} → ℕ → List A → ℕ
  first_due n [] = n
  first_due n (x ∷ xs) = 0

  -- they are at most that many
  first_most : {A : Type 0} (n : ℕ) (xs : List A) → first_due n xs ≤ n
  unfolding first_due
  first_most n [] = omega arith
  first_most n (x ∷ xs) = omega arith

  -- none after one of them
  first_gone : {A : Type 0} (n : ℕ) (xs : List A) (x : A) → first_due n (xs ++ x ∷ []) ≡ 0
  unfolding first_due
  first_gone n [] x = refl
  first_gone n (y ∷ xs) x = refl

  -- and all before
  first_all : {A : Type 0} (n : ℕ) (xs : List A) → is_empty xs ≡ true → first_due n xs ≡ n
  unfolding first_due
  first_all n [] h = refl
  first_all n (x ∷ xs) h = absurd (true≢false (sym h))

  module _ (k : ℕ) where
    -- a standing order may roll once, if it rolls on the board and all that was sent took effect
    roll_due : Bool → ℕ → ℕ → ℕ
    roll_due rolls sends takes = if rolls && nat_eq sends takes then 1 + k else 0

    -- all of these, by what the log says of the connection: the first message 1 is answered by one command, the first
    -- message 2 by at most three
    due_of : List ℕ → List Flags → Bool → List (Ask G) → List (Ask G) → ℕ
    due_of ws is rolls sends takes = first_due 1 ws + first_due 3 is + roll_due rolls (length sends) (length takes)

    -- what a connection may still call forth in a world
    pub due : ℕ → World G → ℕ
    due c w =
        due_of (welcomed c w.log) (informed c w.log) (G.rolls w.board) (sent c w.log) (took c w.log)

    -- at other boards no order rolls
    roll_no : (n m : ℕ) → roll_due false n m ≡ 0
    unfolding roll_due
    roll_no n m = refl

    -- for a roll at most 1 + k are counted
    roll_most : (z : Bool) (n m : ℕ) → roll_due z n m ≤ 1 + k
    unfolding roll_due
    roll_most z n m = if_fact G (λ i. i ≤ 1 + k) (z && nat_eq n m) _ _ (λ e. omega arith) (λ e. omega arith)

    -- as many, if an order rolls there and all that was sent took effect
    roll_yes : (z : Bool) (n m : ℕ) → z ≡ true → n ≡ m → roll_due z n m ≡ 1 + k
    unfolding roll_due
    roll_yes z n m h e = rw (h, e, same_number m) refl

    -- none, if not all that was sent took effect
    roll_spent : (z : Bool) (n m : ℕ) → (n ≡ m → ⊥) → roll_due z n m ≡ 0
    unfolding roll_due
    roll_spent true n m h = rw (other_number n m h) refl
    roll_spent false n m h = refl

    -- it is at most 5 + k
    pub due_most : (c : ℕ) (w : World G) → due c w ≤ 5 + k
    unfolding due due_of
    due_most c w =
        let a = first_most 1 (welcomed c w.log) in
        let b = first_most 3 (informed c w.log) in
        let r = roll_most (G.rolls w.board) (length (sent c w.log)) (length (took c w.log)) in omega arith

    -- it depends on the log and the board alone
    due_log : (c : ℕ) (w w' : World G) (log : List (Entry G)) (b : G.Board) → w'.log ≡ log → w'.board ≡ b
        → due c w' ≡ due_of (welcomed c log) (informed c log) (G.rolls b) (sent c log) (took c log)
    unfolding due
    due_log c w w' log b e same = rw (e, same) refl

    -- entries of another kind leave it as it is
    due_same : (c : ℕ) (w w' : World G) (es : List (Entry G)) → w'.log ≡ w.log ++ es → w'.board ≡ w.board
        → welcomed c es ≡ [] → informed c es ≡ [] → sent c es ≡ [] → took c es ≡ [] → due c w' ≡ due c w
    unfolding due
    due_same c w w' es e same h1 h2 h3 h4 =
        due_log c w w' (w.log ++ es) w.board e same
        ∙ rw (
          map_no_more (welcomed_by c) w.log es h1,
          map_no_more (informed_by c) w.log es h2,
          map_no_more (sent_by c) w.log es h3,
          map_no_more (took_by c) w.log es h4,
        ) refl

    -- so does a change of the wires
    pub due_relinked : (c : ℕ) (w : World G) (l : Link) → due c (linked w c l) ≡ due c w
    unfolding due
    due_relinked c w l = refl

    -- ---- a line is served

    -- what the server's answer to a line of c leaves: these bytes on the wire, and no more that is due
    pub record Lessens (c : ℕ) (w w' : World G) (left : List ℕ) : Type 0 where
      pub asked : (w'.links c).asked ≡ left
      pub due : due c w' ≤ due c w
      pub here : open_now w'.log ≡ open_now w.log

    -- a decision that is carried out, after which no standing order rolls, leaves no more due
    took_less : (c : ℕ) (w w' : World G) (es : List (Entry G)) (b : G.Board) → w'.log ≡ w.log ++ es → w'.board ≡ b
        → welcomed c es ≡ [] → informed c es ≡ [] → G.rolls b ≡ false → due c w' ≤ due c w
    unfolding due due_of
    took_less c w w' es b e is_b h1 h2 still =
        let r : roll_due (G.rolls w'.board) (length (sent c w'.log)) (length (took c w'.log)) ≡ 0 =
        ap (λ z. roll_due z (length (sent c w'.log)) (length (took c w'.log)))
        (ap (λ x. G.rolls x) is_b ∙ still)
        ∙ roll_no (length (sent c w'.log)) (length (took c w'.log)) in
        let ws : welcomed c w'.log ≡ welcomed c w.log =
        ap (welcomed c) e ∙ map_no_more (welcomed_by c) w.log es h1 in
        let is : informed c w'.log ≡ informed c w.log =
        ap (informed c) e ∙ map_no_more (informed_by c) w.log es h2 in
        let a = ap (first_due 1) ws in
        let i = ap (first_due 3) is in omega arith

    -- no more is due after the server's answer to a line
    due_served : (c : ℕ) (w : World G) (l : Link) (s : Served G) → NoRoll s
        → due c (does_served c (linked w c l) s) ≤ due c w
    due_served c w l V.Stale h = let e = due_relinked c w l in omega arith
    due_served c w l V.LoggedIn h =
        let w' : World G = does_served c (linked w c l) V.LoggedIn in
        let e = due_same c w w' (L.LoggedIn c ∷ []) refl refl refl refl refl refl in omega arith
    due_served c w l (V.Undone d) h =
        let n : World G = noted (linked w c l) (Undone c w.board d ∷ []) in
        let e = due_same c w (sends n (G.spelling w.board)) (Undone c w.board d ∷ [])
        (sends_log G n (G.spelling w.board))
        (sends_board G n (G.spelling w.board)) refl refl refl refl in omega arith
    due_served c w l V.Answered h =
        let n : World G = linked w c l in
        let e = due_same c w (sends n (G.spelling w.board)) []
        (sends_log G n (G.spelling w.board) ∙ sym (append-nil w.log))
        (sends_board G n (G.spelling w.board)) refl refl refl refl in omega arith
    due_served c w l (V.Took d b) h =
        let n : World G = noted (record (linked w c l) { board = b }) (Took c w.board d ∷ []) in
        took_less c w (sends n (G.spelling b)) (Took c w.board d ∷ []) b (sends_log G n (G.spelling b))
        (sends_board G n (G.spelling b)) refl refl h

    -- whatever the server answers to a line, it takes that off the wire, and no more is due after it
    pub lessens_served : (c : ℕ) (w : World G) (l : Link) (s : Served G) → NoRoll s
        → Lessens c w (does_served c (linked w c l) s) l.asked
    lessens_served c w l s h =
        let a = answers_served G c (linked w c l) s in
        record {
          asked =
              answers_keep G (λ (x : Link). x.asked) (λ x bytes. refl) c _ (linked w c l) _ a c
              ∙ ap (λ (x : Link). x.asked) (linked_same G w c l);
          due = due_served c w l s h;
          here = a.here;
        }

    -- ---- lines are heard

    -- No more is on its way and due together. Nothing is handed out, or a roll, which is due no longer, or answers to a
    -- message. z: whether there is a message among the lines.
    pub record Lighter (c : ℕ) (z : Bool) (w w' : World G) : Type 0 where
      pub less : returns_in (w'.links c).asked + due c w' ≤ returns_in (w.links c).asked + due c w
      pub how : ((w'.links c).asked ≡ (w.links c).asked)
          ⊎ (returns_in (w'.links c).asked + due c w' + k ≤ returns_in (w.links c).asked + due c w) ⊎ (z ≡ true)

    -- nothing is handed out, and no more is due
    pub lighter_same : (c : ℕ) (z : Bool) (w w' : World G) → (w'.links c).asked ≡ (w.links c).asked → due c w' ≤ due c w
        → Lighter c z w w'
    lighter_same c z w w' e d = record { less = let r = ap returns_in e in omega arith; how = inl e }

    -- one after the other
    lighter_then : (c : ℕ) (y z : Bool) (u v w : World G) → Lighter c y u v → Lighter c z v w → Lighter c (y || z) u w
    lighter_then c y z u v w a b =
        record { less = let m = a.less in let n = b.less in omega arith; how = go a.how b.how }
      where
        go : ((v.links c).asked ≡ (u.links c).asked)
            ⊎ (returns_in (v.links c).asked + due c v + k ≤ returns_in (u.links c).asked + due c u) ⊎ (y ≡ true)
            → ((w.links c).asked ≡ (v.links c).asked)
            ⊎ (returns_in (w.links c).asked + due c w + k ≤ returns_in (v.links c).asked + due c v) ⊎ (z ≡ true)
            → ((w.links c).asked ≡ (u.links c).asked)
            ⊎ (returns_in (w.links c).asked + due c w + k ≤ returns_in (u.links c).asked + due c u) ⊎ ((y || z) ≡ true)
        go (inl e) (inl f) = inl (f ∙ e)
        go (inr (inl m)) f = inr (inl (let n = b.less in omega arith))
        go e (inr (inl n)) = inr (inl (let m = a.less in omega arith))
        go (inr (inr e)) f = inr (inr (or_left y z e))
        go e (inr (inr f)) = inr (inr (or_right y z f))

    -- nothing is handed out at a line
    lighter_quiet : (c : ℕ) (z : Bool) (w : World G) (h : Heard G) → h.send ≡ [] → welcomed c h.entries ≡ []
        → informed c h.entries ≡ [] → sent c h.entries ≡ [] → took c h.entries ≡ [] → Lighter c z w (does_heard c w h)
    lighter_quiet c z w h none h1 h2 h3 h4 =
        lighter_same c z w (does_heard c w h)
        (asked_heard c w h ∙ ap (λ ts. (w.links c).asked ++ wire_of ts) none ∙ append-nil (w.links c).asked)
        (let e = due_same c w (does_heard c w h) h.entries refl refl h1 h2 h3 h4 in omega arith)

    -- how many lines are on their way after commands that were handed out
    returns_heard : (c : ℕ) (w : World G) (h : Heard G) → Texts G h.send
        → returns_in ((does_heard c w h).links c).asked ≡ returns_in (w.links c).asked + length h.send
    returns_heard c w h texts =
        let a = ap returns_in (asked_heard c w h) ∙ returns_append (w.links c).asked (wire_of h.send) in
        let r = returns_commands h.send texts in omega arith

    module _ (law : Lawful G) where
      -- a message that is heard is answered or not: if it is, the answer was due and is no longer
      lighter_answer : (c : ℕ) (w : World G) (z : Bool) (e : Entry G) (ts : List (List ℕ)) (n : ℕ) → Texts G ts
          → length ts ≤ n
          → (z ≡ true → due c (noted w (e ∷ [])) + n ≡ due c w) → due c (noted w (e ∷ [])) ≤ due c w
          → Lighter c true w
          (does_heard c w
          (record { entries = e ∷ []; send = if z then ts else []; confirmed = None; rolled = false }))
      unfolding due
      lighter_answer c w true e ts n texts few less still =
          let l = less refl in
          let r = returns_heard c w (record { entries = e ∷ []; send = ts; confirmed = None; rolled = false }) texts in
          record { less = omega arith; how = inr (inr refl) }
      lighter_answer c w false e ts n texts few less still =
          lighter_same c true w _
          (asked_heard c w (record { entries = e ∷ []; send = []; confirmed = None; rolled = false })
          ∙ append-nil (w.links c).asked) still

      -- what is due before and after a message that is noted
      due_message : (c : ℕ) (w : World G) (e : Entry G) (n m : ℕ) → sent c (e ∷ []) ≡ [] → took c (e ∷ []) ≡ []
          → first_due 1 (welcomed c (w.log ++ e ∷ [])) + n ≡ first_due 1 (welcomed c w.log)
          → first_due 3 (informed c (w.log ++ e ∷ [])) + m ≡ first_due 3 (informed c w.log)
          → due c (noted w (e ∷ [])) + n + m ≡ due c w
      unfolding due due_of
      due_message c w e n m s t ws is =
          let ss : sent c (w.log ++ e ∷ []) ≡ sent c w.log = map_no_more (sent_by c) w.log (e ∷ []) s in
          let ts : took c (w.log ++ e ∷ []) ≡ took c w.log = map_no_more (took_by c) w.log (e ∷ []) t in
          let rolls : Bool = G.rolls w.board in
          let r : roll_due rolls (length (sent c (w.log ++ e ∷ []))) (length (took c (w.log ++ e ∷ [])))
          ≡ roll_due rolls (length (sent c w.log)) (length (took c w.log)) = rw (ss, ts) refl in omega arith

      -- a message 1 that is heard: its answer was due
      lighter_welcome : (c : ℕ) (w : World G) → Lighter c true w
          (does_heard c w (record {
            entries = Welcomed c ∷ [];
            send = if is_empty (welcomed c w.log) then G.style ∷ [] else [];
            confirmed = None;
            rolled = false;
          }))
      lighter_welcome c w =
          let es : List (Entry G) = Welcomed c ∷ [] in
          let gone : first_due 1 (welcomed c (w.log ++ es)) ≡ 0 =
          ap (first_due 1) (map_more (welcomed_by c) w.log es (c ∷ []) (own G c c)) ∙ first_gone 1 (welcomed c w.log) c
          in
          let same : first_due 3 (informed c (w.log ++ es)) ≡ first_due 3 (informed c w.log) =
          ap (first_due 3) (map_no_more (informed_by c) w.log es refl) in
          let n : ℕ = first_due 1 (welcomed c w.log) in
          let all = due_message c w (Welcomed c) n 0 refl refl (omega arith) (omega arith) in
          lighter_answer c w (is_empty (welcomed c w.log)) (Welcomed c) (G.style ∷ []) 1 (law.style_quiet.text, tt)
          (omega arith) (λ z. let f = first_all 1 (welcomed c w.log) z in omega arith) (omega arith)

      -- a message 2 that is heard: its answers were due
      lighter_inform : (c : ℕ) (w : World G) (m : G.Info) → Lighter c true w
          (does_heard c w (record {
            entries = Informed c (G.flags m) ∷ [];
            send = if is_empty (informed c w.log) then G.initial m else [];
            confirmed = None;
            rolled = false;
          }))
      lighter_inform c w m =
          let f : Flags = G.flags m in
          let es : List (Entry G) = Informed c f ∷ [] in
          let same : first_due 1 (welcomed c (w.log ++ es)) ≡ first_due 1 (welcomed c w.log) =
          ap (first_due 1) (map_no_more (welcomed_by c) w.log es refl) in
          let gone : first_due 3 (informed c (w.log ++ es)) ≡ 0 =
          ap (first_due 3) (map_more (informed_by c) w.log es (f ∷ []) (own G c f)) ∙ first_gone 3 (informed c w.log) f
          in
          let n : ℕ = first_due 3 (informed c w.log) in
          let all = due_message c w (Informed c f) 0 n refl refl (omega arith) (omega arith) in
          lighter_answer c w (is_empty (informed c w.log)) (Informed c f) (G.initial m) 3
          (quiet_texts G (G.initial m) (law.info_quiet m)) (law.few_initial m)
          (λ z. let i = first_all 3 (informed c w.log) z in omega arith) (omega arith)

      -- a standing order is due at a board that is heard: nothing waits, and the board is the server's
      record Fresh (c : ℕ) (w : World G) (b : G.Board) : Type 0 where
        even : length (sent c w.log) ≡ length (took c w.log)
        is : w.board ≡ b

      -- at a board at which an order is due nothing waits, and it is the server's
      fresh : (c : ℕ) (more : List G.Board) (w : World G) (b : G.Board) → 0 < c → Hearing G law c (b ∷ more) w
          → is_due c (w.log ++ Shown c b ∷ []) b ≡ true → Fresh c w b
      fresh c more w b some y due =
          let r = due_rolls G law c w.log b y.here due in
          let mine = y.mine in
          let some' : 0 < w.logged_in = omega arith in
          let w1 : World G = noted w (Shown w.logged_in b ∷ []) in
          let j : Joint G more w1 = note_shown G law w b more y.joint (y.here ∙ sym y.mine) some' in
          let cur = current G more w1 j some' in
          let still : open_now w1.log ≡ w.logged_in =
          open_append G 0 w.log (Shown w.logged_in b ∷ []) ∙ y.here ∙ sym y.mine in
          let quiet : is_spent w.logged_in w1.log ≡ false =
          subst (λ d. is_spent d (w.log ++ Shown d b ∷ []) ≡ false) (sym y.mine) r.fresh in
          let is_last : last (shown w.logged_in w1.log) ≡ Some b =
          subst (λ d. last (shown d (w.log ++ Shown d b ∷ [])) ≡ Some b) (sym y.mine) r.is_last in
          go w1 quiet is_last (law.allowed_decides b G.roll r.allowed) cur.p cur.owed (cur.live (same_test G _ _ still))
          (map_no_more (sent_by w.logged_in) w.log (Shown w.logged_in b ∷ []) refl)
          (map_no_more (took_by w.logged_in) w.log (Shown w.logged_in b ∷ []) refl)
        where
          go : (w1 : World G) → is_spent w.logged_in w1.log ≡ false → last (shown w.logged_in w1.log) ≡ Some b
              → G.decides b ≡ true → (p : Option (Ask G))
              → sent w.logged_in w1.log ≡ took w.logged_in w1.log ++ to_list p
              → Live G (log_of G w1 w.logged_in) w.board (waiting G more (w1.links w.logged_in)) p
              → sent w.logged_in w1.log ≡ sent w.logged_in w.log → took w.logged_in w1.log ≡ took w.logged_in w.log
              → Fresh c w b
          go w1 quiet is_last decides None owed (inl f) es et =
              let calm = f.calm in
              let all = (rw is_last at calm) in
              let same : sent w.logged_in w.log ≡ took w.logged_in w.log =
              sym es ∙ owed ∙ append-nil (took w.logged_in w1.log) ∙ et in
              let even : length (sent c w.log) ≡ length (took c w.log) =
              subst (λ d. length (sent d w.log) ≡ length (took d w.log)) y.mine (ap length same) in
              record { even = even; is = (all.0 decides).1 }
          go w1 quiet is_last decides None owed (inr d) es et = absurd (true≢false (sym d.spent ∙ quiet))
          go w1 quiet is_last decides (Some a) owed live es et = absurd (true≢false (sym live.spent ∙ quiet))

      -- an order is due only at a board at which one rolls
      due_to_roll : (c : ℕ) (log : List (Entry G)) (b : G.Board) → is_due c log b ≡ true → G.rolls b ≡ true
      unfolding is_due
      due_to_roll c log b h = and_left _ _ (and_right _ _ h)

      -- a good board that is heard: the roll that it calls forth was due
      lighter_shows : (c : ℕ) (more : List G.Board) (w : World G) (b : G.Board) → 0 < c → G.good b ≡ true
          → Hearing G law c (b ∷ more) w → (rolls : Bool) → is_due c (w.log ++ Shown c b ∷ []) b ≡ rolls
          → Lighter c false w (does_heard c w (shows_board c w.log b rolls))
      unfolding due due_of
      lighter_shows c more w b some good y false h =
          lighter_quiet c false w (shows_board c w.log b false) refl refl refl refl refl
      lighter_shows c more w b some good y true h =
          let f = fresh c more w b some y h in
          let r = due_rolls G law c w.log b y.here h in
          let s = spends f (due_to_roll c (w.log ++ Shown c b ∷ []) b h) in
          let n = returns_heard c w (shows_board c w.log b true) (law.decision_text b G.roll good r.allowed, tt) in
          record { less = omega arith; how = inr (inl (omega arith)) }
        where
          spends : Fresh c w b → G.rolls b ≡ true
              → 1 + due c (does_heard c w (shows_board c w.log b true)) + k ≤ due c w
          spends f to =
              let es : List (Entry G) = Shown c b ∷ Sent c b G.roll ∷ [] in
              let ws : welcomed c (w.log ++ es) ≡ welcomed c w.log = map_no_more (welcomed_by c) w.log es refl in
              let is : informed c (w.log ++ es) ≡ informed c w.log = map_no_more (informed_by c) w.log es refl in
              let ts : took c (w.log ++ es) ≡ took c w.log = map_no_more (took_by c) w.log es refl in
              let ss : sent c (w.log ++ es) ≡ sent c w.log ++ (b, G.roll) ∷ [] =
              map_more (sent_by c) w.log es ((b, G.roll) ∷ []) (own G c (b, G.roll)) in
              let n : length (sent c (w.log ++ es)) ≡ length (sent c w.log) + 1 =
              ap length ss ∙ length-append (sent c w.log) ((b, G.roll) ∷ []) in
              let m : length (took c (w.log ++ es)) ≡ length (took c w.log) = ap length ts in
              let e = f.even in
              let before : roll_due (G.rolls w.board) (length (sent c w.log)) (length (took c w.log))
              ≡ 1 + k =
              roll_yes _ _ _ (ap (λ x. G.rolls x) f.is ∙ to) e in
              let later : roll_due (G.rolls w.board) (length (sent c (w.log ++ es)))
              (length (took c (w.log ++ es))) ≡ 0 = roll_spent _ _ _ (λ z. absurd (omega arith)) in
              let a = ap (first_due 1) ws in
              let i = ap (first_due 3) is in omega arith

      -- each line that is heard: what it calls forth was due
      lighter_one : (c : ℕ) (more : List G.Board) (w : World G) (x : (Says G.Board G.Info)) → 0 < c
          → Hearing G law c (board_of G x ++ more) w → Lighter c (is_message x) w (hears c w x)
      lighter_one c more w (shows b) some y =
          if_fact G (λ h. Lighter c false w (does_heard c w h)) (G.good b) _ _
          (λ z. lighter_shows c more w b some z
          (record { joint = subst (λ t. Joint G (one_if t b ++ more) w) z y.joint; here = y.here; mine = y.mine })
          (is_due c (w.log ++ Shown c b ∷ []) b) refl)
          (λ z. lighter_quiet c false w nothing_heard refl refl refl refl refl)
      lighter_one c more w welcomes some y = lighter_welcome c w
      lighter_one c more w (informs m) some y = lighter_inform c w m
      lighter_one c more w says_nothing some y = lighter_quiet c false w nothing_heard refl refl refl refl refl

      -- so with the lines of a delivery, one after another
      pub lighter_delivery : (login : List ℕ) (w : World G) (n : ℕ) → IsWorld w → Joint G [] w
          → open_now w.log ≡ w.logged_in → 0 < w.logged_in
          → Lighter w.logged_in
          (has_message (gained G (w.links w.logged_in).heard (take n (w.links w.logged_in).coming)))
          (linked w w.logged_in (delivered (w.links w.logged_in) n)) (after login w (Deliver n))
      lighter_delivery login w n i j here some =
          (over_delivery G P
          (λ l ls v p. (
            hears_next G law c l ls v some p.0,
            λ v' a. p.1 v' (lighter_then c (is_message (line_says G l)) (has_message ls) v _ v'
                (subst (λ d. Lighter c (is_message (line_says G l)) v (hears d v (line_says G l))) (sym p.0.here)
                (lighter_one c (boards G ls ++ []) v (line_says G l) some
                (subst (λ bs. Hearing G law c bs v) (append_assoc (board_of G (line_says G l)) (boards G ls) []) p.0)))
                a),
          ))
          login w n i (omega arith)
          (subst (λ d. P (gained G (w.links d).heard (take n (w.links d).coming))
          (linked w d (delivered (w.links d) n)))
          (sym here) (hearing_begins G law w n j here some, λ v' a. a))).1 _
          (lighter_same c false _ _ refl (omega arith))
        where
          c : ℕ
          c = w.logged_in

          P : List G.Line → World G → Type 0
          P ls v =
              Hearing G law w.logged_in (boards G ls ++ []) v
              × ((v' : World G) → Lighter w.logged_in (has_message ls) v v'
              → Lighter w.logged_in
              (has_message (gained G (w.links w.logged_in).heard (take n (w.links w.logged_in).coming)))
              (linked w w.logged_in (delivered (w.links w.logged_in) n)) v')
