-- After each event that is accepted the world is one, and its client's machine made the step that the event is, or
-- none.
use Rattle.std.proofs.Common.{take, ◌≡◌, ℕ, suc, ◌+◌, ◌<◌, true, List, [], ◌∷◌, ◌++◌, Option, Some, None, nat_eq, refl, sym, ◌∙◌, ap, subst, inl, inr, append-nil, arith}
use Rattle.fibs_game.specs.declared.world_refusal.WorldRefusal.TheVariants.{NotOpen}
use Rattle.fibs_game.specs.Game.{Game}
use Rattle.fibs_game.specs.Log.{Entry}
use Rattle.fibs_game.specs.Log as L
use Rattle.fibs_game.specs.Words.{is_empty, open_now, connections, unconfirmed}
use Rattle.fibs_game.specs.Machine.{Outcome, opened, step, does, on_wire, wire_of}
use Rattle.fibs_game.specs.Machine as M
use Rattle.fibs_game.specs.Wires.{Link, delivered, cut_off, taken, next_line}
use Rattle.fibs_game.specs.Events.{Event, Open, Click, Plain, Deliver, Lose, Serve, Own, Repeat, Text, Order, Withdraw}
use Rattle.fibs_game.specs.Refusals.{refusal}
use Rattle.fibs_game.specs.Runs.{AllAccepted, after_all}
use Rattle.fibs_game.specs.Talks.{IsWorld, input_of}
use Rattle.fibs_game.specs.World.{World, start, after, client_does, talk_of, linked, sends, serves}
use Rattle.fibs_game.proofs.Answering.{answered_at as answered}
use Rattle.fibs_game.proofs.acts.Client.{does_sound, does_talk, talk_is, talk_path}
use Rattle.fibs_game.proofs.Refusing.{is_open, is_closed}
use Rattle.fibs_game.proofs.acts.Server.{Answers, servers_aside, answers_keep, answers_line, answers_served}
use Rattle.fibs_game.proofs.Stepping.{at_it, elsewhere, no_more, one_more, opens_is, loses_is, step_opens, step_loses, newest, stays_world}
use Rattle.fibs_game.proofs.Talks.{Silence, Steps, Follows, TalkIsProjected}
use Rattle.fibs_game.proofs.joint.Joint.{linked_keeps}
use Rattle.fibs_game.proofs.past.Past.{open_append}

module _ (G : Game) where
  -- ---- the server's events

  -- after the server's answer the client's machine has its entries noted, and nothing else
  silence : (login : List ℕ) (w v : World G) (c : ℕ) (t : List ℕ) (w' : World G) → IsWorld w → v.log ≡ w.log
      → v.count ≡ w.count → ((d : ℕ) → (v.links d).heard ≡ (w.links d).heard)
      → ((d : ℕ) → v.commands d ≡ w.commands d) → Answers G c t v w' → IsWorld w' × Silence login w w'
  silence login w v c t w' i log count heard said a =
      let aside = servers_aside G a.more a.servers in
      let hears : (d : ℕ) → (w'.links d).heard ≡ (w.links d).heard = λ d.
      answers_keep G (λ (x : Link). x.heard) (λ x bytes. refl) c t v w' a d ∙ heard d in
      let says : (d : ℕ) → w'.commands d ≡ w.commands d = λ d. a.said d ∙ said d in
      let counts : w'.count ≡ w.count = a.count ∙ count in
      let grown : w'.log ≡ w.log ++ a.more = a.log ∙ ap (λ l. l ++ a.more) log in (
        stays_world G w w' a.more i grown counts aside.opens (aside.stays (open_now w.log)) (λ d lt. hears d)
            (λ d lt. says d),
        record {
          entries = a.more;
          are_servers = a.servers;
          talk = talk_path G login login _ _ _ _ _ _ refl grown (ap (λ d. (w'.links d).heard) counts ∙ hears w.count)
              (ap w'.commands counts ∙ says w.count ∙ sym (append-nil _));
        },
      )

  -- so after a line that it sends by itself
  sends_silence : (login : List ℕ) (w : World G) (b : G.Board) (t : List ℕ) → IsWorld w
      → IsWorld (sends (record w { board = b }) t) × Silence login w (sends (record w { board = b }) t)
  sends_silence login w b t i =
      silence login w w 0 t _ i refl refl (λ d. refl) (λ d. refl) (answers_line G 0 w b t)

  -- the client's machine stays silent while the server takes a line
  serve : (login : List ℕ) (w : World G) (c d1 d2 : ℕ) (o : Option (List ℕ × List ℕ)) → IsWorld w
      → IsWorld (serves c w d1 d2 o) × Silence login w (serves c w d1 d2 o)
  serve login w c d1 d2 None i = (
    i,
    record {
      entries = [];
      are_servers = tt;
      talk = talk_path G login login _ _ _ _ _ _ refl (sym (append-nil w.log)) refl (sym (append-nil _));
    },
  )
  serve login w c d1 d2 (Some p) i =
      let l : Link = taken (w.links c) (on_wire p.0) p.1 in
      let s = answered G w.board w.logged_in c (is_empty (w.links c).served) p.0 d1 d2 in
      silence login w (linked w c l) c _ _ i refl refl (linked_keeps G (λ (x : Link). x.heard) w c l refl) (λ d. refl)
      (answers_served G c (linked w c l) s)

  -- ---- the client's

  -- what a step hands out is on the wire after what the event left there
  asked_is : (w : World G) (moves : Link → Link) (s : Outcome G)
      → ((client_does w moves s).links (connections s.talk.log)).asked
      ≡ (moves (w.links (connections s.talk.log))).asked ++ wire_of s.send
  asked_is w moves s = ap (λ (x : Link). x.asked) (at_it G (connections s.talk.log) _ _)

  -- a connection is opened
  opening : (login : List ℕ) (w : World G) → IsWorld w → nat_eq (open_now w.log) 0 ≡ true
      → IsWorld (after login w Open) × Steps login w (after login w Open) Open M.Open
  opening login w i z =
      let n : ℕ = w.count + 1 in
      let counts = i.counted in
      let more = one_more G w.log n in (
        subst IsWorld (opens_is G login w i z)
            (record {
              counted = omega arith;
              newest = inr (open_append G 0 w.log (L.Opened n ∷ []));
              unheard = λ d lt.
                  ap (λ (x : Link). x.heard) (elsewhere G d n _ (w.links d) (λ e. absurd (omega arith)))
                  ∙ i.unheard d (omega arith);
              unsaid = λ d lt.
                  elsewhere G d n _ (w.commands d) (λ e. absurd (omega arith)) ∙ i.unsaid d (omega arith);
            }),
        record {
          talk = subst (λ (s : Outcome G). talk_of login (client_does w (λ l. l) s) ≡ s.talk)
              (sym (step_opens G (talk_of login w) z))
              (talk_is G login w (λ l. l) (record { talk = opened (talk_of login w); send = login ∷ [] }) refl
              (i.unheard _ (let m = one_more G w.log (suc (connections w.log)) in omega arith)));
          asked = asked_is w (λ l. l) (step (talk_of login w) M.Open);
        },
      )

  -- a connection is lost
  losing : (login : List ℕ) (w : World G) (k : ℕ) → IsWorld w → 0 < open_now w.log
      → IsWorld (after login w (Lose k)) × Steps login w (after login w (Lose k)) (Lose k) M.Lose
  losing login w k i some =
      let es : List (Entry G) = L.Lost (open_now w.log) (unconfirmed (open_now w.log) w.log) ∷ [] in (
        subst IsWorld (loses_is G login w k i some)
            (record {
              counted = no_more G w.log es refl ∙ i.counted;
              newest = inl (open_append G 0 w.log es);
              unheard = λ d lt.
                  linked_keeps G (λ (x : Link). x.heard) w (open_now w.log) (cut_off (w.links (open_now w.log)) k) refl
                  d
                  ∙ i.unheard d lt;
              unsaid = i.unsaid;
            }),
        record {
          talk = subst (λ (s : Outcome G). talk_of login (client_does w (λ l. cut_off l k) s) ≡ s.talk)
              (sym (step_loses G (talk_of login w) some))
              (talk_is G login w (λ l. cut_off l k) (does (talk_of login w) es []) refl
              (ap (λ n. (w.links n).heard) (no_more G w.log es refl ∙ i.counted)));
          asked = asked_is w (λ l. cut_off l k) (step (talk_of login w) M.Lose);
        },
      )

  -- ---- each event

  -- the client's machine goes along with each event that is accepted
  both : (login : List ℕ) (w : World G) (e : Event G) → IsWorld w → refusal w e ≡ None
      → IsWorld (after login w e) × Follows login w e (input_of w e)
  both login w Open i h = opening login w i (is_closed G w h)
  both login w (Lose k) i h = losing login w k i (is_open G NotOpen _ h)
  both login w (Serve c d1 d2) i h = serve login w c d1 d2 (next_line (w.links c).asked) i
  both login w (Own b) i h = sends_silence login w b (G.spelling b) i
  both login w Repeat i h = sends_silence login w w.board (G.spelling w.board) i
  both login w (Text t) i h = sends_silence login w w.board t i
  both login w (Click d) i h = (
    does_sound G login w (Click d) i h tt,
    record {
      talk = does_talk G login w (Click d) (M.Click d) i h tt refl;
      asked = asked_is w (λ l. l)
          (step (talk_of login w) (M.Click d));
    },
  )
  both login w (Plain p) i h = (
    does_sound G login w (Plain p) i h tt,
    record {
      talk = does_talk G login w (Plain p) (M.PlainInput p) i h tt refl;
      asked = asked_is w (λ l. l)
          (step (talk_of login w) (M.PlainInput p));
    },
  )
  both login w (Deliver n) i h = (
    does_sound G login w (Deliver n) i h tt,
    record {
      talk = does_talk G login w (Deliver n) _ i h tt refl;
      asked = asked_is w (λ l. delivered l n)
          (step (talk_of login w) (M.Piece (take n (w.links w.count).coming)));
    },
  )
  both login w Order i h = (
    does_sound G login w Order i h tt,
    record {
      talk = does_talk G login w Order M.Order i h tt refl;
      asked = asked_is w (λ l. l)
          (step (talk_of login w) M.Order);
    },
  )
  both login w Withdraw i h = (
    does_sound G login w Withdraw i h tt,
    record {
      talk = does_talk G login w Withdraw M.Withdraw i h tt refl;
      asked = asked_is w (λ l. l)
          (step (talk_of login w) M.Withdraw);
    },
  )

  -- the client's machine is a projection of the world's
  pub talk_is_projected : TalkIsProjected G
  talk_is_projected = record {
    starts = λ b. record { counted = refl; newest = inl refl; unheard = λ c lt. refl; unsaid = λ c lt. refl };
    goes_on = both;
  }

  -- the world at first is one
  pub sound_start : (b : G.Board) → IsWorld {G = G} (start b)
  sound_start b = talk_is_projected.starts b

  -- and so is the world after an event that is accepted
  pub sound_after : (login : List ℕ) (w : World G) (e : Event G) → IsWorld w → refusal w e ≡ None
      → IsWorld (after login w e)
  sound_after login w e i h = (both login w e i h).0

  -- so is the world after a list of events
  pub sound_all : (login : List ℕ) (es : List (Event G)) (w : World G) → AllAccepted login w es → IsWorld w
      → IsWorld (after_all login w es)
  sound_all login [] w ok i = i
  sound_all login (e ∷ es) w ok i = sound_all login es (after login w e) ok.1 (sound_after login w e i ok.0)
