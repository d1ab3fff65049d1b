-- The client hands out commands.
use Rattle.std.proofs.Common.{◌≡◌, ◌<◌, ℕ, List, [], ◌∷◌, ◌++◌, Option, Some, None, length, refl, sym, ap, subst, ◌∙◌, arith, append-nil, map, flat_map}
use Rattle.fibs_fields.specs.Board.{BoardFields}
use Rattle.fibs_position.specs.DecisionValue.{DecisionValue}
use Rattle.fibs_commands.specs.PlainCommands.{PlainValue, plain_of}
use Rattle.fibs_game.specs.declared.refusal.Refusal.{Refusal}
use Rattle.fibs_session.specs.declared.histories.refusal.PlainRefusal.{PlainRefusal}
use Rattle.fibs_session.specs.History.Log.{Entry, Clicked, Sent, Ordered, Withdrawn}
use Rattle.fibs_session.specs.History.Words.{open_from, open_now, opened_by, answer}
use Rattle.fibs_session.specs.History.Machine.{Talk, answer_now, shown_now, clicks_by, decides_on, plain_refusal, order_refusal, withdraw_refusal, wire_of, sends_plain as talk_sends_plain}
use Rattle.fibs_session.specs.History.Machine as M
use Rattle.fibs_session.specs.Calls.Standing.{StandsAfter}
use Rattle.fibs_session.specs.Calls.Doing.{Does}
use Rattle.fibs_model.specs.EntryOf.{entry_of}
use Rattle.fibs_model.specs.declared.entry.Entry as C
use Rattle.fibs_game.specs.Talks.{input_of}
use Rattle.fibs_model.specs.Refusals.{refusal}
use Rattle.fibs_model.specs.Calls.{ask_links, click_entries, unless_refused}
use Rattle.fibs_model.specs.Events.{Event, Click, Plain, Order, Withdraw}
use Rattle.fibs_model.specs.LinksOf.{LinkValue, kept_of, link_at, set_link}
use Rattle.fibs_model.specs.Server.{command}
use Rattle.fibs_model.specs.WireLinks.{more_asked}
use Rattle.fibs_model.specs.World.{World, after, client_does, noted, linked, talk_of}
use Rattle.fibs_game.proofs.Stepping.{asks, does_is, newest, noted_is, stays_is}
use Rattle.fibs_model.specs.WorldOf.{WorldValue, StandsFor, Goes}
use Rattle.fibs_game.proofs.past.Words.{yes}
use Rattle.fibs_game.proofs.Refusing.{said}
use Rattle.fibs_game.proofs.past.Past.{open_append}
use Rattle.fibs_session.specs.Fibs.{fibs}
use Rattle.fibs_model.specs.Wires as whole
use Rattle.fibs_model.proofs.Likeness.Links.{links_linked, length_set_link}
use Rattle.fibs_model.proofs.Likeness.Events.{current_known, client_after, sound_after}

-- commands that are handed out leave as many connections as there were
length_asked : (links : List LinkValue) (c : ℕ) (ts : List (List ℕ)) → length (ask_links links c ts) ≡ length links
length_asked links c [] = refl
length_asked links c (t ∷ ts) = length_set_link links c _

-- what an answer of the client does to the rest of the world: w' is the world after it
record Asks (v : WorldValue) (w w' : World) (send : List (List ℕ)) (entries : List Entry) : Type 0 where
  board : w'.board ≡ w.board
  logged_in : w'.logged_in ≡ w.logged_in
  count : w'.count ≡ w.count
  log : w'.log ≡ w.log ++ entries
  here : open_now w'.log ≡ open_now w.log
  links : (d : ℕ) → kept_of (w'.links d) ≡ link_at (ask_links v.links v.current send) d

-- nothing is handed out
asks_nothing : (v : WorldValue) (login : List ℕ) (w : World) (e : Entry) (send : List (List ℕ)) → StandsFor v login w
    → send ≡ [] → open_now (w.log ++ e ∷ []) ≡ open_now w.log
    → Asks v w (noted w (e ∷ [])) send (e ∷ [])
asks_nothing v login w e send s none here = record {
  board = refl;
  logged_in = refl;
  count = refl;
  log = refl;
  here = here;
  links = λ d. s.links d ∙ ap (λ ts. link_at (ask_links v.links v.current ts) d) (sym none);
}

-- a command is handed out
asks_one : (v : WorldValue) (login : List ℕ) (w : World) (es : List Entry) (send : List (List ℕ)) (t : List ℕ)
    → StandsFor v login w → send ≡ t ∷ [] → 0 < open_now w.log
    → open_now (w.log ++ es) ≡ open_now w.log → Asks v w (asks (noted w es) (open_now w.log) (t ∷ [])) send es
asks_one v login w es send t s one some here = record {
  board = refl;
  logged_in = refl;
  count = refl;
  log = refl;
  here = here;
  links = λ d.
      subst (λ ts. kept_of ((asks (noted w es) (open_now w.log) (t ∷ [])).links d) ≡ link_at
      (ask_links v.links v.current ts) d) (sym one)
      (subst (λ c. kept_of ((linked w c (whole.more_asked (w.links c) (wire_of (t ∷ [])))).links d) ≡ link_at
      (set_link v.links v.current (more_asked (link_at v.links v.current) (wire_of (t ∷ [])))) d) s.current
      (links_linked w v.links v.current _ (whole.more_asked (w.links v.current) (wire_of (t ∷ []))) s.links
      (ap (λ l. more_asked l (wire_of (t ∷ []))) (sym (s.links v.current))) (omega (arith, some, s.current))
      (current_known v login w s) d));
}

module _ (v v' : WorldValue) (send : List (List ℕ))
    (server : v'.server ≡ v.server) (links : v'.links ≡ ask_links v.links v.current send)
    (current : v'.current ≡ v.current) where
  -- a call of the client that does what the machine's input does leads to the world after the event
  stands_on : (login : List ℕ) (w : World) (e : Event) (i : M.InputValue) (entries : List Entry) → StandsFor v login w
      → v'.log ≡ v.log ++ entries
      → Asks v w (after login w e) send entries → refusal w e ≡ None → input_of w e ≡ Some i
      → Does v.client v'.client i send → StandsFor v' login (after login w e)
  stands_on login w e i entries s log a may is does = record {
    board = ap (λ x. x.board) server ∙ s.board ∙ sym a.board;
    logged_in = ap (λ x. x.logged_in) server ∙ s.logged_in ∙ sym a.logged_in;
    count = ap length links ∙ length_asked v.links v.current send ∙ s.count ∙ sym a.count;
    log = log ∙ ap (λ l. l ++ entries) s.log ∙ sym a.log;
    current = current ∙ s.current ∙ sym a.here;
    links = λ d. a.links d ∙ ap (λ ls. link_at ls d) (sym links);
    client = client_after login w e i v.client v'.client send s.sound may is does s.client;
    sound = sound_after login w e s.sound may;
  }

  -- a step of the client that notes entries, and hands out a command
  asks_step : (login : List ℕ) (w : World) (es : List Entry) (t : List ℕ) → StandsFor v login w → send ≡ t ∷ []
      → 0 < open_now w.log → open_now (w.log ++ es) ≡ open_now w.log → flat_map opened_by es ≡ []
      → Asks v w (client_does w (λ l. l) (M.does (talk_of login w) es (t ∷ []))) send es
  asks_step login w es t s one some here none =
      subst (λ u. Asks v w u send es) ((does_is fibs) login w es (t ∷ []) s.sound.counted none)
      (subst (λ n. Asks v w (asks (noted w es) n (t ∷ [])) send es) ((newest fibs) w s.sound some)
      (asks_one v login w es send t s one some here))

  -- one that does nothing
  asks_none : (login : List ℕ) (w : World) → StandsFor v login w → send ≡ []
      → Asks v w (client_does w (λ l. l) (M.stays (talk_of login w))) send []
  asks_none login w s none =
      subst (λ u. Asks v w u send []) ((stays_is fibs) login w s.sound.counted)
      (record {
        board = refl;
        logged_in = refl;
        count = refl;
        log = sym (append-nil w.log);
        here = refl;
        links = λ d. s.links d ∙ ap (λ ts. link_at (ask_links v.links v.current ts) d) (sym none);
      })

  -- a click
  pub clicked_stands : (d : DecisionValue) (a : Option Refusal) (b : Option BoardFields)
      → v'.log ≡ v.log ++ click_entries v.current d a b
      → ((t : Talk) → StandsAfter v.client t → a ≡ answer_now t d)
      → ((t : Talk) → StandsAfter v.client t → b ≡ shown_now t)
      → Does v.client v'.client (M.Click d) send → Goes v v' (Click d)
  clicked_stands d a b log answers boards does login w s =
      let t : Talk = talk_of login w in
      stands_on login w (Click d) (M.Click d) (click_entries v.current d a b) s log
      (subst (λ n. Asks v w (after login w (Click d)) send (click_entries n d a b)) (sym s.current)
      (subst (λ x. Asks v w (after login w (Click d)) send (click_entries (open_now w.log) d x b))
      (sym (answers t s.client))
      (subst (λ x. Asks v w (after login w (Click d)) send (click_entries (open_now w.log) d (answer_now t d) x))
      (sym (boards t s.client))
      (go (answer w.log d) refl (does.hands t s.client)))))
      refl refl does
    where
      go : (x : Option Refusal) → answer w.log d ≡ x → send ≡ (clicks_by (talk_of login w) d x).send
          → Asks v w (client_does w (λ l. l) (clicks_by (talk_of login w) d x)) send
          (click_entries (open_now w.log) d x (shown_now (talk_of login w)))
      go (Some x) e none =
          let es : List Entry = Clicked (open_now w.log) d (Some x) ∷ [] in
          subst (λ u. Asks v w u send es) ((noted_is fibs) login w es s.sound.counted refl)
          (asks_nothing v login w (Clicked (open_now w.log) d (Some x)) send s none ((open_append fibs) 0 w.log es))
      go None e one =
          let y = (yes fibs) w.log d e in
          let es : List Entry = Clicked (open_now w.log) d None ∷ Sent (open_now w.log) y.on d ∷ [] in
          subst (λ o. send ≡ (decides_on (talk_of login w) d o).send
          → Asks v w (client_does w (λ l. l) (decides_on (talk_of login w) d o)) send
          (click_entries (open_now w.log) d None o)) (sym y.is_last)
          (λ one. asks_step login w es (command y.on d) s one y.some ((open_append fibs) 0 w.log es) refl) one

  -- a plain command
  pub said_stands : (p : PlainValue) → v'.log ≡ v.log → Does v.client v'.client (M.PlainInput p) send
      → Goes v v' (Plain p)
  said_stands p log does login w s =
      let t : Talk = talk_of login w in
      stands_on login w (Plain p) (M.PlainInput p) [] s (log ∙ sym (append-nil v.log))
      (go (plain_refusal t p) refl (does.hands t s.client)) refl refl does
    where
      go : (x : Option PlainRefusal) → plain_refusal (talk_of login w) p ≡ x
          → send ≡ (talk_sends_plain (talk_of login w) p x).send
          → Asks v w (client_does w (λ l. l) (talk_sends_plain (talk_of login w) p x)) send []
      go (Some why) e none = asks_none login w s none
      go None e one =
          asks_step login w [] (plain_of p) s one ((said fibs) (talk_of login w) p e).0
          (ap open_now (append-nil w.log)) refl

  -- an order is given or withdrawn, or refused
  noted_or_not : (e : Event) (i : M.InputValue) (note : ℕ → Entry) (refuse : List Entry → Option Refusal)
      → ((login : List ℕ) (w : World)
      → after login w e
      ≡ client_does w (λ l. l) (M.notes_if (talk_of login w) (note (open_now w.log)) (refuse w.log)))
      → ((w : World) → refusal w e ≡ None) → ((w : World) → input_of w e ≡ Some i)
      → ((o n : ℕ) → open_from o (note n ∷ []) ≡ o) → ((n : ℕ) → flat_map opened_by (note n ∷ []) ≡ [])
      → send ≡ [] → (o : Option Refusal)
      → v'.log ≡ v.log ++ unless_refused o (note v.current)
      → ((t : Talk) → StandsAfter v.client t → o ≡ refuse t.log) → Does v.client v'.client i send → Goes v v' e
  noted_or_not e i note refuse is may input silent opens none o log answers does login w s =
      stands_on login w e i (unless_refused o (note v.current)) s log
      (subst (λ x. Asks v w x send (unless_refused o (note v.current))) (sym (is login w))
      (subst (λ n. Asks v w (by (refuse w.log)) send (unless_refused o (note n))) (sym s.current)
      (subst (λ x. Asks v w (by (refuse w.log)) send (unless_refused x (note (open_now w.log))))
      (sym (answers (talk_of login w) s.client)) (go (refuse w.log)))))
      (may w) (input w) does
    where
      by : Option Refusal → World
      by x = client_does w (λ l. l) (M.notes_if (talk_of login w) (note (open_now w.log)) x)

      go : (x : Option Refusal)
          → Asks v w (client_does w (λ l. l) (M.notes_if (talk_of login w) (note (open_now w.log)) x)) send
          (unless_refused x (note (open_now w.log)))
      go (Some why) = asks_none login w s none
      go None =
          subst (λ u. Asks v w u send (note (open_now w.log) ∷ []))
          ((noted_is fibs) login w (note (open_now w.log) ∷ []) s.sound.counted (opens (open_now w.log)))
          (asks_nothing v login w (note (open_now w.log)) send s none
          ((open_append fibs) 0 w.log (note (open_now w.log) ∷ []) ∙ silent (open_now w.log) (open_now w.log)))

  -- a standing order is given
  pub ordered_stands : send ≡ [] → (o : Option Refusal) → v'.log ≡ v.log ++ unless_refused o (Ordered v.current)
      → ((t : Talk) → StandsAfter v.client t → o ≡ order_refusal t.log) → Does v.client v'.client M.Order send
      → Goes v v' Order
  ordered_stands =
      noted_or_not Order M.Order Ordered order_refusal (λ login w. refl) (λ w. refl) (λ w. refl) (λ o n. refl)
      (λ n. refl)

  -- and withdrawn
  pub withdrawn_stands : send ≡ [] → (o : Option Refusal) → v'.log ≡ v.log ++ unless_refused o (Withdrawn v.current)
      → ((t : Talk) → StandsAfter v.client t → o ≡ withdraw_refusal t.log) → Does v.client v'.client M.Withdraw send
      → Goes v v' Withdraw
  withdrawn_stands =
      noted_or_not Withdraw M.Withdraw Withdrawn withdraw_refusal (λ login w. refl) (λ w. refl) (λ w. refl)
      (λ o n. refl) (λ n. refl)

-- after a growth
pub asked_after : (links grown new : List LinkValue) (c : ℕ) (send : List (List ℕ)) → grown ≡ links
    → new ≡ ask_links grown c send → new ≡ ask_links links c send
asked_after links grown new c send g n = n ∙ ap (λ ls. ask_links ls c send) g

-- entries noted after a growth are noted after the log before it
pub noted_after : (log grown new : List C.Entry) (entries : List Entry) → grown ≡ log
    → map entry_of new ≡ map entry_of grown ++ entries → map entry_of new ≡ map entry_of log ++ entries
noted_after log grown new entries g n = n ∙ ap (λ l. map entry_of l ++ entries) g
