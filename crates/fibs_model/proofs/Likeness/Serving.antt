-- The server takes a line, and answers it.
use Rattle.std.proofs.Common.{◌≡◌, ◌≤◌, ℕ, List, [], ◌∷◌, ◌++◌, Some, length, if◌then◌else◌, refl, sym, ap, subst, ◌∙◌, arith, append-nil, map}
use Rattle.fibs_fields.specs.Board.{BoardFields, spelling}
use Rattle.fibs_session.specs.History.Log as L
use Rattle.fibs_session.specs.History.Log.{Entry}
use Rattle.fibs_session.specs.History.Words.{is_empty, open_now}
use Rattle.fibs_session.specs.History.Machine.{on_wire}
use Rattle.fibs_session.specs.Calls.ClientLaws.{ServersEntriesAreSilent}
use Rattle.fibs_session.specs.Calls.Standing.{StandsAfter}
use Rattle.fibs_model.specs.Server.{ServerValue, Served, Stale, LoggedIn, Took, Undone, Answered}
use Rattle.fibs_model.specs.Calls.{send_links, TakesNext}
use Rattle.fibs_model.specs.EntryOf.{entry_of}
use Rattle.fibs_model.specs.declared.entry.Entry as C
use Rattle.fibs_model.specs.Events.{Serve}
use Rattle.fibs_model.specs.LinksOf.{LinkValue, kept_of, link_at}
use Rattle.fibs_model.specs.ServerOf.{after_line, served_entries, is_answered}
use Rattle.fibs_model.specs.Wires as whole
use Rattle.fibs_model.specs.Wires.{next_line}
use Rattle.fibs_model.specs.WireLinks.{taken}
use Rattle.fibs_model.specs.World.{World, after, linked, noted, sends, serves, does_served, talk_of}
use Rattle.fibs_model.specs.WorldOf.{WorldValue, StandsFor, Goes, May}
use Rattle.fibs_game.proofs.Answering.{answered_at}
use Rattle.fibs_session.specs.Fibs.{fibs}
use Rattle.fibs_game.proofs.Refusing.{served}
use Rattle.fibs_game.proofs.past.Past.{open_append}
use Rattle.fibs_model.proofs.Likeness.Whole.{some_taken}
use Rattle.fibs_model.proofs.Likeness.Links.{links_linked, length_set_link, value_path}
use Rattle.fibs_model.proofs.Likeness.Sending.{sent_links, sends_rest, length_sent}
use Rattle.fibs_model.proofs.Likeness.Events.{current_known, client_waits, sound_after}

-- a server, wires, a log and the open connection are those of a world
record Fits (holder : ServerValue) (wires : List LinkValue) (entries : List Entry) (now : ℕ) (w : World) : Type 0 where
  board : holder.board ≡ w.board
  logged_in : holder.logged_in ≡ w.logged_in
  count : length wires ≡ w.count
  log : entries ≡ w.log
  current : now ≡ open_now w.log
  links : (d : ℕ) → kept_of (w.links d) ≡ link_at wires d

-- a line is sent
fits_sends : (server : ServerValue) (links : List LinkValue) (log : List Entry) (current : ℕ) (w : World)
    (line : List ℕ) → current ≤ length links → Fits server links log current w
    → Fits server (send_links server.logged_in current links line) log current (sends w line)
fits_sends server links log current w line known f =
    let r = sends_rest w line in
    record {
      board = f.board ∙ sym r.board;
      logged_in = f.logged_in ∙ sym r.logged_in;
      count = length_sent server.logged_in current links line ∙ f.count ∙ sym r.count;
      log = f.log ∙ sym r.log;
      current = f.current ∙ ap open_now (sym r.log);
      links = sent_links w links server.logged_in current line f.links f.logged_in f.current known;
    }

-- a line of c is answered, if w is the world without the line
fits_served : (server : ServerValue) (links : List LinkValue) (log : List Entry) (current c : ℕ) (w : World)
    (s : Served) → current ≤ length links → Fits server links log current w
    → Fits (after_line server c s)
    (if is_answered s then send_links (after_line server c s).logged_in current links
    (spelling (after_line server c s).board) else links)
    (log ++ served_entries c server.board s) current (does_served c w s)
fits_served server links log current c w Stale known f =
    record {
      board = f.board;
      logged_in = f.logged_in;
      count = f.count;
      log = append-nil log
          ∙ f.log;
      current = f.current;
      links = f.links;
    }
fits_served server links log current c w LoggedIn known f = record {
  board = f.board;
  logged_in = refl;
  count = f.count;
  log = ap (λ l. l ++ L.LoggedIn c ∷ []) f.log;
  current = f.current ∙ sym ((open_append fibs) 0 w.log (L.LoggedIn c ∷ []));
  links = f.links;
}
fits_served server links log current c w (Took d b) known f =
    fits_sends (after_line server c (Took d b)) links (log ++ L.Took c server.board d ∷ []) current
    (noted (record w { board = b }) (L.Took c w.board d ∷ [])) (spelling b) known
    (record {
      board = refl;
      logged_in = f.logged_in;
      count = f.count;
      log = ap (λ l. l ++ L.Took c server.board d ∷ []) f.log ∙ ap (λ x. w.log ++ L.Took c x d ∷ []) f.board;
      current = f.current ∙ sym ((open_append fibs) 0 w.log (L.Took c w.board d ∷ []));
      links = f.links;
    })
fits_served server links log current c w (Undone d) known f =
    subst (λ x. Fits server (send_links server.logged_in current links (spelling server.board))
    (log ++ L.Undone c server.board d ∷ []) current (sends (noted w (L.Undone c w.board d ∷ [])) (spelling x))) f.board
    (fits_sends server links _ current (noted w (L.Undone c w.board d ∷ [])) (spelling server.board) known
    (record {
      board = f.board;
      logged_in = f.logged_in;
      count = f.count;
      log = ap (λ l. l ++ L.Undone c server.board d ∷ []) f.log ∙ ap (λ x. w.log ++ L.Undone c x d ∷ []) f.board;
      current = f.current ∙ sym ((open_append fibs) 0 w.log (L.Undone c w.board d ∷ []));
      links = f.links;
    }))
fits_served server links log current c w Answered known f =
    subst (λ x. Fits server (send_links server.logged_in current links (spelling server.board)) (log ++ []) current
    (sends w (spelling x))) f.board
    (fits_sends server links _ current w (spelling server.board) known
    (record {
      board = f.board;
      logged_in = f.logged_in;
      count = f.count;
      log = append-nil log
          ∙ f.log;
      current = f.current;
      links = f.links;
    }))

module _ (law : ServersEntriesAreSilent) (v v' : WorldValue) (c d1 d2 : ℕ) (s : Served) (wires : List LinkValue)
    (takes : TakesNext v.server v'.server v.links wires c d1 d2 s)
    (links : v'.links ≡ (if is_answered s then send_links v'.server.logged_in v.current wires (spelling v'.server.board)
    else wires))
    (log : v'.log ≡ v.log ++ served_entries c v.server.board s) (current : v'.current ≡ v.current)
    (client : v'.client ≡ v.client) (may : May v (Serve c d1 d2)) where
  -- the server that takes the next line of a connection, the wires, and the log fit the machine's world after it
  fits : (login : List ℕ) (w : World) → StandsFor v login w
      → Fits v'.server v'.links v'.log v'.current (after login w (Serve c d1 d2))
  fits login w h =
      let r = (served fibs) w c d1 d2 (may login w h) in
      let p = takes.line in
      let found : next_line (w.links c).asked ≡ Some p =
      ap (λ (l : LinkValue). next_line l.asked) (h.links c) ∙ takes.next in
      let l1 : whole.Link = whole.taken (w.links c) (on_wire p.0) p.1 in
      let w1 : World = linked w c l1 in
      let known = current_known v login w h in
      let before : Fits v.server wires v.log v.current w1 = record {
        board = h.board;
        logged_in = h.logged_in;
        count = ap length takes.links ∙ length_set_link v.links c _ ∙ h.count;
        log = h.log;
        current = h.current;
        links = λ d. links_linked w v.links c _ l1 h.links
            (ap (λ x. taken x p.1) (sym (h.links c)) ∙ value_path refl refl (sym (some_taken (w.links c).served p.0)))
            r.some (omega (arith, r.known, h.count)) d ∙ ap (λ ls. link_at ls d) (sym takes.links);
      } in
      let many : length wires ≡ length v.links = ap length takes.links ∙ length_set_link v.links c _ in
      let after_it = fits_served v.server wires v.log v.current c w1 s (omega (arith, many, known)) before in
      let is : s ≡ (answered_at fibs) w.board w.logged_in c (is_empty (w.links c).served) p.0 d1 d2 =
      takes.answer
      ∙ ap (λ b. (answered_at fibs) b v.server.logged_in c (link_at v.links c).fresh p.0 d1 d2) h.board
      ∙ ap (λ n. (answered_at fibs) w.board n c (link_at v.links c).fresh p.0 d1 d2) h.logged_in
      ∙ ap (λ (l : LinkValue). (answered_at fibs) w.board w.logged_in c l.fresh p.0 d1 d2) (sym (h.links c)) in
      subst (λ o. Fits v'.server v'.links v'.log v'.current (serves c w d1 d2 o)) (sym found)
      (subst (λ x. Fits v'.server v'.links v'.log v'.current (does_served c w1 x)) is
      (subst (λ x. Fits v'.server v'.links v'.log x (does_served c w1 s)) (sym current)
      (subst (λ x. Fits v'.server v'.links x v.current (does_served c w1 s)) (sym log)
      (subst (λ x. Fits v'.server x (v.log ++ served_entries c v.server.board s) v.current (does_served c w1 s))
      (sym links)
      (subst (λ x. Fits x (if is_answered s then send_links x.logged_in v.current wires (spelling x.board) else wires)
      (v.log ++ served_entries c v.server.board s) v.current (does_served c w1 s)) (sym takes.server) after_it)))))

  -- the server takes the next line of a connection as the machine's does
  pub served_stands : Goes v v' (Serve c d1 d2)
  served_stands login w h =
      let f = fits login w h in
      let r = may login w h in
      record {
        board = f.board;
        logged_in = f.logged_in;
        count = f.count;
        log = f.log;
        current = f.current;
        links = f.links;
        client = client_waits law login w (Serve c d1 d2) v'.client h.sound r refl
            (subst (λ x. StandsAfter x (talk_of login w)) (sym client) h.client);
        sound = sound_after login w (Serve c d1 d2) h.sound r;
      }

-- the connection is one of those
pub serve_known : (v : WorldValue) (login : List ℕ) (w : World) (c d1 d2 : ℕ) → StandsFor v login w
    → May v (Serve c d1 d2) → c ≤ length v.links
serve_known v login w c d1 d2 s may = let r = (served fibs) w c d1 d2 (may login w s) in omega (arith, r.known, s.count)

-- after a growth
pub takes_after : (old new : ServerValue) (links grown after : List LinkValue) (c d1 d2 : ℕ) (s : Served)
    → grown ≡ links → TakesNext old new grown after c d1 d2 s → TakesNext old new links after c d1 d2 s
takes_after old new links grown after c d1 d2 s g t = subst (λ ls. TakesNext old new ls after c d1 d2 s) g t

-- entries of the server noted after a growth are noted after the log before it
pub note_after : (log grown new : List C.Entry) (es : List L.Entry) (board before : BoardFields) (c : ℕ) (s : Served)
    → grown ≡ log → board ≡ before
    → map entry_of new ≡ map entry_of grown ++ es → es ≡ served_entries c board s
    → map entry_of new ≡ map entry_of log ++ served_entries c before s
note_after log grown new es board before c s g b n e =
    n
    ∙ ap (λ l. map entry_of grown ++ l) e
    ∙ ap (λ l. map entry_of l ++ served_entries c board s) g
    ∙ ap (λ x. map entry_of log ++ served_entries c x s) b
