-- The server sends a line.
use Rattle.std.proofs.Common.{◌≡◌, ◌≤◌, ◌<◌, ℕ, Bool, true, false, not, ◌&&◌, List, None, length, nat_eq, if◌then◌else◌, refl, sym, ap, subst, ◌∙◌, true≢false, arith}
use Rattle.std.proofs.lemmas.Bool.{eqb-true}
use Rattle.std.specs.Prelude.{Result, Ok, Err, IsOk, OnOk}
use Rattle.std.specs.Result.{result_err}
use Rattle.fibs_model.specs.Server.{own_refusal}
use Rattle.fibs_game.specs.declared.world_refusal.WorldRefusal.{WorldRefusal}
use Rattle.fibs_fields.specs.Board.{BoardFields, spelling}
use Rattle.fibs_session.specs.History.Words.{open_now}
use Rattle.fibs_session.specs.History.Machine.{on_wire}
use Rattle.fibs_session.specs.Calls.ClientLaws.{ServersEntriesAreSilent}
use Rattle.fibs_session.specs.Calls.Standing.{StandsAfter}
use Rattle.fibs_model.specs.Calls.{send_links}
use Rattle.fibs_game.specs.Talks.{input_of}
use Rattle.fibs_model.specs.Events.{Event, Own, Repeat, Text}
use Rattle.fibs_model.specs.LinksOf.{LinkValue, kept_of, link_at, set_link}
use Rattle.fibs_model.specs.Refusals.{refusal}
use Rattle.fibs_model.specs.WireLinks.{more_coming}
use Rattle.fibs_model.specs.World.{World, after, linked, is_talking, sends, talk_of}
use Rattle.fibs_model.specs.WorldOf.{WorldValue, StandsFor, Goes, May}
use Rattle.fibs_game.proofs.joint.Sending.{if_fact, some_of}
use Rattle.fibs_session.specs.Fibs.{fibs}
use Rattle.fibs_game.proofs.past.Lists.{and_left, and_right}
use Rattle.fibs_model.specs.Wires as whole
use Rattle.fibs_model.proofs.Likeness.Links.{links_linked, length_set_link}
use Rattle.fibs_model.proofs.Likeness.Events.{current_known, client_waits, sound_after}

-- the rest of the world
pub record Rest (w w' : World) : Type 0 where
  pub board : w'.board ≡ w.board
  pub logged_in : w'.logged_in ≡ w.logged_in
  pub count : w'.count ≡ w.count
  pub log : w'.log ≡ w.log

-- a line that is sent leaves all of the world but the wires
pub sends_rest : (w : World) (t : List ℕ) → Rest w (sends w t)
sends_rest w t = (if_fact fibs) (Rest w) (is_talking w) _ _
    (λ z. record { board = refl; logged_in = refl; count = refl; log = refl })
    (λ z. record { board = refl; logged_in = refl; count = refl; log = refl })

-- a line that is sent leaves as many connections as there were
pub length_sent : (l c : ℕ) (links : List LinkValue) (line : List ℕ) → length (send_links l c links line) ≡ length links
length_sent l c links line = (if_fact fibs) (λ ls. length ls ≡ length links) (nat_eq c l && not (nat_eq l 0)) _ _
    (λ z. length_set_link links c _) (λ z. refl)

-- the wires after it, if l is logged in, and c open
pub sent_links : (w : World) (links : List LinkValue) (l c : ℕ) (line : List ℕ)
    → ((d : ℕ) → kept_of (w.links d) ≡ link_at links d) → l ≡ w.logged_in → c ≡ open_now w.log → c ≤ length links
    → (d : ℕ) → kept_of ((sends w line).links d) ≡ link_at (send_links l c links line) d
sent_links w links l c line same is here known d =
    subst (λ n. kept_of ((sends w line).links d) ≡ link_at (send_links n c links line) d) (sym is)
    (subst (λ n. kept_of ((sends w line).links d) ≡ link_at (send_links w.logged_in n links line) d) (sym here)
    (go (is_talking w) refl))
  where
    go : (b : Bool) → is_talking w ≡ b
        → kept_of ((if b then linked w w.logged_in (whole.more_coming (w.links w.logged_in) (on_wire line)) else
        w).links d)
        ≡ link_at (if b then set_link links (open_now w.log)
        (more_coming (link_at links (open_now w.log)) (on_wire line)) else links) d
    go false e = same d
    go true e =
        let k : open_now w.log ≡ w.logged_in = eqb-true _ _ (and_left _ _ e) in
        let within : w.logged_in ≤ length links = omega (arith, known, k, here) in
        let some : 0 < w.logged_in = (some_of fibs) w.logged_in (and_right _ _ e) in
        subst (λ n. kept_of ((linked w w.logged_in (whole.more_coming (w.links w.logged_in) (on_wire line))).links d)
        ≡ link_at (set_link links n (more_coming (link_at links n) (on_wire line))) d) (sym k)
        (links_linked w links w.logged_in _ (whole.more_coming (w.links w.logged_in) (on_wire line)) same
        (ap (λ x. more_coming x (on_wire line)) (sym (same w.logged_in))) some within d)

-- The server's board is b, and a line is sent: w' is the machine's world before the line.
module _ (law : ServersEntriesAreSilent) (v v' : WorldValue) (line : List ℕ)
    (logged_in : v'.server.logged_in ≡ v.server.logged_in)
    (links : v'.links ≡ send_links v.server.logged_in v.current v.links line)
    (log : v'.log ≡ v.log) (current : v'.current ≡ v.current) (client : v'.client ≡ v.client) where
  -- a server that sends a line leads to the world after the event, if the machine's sends it
  stands_on : (login : List ℕ) (w w' : World) (e : Event) → StandsFor v login w → Rest w' (after login w e)
      → w'.log ≡ w.log → w'.logged_in ≡ w.logged_in → w'.count ≡ w.count
      → v'.server.board ≡ w'.board → ((d : ℕ) → (after login w e).links d ≡ (sends w' line).links d)
      → ((d : ℕ) → w'.links d ≡ w.links d)
      → refusal w e ≡ None → input_of w e ≡ None → StandsFor v' login (after login w e)
  stands_on login w w' e s r same who many board wires old may waits = record {
    board = board ∙ sym r.board;
    logged_in = logged_in ∙ s.logged_in ∙ sym who ∙ sym r.logged_in;
    count = ap length links ∙ length_sent v.server.logged_in v.current v.links line ∙ s.count ∙ sym many ∙ sym r.count;
    log = log ∙ s.log ∙ sym same ∙ sym r.log;
    current = current ∙ s.current ∙ ap open_now (sym same ∙ sym r.log);
    links = λ d. ap kept_of (wires d)
        ∙ sent_links w' v.links v.server.logged_in v.current line (λ x. ap kept_of (old x) ∙ s.links x)
        (s.logged_in ∙ sym who) (s.current ∙ ap open_now (sym same)) (current_known v login w s) d
        ∙ ap (λ ls. link_at ls d) (sym links);
    client = client_waits law login w e v'.client s.sound may waits
        (subst (λ x. StandsAfter x (talk_of login w)) (sym client) s.client);
    sound = sound_after login w e s.sound may;
  }

  -- a board of the server's own is set and sent
  pub own_stands : (b : BoardFields) → v'.server.board ≡ b → line ≡ spelling b → May v (Own b) → Goes v v' (Own b)
  own_stands b board is may login w s =
      stands_on login w (record w { board = b }) (Own b) s (sends_rest (record w { board = b }) (spelling b)) refl refl
      refl board
      (λ d. ap (λ t. (sends (record w { board = b }) t).links d) (sym is)) (λ d. refl) (may login w s) refl

  -- the server's board is sent once more
  pub repeat_stands : v'.server ≡ v.server → line ≡ spelling v.server.board → Goes v v' Repeat
  repeat_stands server is login w s =
      stands_on login w w Repeat s (sends_rest w (spelling w.board)) refl refl refl (ap (λ x. x.board) server ∙ s.board)
      (λ d. ap (λ t. (sends w t).links d) (sym (is ∙ ap spelling s.board))) (λ d. refl) refl refl

  -- a text is sent
  pub text_stands : v'.server ≡ v.server → May v (Text line) → Goes v v' (Text line)
  text_stands server may login w s =
      stands_on login w w (Text line) s (sends_rest w line) refl refl refl (ap (λ x. x.board) server ∙ s.board)
      (λ d. refl) (λ d. refl) (may login w s) refl

-- the server takes a board that may be
no_error : {A E : Type 0} (r : Result A E) → result_err r ≡ None → IsOk r
no_error (Ok x) h = refl
no_error (Err e) h = cc

-- the server takes a board of its own that the machine does not refuse
pub own_is_ok : {A : Type 0} (r : Result A WorldRefusal) (v : WorldValue) (login : List ℕ) (w : World) (b : BoardFields)
    → StandsFor v login w → May v (Own b)
    → result_err r ≡ own_refusal v.server.board b → IsOk r
own_is_ok r v login w b s may e = no_error r (e ∙ ap (λ x. own_refusal x b) s.board ∙ may login w s)

-- what holds of a success holds of what succeeded
pub of_ok : {A E P : Type 0} (r : Result A E) → IsOk r → OnOk r P → P
of_ok (Ok x) is p = p
of_ok (Err e) is p = absurd (true≢false (sym is))

-- after a growth
pub sent_after : (links grown new : List LinkValue) (logged_in now c : ℕ) (line : List ℕ) → grown ≡ links
    → now ≡ logged_in → new ≡ send_links now c grown line → new ≡ send_links logged_in c links line
sent_after links grown new logged_in now c line g i n =
    n ∙ ap (λ ls. send_links now c ls line) g ∙ ap (λ l. send_links l c links line) i
