-- A connection is opened.
use Rattle.std.proofs.Common.{◌≡◌, ◌+◌, ℕ, Bool, true, false, not, List, [], ◌∷◌, ◌++◌, Some, None, length, nat_eq, if◌then◌else◌, refl, sym, ap, subst, ◌∙◌, append-nil}
use Rattle.std.proofs.lemmas.List.{length-append, map_push}
use Rattle.fibs_model.specs.declared.world.link.Link as C
use Rattle.fibs_session.specs.History.Log as L
use Rattle.fibs_session.specs.History.Words.{open_now}
use Rattle.fibs_session.specs.History.Machine.{Outcome, stays, opened, on_wire}
use Rattle.fibs_session.specs.History.Machine as M
use Rattle.fibs_session.specs.Calls.Doing.{Does}
use Rattle.fibs_model.specs.Events.{Open}
use Rattle.fibs_model.specs.LinksOf.{LinkValue, no_link, kept_of, link_of, seen, link_at}
use Rattle.fibs_model.specs.WireLinks.{more_asked}
use Rattle.fibs_model.specs.World.{World, talk_of}
use Rattle.fibs_model.specs.WorldOf.{WorldValue, StandsFor, Goes, May}
use Rattle.fibs_game.specs.declared.world_refusal.WorldRefusal.TheVariants.{AlreadyOpen}
use Rattle.fibs_game.proofs.Stepping.{opens_is}
use Rattle.fibs_game.proofs.past.Past.{open_append}
use Rattle.fibs_session.specs.Fibs.{fibs}
use Rattle.fibs_model.specs.Wires as whole
use Rattle.fibs_model.proofs.Likeness.Whole.{kept_if}
use Rattle.fibs_model.proofs.Likeness.Links.{link_at_push, link_at_none, value_path}
use Rattle.fibs_model.proofs.Likeness.Events.{client_after, sound_after, stands_by}

-- the new wires
abbrev pub new_link : List ℕ → LinkValue
new_link text = record { coming = []; asked = on_wire text; fresh = true }

-- a connection that may be opened is not open yet
closed : (z : Bool) → (if z then None else Some AlreadyOpen) ≡ None → z ≡ true
closed true h = refl
closed false h = cc

-- two lists of one are of the same element
first : (a b : List ℕ) → a ∷ [] ≡ b ∷ [] → a ≡ b
first a b h = cc

module _ (v v' : WorldValue) (text : List ℕ)
    (server : v'.server ≡ v.server) (links : v'.links ≡ v.links ++ new_link text ∷ [])
    (log : v'.log ≡ v.log ++ L.Opened (length v.links + 1) ∷ [])
    (current : v'.current ≡ length v.links + 1) (does : Does v.client v'.client M.Open (text ∷ [])) (may : May v Open)
  where
    is_login : (login : List ℕ) (w : World) → StandsFor v login w → nat_eq (open_now w.log) 0 ≡ true → text ≡ login
    is_login login w s offline = first text login
        (does.hands (talk_of login w) s.client ∙ ap (λ b. (step_if (not b)).send) offline)
      where
        step_if : Bool → Outcome
        step_if b = if b then stays (talk_of login w) else record { talk = opened (talk_of login w); send = login ∷ [] }

    -- the world after it
    pub opened_stands : Goes v v' Open
    opened_stands login w s =
        let r = may login w s in
        let is : text ≡ login = is_login login w s (closed (nat_eq (open_now w.log) 0) r) in
        let number : length v.links + 1 ≡ w.count + 1 = ap (λ n. n + 1) s.count in
        let none : kept_of (w.links (w.count + 1)) ≡ no_link =
        s.links (w.count + 1) ∙ subst (λ n. link_at v.links n ≡ no_link) number (link_at_none v.links) in
        let wires : more_asked (kept_of (w.links (w.count + 1))) (on_wire login ++ []) ≡ new_link text =
        ap (λ l. more_asked l (on_wire login ++ [])) none
        ∙ ap new_asked (append-nil (on_wire login) ∙ ap on_wire (sym is)) in
        stands_by v' login _ _
        ((opens_is fibs) login w s.sound (closed (nat_eq (open_now w.log) 0) r))
        (client_after login w Open M.Open v.client v'.client (text ∷ []) s.sound r refl does s.client)
        (sound_after login w Open s.sound r) (λ client sound. record {
          board = ap (λ x. x.board) server ∙ s.board;
          logged_in = ap (λ x. x.logged_in) server ∙ s.logged_in;
          count = ap length links ∙ length-append v.links (new_link text ∷ []) ∙ number;
          log =
              log ∙ ap (λ l. l ++ L.Opened (length v.links + 1) ∷ []) s.log ∙ ap (λ n. w.log ++ L.Opened n ∷ []) number;
          current = current ∙ number ∙ sym ((open_append fibs) 0 w.log (L.Opened (w.count + 1) ∷ []));
          links = λ d.
              kept_if (nat_eq d (w.count + 1)) (whole.more_asked (w.links (w.count + 1)) (on_wire login ++ []))
              (w.links d)
              ∙ ap (λ l. if nat_eq d (w.count + 1) then l else kept_of (w.links d)) wires
              ∙ ap (λ l. if nat_eq d (w.count + 1) then new_link text else l) (s.links d)
              ∙ ap (λ n. if nat_eq d n then new_link text else link_at v.links d) (sym number)
              ∙ sym (link_at_push v.links d (new_link text))
              ∙ ap (λ ls. link_at ls d) (sym links);
          client = client;
          sound = sound;
        })
      where
        new_asked : List ℕ → LinkValue
        new_asked bytes = record { coming = []; asked = bytes; fresh = true }

-- the list of the wires
pub opened_wires : (links grown new : List C.Link) (l : C.Link) (text : List ℕ) → grown ≡ links → new ≡ grown ++ l ∷ []
    → l.to_client.items ≡ [] → l.to_server.items ≡ on_wire text → l.fresh ≡ true
    → seen new ≡ seen links ++ new_link text ∷ []
opened_wires links grown new l text g n c a f =
    ap seen (n ∙ ap (λ ls. ls ++ l ∷ []) g) ∙ map_push link_of links l
    ∙ ap (λ x. seen links ++ x ∷ []) (value_path c a f)
