-- Bytes are delivered to the client.
use Rattle.std.proofs.Common.{◌≡◌, ◌≤◌, ◌<◌, ◌+◌, ◌-◌, ℕ, zero, suc, inl, inr, List, [], ◌∷◌, length, take, drop, get_or, refl, sym, ap, subst, ◌∙◌, arith}
use Rattle.std.specs.Prelude.{slice_set}
use Rattle.fibs_session.specs.Calls.Doing.{Does}
use Rattle.fibs_session.specs.Calls.Standing.{ClientValue}
use Rattle.fibs_session.specs.History.Log.{Entry}
use Rattle.fibs_session.specs.History.Machine.{Outcome, Piece, step, wire_of}
use Rattle.fibs_session.specs.History.Owing.{owed, entries_owed}
use Rattle.fibs_session.specs.History.Words.{open_now, connections}
use Rattle.fibs_model.specs.Events.{Deliver}
use Rattle.fibs_model.specs.HearingOf.{HearsPiece, HearsNext, IsTalking, RoomForPiece, RoomForNext}
use Rattle.fibs_model.specs.LinksOf.{LinkValue, kept_of, link_of, seen, link_at}
use Rattle.fibs_model.specs.Wires.{Link, more_asked, delivered}
use Rattle.fibs_model.specs.WireLinks as value
use Rattle.fibs_model.specs.World.{World, after, linked, talk_of}
use Rattle.fibs_model.specs.WorldOf.{WorldValue, StandsFor, Goes, May}
use Rattle.fibs_game.specs.declared.world_refusal.WorldRefusal.TheVariants.{NotOpen}
use Rattle.fibs_model.specs.declared.world.link.Link as C
use Rattle.fibs_session.specs.Fibs.{fibs}
use Rattle.fibs_game.proofs.acts.Client.{does}
use Rattle.fibs_game.proofs.Refusing.{is_open}
use Rattle.fibs_lines.proofs.EndsCounted.{ends}
use Rattle.fibs_model.proofs.Likeness.Events.{current_known, client_after, sound_after}
use Rattle.fibs_model.proofs.Likeness.Links.{links_linked, length_set_link, link_set, link_was, value_path}

-- a client's client and connection talk
pub world_talks : (v : WorldValue) (login : List ℕ) (w : World) → StandsFor v login w
    → IsTalking v.client v.current (talk_of login w)
world_talks v login w s = record { stands = s.client; is_open = sym s.current }

-- if there is room for what the next bytes of a connection may add, there is for what that piece may
pub room_next : (links : List C.Link) (c : ℕ) (l : C.Link) → 0 < c → c ≤ length links → l ≡ get_or links (c - 1) l
    → (client : ClientValue) (n len capacity : ℕ) → RoomForNext client c n links len capacity
    → RoomForPiece client c (take n l.to_client.items) len capacity l.to_server.room
room_next links c l some known is client n len capacity r =
    let piece : take n (link_at (seen links) c).coming ≡ take n l.to_client.items =
    ap (λ (x : LinkValue). take n x.coming) (link_was links c l some known is) in
    record {
      talk = r.talk;
      talks = r.talks;
      entries = subst (λ p. len + entries_owed r.talk (ends p) ≤ capacity) piece r.entries;
      commands = subst (λ p. owed r.talk (ends p) ≤ l.to_server.room) piece (r.commands l is);
    }

module _ (v v' : WorldValue) (n : ℕ) (server : v'.server ≡ v.server)
    (next : HearsNext v.client v'.client v.current n v.links v'.links v.log v'.log) (current : v'.current ≡ v.current)
    (may : May v (Deliver n)) where
  -- the world after it
  pub heard_stands : Goes v v' (Deliver n)
  heard_stands login w s =
      let c : ℕ = open_now w.log in
      let r = may login w s in
      let some : 0 < c = (is_open fibs) NotOpen c r in
      let known = current_known v login w s in
      let newest : c ≡ w.count = elim s.sound.newest [ inl e ↦ absurd (omega (arith, e, some)) | inr e ↦ e ] in
      let mine : link_at v.links v.current ≡ kept_of (w.links c) =
      ap (link_at v.links) s.current ∙ sym (s.links c) in
      let p : List ℕ = take n (w.links w.count).coming in
      let o : Outcome = step (talk_of login w) (Piece p) in
      let k = (does fibs) login w (Deliver n) s.sound r tt in
      let many : connections o.talk.log ≡ w.count = k.count in
      let here : open_now o.talk.log ≡ c = k.here in
      let piece : take n (link_at v.links v.current).coming ≡ p =
      ap (λ (x : LinkValue). take n x.coming) mine ∙ ap (λ d. take n (w.links d).coming) newest in
      let fed : Does v.client v'.client (Piece p) next.hears.writes.send =
      subst (λ q. Does v.client v'.client (Piece q) next.hears.writes.send) piece next.hears.writes.does in
      let told : next.asked ≡ wire_of o.send =
      next.hears.writes.written ∙ ap wire_of (fed.hands (talk_of login w) s.client) in
      record {
        board = ap (λ x. x.board) server ∙ s.board;
        logged_in = ap (λ x. x.logged_in) server ∙ s.logged_in;
        count = ap length next.links ∙ length_set_link v.links v.current _ ∙ s.count ∙ sym many;
        log =
            subst (λ q. v'.log ≡ (step (talk_of login w) (Piece q)).talk.log) piece
            (next.hears.noted (talk_of login w) (world_talks v login w s) s.log);
        current = current ∙ s.current ∙ sym here;
        links = λ d. all_links d (connections o.talk.log) (wire_of o.send) (s.current ∙ newest ∙ sym many) told
            (omega (arith, some, s.current)) known;
        client = client_after login w (Deliver n) (Piece p) v.client v'.client next.hears.writes.send s.sound r refl fed
            s.client;
        sound = sound_after login w (Deliver n) s.sound r;
      }
    where
      all_links : (d m : ℕ) (bytes : List ℕ) → v.current ≡ m → next.asked ≡ bytes
          → 0 < v.current → v.current ≤ length v.links
          → kept_of ((linked w m (more_asked (delivered (w.links m) n) bytes)).links d) ≡ link_at v'.links d
      all_links d m bytes is told some known =
          subst (λ x. kept_of ((linked w x (more_asked (delivered (w.links x) n) bytes)).links d) ≡ link_at v'.links d)
          is
          (links_linked w v.links v.current _ (more_asked (delivered (w.links v.current) n) bytes) s.links
          (ap (λ x. value.more_asked (value.delivered x n) next.asked) (sym (s.links v.current))
          ∙ ap (value.more_asked (value.delivered (kept_of (w.links v.current)) n)) told) some known d
          ∙ ap (λ ls. link_at ls d) (sym next.links))

-- The program's call on the wires l of a connection, which become k.
module _ (links : List C.Link) (c : ℕ) (l k : C.Link) (some : 0 < c) (known : c ≤ length links)
    (is : l ≡ get_or links (c - 1) l) where
  -- the wires after the next bytes of a connection are heard are those with its answers
  pub heard_next : (old new : ClientValue) (n : ℕ) (log later : List Entry)
      → HearsPiece old new c (take n l.to_client.items) log later l.to_server.items k.to_server.items
      → k.to_client.items ≡ drop (length (take n l.to_client.items)) l.to_client.items → k.fresh ≡ l.fresh
      → HearsNext old new c n (seen links) (seen (slice_set links (c - 1) k)) log later
  heard_next old new n log later h left f =
      let was : link_at (seen links) c ≡ link_of l = link_was links c l some known is in
      record {
        asked = wire_of h.writes.send;
        links = link_set links c k _
            (value_path (left ∙ drop_len n l.to_client.items) h.writes.written f
            ∙ ap (λ x. value.more_asked (value.delivered x n) (wire_of h.writes.send)) (sym was));
        hears = record {
          writes = record {
            send = h.writes.send;
            does =
                subst (λ p. Does old new (Piece p) h.writes.send) (sym (ap (λ (x : LinkValue). take n x.coming) was))
                h.writes.does;
            written = refl;
          };
          noted = λ t talks same. h.noted t talks same
              ∙ ap (λ p. (step t (Piece p)).talk.log) (sym (ap (λ (x : LinkValue). take n x.coming) was));
        };
      }
    where
      drop_len : (n : ℕ) (xs : List ℕ) → drop (length (take n xs)) xs ≡ drop n xs
      drop_len zero xs = refl
      drop_len (suc n) [] = refl
      drop_len (suc n) (x ∷ xs) = drop_len n xs

-- after growths
pub heard_after : (old new : ClientValue) (c n : ℕ) (links grown after : List LinkValue) (log longer later : List Entry)
    → grown ≡ links → longer ≡ log → HearsNext old new c n grown after longer later
    → HearsNext old new c n links after log later
heard_after old new c n links grown after log longer later g m h =
    subst (λ ls. HearsNext old new c n ls after log later) g
    (subst (λ l. HearsNext old new c n grown after l later) m h)
