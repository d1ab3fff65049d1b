-- The server takes a line from a wire.
use Rattle.std.proofs.Common.{◌≡◌, ◌≤◌, ◌<◌, ◌+◌, ◌-◌, ℕ, List, Option, Some, length, take, drop, get_or, sym, ap, subst, ◌∙◌}
use Rattle.std.specs.Prelude.{slice_set, option_map}
use Rattle.fibs_model.specs.Server.{ServerValue}
use Rattle.fibs_model.specs.Calls.{TakesLine, TakesNext}
use Rattle.fibs_model.specs.LinksOf.{LinkValue, link_of, seen, link_at}
use Rattle.fibs_model.specs.Server as V
use Rattle.fibs_model.specs.Wires.{next_line}
use Rattle.fibs_model.specs.WireLinks.{taken}
use Rattle.fibs_model.specs.WireOf.{WireValue}
use Rattle.fibs_model.specs.declared.world.link.Link.{Link}
use Rattle.fibs_game.proofs.Answering.{answered_at}
use Rattle.fibs_session.specs.Fibs.{fibs}
use Rattle.fibs_model.proofs.Likeness.Links.{link_set, link_was, value_path}

-- the wires l of a connection become k
module _ (links : List Link) (c : ℕ) (l k : Link) (some : 0 < c) (known : c ≤ length links)
    (is : l ≡ get_or links (c - 1) l) where
  -- by the line that was found among the bytes on their way
  pub taken_next : (old new : ServerValue) (len d1 d2 : ℕ) (served : V.Served) (o : Option ℕ) (bytes : List ℕ)
      → bytes ≡ l.to_server.items
      → next_line bytes ≡ option_map (λ n. (take n bytes, drop (n + 2) bytes)) o → o ≡ Some len
      → TakesLine old new l k c len d1 d2 served
      → TakesNext old new (seen links) (seen (slice_set links (c - 1) k)) c d1 d2 served
  taken_next old new len d1 d2 served o bytes all found is_some t =
      let was : link_at (seen links) c ≡ link_of l = link_was links c l some known is in
      let asked : List ℕ = l.to_server.items in
      let next : next_line asked ≡ Some (take len asked, drop (len + 2) asked) =
      subst (λ xs. next_line xs ≡ Some (take len xs, drop (len + 2) xs)) all
      (found ∙ ap (option_map (λ n. (take n bytes, drop (n + 2) bytes))) is_some) in
      record {
        line = (take len asked, drop (len + 2) asked);
        next = ap (λ (x : LinkValue). next_line x.asked) was ∙ next;
        answer =
            t.answer ∙ ap (λ (x : LinkValue). (answered_at fibs) old.board old.logged_in c x.fresh (take len asked) d1
            d2)
            (sym was);
        server = t.server;
        links = link_set links c k _
            (value_path (ap (λ (x : WireValue). x.items) t.others) t.wire t.begun
            ∙ ap (λ x. taken x (drop (len + 2) asked)) (sym was));
      }
