-- What crosses the carrier.
use Rattle.std.proofs.Common.{◌≡◌, ◌≤◌, ◌<◌, ◌+◌, ◌-◌, ℕ, true, List, [], ◌∷◌, ◌++◌, Option, Some, length, take, drop, get_or, nat_eq, if◌then◌else◌, refl, sym, ap, subst, ◌∙◌, append_assoc, append-nil}
use Rattle.std.specs.Prelude.{option_map, IfSome, IsSome, Result, Ok, Err, OnOk}
use Rattle.fibs_fields.specs.Board.{BoardFields}
use Rattle.fibs_session.specs.History.Machine.{on_wire}
use Rattle.fibs_model.specs.Carrying.{Crossing, crossed, closed, Joins}
use Rattle.fibs_model.specs.Crossings.{line_crossed, line_crossings, crossings_of, crossings_in, crossings_from, crossings, CrossingsJoin}
use Rattle.fibs_model.specs.Events.{Event, Open, Click, Plain, Deliver, Lose, Serve, Own, Repeat, Text, Order, Withdraw}
use Rattle.fibs_model.specs.LinksOf.{LinkValue, link_of, seen, link_at}
use Rattle.fibs_model.specs.Runs.{after_all, world_after}
use Rattle.fibs_model.specs.Wires.{next_line}
use Rattle.fibs_model.specs.World.{World, after, start}
use Rattle.fibs_model.specs.WorldOf.{WorldValue, StandsFor, May}
use Rattle.fibs_model.specs.declared.carriers.carrier.Way.TheVariants.{ToServer, ToClient}
use Rattle.fibs_model.specs.declared.world.link.Link.{Link}
use Rattle.fibs_game.proofs.Refusing.{served}
use Rattle.fibs_session.specs.Fibs.{fibs}
use Rattle.fibs_model.proofs.Likeness.Links.{link_was}

-- the wires of a connection are l
module _ (links : List Link) (c : ℕ) (l : Link) (some : 0 < c) (known : c ≤ length links)
    (is : l ≡ get_or links (c - 1) l) where
  -- the line that was found among the bytes on their way, with its end
  pub line_cross : (bytes : List ℕ) (o : Option ℕ) (len current : ℕ) → nat_eq c current ≡ true
      → bytes ≡ l.to_server.items
      → next_line bytes ≡ option_map (λ n. (take n bytes, drop (n + 2) bytes)) o
      → IfSome o (λ n. take (n + 2) bytes ≡ on_wire (take n bytes)) → o ≡ Some len
      → crossed ToServer (take (len + 2) bytes) ∷ [] ≡ line_crossings current c (link_at (seen links) c).asked
  line_cross bytes o len current same all found ends is_some =
      let was : link_at (seen links) c ≡ link_of l = link_was links c l some known is in
      let e : take (len + 2) bytes ≡ on_wire (take len bytes) =
      subst (λ x. IfSome x (λ n. take (n + 2) bytes ≡ on_wire (take n bytes))) is_some ends in
      let next : next_line bytes ≡ Some (take len bytes, drop (len + 2) bytes) =
      found ∙ ap (option_map (λ n. (take n bytes, drop (n + 2) bytes))) is_some in
      ap (λ xs. crossed ToServer xs ∷ []) e
      ∙ sym (ap line_crossed next)
      ∙ ap (λ xs. line_crossed (next_line xs)) all
      ∙ ap (λ (x : LinkValue). line_crossed (next_line x.asked)) (sym was)
      ∙ sym (ap (λ b. if b then line_crossed (next_line (link_at (seen links) c).asked) else []) same)

  -- the first bytes to the server
  pub kept_cross : (kept : ℕ) (bytes : List ℕ) → bytes ≡ take kept l.to_server.items
      → bytes ≡ take kept (link_at (seen links) c).asked
  kept_cross kept bytes e =
      e ∙ ap (λ (x : LinkValue). take kept x.asked) (sym (link_was links c l some known is))

-- two calls; the second may fail
pub carried_both : {A E : Type 0} (Carries : A → List Crossing → A → Type 0) → Joins Carries
    → (a b c : A) (xs ys : List Crossing) (r : Result (Unit {0}) E) → Carries a xs b → OnOk r (Carries b ys c)
    → OnOk r (Carries a (xs ++ ys) c)
carried_both Carries law a b c xs ys (Ok done) p q = law.joined a b c xs ys p q
carried_both Carries law a b c xs ys (Err why) p q = tt

-- the line is there
some_line : (o : Option (List ℕ × List ℕ)) (p : List ℕ × List ℕ) → o ≡ Some p → IsSome o
some_line o p e = subst IsSome (sym e) refl

-- if a connection may be served a whole line is on its way there
pub serve_whole : (v : WorldValue) (login : List ℕ) (w : World) (c d1 d2 : ℕ) (links : List LinkValue)
    → StandsFor v login w → May v (Serve c d1 d2) → links ≡ v.links → IsSome (next_line (link_at links c).asked)
serve_whole v login w c d1 d2 links s may same =
    let r = (served fibs) w c d1 d2 (may login w s) in
    subst (λ ls. IsSome (next_line (link_at ls c).asked)) (sym same)
    (subst (λ (l : LinkValue). IsSome (next_line l.asked)) (s.links c) (some_line _ r.line r.next))

-- what crosses at an event, by the value of the world of the program and by the machine's
pub crossings_seen : (v : WorldValue) (login : List ℕ) (w : World) (e : Event) → StandsFor v login w
    → crossings_in v e ≡ crossings_of w e
crossings_seen v login w Open s = refl
crossings_seen v login w (Click d) s = refl
crossings_seen v login w (Plain p) s = refl
crossings_seen v login w (Deliver n) s =
    ap (λ (l : LinkValue). crossed ToClient (take n l.coming) ∷ []) (sym (s.links v.current))
    ∙ ap (λ c. crossed ToClient (take n (w.links c).coming) ∷ []) s.current
crossings_seen v login w (Lose k) s =
    ap (λ (l : LinkValue). crossed ToServer (take k l.asked) ∷ closed ∷ []) (sym (s.links v.current))
    ∙ ap (λ c. crossed ToServer (take k (w.links c).asked) ∷ closed ∷ []) s.current
crossings_seen v login w (Serve c d1 d2) s =
    ap (λ (l : LinkValue). line_crossings v.current c l.asked) (sym (s.links c))
    ∙ ap (λ n. line_crossings n c (w.links c).asked) s.current
crossings_seen v login w (Own b) s = refl
crossings_seen v login w Repeat s = refl
crossings_seen v login w (Text t) s = refl
crossings_seen v login w Order s = refl
crossings_seen v login w Withdraw s = refl

-- one event more
from_more : (login : List ℕ) (w : World) (es : List Event) (e : Event)
    → crossings_from login w (es ++ e ∷ []) ≡ crossings_from login w es ++ crossings_of (after_all login w es) e
from_more login w [] e = append-nil (crossings_of w e)
from_more login w (x ∷ es) e =
    ap (λ xs. crossings_of w x ++ xs) (from_more login (after login w x) es e)
    ∙ sym (append_assoc (crossings_of w x) (crossings_from login (after login w x) es)
    (crossings_of (after_all login (after login w x) es) e))

-- the crossings of one event more come after those of the events before it
one_more : (login : List ℕ) (first : BoardFields) (es : List Event) (e : Event)
    → crossings login first (es ++ e ∷ [])
    ≡ crossings login first es ++ crossings_of (world_after login first es) e
unfolding crossings world_after
one_more login first es e = from_more login (start first) es e

-- without an event nothing crosses
at_first : (login : List ℕ) (first : BoardFields) → crossings login first [] ≡ []
unfolding crossings
at_first login first = refl

-- the crossings of events make up those of their list
pub crossings_join : CrossingsJoin
crossings_join = record { at_first = at_first; one_more = one_more }
