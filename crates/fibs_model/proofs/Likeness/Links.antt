-- The wires of the connections, if those of one are changed in place.
use Rattle.std.proofs.Common.{◌≡◌, ℕ, ◌+◌, ◌-◌, ◌<◌, ◌≤◌, Bool, true, List, [], ◌∷◌, ◌++◌, length, take, get_or, nat_eq, zero, suc, refl, sym, ap, subst, ◌∙◌, arith, inl, inr, if◌then◌else◌}
use Rattle.std.specs.Prelude.{slice_set}
use Rattle.std.proofs.Math.Seq.{map-set_same}
use Rattle.std.proofs.lemmas.List.{map-set, get_or-map, get_or-set_same, get_or-set_other, length-set}
use Rattle.std.proofs.lemmas.Bool.Decides.{eqb_tells}
use Rattle.fibs_model.specs.Wires as W
use Rattle.fibs_model.specs.LinksOf.{LinkValue, no_link, kept_of, link_of, seen, link_at, set_link}
use Rattle.fibs_model.specs.WireLinks.{more_asked, more_coming, cut_off}
use Rattle.fibs_model.specs.World.{World, linked}
use Rattle.fibs_model.specs.declared.world.link.Link.{Link}
use Rattle.fibs_game.proofs.past.Lists.{same_number, other_number}
use Rattle.fibs_model.proofs.Likeness.Whole.{kept_if}

-- the element of a connection
pub at_number : (links : List LinkValue) (c : ℕ) → 0 < c → link_at links c ≡ get_or links (c - 1) no_link
at_number links zero h = absurd (omega (arith, h))
at_number links (suc c) h = ap (λ n. get_or links n no_link) {x = c} {y = suc c - 1} (omega arith)

-- the wires of a connection, seen
pub link_was : (links : List Link) (c : ℕ) (l : Link) → 0 < c → c ≤ length links → l ≡ get_or links (c - 1) l
    → link_at (seen links) c ≡ link_of l
link_was links c l some known is =
    at_number (seen links) c some ∙ get_or-map link_of links (c - 1) l no_link (omega (arith, some, known))
    ∙ ap link_of (sym is)

-- they become others, seen
pub link_set : (links : List Link) (c : ℕ) (k : Link) (v : LinkValue) → link_of k ≡ v
    → seen (slice_set links (c - 1) k) ≡ set_link (seen links) c v
link_set links c k v e = map-set link_of links (c - 1) k ∙ ap (slice_set (seen links) (c - 1)) e

-- the wires after it, connection by connection
pub link_at_set : (links : List LinkValue) (c d : ℕ) (l : LinkValue) → 0 < c → c ≤ length links
    → link_at (set_link links c l) d ≡ (if nat_eq d c then l else link_at links d)
link_at_set links c zero l some known =
    sym (ap (λ b. if b then l else no_link) (other_number zero c (λ e. absurd (omega arith))))
link_at_set links c (suc d) l some known = elim (eqb_tells (suc d) c) [
  | inl e ↦
      let i : d ≡ c - 1 = let e1 = e.1 in omega arith in
      subst (λ n. get_or (slice_set links (c - 1) l) n
      no_link ≡ (if nat_eq (suc d) c then l else link_at links (suc d))) (sym i)
      (get_or-set_same links (c - 1) l no_link (omega (arith, some, known))
      ∙ sym (ap (λ b. if b then l else link_at links (suc d))
      (subst (λ n. nat_eq (suc d) n ≡ true) e.1 (same_number (suc d)))))
  | inr m ↦
      let i : d ≡ c - 1 → ⊥ = λ e. m.1 (omega (arith, e, some)) in
      get_or-set_other links (c - 1) d l no_link i
      ∙ sym (ap (λ b. if b then l else link_at links (suc d)) (other_number (suc d) c m.1))
]

-- setting the wires of a connection leaves as many connections
pub length_set_link : (links : List LinkValue) (c : ℕ) (l : LinkValue) → length (set_link links c l) ≡ length links
length_set_link links c l = length-set links (c - 1) l

-- the wires of a new connection
pub link_at_push : (links : List LinkValue) (d : ℕ) (l : LinkValue)
    → link_at (links ++ l ∷ []) d ≡ (if nat_eq d (length links + 1) then l else link_at links d)
link_at_push links zero l = sym
    (ap (λ b. if b then l else no_link) (other_number zero (length links + 1) (λ e. absurd (omega arith))))
link_at_push links (suc d) l = elim (eqb_tells (suc d) (length links + 1)) [
  | inl e ↦
      let i : d ≡ length links = let e1 = e.1 in omega arith in
      subst (λ n. get_or (links ++ l ∷ []) n
      no_link ≡ (if nat_eq (suc d) (length links + 1) then l else link_at links (suc d))) (sym i)
      (last_one links
      ∙ sym (ap (λ b. if b then l else link_at links (suc d))
      (subst (λ n. nat_eq (suc d) n ≡ true) e.1 (same_number (suc d)))))
  | inr m ↦
      let i : d ≡ length links → ⊥ = λ e. m.1 (omega (arith, e)) in
      before links d i ∙ sym (ap (λ b. if b then l else link_at links (suc d))
      (other_number (suc d) (length links + 1) m.1))
]
  where
    last_one : (ls : List LinkValue) → get_or (ls ++ l ∷ []) (length ls) no_link ≡ l
    last_one [] = refl
    last_one (x ∷ ls) = last_one ls

    before : (ls : List LinkValue) (n : ℕ) → (n ≡ length ls → ⊥) → get_or (ls ++ l ∷ []) n no_link ≡ get_or ls n no_link
    before [] zero m = absurd (m refl)
    before [] (suc n) m = refl
    before (x ∷ ls) zero m = refl
    before (x ∷ ls) (suc n) m = before ls n (λ e. m (ap suc e))

-- beyond the last there is none
pub link_at_none : (links : List LinkValue) → link_at links (length links + 1) ≡ no_link
link_at_none links = subst (λ n. link_at links n ≡ no_link) {x = suc (length links)} {y = length links + 1}
    (omega arith) (none links)
  where
    none : (ls : List LinkValue) → get_or ls (length ls) no_link ≡ no_link
    none [] = refl
    none (x ∷ ls) = none ls

-- the wires of one connection of the machine become others
pub links_linked : (w : World) (links : List LinkValue) (c : ℕ) (v : LinkValue) (l : W.Link)
    → ((d : ℕ) → kept_of (w.links d) ≡ link_at links d) → v ≡ kept_of l → 0 < c → c ≤ length links
    → (d : ℕ) → kept_of ((linked w c l).links d) ≡ link_at (set_link links c v) d
links_linked w links c v l same e some known d =
    kept_if (nat_eq d c) l (w.links d) ∙ ap (λ x. if nat_eq d c then kept_of l else x) (same d)
    ∙ ap (λ x. if nat_eq d c then x else link_at links d) (sym e) ∙ sym (link_at_set links c d v some known)

-- a value by its parts
pub value_path : {c c' a a' : List ℕ} {f f' : Bool} → c ≡ c' → a ≡ a' → f ≡ f'
    → ◌≡◌ {A = LinkValue} (record { coming = c; asked = a; fresh = f }) (record { coming = c'; asked = a'; fresh = f' })
value_path c a f = cc

-- The program's calls on the wires l of a connection, which become k.
module _ (links : List Link) (c : ℕ) (l k : Link) (some : 0 < c) (known : c ≤ length links)
    (is : l ≡ get_or links (c - 1) l) where
  -- the wires of the connection are seen as they are
  was : link_at (seen links) c ≡ link_of l
  was = link_was links c l some known is

  -- nothing is seen of it
  pub same_seen : link_of k ≡ link_of l → seen (slice_set links (c - 1) k) ≡ seen links
  same_seen e = map-set_same link_of links (c - 1) k l (e ∙ ap link_of is)

  -- more bytes are put on the wire to the client
  pub coming_seen : (t : List ℕ) → k.to_client.items ≡ l.to_client.items ++ t → k.to_server.items ≡ l.to_server.items
      → k.fresh ≡ l.fresh
      → seen (slice_set links (c - 1) k) ≡ set_link (seen links) c (more_coming (link_at (seen links) c) t)
  coming_seen t i j f = link_set links c k _ (value_path i j f ∙ ap (λ v. more_coming v t) (sym was))

  -- more bytes are put on the wire to the server
  pub asked_seen : (t : List ℕ) → k.to_client.items ≡ l.to_client.items → k.to_server.items ≡ l.to_server.items ++ t
      → k.fresh ≡ l.fresh
      → seen (slice_set links (c - 1) k) ≡ set_link (seen links) c (more_asked (link_at (seen links) c) t)
  asked_seen t i j f = link_set links c k _ (value_path i j f ∙ ap (λ v. more_asked v t) (sym was))

  -- of the wire to the client nothing is left, of the one to the server so many bytes
  pub cut_seen : (kept : ℕ) → k.to_client.items ≡ [] → k.to_server.items ≡ take kept l.to_server.items
      → k.fresh ≡ l.fresh
      → seen (slice_set links (c - 1) k) ≡ set_link (seen links) c (cut_off (link_at (seen links) c) kept)
  cut_seen kept i j f = link_set links c k _ (value_path i j f ∙ ap (λ v. cut_off v kept) (sym was))
