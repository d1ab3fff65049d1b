-- What the server does on each connection, and what came of it on the wires, event by event.
use Rattle.std.proofs.Common.{◌≡◌, ℕ, ◌<◌, ◌≤◌, Bool, true, false, List, [], ◌∷◌, ◌++◌, nat_eq, refl, sym, ◌∙◌, ap, subst, inl, inr, append-nil, arith, if◌then◌else◌}
use Rattle.std.proofs.lemmas.Bool.Decides.{eqb_tells}
use Rattle.std.proofs.lemmas.Bool.{cases_lt}
use Rattle.std.proofs.lemmas.List.Concat.{flat_map-append}
use Rattle.fibs_game.specs.Log.{Entry}
use Rattle.fibs_game.specs.Machine.{on_wire}
use Rattle.fibs_game.specs.Words.{open_from, open_now}
use Rattle.fibs_game.specs.Acts.{Act, Serves, bytes_of, put_by, sending}
use Rattle.fibs_game.specs.Joint.{Carried, Steady}
use Rattle.fibs_game.specs.Wires.{Link}
use Rattle.fibs_game.specs.World.{World, noted, linked, sends, is_talking}
use Rattle.fibs_game.specs.Game.{Game}
use Rattle.fibs_game.proofs.past.Lists.{same_number, other_number, and_left}
use Rattle.fibs_game.proofs.past.Past.{open_append}
use Rattle.fibs_game.proofs.joint.Joint.{linked_same, linked_other}
use Rattle.fibs_game.proofs.joint.Sending.{with_line}
use Rattle.fibs_game.proofs.joint.Steady.{SteadyTo, steady_rest, steady_serves}
use Rattle.fibs_game.proofs.acts.Client.{Does, there_none}
use Rattle.fibs_game.proofs.joint.Carrying.{carried_is, carried_sent}

module _ (G : Game) where
  -- the server's acts on each connection, and the world after them
  pub record Kept (acts : ℕ → List (Act G)) (w : World G) : Type 0 where
    pub carried : (c : ℕ) → 0 < c → Carried (put_by (acts c)) (nat_eq (open_now w.log) c) (w.links c)
    pub older : (c : ℕ) → c < w.logged_in → Steady (acts c)
    pub now : SteadyTo G w.board (acts w.logged_in)
    pub newer : (c : ℕ) → w.logged_in < c → acts c ≡ []

  -- acts on one connection
  abbrev pub only : ℕ → ℕ → List (Act G) → List (Act G)
  only c n acts = if nat_eq c n then acts else []

  -- they are on that connection
  pub only_here : (n : ℕ) (acts : List (Act G)) → only n n acts ≡ acts
  only_here n acts = ap (λ z. if z then acts else []) (same_number n)

  -- and on no other
  pub only_other : (c n : ℕ) (acts : List (Act G)) → (c ≡ n → ⊥) → only c n acts ≡ []
  only_other c n acts h = ap (λ z. if z then acts else []) (other_number c n h)

  -- no acts
  pub only_none : (c n : ℕ) → only c n [] ≡ []
  only_none c n = there_none G {A = Act G} (nat_eq c n)

  -- other words for the same acts
  pub kept_is : (acts acts' : ℕ → List (Act G)) (w : World G) → ((c : ℕ) → acts' c ≡ acts c) → Kept acts w
      → Kept acts' w
  kept_is acts acts' w h k = record {
    carried =
        λ c some. subst (λ l. Carried (put_by l) (nat_eq (open_now w.log) c) (w.links c)) (sym (h c))
        (k.carried c some);
    older = λ c low. subst Steady (sym (h c)) (k.older c low);
    now = subst (SteadyTo G w.board) (sym (h w.logged_in)) k.now;
    newer = λ c high. h c ∙ k.newer c high;
  }

  -- an event without acts
  pub kept_quiet : (acts : ℕ → List (Act G)) (w w' : World G) → w'.board ≡ w.board → w'.logged_in ≡ w.logged_in
      → ((c : ℕ) → 0 < c → Carried (put_by (acts c)) (nat_eq (open_now w'.log) c) (w'.links c)) → Kept acts w
      → Kept acts w'
  kept_quiet acts w w' b l carried k = record {
    carried = carried;
    older = λ c low. let low' : c < w.logged_in = rw l at low in k.older c low';
    now = rw (b, l) k.now;
    newer = λ c high. let high' : w.logged_in < c = rw l at high in k.newer c high';
  }

  -- what the client does
  pub kept_does : (acts : ℕ → List (Act G)) (bs : List G.Board) (w w' : World G) → Does G bs w w' → Kept acts w
      → Kept acts w'
  kept_does acts bs w w' a k =
      kept_quiet acts w w' a.board a.logged_in
      (λ c some. carried_is G _ _ _ _ _ _ refl (ap (λ n. nat_eq n c) a.here) (ap (λ (x : Link). x.heard) (a.link c))
      (ap (λ (x : Link). x.coming) (a.link c)) (k.carried c some)) k

  -- more acts on the connection that is logged in, if other wires to clients stay as they are
  pub kept_more : (acts : ℕ → List (Act G)) (more : List (Act G)) (w w' : World G) → w'.logged_in ≡ w.logged_in
      → open_now w'.log ≡ open_now w.log
      → ((c : ℕ) → (c ≡ w.logged_in → ⊥) → w'.links c ≡ w.links c)
      → (0 < w.logged_in
      → Carried (put_by (acts w.logged_in) ++ put_by more) (nat_eq (open_now w.log) w.logged_in) (w'.links w.logged_in))
      → SteadyTo G w'.board (acts w.logged_in ++ more)
      → Kept acts w → Kept (λ c. acts c ++ only c w.logged_in more) w'
  kept_more acts more w w' l o other carried steady k = record {
    carried = λ c some. elim (eqb_tells c w.logged_in) [
      | inl e ↦
          subst (λ d. Carried (put_by (acts d ++ only d w.logged_in more)) (nat_eq (open_now w'.log) d) (w'.links d))
          (sym e.1)
          (let some' : 0 < w.logged_in = subst (λ d. 0 < d) e.1 some in
          carried_is G _ _ _ _ _ _
          (ap (λ l. put_by (acts w.logged_in ++ l)) (only_here w.logged_in more)
          ∙ flat_map-append bytes_of (acts w.logged_in) more)
          (ap (λ n. nat_eq n w.logged_in) o) refl refl (carried some'))
      | inr n ↦ carried_is G _ _ _ _ _ _ (ap put_by (same c n.1)) (ap (λ n. nat_eq n c) o)
          (ap (λ (x : Link). x.heard) (other c n.1)) (ap (λ (x : Link). x.coming) (other c n.1)) (k.carried c some)
    ];
    older = λ c low. let low' : c < w.logged_in = rw l at low in
        let n : c ≡ w.logged_in → ⊥ = λ e. absurd (omega arith) in
        subst Steady (sym (same c n)) (k.older c low');
    now = rw l (subst (SteadyTo G w'.board) (ap (λ l. acts w.logged_in ++ l) (sym (only_here w.logged_in more)))
        steady);
    newer = λ c high. let high' : w.logged_in < c = rw l at high in
        let n : c ≡ w.logged_in → ⊥ = λ e. absurd (omega arith) in
        same c n ∙ k.newer c high';
  }
    where
      same : (c : ℕ) → (c ≡ w.logged_in → ⊥) → acts c ++ only c w.logged_in more ≡ acts c
      same c h = ap (λ l. acts c ++ l) (only_other c w.logged_in more h) ∙ append-nil (acts c)

  -- the server's board becomes b, and an act is sent if the connection is open
  pub kept_sends : (acts : ℕ → List (Act G)) (w : World G) (b : G.Board) (a : Act G) (t : List ℕ)
      → bytes_of a ≡ on_wire t
      → SteadyTo G b (acts w.logged_in) → SteadyTo G b (acts w.logged_in ++ a ∷ [])
      → Kept acts w → Kept (λ c. acts c ++ only c w.logged_in (sending w a)) (sends (record w { board = b }) t)
  kept_sends acts w b a t is silent said k = go (is_talking w) refl
    where
      w' : World G
      w' = record w { board = b }

      go : (z : Bool) → is_talking w ≡ z
          → Kept (λ c. acts c ++ only c w.logged_in (if z then a ∷ [] else []))
          (if z then linked w' w.logged_in (with_line G (w.links w.logged_in) t) else w')
      go true e =
          let old : Link = w.links w.logged_in in
          let l : Link = with_line G old t in
          let put : List ℕ = put_by (acts w.logged_in) in
          let z : Bool = nat_eq (open_now w.log) w.logged_in in
          let sent : bytes_of a ++ [] ≡ on_wire t = append-nil (bytes_of a) ∙ is in
          kept_more acts (a ∷ []) w (linked w' w.logged_in l) refl refl (λ c n. linked_other G w' w.logged_in c l n)
          (λ some. subst (λ (x : Link). Carried (put ++ put_by (a ∷ [])) z x) (sym (linked_same G w' w.logged_in l))
          (carried_sent G put (put_by (a ∷ [])) z old l (and_left _ _ e) refl (ap (λ u. old.coming ++ u) (sym sent))
          (k.carried w.logged_in some)))
          said k
      go false e =
          kept_more acts [] w w' refl refl (λ c n. refl)
          (λ some. carried_is G _ _ _ _ _ _ (append-nil (put_by (acts w.logged_in))) refl refl refl
          (k.carried w.logged_in some))
          (subst (SteadyTo G b) (sym (append-nil (acts w.logged_in))) silent) k

  -- a decision is served, by which the server's board may become another
  pub kept_serves : (acts : ℕ → List (Act G)) (w : World G) (b : G.Board) (d : G.Decision) (e : Entry G)
      → open_from (open_now w.log) (e ∷ []) ≡ open_now w.log
      → Kept acts w → Kept (λ c. acts c ++ only c w.logged_in (Serves d ∷ [])) (noted (record w { board = b }) (e ∷ []))
  kept_serves acts w b d e o k =
      kept_more acts (Serves d ∷ []) w (noted (record w { board = b }) (e ∷ [])) refl (open_append G 0 w.log (e ∷ [])
      ∙ o)
      (λ c n. refl)
      (λ some. carried_is G _ _ _ _ _ _ (append-nil (put_by (acts w.logged_in))) refl refl refl
      (k.carried w.logged_in some))
      (steady_serves G w.board b d (acts w.logged_in) k.now) k

  -- a connection logs in
  pub kept_login : (acts : ℕ → List (Act G)) (w w' : World G) → w'.board ≡ w.board → w.logged_in ≤ w'.logged_in
      → ((c : ℕ) → 0 < c → Carried (put_by (acts c)) (nat_eq (open_now w'.log) c) (w'.links c)) → Kept acts w
      → Kept acts w'
  kept_login acts w w' b low carried k = record {
    carried = carried;
    older = λ c lt. elim (eqb_tells c w.logged_in) [
      | inl e ↦ subst (λ d. Steady (acts d)) (sym e.1) (steady_rest G w.board (acts w.logged_in) k.now)
      | inr n ↦ older c n.1
    ];
    now = elim (eqb_tells w'.logged_in w.logged_in) [
      | inl e ↦ rw (b, e.1) k.now
      | inr n ↦ subst (SteadyTo G w'.board) (sym (let n1 = n.1 in k.newer w'.logged_in (omega arith))) tt
    ];
    newer = λ c high. k.newer c (omega arith);
  }
    where
      older : (c : ℕ) → (c ≡ w.logged_in → ⊥) → Steady (acts c)
      older c n = elim (cases_lt c w.logged_in) [
        | inl lt ↦ k.older c lt
        | inr le ↦ subst Steady (sym (k.newer c (omega arith))) tt
      ]
