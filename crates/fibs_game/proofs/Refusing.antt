-- What it says that nothing refuses an event, or a plain command.
use Rattle.std.proofs.Common.{◌≡◌, ℕ, ◌<◌, ◌≤◌, Bool, true, false, not, ◌&&◌, ◌||◌, List, Option, Some, None, nat_eq, nat_lt, refl, sym, zero, suc, true≢false, arith, if◌then◌else◌, is_some}
use Rattle.std.proofs.lemmas.Bool.{ltb-false, not-false, or_parts}
use Rattle.fibs_game.specs.declared.world_refusal.WorldRefusal.{WorldRefusal}
use Rattle.fibs_game.specs.declared.world_refusal.WorldRefusal.TheVariants.{AlreadyOpen}
use Rattle.fibs_game.specs.Game.{Game}
use Rattle.fibs_game.specs.Words.{open_now}
use Rattle.fibs_game.specs.Machine.{Talk, plain_refusal, may_send}
use Rattle.fibs_game.specs.Wires.{next_line}
use Rattle.fibs_game.specs.Events.{Open, Serve}
use Rattle.fibs_game.specs.World.{World}
use Rattle.fibs_game.specs.Refusals.{refusal}
use Rattle.fibs_game.proofs.past.Lists.{and_left, and_right}

module _ (G : Game) where
  -- nothing refused: each test failed
  pub not_refused : (z : Bool) (x : WorldRefusal) (o : Option WorldRefusal) → (if z then Some x else o) ≡ None
      → (z ≡ false) × (o ≡ None)
  not_refused true x o h = cc
  not_refused false x o h = (refl, h)

  -- a number that is not 0
  pub number_of : (n : ℕ) → nat_eq n 0 ≡ false → 0 < n
  number_of zero h = absurd (true≢false h)
  number_of (suc n) h = omega arith

  -- if no connection is missing, one is open
  pub is_open : (x : WorldRefusal) (n : ℕ) → (if nat_eq n 0 then Some x else None) ≡ None → 0 < n
  is_open x n h = number_of n (not_refused (nat_eq n 0) x None h).0

  -- what a Serve that is not refused says
  pub record Served (w : World G) (c d1 d2 : ℕ) : Type 0 where
    pub some : 0 < c
    pub known : c ≤ w.count
    pub die1 : G.is_die d1 ≡ true
    pub die2 : G.is_die d2 ≡ true
    pub recent : w.logged_in ≤ c
    pub line : List ℕ × List ℕ
    pub next : next_line (w.links c).asked ≡ Some line

  -- what a Serve says that is not refused
  pub served : (w : World G) (c d1 d2 : ℕ) → refusal w (Serve c d1 d2) ≡ None → Served w c d1 d2
  served w c d1 d2 h =
      let s1 = not_refused (nat_eq c 0 || nat_lt w.count c) _ _ h in
      let s2 = not_refused (not (G.is_die d1 && G.is_die d2)) _ _ s1.1 in
      let s3 = not_refused (nat_lt c w.logged_in || not (is_some (next_line (w.links c).asked))) _ _ s2.1 in
      let t1 = or_parts _ _ s1.0 in
      let t2 = not-false _ s2.0 in
      let t3 = or_parts _ _ s3.0 in
      let l = line_of (next_line (w.links c).asked) (not-false _ t3.1) in
      record {
        some = number_of c t1.0;
        known = ltb-false _ _ t1.1;
        die1 = and_left _ _ t2;
        die2 = and_right _ _ t2;
        recent = ltb-false _ _ t3.0;
        line = l.0;
        next = l.1;
      }
    where
      line_of : (o : Option (List ℕ × List ℕ)) → is_some o ≡ true → (p : List ℕ × List ℕ) × (o ≡ Some p)
      line_of None h = absurd (true≢false (sym h))
      line_of (Some p) h = (p, refl)

  -- a plain command that is not refused is sent online, and has no fault
  said_if : (z m : Bool) (f : Option G.Fault)
      → (if not (not z) then Some G.offline else (if not m then Some G.not_on else f)) ≡ None
      → (z ≡ false) × (f ≡ None)
  said_if true m f h = cc
  said_if false false f h = cc
  said_if false true None h = (refl, refl)
  said_if false true (Some x) h = cc

  -- what a plain command says that is not refused
  pub said : (t : Talk G) (p : G.Plain) → plain_refusal t p ≡ None → (0 < open_now t.log) × (G.plain_fault p ≡ None)
  said t p h =
      let s = said_if (nat_eq (open_now t.log) 0) (may_send t p) (G.plain_fault p) h in
      (number_of _ s.0, s.1)

  -- a connection that may be opened is not open yet
  pub is_closed : (w : World G) → refusal w Open ≡ None → nat_eq (open_now w.log) 0 ≡ true
  is_closed w h = go (nat_eq (open_now w.log) 0) h
    where
      go : (z : Bool) → (if z then None else Some AlreadyOpen) ≡ None → z ≡ true
      go true h = refl
      go false h = cc
