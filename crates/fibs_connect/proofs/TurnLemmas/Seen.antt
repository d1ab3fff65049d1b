-- What is done of a turn, seen through a view of the front end.
use Rattle.std.proofs.Common.{◌≡◌, ℕ, List, Option, sym, subst, ◌∙◌}
use Rattle.std.specs.Borrow.{MutBor}
use Rattle.fibs_messages.specs.Message.{MessageValue}
use Rattle.fibs_session.specs.History.Machine.{Talk}
use Rattle.fibs_session.specs.Calls.Standing.{ClientValue}
use Rattle.fibs_engine.specs.Writing.{Progress, Whole}
use Rattle.fibs_connect.specs.declared.turns.Ending.{Ending}
use Rattle.fibs_connect.specs.Told.{SaidValue}
use Rattle.fibs_connect.specs.Account.{Accounts}
use Rattle.fibs_connect.specs.Turns.Acts.{Act}
use Rattle.fibs_connect.specs.Turns.Script.{Outside, outside, Did, tells_of}
use Rattle.fibs_connect.specs.Turns.Turn.{Ended, TurnedBy, Turned}

-- the outside, seen so
abbrev pub viewed : {F G : Type 0} → (F → G) → Outside F → Outside G
viewed view o = record { wrote = o.wrote; front = view o.front; players = o.players }

module _ {F G : Type 0} {Tells : F → List SaidValue → F → Type 0} {Gains : G → List SaidValue → G → Type 0}
    (view : F → G)
    (seen : (a b : F) (told : List SaidValue) → Tells a told b → Gains (view a) told (view b)) where
  -- a script that was done was done as seen through the view
  did_seen : (p : Progress) (a b : Outside F) (script : List Act) → Did Tells a b script p
      → Did Gains (viewed view a) (viewed view b) script p
  did_seen p a b script d = record {
    done = d.done;
    hand = d.hand;
    part = d.part;
    acts = d.acts;
    in_hand = d.in_hand;
    wrote = d.wrote;
    told = seen a.front b.front (tells_of d.done) d.told;
    noted = d.noted;
    refused = d.refused;
  }

  -- a turn that has ended has ended as seen through the view
  ended_seen : (p : Progress) (t : Talk) (new : ClientValue) (a b : Outside F) (e : Ending) → Ended Tells p t new a b e
      → Ended Gains p t new (viewed view a) (viewed view b) e
  ended_seen p t new a b e d = record { did = did_seen Whole a b _ d.did; leaves = d.leaves }

  -- a turn that was taken was taken as seen through the view
  pub turned_seen : (t : Talk) (new : ClientValue) (typed left still : Option (List ℕ)) (a b : Outside F) (e : Ending)
      → TurnedBy Tells t new typed left still a b e
      → TurnedBy Gains t new typed left still (viewed view a) (viewed view b) e
  turned_seen t new typed left still a b e d = record {
    intake = d.intake;
    progress = d.progress;
    extent = d.extent;
    mid = viewed view d.mid;
    did = did_seen d.progress a d.mid _ d.did;
    ended = ended_seen d.progress _ new d.mid b e d.ended;
    offline = d.offline;
    quiet = d.quiet;
  }

-- a turn whose account is kept behind a reference: if the reference is the same at the end, so is what its writer holds
pub turn_accounted : {F W : Type 0} (out : F → MutBor W) (contents : W → Option (List ℕ)) (t : Talk) (new : ClientValue)
    (typed left still wrote now : Option (List ℕ)) (players known : List MessageValue) (a b : F) (e : Ending) (x : W)
    → ((out b).ghost_name ≡ (out a).ghost_name → x ≡ (out b).now)
    → TurnedBy
    (λ c told d. ((out d).ghost_name ≡ (out c).ghost_name)
    × Accounts (contents (out c).now) told (contents (out d).now))
    t new typed left still (outside wrote a players) (outside now b known) e
    → Turned t new typed left still (outside wrote (contents (out a).now) players) (outside now (contents x) known) e
turn_accounted {F} {W} out contents t new typed left still wrote now players known a b e x same d =
    let view : F → Option (List ℕ) = λ c. contents (out c).now in
    let named = d.ended.did.told.0 ∙ d.did.told.0 in
    subst
    (λ w. Turned t new typed left still (outside wrote (view a) players) (outside now (contents w) known) e)
    (sym (same named))
    (turned_seen view (λ c f told h. h.1) t new typed left still (outside wrote a players) (outside now b known) e d)
