-- Each event keeps the joint statement.
use Rattle.std.proofs.Common.{◌≡◌, ℕ, true, false, not, List, [], ◌∷◌, ◌++◌, Option, Some, None, flat_map, refl, sym, ◌∙◌, subst, inl, inr, append-nil, append_assoc, true≢false, arith}
use Rattle.std.proofs.lemmas.Bool.{eqb-true, not-false}
use Rattle.fibs_game.specs.declared.refusal.Refusal.{Refusal}
use Rattle.fibs_game.specs.declared.world_refusal.WorldRefusal.TheVariants.{NotOpen}
use Rattle.fibs_game.specs.Game.{Game}
use Rattle.fibs_game.specs.Lawful.{IsQuiet, Lawful}
use Rattle.fibs_game.specs.Log.{Entry, Ordered, Withdrawn}
use Rattle.fibs_game.specs.Words.{open_now, opened_by}
use Rattle.fibs_game.specs.Machine.{sends_plain, notes_if, plain_refusal, order_refusal, withdraw_refusal, on_wire}
use Rattle.fibs_game.specs.Acts.{Act, acts_on, acts_from}
use Rattle.fibs_game.specs.Events.{Event, Open, Click, Plain, Deliver, Lose, Serve, Own, Repeat, Text, Order, Withdraw}
use Rattle.fibs_game.specs.Refusals.{refusal, is_board_text}
use Rattle.fibs_game.specs.Runs.{AllAccepted, after_all}
use Rattle.fibs_game.specs.Talks.{IsWorld}
use Rattle.fibs_game.specs.World.{World, start, after, client_does, noted, serves, talk_of}
use Rattle.fibs_game.proofs.Refusing.{not_refused, is_open, is_closed, served, said}
use Rattle.fibs_game.proofs.Sound.{sound_after}
use Rattle.fibs_game.proofs.Stepping.{asks, does_is, loses_is, newest, noted_is, opens_is, stays_is}
use Rattle.fibs_game.proofs.past.Lists.{other_number}
use Rattle.fibs_game.proofs.past.Past.{open_append}
use Rattle.fibs_game.proofs.wires.Boards.{whole_none, text_boards}
use Rattle.fibs_game.proofs.wires.Ways.{way_none}
use Rattle.fibs_game.proofs.joint.Asked.{ChangesNothing}
use Rattle.fibs_game.proofs.joint.Click.{joint_click}
use Rattle.fibs_game.proofs.joint.Deliver.{joint_deliver}
use Rattle.fibs_game.proofs.joint.Joint.{Joint}
use Rattle.fibs_game.proofs.joint.Sending.{joint_noted, joint_asks, joint_board, joint_text}
use Rattle.fibs_game.proofs.joint.Turns.{joint_open, joint_lose, joint_serve}

module _ (G : Game) where
  -- an order, given or withdrawn, keeps the joint statement, noted or not
  joint_if : (login : List ℕ) (w : World G) (e : Entry G) (o : Option Refusal) → IsWorld w → ChangesNothing G (e ∷ [])
      → flat_map opened_by (e ∷ []) ≡ [] → Joint G [] w
      → Joint G [] (client_does w (λ l. l) (notes_if (talk_of login w) e o))
  joint_if login w e (Some why) i idle none j = subst (Joint G []) (stays_is G login w i.counted) j
  joint_if login w e None i idle none j =
      subst (Joint G []) (noted_is G login w (e ∷ []) i.counted none)
      (joint_noted G [] w (e ∷ []) j idle.shows_none idle.sends_none idle.takes_none (idle.stays_open (open_now w.log)))

  module _ (law : Lawful G) where
    -- a plain command keeps the joint statement
    joint_said : (login : List ℕ) (w : World G) (p : G.Plain) → IsWorld w → Joint G [] w
        → Joint G [] (after login w (Plain p))
    joint_said login w p i j = go (plain_refusal (talk_of login w) p) refl
      where
        go : (o : Option G.Fault) → plain_refusal (talk_of login w) p ≡ o
            → Joint G [] (client_does w (λ l. l) (sends_plain (talk_of login w) p o))
        go (Some why) e = subst (Joint G []) (stays_is G login w i.counted) j
        go None e =
            let s = said G (talk_of login w) p e in
            subst (Joint G []) (does_is G login w [] (G.plain p ∷ []) i.counted refl)
            (subst (λ c. Joint G [] (asks (noted w []) c (G.plain p ∷ []))) (newest G w i s.0)
            (joint_asks G law [] (noted w []) (open_now w.log) (G.plain p ∷ [])
            (joint_noted G [] w [] j (λ c. refl) (λ c. refl) (λ c. refl) refl) (open_append G 0 w.log []) s.0
            (law.plain_quiet p s.1, tt)))

    -- each event that is accepted keeps the joint statement
    pub joint_after : (login : List ℕ) → IsQuiet G login → (w : World G) (e : Event G) → IsWorld w → Joint G [] w
        → refusal w e ≡ None → Joint G [] (after login w e)
    joint_after login quiet w Open i j h =
        let z = is_closed G w h in
        subst (Joint G []) (opens_is G login w i z) (joint_open G law login quiet w j (eqb-true _ _ z))
    joint_after login quiet w (Click d) i j h = joint_click G law login w d i j
    joint_after login quiet w (Plain p) i j h = joint_said login w p i j
    joint_after login quiet w (Deliver n) i j h = joint_deliver G law login w n i j (is_open G NotOpen _ h)
    joint_after login quiet w (Lose k) i j h =
        let some = is_open G NotOpen _ h in
        subst (Joint G []) (loses_is G login w k i some) (joint_lose G law w (open_now w.log) k _ j refl some)
    joint_after login quiet w (Serve c d1 d2) i j h =
        let s = served G w c d1 d2 h in
        subst (λ o. Joint G [] (serves c w d1 d2 o)) (sym s.next)
        (joint_serve G law w c d1 d2 s.line.0 s.line.1 j s.some s.known s.recent s.die1 s.die2 s.next)
    joint_after login quiet w (Own b) i j h =
        let s1 = not_refused G (not (G.good b)) _ _ h in
        let s2 = not_refused G (G.decides w.board) _ _ s1.1 in
        joint_board G law w b j (not-false _ s1.0) (inr s2.0)
    joint_after login quiet w Repeat i j h = joint_board G law w w.board j j.good (inl refl)
    joint_after login quiet w (Text t) i j h =
        joint_text G law w t j
        (text_boards G law (G.lines (on_wire t)) (not_refused G (is_board_text G (G.lines (on_wire t))) _ _ h).0)
    joint_after login quiet w Order i j h =
        joint_if login w (Ordered (open_now w.log)) (order_refusal w.log) i
        (record { shows_none = λ e. refl; sends_none = λ e. refl; takes_none = λ e. refl; stays_open = λ o. refl })
        refl j
    joint_after login quiet w Withdraw i j h =
        joint_if login w (Withdrawn (open_now w.log)) (withdraw_refusal w.log) i
        (record { shows_none = λ e. refl; sends_none = λ e. refl; takes_none = λ e. refl; stays_open = λ o. refl })
        refl j

    -- What each event keeps of the server's acts on each connection holds after every list of events. It is to be the
    -- same in other words for the acts.
    pub over_events : (P : (ℕ → List (Act G)) → World G → Type 0)
        → ((acts acts' : ℕ → List (Act G)) (w : World G) → ((c : ℕ) → acts' c ≡ acts c) → P acts w → P acts' w)
        → (login : List ℕ) → IsQuiet G login
        → ((acts : ℕ → List (Act G)) (w : World G) (e : Event G) → IsWorld w → Joint G [] w → refusal w e ≡ None
        → P acts w → P (λ c. acts c ++ acts_on w e c) (after login w e))
        → (acts : ℕ → List (Act G)) (es : List (Event G)) (w : World G) → AllAccepted login w es → IsWorld w
        → Joint G [] w → P acts w → P (λ c. acts c ++ acts_from login w es c) (after_all login w es)
    over_events P same login quiet one acts [] w ok i j p =
        same acts (λ c. acts c ++ []) w (λ c. append-nil (acts c)) p
    over_events P same login quiet one acts (e ∷ es) w ok i j p =
        let w' : World G = after login w e in
        let first : ℕ → List (Act G) = λ c. acts c ++ acts_on w e c in
        same (λ c. first c ++ acts_from login w' es c) (λ c. acts c ++ acts_from login w (e ∷ es) c)
        (after_all login w' es) (λ c. sym (append_assoc (acts c) (acts_on w e c) (acts_from login w' es c)))
        (over_events P same login quiet one first es w' ok.1 (sound_after G login w e i ok.0)
        (joint_after login quiet w e i j ok.0) (one acts w e i j ok.0 p))

    -- it holds of the world at first, which has a good board
    pub joint_start : (b : G.Board) → G.good b ≡ true → Joint G [] (start b)
    joint_start b g = record {
      good = g;
      low = omega arith;
      who = inl refl;
      each = λ c. record {
        ahead = λ h. record {
          silent = record { seen = refl; sends = refl; takes = refl; fresh = refl };
          served = refl;
          heard = refl;
          coming = refl;
          way = way_none G law _;
          asks = λ z. absurd (true≢false (sym z ∙ other_number 0 c (λ e. absurd (omega arith))));
        };
        unopened = λ h. refl;
        settled = record { p = None; owed = refl };
        current = λ some e. absurd (omega arith);
        moved = λ h. absurd (true≢false (sym h));
        wire = λ e h. whole_none G;
      };
    }
