-- The joint statement is kept if the user clicks.
use Rattle.std.proofs.Common.{◌≡◌, ◌<◌, ℕ, List, sym, false, [], ◌∷◌, Option, Some, None, refl, ap, subst, inl, inr}
use Rattle.fibs_game.specs.declared.refusal.Refusal.{Refusal}
use Rattle.fibs_game.specs.Log.{Entry, Clicked, Sent}
use Rattle.fibs_game.specs.Words.{last, open_now, shown, is_spent, answer}
use Rattle.fibs_game.specs.World.{World, after, client_does, noted, talk_of}
use Rattle.fibs_game.specs.Events.{Click}
use Rattle.fibs_game.specs.Machine.{clicks_by, decides_on}
use Rattle.fibs_game.specs.Talks.{IsWorld}
use Rattle.fibs_game.specs.Game.{Game}
use Rattle.fibs_game.specs.Lawful.{Lawful}
use Rattle.fibs_game.proofs.past.Words.{Yes, yes}
use Rattle.fibs_game.proofs.joint.Asked.{joint_asked}
use Rattle.fibs_game.proofs.joint.Joint.{Joint}
use Rattle.fibs_game.proofs.joint.Sending.{joint_noted, which}
use Rattle.fibs_game.proofs.Stepping.{asks, does_is, newest, noted_is}

module _ (G : Game) where
  module _ (law : Lawful G) where
    -- a click keeps the joint statement, with each answer
    pub joint_click : (login : List ℕ) (w : World G) (d : G.Decision) → IsWorld w → Joint G [] w
        → Joint G [] (after login w (Click d))
    joint_click login w d i j = go (answer w.log d) refl
      where
        go : (a : Option Refusal) → answer w.log d ≡ a
            → Joint G [] (client_does w (λ l. l) (clicks_by (talk_of login w) d a))
        go (Some x) e =
            let es : List (Entry G) = Clicked (open_now w.log) d (Some x) ∷ [] in
            subst (Joint G []) (noted_is G login w es i.counted refl)
            (joint_noted G [] w es j (λ c. refl) (λ c. refl) (λ c. refl) refl)
        go None e =
            let y = yes G w.log d e in
            let k : open_now w.log ≡ w.logged_in = here y in
            let es : List (Entry G) = Clicked (open_now w.log) d None ∷ Sent (open_now w.log) y.on d ∷ [] in
            let z =
            subst (λ c. (0 < c) × (is_spent c w.log ≡ false) × (last (shown c w.log) ≡ Some y.on)) k
            (y.some, y.fresh, y.is_last) in
            let asked : Joint G [] (asks (noted w es) (open_now w.log) (G.command y.on d ∷ [])) =
            rw k (joint_asked G law [] w (Clicked w.logged_in d None ∷ []) d y.on
            (record { shows_none = λ e. refl; sends_none = λ e. refl; takes_none = λ e. refl; stays_open = λ o. refl })
            j
            k z.0 z.1 z.2 y.allowed) in
            subst (λ o. Joint G [] (client_does w (λ l. l) (decides_on (talk_of login w) d o))) (sym y.is_last)
            (subst (Joint G []) (does_is G login w es (G.command y.on d ∷ []) i.counted refl)
            (subst (λ n. Joint G [] (asks (noted w es) n (G.command y.on d ∷ []))) (newest G w i y.some) asked))
          where
            here : Yes G w.log d → open_now w.log ≡ w.logged_in
            here y = elim (which G [] w (open_now w.log) j refl y.some) [
              | inl q ↦ q
              | inr lt ↦
                  let a = (j.each (open_now w.log)).ahead lt in
                  let g : last (shown (open_now w.log) w.log) ≡ None = ap last a.silent.seen in
                  let g' = y.is_last in cc
            ]
