-- The open connection ends.
use Rattle.std.proofs.Common.{◌≡◌, ◌<◌, ℕ, [], ◌∷◌, ◌++◌, Option, length, refl, sym, ap, subst, ◌∙◌, arith}
use Rattle.fibs_session.specs.History.Log as L
use Rattle.fibs_session.specs.History.Words.{Ask, open_now, unconfirmed}
use Rattle.fibs_session.specs.History.Machine.{Talk, unconfirmed_now}
use Rattle.fibs_session.specs.History.Machine as M
use Rattle.fibs_session.specs.Calls.Standing.{StandsAfter}
use Rattle.fibs_session.specs.Calls.Doing.{Does}
use Rattle.fibs_model.specs.Events.{Lose}
use Rattle.fibs_model.specs.LinksOf.{kept_of, link_at, set_link}
use Rattle.fibs_model.specs.WireLinks.{cut_off}
use Rattle.fibs_model.specs.World.{linked, talk_of}
use Rattle.fibs_model.specs.WorldOf.{WorldValue, Goes, May}
use Rattle.fibs_game.specs.declared.world_refusal.WorldRefusal.TheVariants.{NotOpen}
use Rattle.fibs_game.proofs.Refusing.{is_open}
use Rattle.fibs_game.proofs.Stepping.{loses_is}
use Rattle.fibs_game.proofs.past.Past.{open_append}
use Rattle.fibs_session.specs.Fibs.{fibs}
use Rattle.fibs_model.specs.Wires as whole
use Rattle.fibs_model.proofs.Likeness.Links.{links_linked, length_set_link}
use Rattle.fibs_model.proofs.Likeness.Events.{current_known, client_after, sound_after, stands_by}

module _ (v v' : WorldValue) (k : ℕ) (u : Option Ask)
    (server : v'.server ≡ v.server)
    (links : v'.links ≡ set_link v.links v.current (cut_off (link_at v.links v.current) k))
    (log : v'.log ≡ v.log ++ L.Lost v.current u ∷ [])
    (waited : (t : Talk) → StandsAfter v.client t → u ≡ unconfirmed_now t)
    (current : v'.current ≡ 0) (does : Does v.client v'.client M.Lose []) (may : May v (Lose k)) where
  -- the world after it
  pub lost_stands : Goes v v' (Lose k)
  lost_stands login w s =
      let c : ℕ = open_now w.log in
      let r = may login w s in
      let some : 0 < c = (is_open fibs) NotOpen c r in
      let known = current_known v login w s in
      let noted : v.log ++ L.Lost v.current u ∷ [] ≡ w.log ++ L.Lost c (unconfirmed c w.log) ∷ [] =
      ap (λ l. l ++ L.Lost v.current u ∷ []) s.log ∙ ap (λ n. w.log ++ L.Lost n u ∷ []) s.current
      ∙ ap (λ x. w.log ++ L.Lost c x ∷ []) (waited (talk_of login w) s.client) in
      stands_by v' login _ _ ((loses_is fibs) login w k s.sound some)
      (client_after login w (Lose k) M.Lose v.client v'.client [] s.sound r refl does s.client)
      (sound_after login w (Lose k) s.sound r) (λ client sound. record {
        board = ap (λ x. x.board) server ∙ s.board;
        logged_in = ap (λ x. x.logged_in) server ∙ s.logged_in;
        count = ap length links ∙ length_set_link v.links v.current _ ∙ s.count;
        log = log ∙ noted;
        current = current ∙ sym ((open_append fibs) 0 w.log (L.Lost c (unconfirmed c w.log) ∷ []));
        links = λ d. subst (λ n. kept_of ((linked w n (whole.cut_off (w.links n) k)).links d) ≡ link_at v'.links d)
            s.current
            (subst (λ ls. kept_of ((linked w v.current (whole.cut_off (w.links v.current) k)).links d) ≡ link_at ls d)
            (sym links)
            (links_linked w v.links v.current (cut_off (link_at v.links v.current) k)
            (whole.cut_off (w.links v.current) k) s.links (ap (λ l. cut_off l k) (sym (s.links v.current)))
            (omega (arith, some, s.current)) known d));
        client = client;
        sound = sound;
      })
