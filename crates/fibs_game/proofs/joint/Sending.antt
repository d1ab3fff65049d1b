-- The joint statement is kept if commands and lines go on wires.
use Rattle.std.proofs.Common.{◌≡◌, ℕ, ◌<◌, ◌≤◌, Bool, true, false, not, ◌&&◌, List, [], ◌∷◌, ◌++◌, Option, Some, None, nat_eq, flat_map, refl, sym, ◌∙◌, zero, suc, ap, subst, inl, inr, ◌⊎◌, append-nil, append_assoc, true≢false, arith, if◌then◌else◌}
use Rattle.std.proofs.lemmas.Bool.Decides.{eqb_tells}
use Rattle.std.proofs.lemmas.Bool.{eqb-true}
use Rattle.fibs_game.specs.Log.{Entry}
use Rattle.fibs_game.specs.Words.{Ask, is_empty, last, open_from, open_now, shown, sent, took}
use Rattle.fibs_game.specs.Wires.{Link, more_asked, more_coming}
use Rattle.fibs_game.specs.World.{World, noted, linked, sends, is_talking}
use Rattle.fibs_game.specs.Machine.{on_wire}
use Rattle.fibs_game.specs.Game.{Game}
use Rattle.fibs_game.specs.Lawful.{AllQuiet, Lawful}
use Rattle.fibs_game.proofs.past.Lists.{same_number, and_left, and_right, to_list}
use Rattle.fibs_game.proofs.past.Past.{open_append}
use Rattle.fibs_game.proofs.wires.Ways.{OnWay, way_more}
use Rattle.fibs_game.proofs.wires.Boards.{waiting, boards, boards_more, whole_more, printed}
use Rattle.fibs_game.proofs.joint.Joint.{Logged, log_of, AllAre, Calm, Live, Held, Joint, current, current_with, at_other, same_log, joint_current, joint_rewired, joint_rewired_ahead, ahead_with, joint_same}
use Rattle.fibs_game.proofs.Stepping.{asks}

module _ (G : Game) where
  -- entries that are none of Shown, Sent and Took, and leave open what is open
  pub joint_noted : (x : List G.Board) (w : World G) (es : List (Entry G)) → Joint G x w
      → ((c : ℕ) → shown c es ≡ []) → ((c : ℕ) → sent c es ≡ []) → ((c : ℕ) → took c es ≡ [])
      → open_from (open_now w.log) es ≡ open_now w.log
      → Joint G x (noted w es)
  joint_noted x w es j h k m o = joint_same G x w (noted w es) j refl refl refl (open_append G 0 w.log es ∙ o)
      (λ c. record { log = same_log G w (noted w es) es c refl (h c) (k c) (m c); link = refl })

  -- the open connection is not older than the one logged in
  pub not_older : (x : List G.Board) (w : World G) (c : ℕ) → Joint G x w → open_now w.log ≡ c → 0 < c → w.logged_in ≤ c
  not_older x w c j h k =
      let lo = j.low in elim j.who [ inl e ↦ absurd (omega arith) | inr e ↦ let e0 = e.0 in omega arith ]

  -- equal numbers pass the test
  pub same_test : (c d : ℕ) → c ≡ d → nat_eq c d ≡ true
  same_test c d h = rw h (same_number d)

  -- the open connection is the one logged in, or newer
  pub which : (x : List G.Board) (w : World G) (c : ℕ) → Joint G x w → open_now w.log ≡ c → 0 < c
      → (c ≡ w.logged_in) ⊎ (w.logged_in < c)
  which x w c j h some =
      let le = not_older x w c j h some in
      elim (eqb_tells c w.logged_in) [ inl e ↦ inl e.1 | inr n ↦ inr (let m = n.1 in omega arith) ]

  -- what is on the wire of the open connection to the server
  pub open_way : (x : List G.Board) (w : World G) → Joint G x w → 0 < open_now w.log
      → (p : Option (Ask G)) × OnWay G true p (w.links (open_now w.log)).asked
  open_way x w j some = elim (which x w (open_now w.log) j refl some) [
    | inl e ↦
        let cur = current G x w j (omega arith) in (
          cur.p,
          subst (λ c. OnWay G true cur.p (w.links c).asked) (sym e)
              (subst (λ o. OnWay G o cur.p (w.links w.logged_in).asked) (same_test _ _ e) cur.way),
        )
    | inr lt ↦ (
      None,
      subst (λ o. OnWay G o None (w.links (open_now w.log)).asked) (same_number (open_now w.log))
          ((j.each (open_now w.log)).ahead lt).way,
    )
  ]

  -- what was handed out is not spoken of
  pub joint_handed : (x : List G.Board) (w : World G) (c : ℕ) (ts : List (List ℕ))
      → Joint G x (linked w c (more_asked (w.links c) (flat_map on_wire ts))) → Joint G x (asks w c ts)
  joint_handed x w c ts j = joint_same G x (linked w c (more_asked (w.links c) (flat_map on_wire ts))) (asks w c ts) j
      refl
      refl refl refl (λ d. record { log = refl; link = refl })

  -- more bytes after some
  more_bytes : (xs ys : List ℕ) → is_empty xs ≡ false → is_empty (xs ++ ys) ≡ false
  more_bytes [] ys h = absurd (true≢false h)
  more_bytes (x ∷ xs) ys h = refl

  module _ (law : Lawful G) where
    -- the client of the open connection hands out commands that are no decisions
    pub joint_asks : (x : List G.Board) (w : World G) (c : ℕ) (ts : List (List ℕ)) → Joint G x w → open_now w.log ≡ c
        → 0 < c
        → AllQuiet G ts → Joint G x (asks w c ts)
    joint_asks x w c ts j h k q = elim (which x w c j h k) [ inl e ↦ at_current e | inr lt ↦ at_ahead lt ]
      where
        at_ahead : w.logged_in < c → Joint G x (asks w c ts)
        at_ahead lt =
            let a = (j.each c).ahead lt in
            let t : nat_eq (open_now w.log) c ≡ true = same_test _ _ h in
            joint_handed x w c ts (joint_rewired_ahead G x w c (more_asked (w.links c) (flat_map on_wire ts)) j lt
            (ahead_with G a refl a.heard a.coming
            (subst (λ o. OnWay G o None ((w.links c).asked ++ flat_map on_wire ts)) (sym t)
            (way_more G law None _ ts (subst (λ o. OnWay G o None (w.links c).asked) t a.way) q))
            (λ z. more_bytes (w.links c).asked (flat_map on_wire ts) (a.asks z)))
            (λ z. let lo = j.low in
            elim j.who [ inl e ↦ absurd (omega arith) | inr e ↦ let e0 = e.0 in absurd (omega arith) ]))

        at_current : c ≡ w.logged_in → Joint G x (asks w c ts)
        at_current e =
            let some : 0 < w.logged_in = omega arith in
            let t : nat_eq (open_now w.log) w.logged_in ≡ true = same_test _ _ (h ∙ e) in
            let cur = current G x w j some in
            let l : Link = more_asked (w.links w.logged_in) (flat_map on_wire ts) in
            rw e (joint_handed x w w.logged_in ts (joint_rewired G x x w w.board l j some j.good
            (current_with G cur
            (subst (λ o. OnWay G o cur.p ((w.links w.logged_in).asked ++ flat_map on_wire ts)) (sym t)
            (way_more G law cur.p _ ts (subst (λ o. OnWay G o cur.p (w.links w.logged_in).asked) t cur.way) q))
            cur.begun cur.held cur.live)
            (λ o. (j.each w.logged_in).wire o some)))

  -- a number that is not 0 is above it
  pub some_of : (n : ℕ) → not (nat_eq n 0) ≡ true → 0 < n
  some_of zero h = absurd (true≢false (sym h))
  some_of (suc n) h = omega arith

  -- what fails with a second that holds fails itself
  pub not_left : (a b : Bool) → (a && not b) ≡ false → b ≡ false → a ≡ false
  not_left a true h k = absurd (true≢false k)
  not_left true false h k = h
  not_left false false h k = refl

  -- one more line is sent
  abbrev pub with_line : Link → List ℕ → Link
  with_line l t = more_coming l (on_wire t)

  -- a fact on a choice
  pub if_fact : {A : Type 0} (P : A → Type 0) (z : Bool) (a b : A) → (z ≡ true → P a) → (z ≡ false → P b)
      → P (if z then a else b)
  if_fact P true a b f g = f refl
  if_fact P false a b f g = g refl

  -- one more board that is the same
  pub all_more : (b x : G.Board) (bs : List G.Board) → AllAre G b bs → x ≡ b → AllAre G b (bs ++ x ∷ [])
  all_more b x [] h e = (e, tt)
  all_more b x (y ∷ ys) h e = (h.0, all_more b x ys h.1 e)

  module _ (law : Lawful G) where
    -- the server's board may become another only if the user doesn't decide
    abbrev pub MayBecome : G.Board → G.Board → Type 0
    MayBecome now b = (now ≡ b) ⊎ (G.decides now ≡ false)

    -- a board in which the user decides stays
    becomes : (now b a : G.Board) → MayBecome now b → G.decides a ≡ true → now ≡ a → b ≡ a
    becomes now b a m h e = elim m [
      | inl k ↦ sym k ∙ e
      | inr k ↦ let k' : G.decides a ≡ false = rw e at k in absurd (true≢false (sym h ∙ k'))
    ]

    -- one more board is sent, if the server's board may become it
    pub calm_more : (now b : G.Board) (bs : List G.Board) → MayBecome now b → Calm G now bs → Calm G b (bs ++ b ∷ [])
    calm_more now b [] m h = (λ z. (tt, refl), tt)
    calm_more now b (a ∷ rest) m h =
        (λ z. let e = becomes now b a m z (h.0 z).1 in (all_more a b rest (h.0 z).0 e, e), calm_more now b rest m h.1)

    -- the same holds of the boards on their way to the client
    pub live_more : (v : Logged G) (now b : G.Board) (ws : List G.Board) (p : Option (Ask G)) → MayBecome now b
        → Live G v now ws p
        → Live G v b (ws ++ b ∷ []) p
    live_more v now b ws None m y = elim y [
      | inl f ↦
          inl
          (record {
            fresh = f.fresh;
            calm = subst (Calm G b) (append_assoc (to_list (last v.seen)) ws (b ∷ [])) (calm_more now b _ m f.calm);
          })
      | inr d ↦ inr (record {
        spent = d.spent;
        on = d.on;
        is_last = d.is_last;
        before = d.before;
        next = d.next;
        later = d.later ++ b ∷ [];
        all = ap (λ l. l ++ b ∷ []) d.all ∙ append_assoc d.before (d.next ∷ d.later) (b ∷ []);
        alike = d.alike;
        unlike = d.unlike;
        calm = calm_more now b (d.next ∷ d.later) m d.calm;
      })
    ]
    live_more v now b ws (Some a) m y =
        record { spent = y.spent; is_last = y.is_last; calm = calm_more now b (a.0 ∷ ws) m y.calm }

    -- a decision that waits is on the server's board still
    pub held_more : (now b : G.Board) (p : Option (Ask G)) → MayBecome now b → Held G now p → Held G b p
    held_more now b None m h = tt
    held_more now b (Some a) m h = (becomes now b a.0 m (law.allowed_decides a.0 a.1 h.1) h.0, h.1)

    -- The server's board becomes b, and a line t is sent, which says the boards bs.
    joint_sends : (w : World G) (b : G.Board) (t : List ℕ) (bs : List G.Board) → Joint G [] w → G.good b ≡ true
        → boards G (G.lines (on_wire t)) ≡ bs
        → ((v : Logged G) (ws : List G.Board) (p : Option (Ask G)) → Live G v w.board ws p → Live G v b (ws ++ bs) p)
        → ((p : Option (Ask G)) → Held G w.board p → Held G b p)
        → Joint G [] (sends (record w { board = b }) t)
    joint_sends w b t bs j good says live held =
        if_fact (Joint G []) (is_talking w) _ _
        (λ z. talking (and_left _ _ z) (and_right _ _ z))
        (λ z. elim (eqb_tells w.logged_in 0) [ inl e ↦ nobody e.1 | inr n ↦ dropped n (not_left _ _ z n.0) ])
      where
        nobody : w.logged_in ≡ 0 → Joint G [] (record w { board = b })
        nobody e = record {
          good = good;
          low = j.low;
          who = j.who;
          each = λ c. at_other G [] [] w.board b w.logged_in w.count (open_now w.log) c _ _
              (λ some n. absurd (omega arith))
              (j.each c);
        }

        dropped : (nat_eq w.logged_in 0 ≡ false) × (w.logged_in ≡ 0 → ⊥) → nat_eq (open_now w.log) w.logged_in ≡ false
            → Joint G [] (record w { board = b })
        dropped n f =
            let n1 = n.1 in
            let some : 0 < w.logged_in = omega arith in
            let cur = current G [] w j some in
            joint_current G [] [] w (record w { board = b }) j some refl refl refl
            (λ d m. record { log = refl; link = refl }) good
            (current_with G cur cur.way cur.begun (held cur.p cur.held) (λ o. absurd (true≢false (sym o ∙ f))))
            (j.each w.logged_in).moved (λ o. (j.each w.logged_in).wire o some)

        talking : nat_eq (open_now w.log) w.logged_in ≡ true → not (nat_eq w.logged_in 0) ≡ true
            → Joint G [] (linked (record w { board = b }) w.logged_in (with_line (w.links w.logged_in) t))
        talking z n =
            let some : 0 < w.logged_in = some_of w.logged_in n in
            let l : Link = with_line (w.links w.logged_in) t in
            let wire = (j.each w.logged_in).wire (eqb-true _ _ z) some in
            let more : waiting G [] l ≡ waiting G [] (w.links w.logged_in) ++ bs =
            boards_more G law (w.links w.logged_in).heard (w.links w.logged_in).coming t bs wire says in
            let cur = current G [] w j some in
            joint_rewired G [] [] w b l j some good
            (current_with G cur cur.way cur.begun (held cur.p cur.held)
            (λ y. subst (λ ws. Live G (log_of G w w.logged_in) b ws cur.p) (sym more) (live _ _ cur.p (cur.live y))))
            (λ o. whole_more G law (w.links w.logged_in).heard (w.links w.logged_in).coming t wire)

    -- the server's board becomes b, and is sent
    pub joint_board : (w : World G) (b : G.Board) → Joint G [] w → G.good b ≡ true → MayBecome w.board b
        → Joint G [] (sends (record w { board = b }) (G.spelling b))
    joint_board w b j good m =
        joint_sends w b (G.spelling b) (b ∷ []) j good (printed G law b good)
        (λ v ws p y. live_more v w.board b ws p m y)
        (λ p h. held_more w.board b p m h)

    -- a line that says no board is sent
    pub joint_text : (w : World G) (t : List ℕ) → Joint G [] w → boards G (G.lines (on_wire t)) ≡ []
        → Joint G [] (sends w t)
    joint_text w t j says =
        joint_sends w w.board t [] j j.good says (λ v ws p y. subst (λ l. Live G v w.board l p) (sym (append-nil ws)) y)
        (λ p h. h)
