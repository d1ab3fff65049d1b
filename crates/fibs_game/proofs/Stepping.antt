-- The client's step as a change of the world: entries are noted, and commands go out on the newest connection.
use Rattle.std.proofs.Common.{◌≡◌, ℕ, suc, ◌+◌, ◌<◌, Bool, true, false, not, List, [], ◌∷◌, ◌++◌, nat_eq, flat_map, length, refl, sym, ◌∙◌, ap, subst, inl, inr, append-nil, append_assoc, length-append, arith, if◌then◌else◌, take}
use Rattle.std.proofs.lemmas.Bool.Decides.{eqb_tells}
use Rattle.std.proofs.lemmas.List.Concat.{flat_map-append}
use Rattle.fibs_game.specs.Game.{Game, Says}
use Rattle.fibs_game.specs.Log.{Entry}
use Rattle.fibs_game.specs.Log as L
use Rattle.fibs_game.specs.Words.{open_from, open_now, opened_by, connections, unconfirmed}
use Rattle.fibs_game.specs.Hearing.{Heard, heard, line_says}
use Rattle.fibs_game.specs.Machine.{Talk, Outcome, step, noted as talk_noted, does, stays, opened, hears_all, heard_by, hears as talk_hears, with_bytes, gained, on_wire, wire_of}
use Rattle.fibs_game.specs.Machine as M
use Rattle.fibs_game.specs.Wires.{Link, more_asked, cut_off, delivered}
use Rattle.fibs_game.specs.Talks.{IsWorld}
use Rattle.fibs_game.specs.Events.{Open, Lose, Deliver}
use Rattle.fibs_game.specs.World.{World, after, changed, client_does, linked, noted, talk_of}
use Rattle.fibs_game.proofs.past.Joins.{lines_open_none}
use Rattle.fibs_game.proofs.past.Lists.{same_number, other_number, map_no_more}
use Rattle.fibs_game.proofs.past.Past.{open_append}

module _ {G : Game} where
  -- commands are handed out on a connection, and go on its wire to the server, each with CR LF
  abbrev pub asks : World G → ℕ → List (List ℕ) → World G
  asks w c texts = record w {
    links = λ d. if nat_eq d c then more_asked (w.links c) (wire_of texts) else w.links d;
    commands = λ d. if nat_eq d c then w.commands c ++ texts else w.commands d;
  }

  -- a line is heard: its entries are noted, and its commands handed out
  abbrev pub does_heard : ℕ → World G → Heard G → World G
  does_heard c w h = asks (noted w h.entries) c h.send

  -- what a line says is heard on a connection
  abbrev pub hears : ℕ → World G → Says G.Board G.Info → World G
  hears c w x = does_heard c w (heard c w.log x)

  -- the world in which this is the machine of the newest connection, and these are its wires
  abbrev pub beside : World G → Talk G → Link → World G
  beside w t l = changed w (connections t.log) t.log l t.commands

-- these bytes are on the wire to the server
abbrev with_asked : Link → List ℕ → Link
with_asked l bytes = record l { asked = bytes }

-- no commands change no wire
pub asked_none : (l : Link) → l ≡ more_asked l []
asked_none l = ap (with_asked l) (sym (append-nil l.asked))

-- commands after commands
pub asked_both : (l : Link) (xs ys : List (List ℕ))
    → more_asked (more_asked l (wire_of xs)) (wire_of ys) ≡ more_asked l (wire_of (xs ++ ys))
asked_both l xs ys =
    ap (with_asked l) (append_assoc l.asked (wire_of xs) (wire_of ys)
    ∙ ap (λ bytes. l.asked ++ bytes) (sym (flat_map-append on_wire xs ys)))

module _ (G : Game) where
  -- worlds that are the same in each part are the same
  same_world : (w v : World G) → w.board ≡ v.board → w.logged_in ≡ v.logged_in → w.count ≡ v.count → w.log ≡ v.log
      → ((d : ℕ) → w.links d ≡ v.links d) → ((d : ℕ) → w.commands d ≡ v.commands d) → w ≡ v
  same_world w v b l c g ls ts = λ i. record {
    board = b i;
    logged_in = l i;
    count = c i;
    log = g i;
    links = λ d. ls d i;
    commands = λ d. ts d i;
  }

  -- what is put at a number, and elsewhere is as it was, is the same as something that is so
  at_each : {A : Type 0} (c : ℕ) (x : A) (f g : ℕ → A) → x ≡ g c → ((d : ℕ) → (d ≡ c → ⊥) → f d ≡ g d) → (d : ℕ)
      → (if nat_eq d c then x else f d) ≡ g d
  at_each c x f g here others d = elim (eqb_tells d c) [
    | inl e ↦ rw e.0 (here ∙ ap g (sym e.1))
    | inr n ↦ rw n.0 (others d n.1)
  ]

  -- the element that was put at a number is there
  pub at_it : {A : Type 0} (c : ℕ) (x y : A) → (if nat_eq c c then x else y) ≡ x
  at_it c x y = rw (same_number c) refl

  -- and elsewhere is what was there before
  pub elsewhere : {A : Type 0} (d c : ℕ) (x y : A) → (d ≡ c → ⊥) → (if nat_eq d c then x else y) ≡ y
  elsewhere d c x y n = rw (other_number d c n) refl

  -- entries that open no connection leave their number as it is
  pub no_more : (xs ys : List (Entry G)) → flat_map opened_by ys ≡ [] → connections (xs ++ ys) ≡ connections xs
  no_more xs ys h = ap length (map_no_more opened_by xs ys h)

  -- a world stays one after entries that open and end no connection, if later connections stay unheard
  pub stays_world : (w w' : World G) (es : List (Entry G)) → IsWorld w → w'.log ≡ w.log ++ es → w'.count ≡ w.count
      → flat_map opened_by es ≡ [] → open_from (open_now w.log) es ≡ open_now w.log
      → ((d : ℕ) → w.count < d → (w'.links d).heard ≡ (w.links d).heard)
      → ((d : ℕ) → w.count < d → w'.commands d ≡ w.commands d) → IsWorld w'
  stays_world w w' es i el ec none same hs cs =
      let oc : open_now w'.log ≡ open_now w.log = ap open_now el ∙ open_append G 0 w.log es ∙ same in
      record {
        counted = ap connections el ∙ no_more w.log es none ∙ i.counted ∙ sym ec;
        newest = rw (oc, ec) i.newest;
        unheard = λ d lt. let lt' : w.count < d = rw ec at lt in hs d lt' ∙ i.unheard d lt';
        unsaid = λ d lt. let lt' : w.count < d = rw ec at lt in cs d lt' ∙ i.unsaid d lt';
      }

  -- handing out nothing changes nothing
  asks_none : (w : World G) (c : ℕ) → asks w c [] ≡ w
  asks_none w c =
      same_world (asks w c []) w refl refl refl refl
      (at_each c _ w.links w.links (sym (asked_none (w.links c))) (λ d n. refl))
      (at_each c _ w.commands w.commands (append-nil (w.commands c)) (λ d n. refl))

  -- the client's own machine, beside its world with these wires
  begins : (login : List ℕ) (w : World G) (l : Link) → connections w.log ≡ w.count
      → linked w w.count l ≡ beside w (talk_of login w) l
  begins login w l e =
      same_world (linked w w.count l) (changed w w.count w.log l (w.commands w.count)) refl refl refl refl (λ d. refl)
      (λ d. sym (at_each w.count (w.commands w.count) w.commands w.commands refl (λ d n. refl) d))
      ∙ ap (λ n. changed w n w.log l (w.commands w.count)) (sym e)

  -- setting wires as they were changes nothing
  pub linked_own : (w : World G) (c : ℕ) → linked w c (w.links c) ≡ w
  linked_own w c =
      same_world (linked w c (w.links c)) w refl refl refl refl
      (at_each c (w.links c) w.links w.links refl (λ d n. refl)) (λ d. refl)

  -- entries that open no connection are noted, and commands handed out, by the world as by the machine beside it
  goes_on : (w : World G) (t : Talk G) (l : Link) (es : List (Entry G)) (ts : List (List ℕ))
      → flat_map opened_by es ≡ []
      → asks (noted (beside w t l) es) (connections t.log) ts
      ≡ beside w (talk_noted t es ts) (more_asked l (wire_of ts))
  goes_on w t l es ts none =
      same_world (asks (noted (beside w t l) es) c ts)
      (changed w c (t.log ++ es) (more_asked l (wire_of ts)) (t.commands ++ ts)) refl refl refl refl
      (at_each c _ (beside w t l).links _
      (ap (λ x. more_asked x (wire_of ts)) (at_it c l (w.links c)) ∙ sym (at_it c _ (w.links c)))
      (λ d n. elsewhere d c _ _ n ∙ sym (elsewhere d c _ _ n)))
      (at_each c _ (beside w t l).commands _
      (ap (λ x. x ++ ts) (at_it c t.commands (w.commands c)) ∙ sym (at_it c _ (w.commands c)))
      (λ d n. elsewhere d c _ _ n ∙ sym (elsewhere d c _ _ n)))
      ∙ ap (λ n. changed w n (t.log ++ es) (more_asked l (wire_of ts)) (t.commands ++ ts)) (sym (no_more t.log es none))
    where
      c : ℕ
      c = connections t.log

  -- a step that notes entries, which open no connection, and hands out commands
  pub does_is : (login : List ℕ) (w : World G) (es : List (Entry G)) (ts : List (List ℕ))
      → connections w.log ≡ w.count → flat_map opened_by es ≡ []
      → asks (noted w es) w.count ts ≡ client_does w (λ l. l) (does (talk_of login w) es ts)
  does_is login w es ts e none =
      let v : World G = beside w (talk_of login w) (w.links w.count) in
      let same : w ≡ v = sym (linked_own w w.count) ∙ begins login w (w.links w.count) e in
      ap (λ (x : World G). asks (noted x es) w.count ts) same
      ∙ ap (λ n. asks (noted v es) n ts) (sym e)
      ∙ goes_on w (talk_of login w) (w.links w.count) es ts none
      ∙ ap (λ n. beside w (talk_noted (talk_of login w) es ts) (more_asked (w.links n) (wire_of ts)))
      (sym (no_more w.log es none ∙ e))

  -- one that notes entries alone
  pub noted_is : (login : List ℕ) (w : World G) (es : List (Entry G)) → connections w.log ≡ w.count
      → flat_map opened_by es ≡ [] → noted w es ≡ client_does w (λ l. l) (does (talk_of login w) es [])
  noted_is login w es e none = sym (asks_none (noted w es) w.count) ∙ does_is login w es [] e none

  -- one that does nothing
  pub stays_is : (login : List ℕ) (w : World G) → connections w.log ≡ w.count
      → w ≡ client_does w (λ l. l) (stays (talk_of login w))
  stays_is login w e =
      sym (linked_own w w.count) ∙ begins login w (w.links w.count) e
      ∙ ap (beside w (talk_of login w)) (asked_none (w.links w.count))
      ∙ ap (λ n. beside w (talk_of login w) (more_asked (w.links n) (wire_of []))) (sym e)

  -- an open connection is the newest
  pub newest : (w : World G) → IsWorld w → 0 < open_now w.log → open_now w.log ≡ w.count
  newest w i some = elim i.newest [ inl e ↦ absurd (omega arith) | inr e ↦ e ]

  -- the client's step at Open, while no connection is open
  pub step_opens : (t : Talk G) → nat_eq (open_now t.log) 0 ≡ true
      → step t M.Open ≡ record { talk = opened t; send = t.login ∷ [] }
  step_opens t z = ap (λ b. step_if (not b)) z
    where
      step_if : Bool → Outcome G
      step_if b = if b then stays t else record { talk = opened t; send = t.login ∷ [] }

  -- its step at a loss, while one is
  pub step_loses : (t : Talk G) → 0 < open_now t.log
      → step t M.Lose ≡ does t (L.Lost (open_now t.log) (unconfirmed (open_now t.log) t.log) ∷ []) []
  step_loses t some = ap (λ b. step_if (not b)) (other_number (open_now t.log) 0 (λ e. absurd (omega arith)))
    where
      step_if : Bool → Outcome G
      step_if b = if b then does t (L.Lost (open_now t.log) (unconfirmed (open_now t.log) t.log) ∷ []) [] else stays t

  -- a connection more is counted
  pub one_more : (log : List (Entry G)) (n : ℕ) → connections (log ++ L.Opened n ∷ []) ≡ connections log + 1
  one_more log n =
      ap length (flat_map-append opened_by log (L.Opened n ∷ [])) ∙ length-append (flat_map opened_by log) (n ∷ [])

  -- a step that opens a connection
  pub opens_is : (login : List ℕ) (w : World G) → IsWorld w → nat_eq (open_now w.log) 0 ≡ true
      → asks (noted (record w { count = w.count + 1 }) (L.Opened (w.count + 1) ∷ [])) (w.count + 1) (login ∷ [])
      ≡ after login w Open
  opens_is login w i z =
      let n : ℕ = w.count + 1 in
      let num : n ≡ suc (connections w.log) = let k = i.counted in omega arith in
      let more : n ≡ connections (w.log ++ L.Opened n ∷ []) = let k = i.counted in let m = one_more w.log n in
      omega arith in
      same_world (asks (noted (record w { count = n }) (L.Opened n ∷ [])) n (login ∷ []))
      (changed w n (w.log ++ L.Opened n ∷ []) (more_asked (w.links n) (wire_of (login ∷ []))) (login ∷ []))
      refl refl refl refl (λ d. refl)
      (at_each n _ w.commands _
      (ap (λ x. x ++ login ∷ []) (i.unsaid n (omega arith)) ∙ sym (at_it n (login ∷ []) (w.commands n)))
      (λ d m. sym (elsewhere d n _ _ m)))
      ∙ ap (λ x. changed w x (w.log ++ L.Opened n ∷ []) (more_asked (w.links x) (wire_of (login ∷ []))) (login ∷ []))
      more
      ∙ ap (λ x. changed w (connections (w.log ++ L.Opened x ∷ [])) (w.log ++ L.Opened x ∷ [])
      (more_asked (w.links (connections (w.log ++ L.Opened x ∷ []))) (wire_of (login ∷ []))) (login ∷ [])) num
      ∙ ap (client_does w (λ l. l)) (sym (step_opens (talk_of login w) z))

  -- one that loses it
  pub loses_is : (login : List ℕ) (w : World G) (k : ℕ) → IsWorld w → 0 < open_now w.log
      → noted (linked w (open_now w.log) (cut_off (w.links (open_now w.log)) k))
      (L.Lost (open_now w.log) (unconfirmed (open_now w.log) w.log) ∷ [])
      ≡ after login w (Lose k)
  loses_is login w k i some =
      let es : List (Entry G) = L.Lost (open_now w.log) (unconfirmed (open_now w.log) w.log) ∷ [] in
      let l : Link = cut_off (w.links w.count) k in
      ap (λ c. noted (linked w c (cut_off (w.links c) k)) es) (newest w i some)
      ∙ sym (asks_none (noted (linked w w.count l) es) w.count)
      ∙ ap (λ (x : World G). asks (noted x es) w.count []) (begins login w l i.counted)
      ∙ ap (λ n. asks (noted (beside w (talk_of login w) l) es) n []) (sym i.counted)
      ∙ goes_on w (talk_of login w) l es [] refl
      ∙ ap (λ n. beside w (talk_noted (talk_of login w) es []) (more_asked (cut_off (w.links n) k) (wire_of [])))
      (sym (no_more w.log es refl ∙ i.counted))
      ∙ ap (client_does w (λ l. cut_off l k)) (sym (step_loses (talk_of login w) some))

  -- lines that are heard open no connection
  hears_count : (ls : List G.Line) (t : Talk G) → connections (hears_all t ls).talk.log ≡ connections t.log
  unfolding hears_all
  hears_count [] t = refl
  hears_count (l ∷ ls) t =
      hears_count ls (talk_hears t (heard_by t l)).talk
      ∙ no_more t.log (heard_by t l).entries (lines_open_none G (open_now t.log) t.log (line_says G l)).0

  -- What each line that is heard keeps, of the lines that are still to be heard and of the world, holds after all.
  pub over_lines : (P : List G.Line → World G → Type 0)
      → ((l : G.Line) (ls : List G.Line) (v : World G) → P (l ∷ ls) v → P ls (hears (open_now v.log) v (line_says G l)))
      → (w : World G) (ls : List G.Line) (t : Talk G) (k : Link) → connections t.log ≡ open_now t.log
      → P ls (beside w t k) → P [] (beside w (hears_all t ls).talk (more_asked k (wire_of (hears_all t ls).send)))
  unfolding hears_all
  over_lines P one w [] t k n h = subst (λ l. P [] (beside w t l)) (asked_none k) h
  over_lines P one w (l ∷ ls) t k n h =
      let hd : Heard G = heard_by t l in
      let none = lines_open_none G (open_now t.log) t.log (line_says G l) in
      let t1 : Talk G = talk_noted t hd.entries hd.send in
      let here : connections t1.log ≡ open_now t1.log =
      no_more t.log hd.entries none.0 ∙ n ∙ sym (open_append G 0 t.log hd.entries ∙ none.1 (open_now t.log)) in
      let p = one l ls (beside w t k) h in
      let q : P ls (beside w t1 (more_asked k (wire_of hd.send))) =
      subst (P ls) (goes_on w t k hd.entries hd.send none.0)
      (subst (λ c. P ls (asks (noted (beside w t k) hd.entries) c hd.send)) (sym n) p) in
      let s : Outcome G = hears_all t1 ls in
      subst (λ x. P [] (beside w s.talk x)) (asked_both k hd.send s.send)
      (over_lines P one w ls t1 (more_asked k (wire_of hd.send)) here q)

  -- The lines that come whole by a delivery are heard one after another, with its bytes delivered: what each of them
  -- keeps
  -- holds of the world after it.
  pub over_delivery : (P : List G.Line → World G → Type 0)
      → ((l : G.Line) (ls : List G.Line) (v : World G) → P (l ∷ ls) v → P ls (hears (open_now v.log) v (line_says G l)))
      → (login : List ℕ) (w : World G) (n : ℕ) → IsWorld w → 0 < open_now w.log
      → P (gained G (w.links (open_now w.log)).heard (take n (w.links (open_now w.log)).coming))
      (linked w (open_now w.log) (delivered (w.links (open_now w.log)) n))
      → P [] (after login w (Deliver n))
  over_delivery P one login w n i some h =
      let t : Talk G = with_bytes (talk_of login w) bytes in
      let l : Link = delivered (w.links w.count) n in
      let first : P ls (linked w w.count l) =
      subst (λ c. P (gained G (w.links c).heard (take n (w.links c).coming)) (linked w c (delivered (w.links c) n)))
      here
      h in
      let all = over_lines P one w ls t l (i.counted ∙ sym here) (subst (P ls) (begins login w l i.counted) first) in
      let s : Outcome G = hears_all t ls in
      subst (λ o. P [] (client_does w (λ l. delivered l n) o)) (sym (ap (λ b. step_if (not b)) online))
      (subst (λ c. P [] (beside w s.talk (more_asked (delivered (w.links c) n) (wire_of s.send))))
      (sym (hears_count ls t ∙ i.counted)) all)
    where
      here : open_now w.log ≡ w.count
      here = newest w i some

      bytes : List ℕ
      bytes = take n (w.links w.count).coming

      ls : List G.Line
      ls = gained G (w.links w.count).heard bytes

      online : nat_eq (open_now w.log) 0 ≡ false
      online = other_number (open_now w.log) 0 (λ e. absurd (omega arith))

      step_if : Bool → Outcome G
      step_if b =
          if b then hears_all (with_bytes (talk_of login w) (take n (w.links w.count).coming))
          (gained G (w.links w.count).heard (take n (w.links w.count).coming)) else stays (talk_of login w)
