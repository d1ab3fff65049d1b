-- A world in which a connection is open can come to rest.
use Rattle.std.proofs.Common.{◌≡◌, ◌⊎◌, ℕ, zero, suc, ◌+◌, ◌<◌, ◌≤◌, Bool, true, false, not, ◌&&◌, ◌||◌, List, [], ◌∷◌, ◌++◌, Option, Some, None, nat_eq, nat_lt, take, flat_map, length, refl, sym, ◌∙◌, ap, subst, inl, inr, append-nil, true≢false, arith, if◌then◌else◌, is_some}
use Rattle.std.proofs.Math.Seq.{drop-length, take-length, take-nil}
use Rattle.std.proofs.lemmas.Bool.{le-ltb, or_from}
use Rattle.std.proofs.lemmas.Option.{same_Some, none-some}
use Rattle.fibs_game.specs.declared.world_refusal.WorldRefusal.{WorldRefusal}
use Rattle.fibs_game.specs.declared.world_refusal.WorldRefusal.TheVariants.{NoSuchConnection, BadDice, NothingToServe, NotOpen}
use Rattle.fibs_game.specs.Machine.{gained, on_wire, wire_of}
use Rattle.fibs_game.specs.Words.{is_empty, open_now}
use Rattle.fibs_game.specs.CanRest.{CanRest, LeadsToRest, OnlyWires, WithDice, EachNext, next_to_rest, lines_served}
use Rattle.fibs_game.specs.Events.{Event, Deliver, Serve}
use Rattle.fibs_game.specs.Headline.{IsAtRest}
use Rattle.fibs_game.specs.Joint.{AreLines}
use Rattle.fibs_game.specs.Refusals.{refusal}
use Rattle.fibs_game.specs.Runs.{AllAccepted, MayBe, after_all, world_after}
use Rattle.fibs_game.specs.Server.{Served}
use Rattle.fibs_game.specs.Server as V
use Rattle.fibs_game.specs.Wires.{Link, delivered, taken, more_asked, more_coming, next_line}
use Rattle.fibs_game.specs.World.{World, start, after, linked, does_served, serves}
use Rattle.fibs_game.specs.Talks.{IsWorld}
use Rattle.fibs_game.specs.Game.{Game}
use Rattle.fibs_game.specs.Lawful.{IsQuiet, Lawful}
use Rattle.fibs_game.proofs.Answering.{answered_at as answered}
use Rattle.fibs_game.proofs.Final.{kept, told_start}
use Rattle.fibs_game.proofs.Once.{all_append}
use Rattle.fibs_game.proofs.Steps.{Fits, fits}
use Rattle.fibs_game.proofs.past.Lists.{other_number, and_both}
use Rattle.fibs_game.proofs.wires.Boards.{Whole, boards, gained_none, gained_more}
use Rattle.fibs_game.proofs.wires.Ways.{way_served}
use Rattle.fibs_game.proofs.acts.Client.{Does, does, given, lines_at}
use Rattle.fibs_game.proofs.acts.Server.{answers_served}
use Rattle.fibs_game.proofs.joint.EachEvent.{joint_after, joint_start}
use Rattle.fibs_game.proofs.Refusing.{served}
use Rattle.fibs_game.proofs.Sound.{sound_after, sound_all, sound_start}
use Rattle.fibs_game.proofs.Stepping.{over_delivery}
use Rattle.fibs_game.proofs.joint.Joint.{Joint, linked_same, linked_keeps}
use Rattle.fibs_game.proofs.joint.Left.{way_texts}
use Rattle.fibs_game.proofs.rest.Measure.{returns_in, returns_none, returns_most, returns_less, returns_lines, due, due_most, Lessens, NoRoll, lessens_served, Lighter, lighter_same, lighter_delivery, due_relinked, is_message, has_message, message_append}
use Rattle.fibs_game.proofs.joint.Sending.{not_older, open_way, same_test, which}

module _ (G : Game) where
  -- one, if any byte is on its way
  pending : List ℕ → List ℕ → ℕ
  pending [] [] = 0
  pending [] (y ∷ ys) = 1
  pending (x ∷ xs) ys = 1

  -- if no byte is on its way it is 0
  pending_none : pending [] [] ≡ 0
  unfolding pending
  pending_none = refl

  -- it is at most 1
  pending_most : (xs ys : List ℕ) → pending xs ys ≤ 1
  unfolding pending
  pending_most [] [] = omega arith
  pending_most [] (y ∷ ys) = omega arith
  pending_most (x ∷ xs) ys = omega arith

  -- if a line is on its way to the server it is 1
  pending_asked : (xs ys : List ℕ) → 0 < returns_in G xs → pending xs ys ≡ 1
  unfolding pending
  pending_asked [] ys h = let n = returns_none G in absurd (omega arith)
  pending_asked (x ∷ xs) ys h = refl

  -- if a byte is on its way to the client it is 1
  pending_coming : (xs ys : List ℕ) → is_empty ys ≡ false → pending xs ys ≡ 1
  unfolding pending
  pending_coming [] [] h = absurd (true≢false h)
  pending_coming [] (y ∷ ys) h = refl
  pending_coming (x ∷ xs) ys h = refl

  -- one, if there is a message among the lines
  counted : Bool → ℕ
  counted z = if z then 1 else 0

  -- it is 1 if there is one
  counted_is : (z : Bool) → z ≡ true → counted z ≡ 1
  unfolding counted
  counted_is z h = rw h refl

  -- 0 if there is none
  counted_not : (z : Bool) → z ≡ false → counted z ≡ 0
  unfolding counted
  counted_not z h = rw h refl

  -- and at most 1
  counted_most : (z : Bool) → counted z ≤ 1
  unfolding counted
  counted_most true = omega arith
  counted_most false = omega arith

  -- a message is on its way to the client of c
  abbrev message_coming : ℕ → World G → Bool
  message_coming c w = has_message G (gained G (w.links c).heard (w.links c).coming)

  -- what is on its way on c, or may still be called forth
  measure : ℕ → World G → ℕ
  measure c w =
      returns_in G (w.links c).asked + due G 1 c w + counted (message_coming c w)
      + pending (w.links c).asked (w.links c).coming

  -- the sum of these four
  measure_is : (c : ℕ) (w : World G)
      → measure c w
      ≡ returns_in G (w.links c).asked + due G 1 c w + counted (message_coming c w)
      + pending (w.links c).asked (w.links c).coming
  unfolding measure
  measure_is c w = refl

  -- what comes to the client of c: nothing more, or the server's board
  abbrev Comes : ℕ → World G → World G → Type 0
  Comes c w w' =
      ((w'.links c).heard ≡ (w.links c).heard)
      × (((w'.links c).coming ≡ (w.links c).coming)
      ⊎ ((w'.links c).coming ≡ (w.links c).coming ++ on_wire (G.spelling w'.board)))

  -- whatever the server answers to a line, at most its board comes
  comes_served : (c : ℕ) (w : World G) (l : Link) (s : Served G) → l.heard ≡ (w.links c).heard
      → l.coming ≡ (w.links c).coming
      → Comes c w (does_served c (linked w c l) s)
  comes_served c w l s h k =
      let w' : World G = does_served c (linked w c l) s in
      let here : (linked w c l).links c ≡ l = linked_same G w c l in
      elim ((answers_served G c (linked w c l) s).link c) [
        | inl e ↦
            let e' : w'.links c ≡ l = e ∙ here in
            (ap (λ (x : Link). x.heard) e' ∙ h, inl (ap (λ (x : Link). x.coming) e' ∙ k))
        | inr e ↦
            let e' : w'.links c ≡ more_coming l (on_wire (G.spelling w'.board)) =
            e ∙ ap (λ x. more_coming x (on_wire (G.spelling w'.board))) here in (
              ap (λ (x : Link). x.heard) e' ∙ h,
              inr (ap (λ (x : Link). x.coming) e' ∙ ap (λ bytes. bytes ++ on_wire (G.spelling w'.board)) k),
            )
      ]

  -- none of three tests holds
  none_of : (x y z : Bool) (a b d : WorldRefusal) → x ≡ false → y ≡ false → z ≡ false
      → (if x then Some a else (if y then Some b else (if z then Some d else None))) ≡ None
  none_of x y z a b d h k m = rw (h, k, m) refl

  -- a line that can be served is accepted
  serve_accepted : (w : World G) (c d1 d2 : ℕ) (p : List ℕ × List ℕ) → 0 < c → c ≤ w.count → w.logged_in ≤ c
      → G.is_die d1 ≡ true → G.is_die d2 ≡ true → next_line (w.links c).asked ≡ Some p → refusal w (Serve c d1 d2)
      ≡ None
  serve_accepted w c d1 d2 p some known recent i1 i2 next =
      none_of (nat_eq c 0 || nat_lt w.count c) (not (G.is_die d1 && G.is_die d2))
      (nat_lt c w.logged_in || not (is_some (next_line (w.links c).asked))) NoSuchConnection BadDice NothingToServe
      (or_from _ _ (other_number c 0 (λ e. absurd (omega arith))) (le-ltb w.count c known))
      (ap not (and_both _ _ i1 i2))
      (or_from _ _ (le-ltb c w.logged_in recent) (ap (λ o. not (is_some o)) next))

  -- an event on the wires of the open connection, which makes the measure smaller
  record Goes (login : List ℕ) (d1 d2 : ℕ) (w : World G) (e : Event G) : Type 0 where
    wires : OnlyWires (open_now w.log) (e ∷ [])
    dice : WithDice d1 d2 (e ∷ [])
    accepted : refusal w e ≡ None
    less : measure (open_now w.log) (after login w e) < measure (open_now w.log) w
    here : open_now (after login w e).log ≡ open_now w.log

  -- nothing comes next, and the world is at rest
  record Rests (d1 d2 : ℕ) (w : World G) : Type 0 where
    none : next_to_rest d1 d2 w ≡ None
    rests : IsAtRest w

  -- an event comes next
  record Next (login : List ℕ) (d1 d2 : ℕ) (w : World G) : Type 0 where
    event : Event G
    is : next_to_rest d1 d2 w ≡ Some event
    goes : Goes login d1 d2 w event

  -- the events that come next, one after another, up to the last
  record Way (login : List ℕ) (d1 d2 : ℕ) (w : World G) : Type 0 where
    events : List (Event G)
    each : EachNext login d1 d2 w events
    last : next_to_rest d1 d2 (after_all login w events) ≡ None

  -- such events, from a world on
  record Leads (login : List ℕ) (d1 d2 : ℕ) (w : World G) (events : List (Event G)) : Type 0 where
    wires : OnlyWires (open_now w.log) events
    dice : WithDice d1 d2 events
    accepted : AllAccepted login w events
    few : length events ≤ measure (open_now w.log) w
    rests : next_to_rest d1 d2 (after_all login w events) ≡ None → IsAtRest (after_all login w events)

  -- one more event on the wires
  wires_cons : (c : ℕ) (e : Event G) (es : List (Event G)) → OnlyWires c (e ∷ []) → OnlyWires c es
      → OnlyWires c (e ∷ es)
  wires_cons c (Serve conn die other) es h k = (h.0, k)
  wires_cons c (Deliver n) es h k = k
  wires_cons c e es h k = absurd h

  -- one more event with these dice
  dice_cons : (d1 d2 : ℕ) (e : Event G) (es : List (Event G)) → WithDice d1 d2 (e ∷ []) → WithDice d1 d2 es
      → WithDice d1 d2 (e ∷ es)
  dice_cons d1 d2 (Serve conn die other) es h k = (h.0, h.1, k)
  dice_cons d1 d2 e es h k = k

  -- events that are accepted after others that are
  accepted_append : (login : List ℕ) (xs ys : List (Event G)) (w : World G) → AllAccepted login w xs
      → AllAccepted login (after_all login w xs) ys → AllAccepted login w (xs ++ ys)
  accepted_append login [] ys w h k = k
  accepted_append login (x ∷ xs) ys w h k = (h.0, accepted_append login xs ys (after login w x) h.1 k)

  -- of events that are accepted, the later ones are accepted after the others
  accepted_later : (login : List ℕ) (xs ys : List (Event G)) (w : World G) → AllAccepted login w (xs ++ ys)
      → AllAccepted login (after_all login w xs) ys
  accepted_later login [] ys w h = h
  accepted_later login (x ∷ xs) ys w h = accepted_later login xs ys (after login w x) h.1

  -- no bytes, or some
  some_or_none : (xs : List ℕ) → (xs ≡ []) ⊎ (is_empty xs ≡ false)
  some_or_none [] = inl refl
  some_or_none (x ∷ xs) = inr refl

  -- a line is there, or not
  there_or_not : (o : Option (List ℕ × List ℕ)) → (o ≡ None) ⊎ ((p : List ℕ × List ℕ) × (o ≡ Some p))
  there_or_not None = inl refl
  there_or_not (Some p) = inr (p, refl)

  -- if there is a line, it is served next
  serve_next : (d1 d2 : ℕ) (w : World G) (p : List ℕ × List ℕ) → next_line (w.links (open_now w.log)).asked ≡ Some p
      → next_to_rest d1 d2 w ≡ Some (Serve (open_now w.log) d1 d2)
  serve_next d1 d2 w p h = rw h refl

  -- if there is none, but bytes to the client, they are delivered next
  deliver_next : (d1 d2 : ℕ) (w : World G) → next_line (w.links (open_now w.log)).asked ≡ None
      → is_empty (w.links (open_now w.log)).coming ≡ false
      → next_to_rest d1 d2 w ≡ Some (Deliver (length (w.links (open_now w.log)).coming))
  deliver_next d1 d2 w h k = rw (h, k) refl

  -- if there is neither, nothing comes next
  none_next : (d1 d2 : ℕ) (w : World G) → next_line (w.links (open_now w.log)).asked ≡ None
      → (w.links (open_now w.log)).coming ≡ [] → next_to_rest d1 d2 w ≡ None
  none_next d1 d2 w h k = rw (h, k) refl

  -- bytes may be delivered while a connection is open
  may_deliver : (w : World G) (n : ℕ) → 0 < open_now w.log → refusal w (Deliver n) ≡ None
  may_deliver w n some =
      ap (λ z. if z then Some NotOpen else None) (other_number (open_now w.log) 0 (λ e. absurd (omega arith)))

  -- what the client does then
  does_delivered : (login : List ℕ) (w : World G) (n : ℕ) → IsWorld w → 0 < open_now w.log
      → Does G (boards G (lines_at G w (Deliver n))) (given G w (Deliver n)) (after login w (Deliver n))
  does_delivered login w n i some = does G login w (Deliver n) i (may_deliver w n some) tt

  module _ (law : Lawful G) where
    -- the server's answer leads to no board at which a standing order rolls
    answer_no_roll : (now : G.Board) (logged_in c : ℕ) (first : Bool) (text : List ℕ) (d1 d2 : ℕ)
        → NoRoll G (answered G now logged_in c first text d1 d2)
    answer_no_roll now logged_in c first text d1 d2 =
        go (answered G now logged_in c first text d1 d2) (fits G now logged_in c first text d1 d2)
      where
        go : (s : Served G) → Fits G now logged_in c d1 d2 s → NoRoll G s
        go V.Stale h = tt
        go V.LoggedIn h = tt
        go (V.Took d b) h = law.no_roll now d d1 d2 b (law.effect_leads now d d1 d2 b h.1)
        go (V.Undone d) h = tt
        go V.Answered h = tt

    -- a line that the server takes is on its way no longer, and no more is due after it
    serve_lessens : (k : ℕ) (login : List ℕ) (w : World G) (c d1 d2 : ℕ) (p : List ℕ × List ℕ)
        → next_line (w.links c).asked ≡ Some p → Lessens G k c w (after login w (Serve c d1 d2)) p.1
    serve_lessens k login w c d1 d2 p next =
        let l : Link = taken (w.links c) (on_wire p.0) p.1 in
        let s : Served G = answered G w.board w.logged_in c (is_empty (w.links c).served) p.0 d1 d2 in
        let one : Lessens G k c w (serves c w d1 d2 (Some p)) p.1 =
        lessens_served G k c w l s
        (answer_no_roll w.board w.logged_in c (is_empty (w.links c).served) p.0 d1 d2) in
        subst (λ o. Lessens G k c w (serves c w d1 d2 o) p.1) (sym next) one

    -- a board is no message
    board_no_message : (b : G.Board) → G.good b ≡ true → has_message G (G.lines (on_wire (G.spelling b))) ≡ false
    board_no_message b good =
        let p = law.prints_line b good in
        ap (has_message G) p.1 ∙ ap (λ x. is_message G x || false) p.2

    -- so no message more is on its way after the server's answer to a line
    message_same : (c : ℕ) (w w' : World G) → Comes c w w' → Whole G ((w.links c).heard ++ (w.links c).coming)
        → G.good w'.board ≡ true → message_coming c w' ≡ message_coming c w
    message_same c w w' a whole good = go a.1
      where
        go : ((w'.links c).coming ≡ (w.links c).coming)
            ⊎ ((w'.links c).coming ≡ (w.links c).coming ++ on_wire (G.spelling w'.board))
            → message_coming c w' ≡ message_coming c w
        go (inl e) =
            ap (λ h. has_message G (gained G h (w'.links c).coming)) a.0
            ∙ ap (λ k. has_message G (gained G (w.links c).heard k)) e
        go (inr e) =
            ap (λ h. has_message G (gained G h (w'.links c).coming)) a.0
            ∙ ap (λ k. has_message G (gained G (w.links c).heard k)) e
            ∙ ap (has_message G) (gained_more G law (w.links c).heard (w.links c).coming (G.spelling w'.board) whole)
            ∙ message_append G (gained G (w.links c).heard (w.links c).coming) (G.lines (on_wire (G.spelling w'.board)))
            (board_no_message w'.board good)

    -- if the server takes a line, at most its board comes to the client
    serve_comes : (login : List ℕ) (w : World G) (c d1 d2 : ℕ) (p : List ℕ × List ℕ) → next_line (w.links c).asked
        ≡ Some p
        → Comes c w (after login w (Serve c d1 d2))
    serve_comes login w c d1 d2 p next =
        subst (λ o. Comes c w (serves c w d1 d2 o)) (sym next)
        (comes_served c w (taken (w.links c) (on_wire p.0) p.1)
        (answered G w.board w.logged_in c (is_empty (w.links c).served) p.0 d1 d2) refl refl)

    -- a line that the server takes makes the measure smaller
    goes_serve : (login : List ℕ) → IsQuiet G login → (d1 d2 : ℕ) → G.is_die d1 ≡ true → G.is_die d2 ≡ true
        → (w : World G)
        → IsWorld w → Joint G [] w → 0 < open_now w.log → (p : List ℕ × List ℕ)
        → next_line (w.links (open_now w.log)).asked ≡ Some p
        → Goes login d1 d2 w (Serve (open_now w.log) d1 d2)
    goes_serve login quiet d1 d2 i1 i2 w i j some p next =
        let recent : w.logged_in ≤ open_now w.log = not_older G [] w (open_now w.log) j refl some in
        let known : open_now w.log ≤ w.count = elim j.who [
          | inl e ↦ absurd (omega arith)
          | inr e ↦ let e0 = e.0 in omega arith
        ] in
        let all = serve_lessens 1 login w (open_now w.log) d1 d2 p next in
        let may = serve_accepted w (open_now w.log) d1 d2 p some known recent i1 i2 next in
        let j' : Joint G [] (after login w (Serve (open_now w.log) d1 d2)) =
        joint_after G law login quiet w (Serve (open_now w.log) d1 d2) i j may in
        let same = message_same (open_now w.log) w (after login w (Serve (open_now w.log) d1 d2))
        (serve_comes login w (open_now w.log) d1 d2 p next) ((j.each (open_now w.log)).wire refl some) j'.good in
        record {
          wires = (refl, tt);
          dice = (refl, refl, tt);
          accepted = may;
          less =
              smaller (open_now w.log) w (after login w (Serve (open_now w.log) d1 d2)) p.1 all
              (returns_less G (w.links (open_now w.log)).asked p.0 p.1 next) same;
          here = all.here;
        }
      where
        smaller : (c : ℕ) (w w' : World G) (left : List ℕ) → Lessens G 1 c w w' left
            → returns_in G left < returns_in G (w.links c).asked → message_coming c w' ≡ message_coming c w
            → measure c w' < measure c w
        smaller c w w' left a fewer same =
            let m = measure_is c w in
            let m' = measure_is c w' in
            let t = ap counted same in
            let e = ap (returns_in G) a.asked in
            let d = a.due in
            let one = pending_asked (w.links c).asked (w.links c).coming (omega arith) in
            let most = pending_most (w'.links c).asked (w'.links c).coming in omega arith

    -- what the client hands out if bytes are delivered was due
    deliver_lightens : (k : ℕ) (login : List ℕ) (w : World G) (n : ℕ) → IsWorld w → Joint G [] w → 0 < open_now w.log
        → Lighter G k (open_now w.log) (has_message G (lines_at G w (Deliver n))) w (after login w (Deliver n))
    deliver_lightens k login w n i j some = relit (elim (which G [] w (open_now w.log) j refl some) [
      | inl e ↦ subst
          (λ c. Lighter G k c (has_message G (gained G (w.links c).heard (take n (w.links c).coming)))
          (linked w c (delivered (w.links c) n)) (after login w (Deliver n)))
          (sym e) (lighter_delivery G k law login w n i j e (omega arith))
      | inr lt ↦
          let a = (j.each (open_now w.log)).ahead lt in
          let l : Link = w.links (open_now w.log) in
          let none : lines_at G w (Deliver n) ≡ [] =
          ap (λ bytes. gained G l.heard (take n bytes)) a.coming ∙ ap (gained G l.heard) (take-nil n)
          ∙ gained_none G law l.heard in
          (over_delivery G
          (λ ls v. (ls ≡ []) × Lighter G k (open_now w.log) (has_message G (lines_at G w (Deliver n)))
          (given G w (Deliver n)) v)
          (λ l ls v p. absurd (no_line l ls p.0)) login w n i some
          (none, lighter_same G k (open_now w.log) _ _ _ refl (omega arith))).1
    ])
      where
        no_line : (l : G.Line) (ls : List G.Line) → l ∷ ls ≡ [] → ⊥
        no_line l ls h = cc

        relit : Lighter G k (open_now w.log) (has_message G (lines_at G w (Deliver n))) (given G w (Deliver n))
            (after login w (Deliver n))
            → Lighter G k (open_now w.log) (has_message G (lines_at G w (Deliver n))) w (after login w (Deliver n))
        relit h =
            let l : Link = delivered (w.links (open_now w.log)) n in
            let e = linked_keeps G (λ (x : Link). x.asked) w (open_now w.log) l refl (open_now w.log) in
            let d = due_relinked G k (open_now w.log) w l in
            let r = ap (returns_in G) e in
            let less = h.less in
            record {
              less = omega arith;
              how = elim h.how [
                | inl a ↦ inl (a ∙ e)
                | inr a ↦ elim a [ inl x ↦ inr (inl (omega arith)) | inr x ↦ inr (inr x) ]
              ];
            }

    -- if there is no line, a delivery of all bytes makes the measure smaller
    goes_deliver : (login : List ℕ) (d1 d2 : ℕ) (w : World G) → IsWorld w → Joint G [] w → 0 < open_now w.log
        → (w.links (open_now w.log)).asked ≡ [] → is_empty (w.links (open_now w.log)).coming ≡ false
        → Goes login d1 d2 w (Deliver (length (w.links (open_now w.log)).coming))
    goes_deliver login d1 d2 w i j some none coming =
        record {
          wires = tt;
          dice = tt;
          accepted = may_deliver w n some;
          less = smaller (after login w (Deliver n)) gone silent (deliver_lightens 1 login w n i j some);
          here = a.here;
        }
      where
        c : ℕ
        c = open_now w.log

        l : Link
        l = w.links (open_now w.log)

        n : ℕ
        n = length (w.links (open_now w.log)).coming

        a : Does G (boards G (lines_at G w (Deliver n))) (given G w (Deliver n)) (after login w (Deliver n))
        a = does_delivered login w n i some

        gone : ((after login w (Deliver n)).links c).coming ≡ []
        gone =
            ap (λ (x : Link). x.coming)
            (a.link c ∙ ap (λ x. more_asked x (wire_of (a.texts c))) (linked_same G w c (delivered l n)))
            ∙ drop-length l.coming

        -- no message is on its way then
        silent : message_coming c (after login w (Deliver n)) ≡ false
        silent =
            ap (λ bytes. has_message G (gained G ((after login w (Deliver n)).links c).heard bytes)) gone
            ∙ ap (has_message G) (gained_none G law ((after login w (Deliver n)).links c).heard)

        smaller : (w' : World G) → (w'.links c).coming ≡ [] → message_coming c w' ≡ false
            → Lighter G 1 c (has_message G (gained G l.heard (take n l.coming))) w w' → measure c w' < measure c w
        smaller w' gone silent a =
            let m = measure_is c w in
            let m' = measure_is c w' in
            let t = counted_not (message_coming c w') silent in
            let one = pending_coming (w.links c).asked (w.links c).coming coming in
            let most = pending_most (w'.links c).asked (w'.links c).coming in
            let less = a.less in
            elim a.how [
              | inl e ↦
                  let empty : (w'.links c).asked ≡ [] = e ∙ none in
                  let p : pending (w'.links c).asked (w'.links c).coming ≡ 0 =
                  ap (λ xs. pending xs (w'.links c).coming) empty ∙ ap (pending []) gone ∙ pending_none in omega arith
              | inr q ↦ elim q [
                | inl x ↦ omega arith
                | inr z ↦
                    let b : message_coming c w ≡ true =
                    ap (λ bytes. has_message G (gained G l.heard bytes)) (sym (take-length l.coming)) ∙ z in
                    let u = counted_is (message_coming c w) b in omega arith
              ]
            ]

    -- if no line of the open connection is left, it is the one logged in, and no byte is on its way to the server
    served_all : (w : World G) → Joint G [] w → 0 < open_now w.log → next_line (w.links (open_now w.log)).asked ≡ None
        → (open_now w.log ≡ w.logged_in) × ((w.links (open_now w.log)).asked ≡ [])
    served_all w j some none = elim (which G [] w (open_now w.log) j refl some) [
      | inl e ↦ (e, empty)
      | inr lt ↦
          let ahead = (j.each (open_now w.log)).ahead lt in
          absurd (true≢false (sym (ap is_empty empty) ∙ ahead.asks (same_test G _ _ refl)))
    ]
      where
        empty : (w.links (open_now w.log)).asked ≡ []
        empty = let way = open_way G [] w j some in way_served G law way.0 (w.links (open_now w.log)).asked way.1 none

    -- a world is at rest, or what comes next makes the measure smaller
    comes_next : (login : List ℕ) → IsQuiet G login → (d1 d2 : ℕ) → G.is_die d1 ≡ true → G.is_die d2 ≡ true
        → (w : World G)
        → IsWorld w → Joint G [] w → 0 < open_now w.log → Rests d1 d2 w ⊎ Next login d1 d2 w
    comes_next login quiet d1 d2 i1 i2 w i j some =
        elim (there_or_not (next_line (w.links (open_now w.log)).asked)) [
          | inr p ↦ inr (record {
            event = Serve (open_now w.log) d1 d2;
            is = serve_next d1 d2 w p.0 p.1;
            goes = goes_serve login quiet d1 d2 i1 i2 w i j some p.0 p.1;
          })
          | inl none ↦ all_served none (served_all w j some none)
        ]
      where
        all_served : next_line (w.links (open_now w.log)).asked ≡ None
            → (open_now w.log ≡ w.logged_in) × ((w.links (open_now w.log)).asked ≡ [])
            → Rests d1 d2 w ⊎ Next login d1 d2 w
        all_served none s =
            let here = s.0 in
            let have : 0 < w.logged_in = omega arith in
            elim (some_or_none (w.links (open_now w.log)).coming) [
              | inl e ↦ inl (record {
                none = none_next d1 d2 w none e;
                rests = record {
                  some = have;
                  is_open = here;
                  all_served = subst (λ d. next_line (w.links d).asked ≡ None) here none;
                  all_delivered = subst (λ d. (w.links d).coming ≡ []) here e;
                };
              })
              | inr n ↦ inr (record {
                event = Deliver (length (w.links (open_now w.log)).coming);
                is = deliver_next d1 d2 w none n;
                goes = goes_deliver login d1 d2 w i j some s.1 n;
              })
            ]

    -- the events that come next lead to rest
    leads : (login : List ℕ) → IsQuiet G login → (d1 d2 : ℕ) → G.is_die d1 ≡ true → G.is_die d2 ≡ true
        → (es : List (Event G)) (w : World G) → IsWorld w → Joint G [] w → 0 < open_now w.log
        → EachNext login d1 d2 w es
        → Leads login d1 d2 w es
    leads login quiet d1 d2 i1 i2 [] w i j some h = record {
      wires = tt;
      dice = tt;
      accepted = tt;
      few = omega arith;
      rests = λ none. elim (comes_next login quiet d1 d2 i1 i2 w i j some) [
        | inl r ↦ r.rests
        | inr x ↦ absurd (none-some x.event (sym none ∙ x.is))
      ];
    }
    leads login quiet d1 d2 i1 i2 (e ∷ es) w i j some h = elim (comes_next login quiet d1 d2 i1 i2 w i j some) [
      | inl r ↦ absurd (none-some e (sym r.none ∙ h.0))
      | inr x ↦
          let g = subst (Goes login d1 d2 w) (same_Some x.event e (sym x.is ∙ h.0)) x.goes in
          let w' : World G = after login w e in
          let less : measure (open_now w'.log) w' < measure (open_now w.log) w =
          subst (λ c. measure c w' < measure (open_now w.log) w) (sym g.here) g.less in
          let more = leads login quiet d1 d2 i1 i2 es w' (sound_after G login w e i g.accepted)
          (joint_after G law login quiet w e i j g.accepted)
          (subst (λ c. 0 < c) (sym g.here) some) h.1 in
          let few = more.few in
          record {
            wires = wires_cons (open_now w.log) e es g.wires (subst (λ c. OnlyWires c es) g.here more.wires);
            dice = dice_cons d1 d2 e es g.dice more.dice;
            accepted = (g.accepted, more.accepted);
            few = omega arith;
            rests = more.rests;
          }
    ]

    -- and they have a last one
    way_to_rest : (login : List ℕ) → IsQuiet G login → (d1 d2 : ℕ) → G.is_die d1 ≡ true → G.is_die d2 ≡ true
        → (n : ℕ) (w : World G) → IsWorld w → Joint G [] w → 0 < open_now w.log → measure (open_now w.log) w ≤ n
        → Way login d1 d2 w
    way_to_rest login quiet d1 d2 i1 i2 zero w i j some low = elim (comes_next login quiet d1 d2 i1 i2 w i j some) [
      | inl r ↦ record { events = []; each = tt; last = r.none }
      | inr x ↦ let less = x.goes.less in absurd (omega arith)
    ]
    way_to_rest login quiet d1 d2 i1 i2 (suc n) w i j some low = elim (comes_next login quiet d1 d2 i1 i2 w i j some) [
      | inl r ↦ record { events = []; each = tt; last = r.none }
      | inr x ↦
          let g = x.goes in
          let w' : World G = after login w x.event in
          let less : measure (open_now w'.log) w' < measure (open_now w.log) w =
          subst (λ c. measure c w' < measure (open_now w.log) w) (sym g.here) g.less in
          let more = way_to_rest login quiet d1 d2 i1 i2 n w' (sound_after G login w x.event i g.accepted)
          (joint_after G law login quiet w x.event i j g.accepted)
          (subst (λ c. 0 < c) (sym g.here) some) (omega arith) in
          record { events = x.event ∷ more.events; each = (x.is, more.each); last = more.last }
    ]

    -- there are no more CR than lines on their way
    returns_few : (w : World G) → Joint G [] w → 0 < open_now w.log → (lines : List (List ℕ))
        → AreLines (w.links (open_now w.log)).asked lines → returns_in G (w.links (open_now w.log)).asked ≤ length lines
    returns_few w j some lines are =
        let asked : List ℕ = (w.links (open_now w.log)).asked in
        let p = open_way G [] w j some in
        let way = p.1 in
        returns_lines G way.ts lines asked
        (way.bytes ∙ ap (λ part. flat_map on_wire way.ts ++ part) (way.exact refl).0
        ∙ append-nil (flat_map on_wire way.ts))
        (way_texts G true p.0 asked way) are

    -- Each line that is taken makes what is on its way and what is due less, and no delivery makes it more.
    few_served : (login : List ℕ) → IsQuiet G login → (es : List (Event G)) (w : World G) → IsWorld w → Joint G [] w
        → 0 < open_now w.log
        → OnlyWires (open_now w.log) es → AllAccepted login w es
        → lines_served es ≤ returns_in G (w.links (open_now w.log)).asked + due G 0 (open_now w.log) w
    few_served login quiet [] w i j some only ok = omega arith
    few_served login quiet (Serve conn d1 d2 ∷ es) w i j some only ok =
        let s = served G w conn d1 d2 ok.0 in
        let w' : World G = after login w (Serve conn d1 d2) in
        let a = serve_lessens 0 login w conn d1 d2 s.line s.next in
        let fewer = returns_less G (w.links conn).asked s.line.0 s.line.1 s.next in
        let e = ap (returns_in G) a.asked in
        let d = a.due in
        let less : returns_in G (w'.links conn).asked + due G 0 conn w' < returns_in G (w.links conn).asked + due G 0
        conn w =
        omega arith in
        let less' : returns_in G (w'.links (open_now w.log)).asked + due G 0 (open_now w.log) w'
        < returns_in G (w.links (open_now w.log)).asked + due G 0 (open_now w.log) w =
        subst (λ c. returns_in G (w'.links c).asked + due G 0 c w' < returns_in G (w.links c).asked + due G 0 c w)
        only.0 less in
        let later = few_served login quiet es w' (sound_after G login w (Serve conn d1 d2) i ok.0)
        (joint_after G law login quiet w (Serve conn d1 d2) i j ok.0)
        (subst (λ c. 0 < c) (sym a.here) some) (subst (λ c. OnlyWires c es) (sym a.here) only.1) ok.1 in
        let later' : lines_served es ≤ returns_in G (w'.links (open_now w.log)).asked + due G 0 (open_now w.log) w' =
        subst (λ c. lines_served es ≤ returns_in G (w'.links c).asked + due G 0 c w') a.here later in omega arith
    few_served login quiet (Deliver n ∷ es) w i j some only ok =
        let w' : World G = after login w (Deliver n) in
        let here : open_now w'.log ≡ open_now w.log = (does_delivered login w n i some).here in
        let later = few_served login quiet es w' (sound_after G login w (Deliver n) i ok.0)
        (joint_after G law login quiet w (Deliver n) i j ok.0)
        (subst (λ c. 0 < c) (sym here) some) (subst (λ c. OnlyWires c es) (sym here) only) ok.1 in
        let later' : lines_served es ≤ returns_in G (w'.links (open_now w.log)).asked + due G 0 (open_now w.log) w' =
        subst (λ c. lines_served es ≤ returns_in G (w'.links c).asked + due G 0 c w') here later in
        let less = (deliver_lightens 0 login w n i j some).less in omega arith
    few_served login quiet (e ∷ es) w i j some only ok = absurd only

    -- the measure is at most eight more than there are CR on their way to the server
    measure_most : (c : ℕ) (w : World G) → measure c w ≤ returns_in G (w.links c).asked + 8
    measure_most c w =
        let m = measure_is c w in
        let t = counted_most (message_coming c w) in
        let d = due_most G 1 c w in
        let p = pending_most (w.links c).asked (w.links c).coming in omega arith

    -- what comes next leads to rest, after each list of events
    pub leads_to_rest : (login : List ℕ) → IsQuiet G login → (b : G.Board) (before : List (Event G)) → G.good b ≡ true
        → MayBe login b before → 0 < open_now (world_after login b before).log
        → (d1 d2 : ℕ) → G.is_die d1 ≡ true → G.is_die d2 ≡ true → (events : List (Event G))
        → EachNext login d1 d2 (world_after login b before) events → LeadsToRest login b before d1 d2 events
    unfolding MayBe world_after
    leads_to_rest login quiet b before good ok some d1 d2 i1 i2 events each =
        let w : World G = after_all login (start b) before in
        let i : IsWorld w = sound_all G login before (start b) ok (sound_start G b) in
        let j : Joint G [] w = (kept G law login quiet before (start b) ok (sound_start G b) (joint_start G law b good)
        (told_start G law b)).0 in
        let l = leads login quiet d1 d2 i1 i2 events w i j some each in
        let few = l.few in
        let m = measure_most (open_now w.log) w in
        record {
          only_wires = l.wires;
          with_dice = l.dice;
          may_be = accepted_append login before events (start b) ok l.accepted;
          rests =
              subst (λ end. next_to_rest d1 d2 end ≡ None → IsAtRest end)
              (sym (all_append login (start b) before events)) l.rests;
          few = λ lines are. let r = returns_few w j some lines are in omega arith;
          few_by_bytes = let r = returns_most G (w.links (open_now w.log)).asked in omega arith;
        }

    -- the world after each list of events can come to rest
    pub can_rest_holds : (login : List ℕ) → IsQuiet G login → (b : G.Board) (before : List (Event G)) → G.good b ≡ true
        → MayBe login b before → 0 < open_now (world_after login b before).log → CanRest login b before
    unfolding MayBe world_after
    can_rest_holds login quiet b before good ok some =
        let w : World G = after_all login (start b) before in
        let i : IsWorld w = sound_all G login before (start b) ok (sound_start G b) in
        let j : Joint G [] w = (kept G law login quiet before (start b) ok (sound_start G b) (joint_start G law b good)
        (told_start G law b)).0 in
        record {
          rest = λ d1 d2 i1 i2.
              let way = way_to_rest login quiet d1 d2 i1 i2 (measure (open_now w.log) w) w i j
              some (omega arith) in
              let l = leads_to_rest login quiet b before good ok some d1 d2 i1 i2 way.events way.each in
              record {
                events = way.events;
                only_wires = l.only_wires;
                with_dice = l.with_dice;
                may_be = l.may_be;
                rests =
                    l.rests (subst (λ end. next_to_rest d1 d2 end ≡ None)
                    (sym (all_append login (start b) before way.events)) way.last);
                few = l.few;
              };
          ends = λ events only more lines are.
              let f =
              few_served login quiet events w i j some only (accepted_later login before events (start b) more) in
              let d = due_most G 0 (open_now w.log) w in
              let r = returns_few w j some lines are in omega arith;
        }
