-- The decisions that the server's acts on a connection serve are those that the log says were served there.
use Rattle.std.proofs.Common.{◌≡◌, inl, inr, ℕ, Bool, true, false, List, [], ◌∷◌, ◌++◌, Option, Some, None, nat_eq, flat_map, refl, sym, ◌∙◌, ap, append-nil, append_assoc, if◌then◌else◌}
use Rattle.std.proofs.lemmas.Bool.Decides.{eqb_tells}
use Rattle.std.proofs.lemmas.List.{map-append}
use Rattle.std.proofs.lemmas.List.Concat.{flat_map-append}
use Rattle.fibs_game.specs.Log.{Entry, Took, Undone}
use Rattle.fibs_game.specs.Log as L
use Rattle.fibs_game.specs.Machine.{on_wire}
use Rattle.fibs_game.specs.Words.{Ask, one_if, is_empty}
use Rattle.fibs_game.specs.Acts.{Act, Shows, Says, Serves, sending, acts_of, acts_at_line, acts_on, acts_from}
use Rattle.fibs_game.specs.Events.{Event, Serve, Own, Repeat, Text}
use Rattle.fibs_game.specs.Joint.{served_by, served_at, decisions_of}
use Rattle.fibs_game.specs.Joint as S
use Rattle.fibs_game.specs.Runs.{after_all}
use Rattle.fibs_game.specs.Server.{Served}
use Rattle.fibs_game.specs.Server as V
use Rattle.fibs_game.specs.Wires.{Link, taken, next_line}
use Rattle.fibs_game.specs.World.{World, after, noted, linked, is_talking, does_served, serves}
use Rattle.fibs_game.specs.Game.{Game}
use Rattle.fibs_game.proofs.Answering.{answered_at as answered}
use Rattle.fibs_game.proofs.acts.Client.{NoAnswers}
use Rattle.fibs_game.proofs.acts.Server.{sends_log}
use Rattle.fibs_game.proofs.Steps.{Adds, Fits, fits, adds}
use Rattle.fibs_game.proofs.joint.Sending.{if_fact}
use Rattle.fibs_game.proofs.past.Lists.{same_number, other_number}

module _ (G : Game) where
  -- What is noted from one world to a later one says that just the decisions were served that the acts on a connection
  -- serve.
  abbrev pub Notes : ℕ → World G → World G → List (Act G) → Type 0
  Notes c w w' acts =
      (more : List (Entry G)) × (w'.log ≡ w.log ++ more) × (flat_map served_at acts ≡ decisions_of G (S.served c more))

  -- the acts serve nothing
  abbrev Serveless : List (Act G) → Type 0
  Serveless acts = flat_map served_at acts ≡ []

  -- a line that is sent serves nothing
  no_shows : (w : World G) (b : G.Board) → Serveless (sending w (Shows b))
  no_shows w b = if_fact G Serveless (is_talking w) _ _ (λ z. refl) (λ z. refl)

  -- nor does a text that is sent
  no_says : (w : World G) (t : List ℕ) → Serveless (sending w (Says t))
  no_says w t = if_fact G Serveless (is_talking w) _ _ (λ z. refl) (λ z. refl)

  -- neither do such acts on one connection
  only_none : (c n : ℕ) (acts : List (Act G)) → Serveless acts → Serveless (if nat_eq c n then acts else [])
  only_none c n acts h = if_fact G Serveless (nat_eq c n) _ _ (λ z. h) (λ z. refl)

  -- if no answer is noted, nothing was served
  none_served : (c : ℕ) (xs : List (Entry G)) → NoAnswers G xs → S.served c xs ≡ []
  none_served c [] h = refl
  none_served c (Took d b m ∷ xs) h = absurd h
  none_served c (Undone d b m ∷ xs) h = absurd h
  none_served c (e ∷ xs) h = none_served c xs h

  -- the board is left, and the acts serve nothing
  notes_none : (c : ℕ) (w w' : World G) (acts : List (Act G)) → Adds G w w' → Serveless acts
      → Notes c w w' (if nat_eq c w.logged_in then acts else [])
  notes_none c w w' acts a h =
      (a.more, a.log, only_none c w.logged_in acts h ∙ ap (decisions_of G) (sym (none_served c a.more a.none)))

  -- one decision of the connection that is logged in is served
  one_served : (c n conn : ℕ) (b : G.Board) (d : G.Decision) (acts : List (Act G)) → conn ≡ n → Serveless acts
      → flat_map served_at (if nat_eq c n then Serves d ∷ acts else [])
      ≡ decisions_of G (one_if (nat_eq conn c) (b, d) ++ [])
  one_served c n conn b d acts is none = elim (eqb_tells c n) [
    | inl e ↦ here (nat_eq c n) (nat_eq conn c) e.0 (ap (λ m. nat_eq m c) (is ∙ sym e.1) ∙ same_number c)
    | inr m ↦ gone (nat_eq c n) (nat_eq conn c) m.0 (other_number conn c (λ e. m.1 (sym e ∙ is)))
  ]
    where
      here : (x y : Bool) → x ≡ true → y ≡ true
          → flat_map served_at (if x then Serves d ∷ acts else []) ≡ decisions_of G (one_if y (b, d) ++ [])
      here x y p q = rw (p, q) (ap (λ l. d ∷ l) none)

      gone : (x y : Bool) → x ≡ false → y ≡ false
          → flat_map served_at (if x then Serves d ∷ acts else []) ≡ decisions_of G (one_if y (b, d) ++ [])
      gone x y p q = rw (p, q) refl

  -- the server answers a line, after other wires were changed
  notes_served : (c conn d1 d2 : ℕ) (w : World G) (l : Link) (s : Served G) → Fits G w.board w.logged_in conn d1 d2 s
      → Notes c w (does_served conn (linked w conn l) s) (if nat_eq c w.logged_in then acts_of w s else [])
  notes_served c conn d1 d2 w l V.Stale h =
      ([], sym (append-nil w.log), only_none c w.logged_in [] refl)
  notes_served c conn d1 d2 w l V.LoggedIn h =
      (L.LoggedIn conn ∷ [], refl, only_none c w.logged_in [] refl)
  notes_served c conn d1 d2 w l (V.Took d b) h = (
    Took conn w.board d ∷ [],
    sends_log G (noted (record (linked w conn l) { board = b }) (Took conn w.board d ∷ [])) (G.spelling b),
    one_served c w.logged_in conn w.board d (sending w (Shows b)) h.0 (no_shows w b),
  )
  notes_served c conn d1 d2 w l (V.Undone d) h = (
    Undone conn w.board d ∷ [],
    sends_log G (noted (linked w conn l) (Undone conn w.board d ∷ [])) (G.spelling w.board),
    one_served c w.logged_in conn w.board d (sending w (Shows w.board)) h (no_shows w w.board),
  )
  notes_served c conn d1 d2 w l V.Answered h = (
    [],
    sends_log G (linked w conn l) (G.spelling w.board) ∙ sym (append-nil w.log),
    only_none c w.logged_in (sending w (Shows w.board)) (no_shows w w.board),
  )

  -- the server takes a line, if there is one
  notes_line : (c : ℕ) (w : World G) (conn d1 d2 : ℕ) (o : Option (List ℕ × List ℕ))
      → Notes c w (serves conn w d1 d2 o) (if nat_eq c w.logged_in then acts_at_line w conn d1 d2 o else [])
  notes_line c w conn d1 d2 None = ([], sym (append-nil w.log), only_none c w.logged_in [] refl)
  notes_line c w conn d1 d2 (Some p) =
      let l : Link = taken (w.links conn) (on_wire p.0) p.1 in
      let first = is_empty (w.links conn).served in
      notes_served c conn d1 d2 w l (answered G w.board w.logged_in conn first p.0 d1 d2)
      (fits G w.board w.logged_in conn first p.0 d1 d2)

  -- at each event
  notes : (c : ℕ) (login : List ℕ) (w : World G) (e : Event G) → Notes c w (after login w e) (acts_on w e c)
  notes c login w (Serve conn d1 d2) = notes_line c w conn d1 d2 (next_line (w.links conn).asked)
  notes c login w (Own b) = (
    [],
    sends_log G (record w { board = b }) (G.spelling b) ∙ sym (append-nil w.log),
    only_none c w.logged_in (sending w (Shows b)) (no_shows w b),
  )
  notes c login w Repeat =
      notes_none c w _ (sending w (Shows w.board)) (adds G login w Repeat tt) (no_shows w w.board)
  notes c login w (Text t) = notes_none c w _ (sending w (Says t)) (adds G login w (Text t) tt) (no_says w t)
  notes c login w e = notes_none c w _ [] (adds G login w e tt) refl

  -- over a list of events
  pub serves_all : (c : ℕ) (login : List ℕ) (es : List (Event G)) (w : World G)
      → Notes c w (after_all login w es) (acts_from login w es c)
  serves_all c login [] w = ([], sym (append-nil w.log), refl)
  serves_all c login (e ∷ es) w =
      let w1 : World G = after login w e in
      let a = notes c login w e in
      let b = serves_all c login es w1 in (
        a.0 ++ b.0,
        b.1 ∙ ap (λ l. l ++ b.0) a.1 ∙ append_assoc w.log a.0 b.0,
        flat_map-append served_at (acts_on w e c) (acts_from login w1 es c)
            ∙ ap (λ l. l ++ flat_map served_at (acts_from login w1 es c)) a.2
            ∙ ap (λ l. decisions_of G (S.served c a.0) ++ l) b.2
            ∙ sym (map-append (λ (x : Ask G). x.1) (S.served c a.0) (S.served c b.0))
            ∙ ap (decisions_of G) (sym (flat_map-append (served_by c) a.0 b.0)),
      )
