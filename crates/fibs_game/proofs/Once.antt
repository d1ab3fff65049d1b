-- No two decisions take effect on one game, unless a board of the server's own comes between them.
use Rattle.std.proofs.Common.{◌≡◌, ◌⊎◌, inl, inr, ℕ, true, false, not, List, [], ◌∷◌, ◌++◌, Option, Some, None, refl, sym, ◌∙◌, ap, subst, append-nil, append_assoc, true≢false}
use Rattle.std.proofs.lemmas.List.Concat.{flat_map-append}
use Rattle.std.proofs.lemmas.List.Elements.{All-nil, All-cons}
use Rattle.fibs_game.specs.Game.{Game}
use Rattle.fibs_game.specs.Lawful.{Lawful}
use Rattle.fibs_game.specs.Log.{Entry, Took, Undone}
use Rattle.fibs_game.specs.Log as L
use Rattle.fibs_game.specs.Words.{is_empty}
use Rattle.fibs_game.specs.Machine.{on_wire}
use Rattle.fibs_game.specs.Wires.{Link, taken, next_line}
use Rattle.fibs_game.specs.Server.{Served}
use Rattle.fibs_game.specs.Server as V
use Rattle.fibs_game.specs.Events.{Event, Serve, Own}
use Rattle.fibs_game.specs.World.{World, start, after, noted, linked, sends, does_served, serves}
use Rattle.fibs_game.specs.Refusals.{refusal}
use Rattle.fibs_game.specs.Runs.{after_all, world_after}
use Rattle.fibs_game.specs.Once.{taken_by, taken_on, Leaves, Takes, OneStep, NoneOwn, NoTwoAlike, TakesOnce, OnceHolds}
use Rattle.fibs_game.proofs.Answering.{answered_at as answered}
use Rattle.fibs_game.proofs.acts.Client.{NoAnswers}
use Rattle.fibs_game.proofs.Refusing.{not_refused}
use Rattle.fibs_game.proofs.acts.Server.{sends_board, sends_log}
use Rattle.fibs_game.proofs.Steps.{Adds, adds_same, Fits, fits, adds}

module _ {G : Game} where
  -- if no answer is noted, nothing took effect
  none_taken : (xs : List (Entry G)) → NoAnswers G xs → taken_on xs ≡ []
  none_taken [] h = refl
  none_taken (Took c b d ∷ xs) h = absurd h
  none_taken (Undone c b d ∷ xs) h = absurd h
  none_taken (e ∷ xs) h = none_taken xs h

  -- the board is left if no answer to a decision is noted
  leaves : (w w' : World G) → Adds G w w' → Leaves w w'
  leaves w w' a = record { board = a.board; noted = a.more; log = a.log; none = none_taken a.more a.none }

  -- an event leaves the server's board, or a decision takes effect
  abbrev Moves : World G → World G → Event G → Type 0
  Moves w w' e = Leaves w w' ⊎ Takes w w' e

  -- events after events
  pub all_append : (login : List ℕ) (w : World G) (xs ys : List (Event G))
      → after_all login w (xs ++ ys) ≡ after_all login (after_all login w xs) ys
  all_append login w [] ys = refl
  all_append login w (e ∷ xs) ys = all_append login (after login w e) xs ys

  module _ (law : Lawful G) where
    -- what the server does at a line
    moves_served : (c d1 d2 : ℕ) (w : World G) (l : Link) (s : Served G) → Fits G w.board w.logged_in c d1 d2 s
        → Moves w (does_served c (linked w c l) s) (Serve c d1 d2)
    moves_served c d1 d2 w l V.Stale h = inl (leaves w (linked w c l) (adds_same G w (linked w c l) refl refl))
    moves_served c d1 d2 w l V.LoggedIn h =
        inl (record { board = refl; noted = L.LoggedIn c ∷ []; log = refl; none = refl })
    moves_served c d1 d2 w l (V.Took d b) h =
        let n : World G = noted (record (linked w c l) { board = b }) (Took c w.board d ∷ []) in
        let e = law.effect_leads w.board d d1 d2 b h.1 in
        let same : b ≡ (sends n (G.spelling b)).board = sym (sends_board G n (G.spelling b)) in
        inr (record {
          conn = c;
          die = d1;
          other_die = d2;
          event = refl;
          decision = d;
          log = sends_log G n (G.spelling b);
          leads = subst (G.Leads w.board d d1 d2) same e;
          differs = subst (G.Differ w.board) same (law.leads_on w.board d d1 d2 b e);
        })
    moves_served c d1 d2 w l (V.Undone d) h =
        let n : World G = noted (linked w c l) (Undone c w.board d ∷ []) in
        inl (record {
          board = sends_board G n (G.spelling w.board);
          noted = Undone c w.board d ∷ [];
          log = sends_log G n (G.spelling w.board);
          none = refl;
        })
    moves_served c d1 d2 w l V.Answered h =
        let n : World G = linked w c l in
        inl (leaves w _ (adds_same G w _ (sends_board G n (G.spelling w.board)) (sends_log G n (G.spelling w.board))))

    -- the server takes a line, if there is one
    moves_line : (w : World G) (c d1 d2 : ℕ) (o : Option (List ℕ × List ℕ)) → Moves w (serves c w d1 d2 o)
        (Serve c d1 d2)
    moves_line w c d1 d2 None = inl (leaves w w (adds_same G w w refl refl))
    moves_line w c d1 d2 (Some p) =
        let first = is_empty (w.links c).served in
        moves_served c d1 d2 w (taken (w.links c) (on_wire p.0) p.1) (answered G w.board w.logged_in c first p.0 d1 d2)
        (fits G w.board w.logged_in c first p.0 d1 d2)

    -- each event that is no board of the server's own leaves the server's board, or a decision takes effect
    moves : (login : List ℕ) (w : World G) (e : Event G) → NoneOwn (e ∷ []) → Moves w (after login w e) e
    moves login w (Serve c d1 d2) h = moves_line w c d1 d2 (next_line (w.links c).asked)
    moves login w (Own b) h = absurd h
    moves login w e h = inl (leaves w _ (adds G login w e tt))

    -- while the user decides no board of the server's own is accepted
    not_own : (w : World G) (e : Event G) → G.decides w.board ≡ true → refusal w e ≡ None → NoneOwn (e ∷ [])
    not_own w (Own b) decides may =
        let good = not_refused G (not (G.good b)) _ _ may in
        let waits = not_refused G (G.decides w.board) _ _ good.1 in absurd (true≢false (sym decides ∙ waits.0))
    not_own w e decides may = tt

    -- so such an event leaves the board, or one decision takes effect
    pub one_step : OneStep G
    one_step login w e decides may = moves login w e (not_own w e decides may)

    -- decisions carried out one after another, on these boards, from one board to another
    abbrev Chain : G.Board → List G.Board → G.Board → Type 0
    Chain now [] end = end ≡ now
    Chain now (b ∷ later) end =
        (b ≡ now) × (d : G.Decision) × (d1 : ℕ) × (d2 : ℕ) × (next : G.Board) × G.Leads now d d1 d2 next
        × G.Differ now next × Chain next later end

    -- what took effect over a list of events
    record Taken (w w' : World G) : Type 0 where
      more : List (Entry G)
      log : w'.log ≡ w.log ++ more
      chain : Chain w.board (taken_on more) w'.board

    -- one event and later ones
    own_parts : (e : Event G) (es : List (Event G)) → NoneOwn (e ∷ es) → NoneOwn (e ∷ []) × NoneOwn es
    own_parts (Own b) es h = absurd h
    own_parts e es h = (tt, h)

    -- what took effect is carried out one after another
    taken_all : (login : List ℕ) (es : List (Event G)) (w : World G) → NoneOwn es → Taken w (after_all login w es)
    taken_all login [] w h = record { more = []; log = sym (append-nil w.log); chain = refl }
    taken_all login (e ∷ es) w h =
        let own = own_parts e es h in
        let w1 : World G = after login w e in
        let later = taken_all login es w1 own.1 in
        elim (moves login w e own.0) [
          | inl l ↦
              let no_more : taken_on (l.noted ++ later.more) ≡ taken_on later.more =
              flat_map-append taken_by l.noted later.more ∙ ap (λ bs. bs ++ taken_on later.more) l.none in
              record {
                more = l.noted ++ later.more;
                log =
                    later.log ∙ ap (λ log. log ++ later.more) l.log ∙ append_assoc w.log l.noted later.more;
                chain =
                    subst (λ bs. Chain w.board bs (after_all login w1 es).board) (sym no_more)
                    (subst (λ b. Chain b (taken_on later.more) (after_all login w1 es).board) l.board later.chain);
              }
          | inr t ↦
              record {
                more = Took t.conn w.board t.decision ∷ later.more;
                log =
                    later.log ∙ ap (λ log. log ++ later.more) t.log
                    ∙ append_assoc w.log (Took t.conn w.board t.decision ∷ []) later.more;
                chain = (refl, t.decision, t.die, t.other_die, w1.board, t.leads, t.differs, later.chain);
              }
        ]

    -- of those no two are on one game, since there are at most two
    no_two : (now end : G.Board) (bs : List G.Board) → Chain now bs end → NoTwoAlike G bs
    no_two now end [] h = tt
    no_two now end (a ∷ []) h = (All-nil (G.Differ a), tt)
    no_two now end (a ∷ b ∷ []) (is, d, d1, d2, next, leads, differs, rest) =
        let apart : G.Differ a b = subst (G.Differ a) (sym rest.0) (subst (λ x. G.Differ x next) (sym is) differs) in
        (All-cons (G.Differ a) b [] apart (All-nil (G.Differ a)), (All-nil (G.Differ b), tt))
    no_two now end (a ∷ b ∷ c ∷ bs) (is, d, d1, d2, next, leads, differs, rest) =
        let more = rest.7 in
        absurd (law.no_three now next rest.4 more.4 d rest.1 more.1 d1 d2 rest.2 rest.3 more.2 more.3 leads rest.5
        more.5)

    -- over each part of a list of events without a board of the server's own
    pub once : OnceHolds G
    unfolding world_after
    once login first events before between later is none =
        let w : World G = after_all login (start first) before in
        let t = taken_all login between w none in
        let here : TakesOnce w (after_all login w between) = record {
          noted = t.more;
          log = t.log;
          once = no_two w.board (after_all login w between).board (taken_on t.more) t.chain;
        } in
        subst (TakesOnce w) (sym (all_append login (start first) before between)) here
