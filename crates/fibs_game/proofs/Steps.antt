-- What one event notes, and the server's board after it: a decision is carried out, or the board stays as it is.
use Rattle.std.proofs.Common.{◌≡◌, ℕ, Bool, true, false, List, [], ◌∷◌, ◌++◌, Option, Some, None, nat_eq, refl, sym, ◌∙◌, append-nil, append_assoc}
use Rattle.std.specs.Prelude.{nat_lt, take}
use Rattle.std.proofs.lemmas.Bool.{eqb-true}
use Rattle.fibs_game.specs.Game.{Game}
use Rattle.fibs_game.specs.Log.{Entry}
use Rattle.fibs_game.specs.Log as L
use Rattle.fibs_game.specs.Words.{open_now}
use Rattle.fibs_game.specs.Machine.{Talk, Outcome, InputValue, step, hears, heard_by, hears_all, with_bytes, gained, is_online, order_refusal, withdraw_refusal}
use Rattle.fibs_game.specs.Machine as M
use Rattle.fibs_game.specs.Hearing.{line_says}
use Rattle.fibs_game.specs.Wires.{Link, delivered, cut_off}
use Rattle.fibs_game.specs.Events.{Event, Open, Click, Plain, Deliver, Lose, Serve, Own, Repeat, Text, Order, Withdraw}
use Rattle.fibs_game.specs.Server.{Served, carried, obeyed}
use Rattle.fibs_game.specs.Server as V
use Rattle.fibs_game.specs.World.{World, after, client_does, sends, talk_of}
use Rattle.fibs_game.proofs.Answering.{answered_at as answered}
use Rattle.fibs_game.proofs.acts.Client.{NoAnswers, none_append, clients_heard, no_board, goes_click, goes_plain, goes_if}
use Rattle.fibs_game.proofs.acts.Server.{sends_board, sends_log}
use Rattle.fibs_game.proofs.joint.Sending.{if_fact}

module _ (G : Game) where
  -- the server's board is left, and no answer to a decision is noted
  pub record Adds (w w' : World G) : Type 0 where
    pub board : w'.board ≡ w.board
    pub more : List (Entry G)
    pub log : w'.log ≡ w.log ++ more
    pub none : NoAnswers G more

  -- nothing is noted
  pub adds_same : (w w' : World G) → w'.board ≡ w.board → w'.log ≡ w.log → Adds w w'
  adds_same w w' b l = record { board = b; more = []; log = l ∙ sym (append-nil w.log); none = tt }

  -- a line is sent
  adds_sends : (w : World G) (t : List ℕ) → Adds w (sends w t)
  adds_sends w t = adds_same w (sends w t) (sends_board G w t) (sends_log G w t)

  -- a log grows by entries that are no answers
  abbrev Grows : List (Entry G) → List (Entry G) → Type 0
  Grows log log' = (more : List (Entry G)) × (log' ≡ log ++ more) × NoAnswers G more

  -- by none
  grows_none : (log : List (Entry G)) → Grows log log
  grows_none log = ([], sym (append-nil log), tt)

  -- by what lines make a client note
  hears_grow : (ls : List G.Line) (t : Talk G) → Grows t.log (hears_all t ls).talk.log
  unfolding hears_all
  hears_grow [] t = grows_none t.log
  hears_grow (l ∷ ls) t =
      let es : List (Entry G) = (heard_by t l).entries in
      let k = hears_grow ls (hears t (heard_by t l)).talk in (
        es ++ k.0,
        k.1 ∙ append_assoc t.log es k.0,
        none_append G es k.0 (clients_heard G (open_now t.log) t.log (line_says G l)).none k.2,
      )

  -- by what a step makes it note
  step_grows : (t : Talk G) (i : InputValue G) → Grows t.log (step t i).talk.log
  step_grows t M.Open = if_fact G (λ (s : Outcome G). Grows t.log s.talk.log) (is_online t) _ _ (λ z. grows_none t.log)
      (λ z. (_, refl, tt))
  step_grows t M.Lose = if_fact G (λ (s : Outcome G). Grows t.log s.talk.log) (is_online t) _ _ (λ z. (_, refl, tt))
      (λ z. grows_none t.log)
  step_grows t (M.Piece bytes) = if_fact G (λ (s : Outcome G). Grows t.log s.talk.log) (is_online t) _ _
      (λ z. hears_grow (gained G t.stream bytes) (with_bytes t bytes)) (λ z. grows_none t.log)
  step_grows t (M.Click d) = let g = goes_click G t d in (g.more, g.log, g.clients.none)
  step_grows t (M.PlainInput p) = let g = goes_plain G t p in (g.more, g.log, g.clients.none)
  step_grows t M.Order =
      let g = goes_if G t (L.Ordered (open_now t.log)) (order_refusal t.log)
      (no_board G (open_now t.log) _ (λ o. refl) tt refl (λ n le. (le, tt)) (λ d. refl)) in
      (g.more, g.log, g.clients.none)
  step_grows t M.Withdraw =
      let g = goes_if G t (L.Withdrawn (open_now t.log)) (withdraw_refusal t.log)
      (no_board G (open_now t.log) _ (λ o. refl) tt refl (λ n le. (le, tt)) (λ d. refl)) in
      (g.more, g.log, g.clients.none)

  -- the client's step leaves the server's board
  adds_step : (login : List ℕ) (w : World G) (moves : Link → Link) (i : InputValue G)
      → Adds w (client_does w moves (step (talk_of login w) i))
  adds_step login w moves i =
      let a = step_grows (talk_of login w) i in record { board = refl; more = a.0; log = a.1; none = a.2 }

  -- an event at which the server neither takes a line nor makes a board of its own
  abbrev pub IsSilent : Event G → Type 0
  IsSilent (Serve c d1 d2) = ⊥
  IsSilent (Own b) = ⊥
  IsSilent e = Unit {0}

  -- it leaves the board, and no answer to a decision is noted
  pub adds : (login : List ℕ) (w : World G) (e : Event G) → IsSilent e → Adds w (after login w e)
  adds login w Open h = adds_step login w (λ l. l) M.Open
  adds login w (Click d) h = adds_step login w (λ l. l) (M.Click d)
  adds login w (Plain p) h = adds_step login w (λ l. l) (M.PlainInput p)
  adds login w (Deliver n) h = adds_step login w (λ l. delivered l n) (M.Piece (take n (w.links w.count).coming))
  adds login w (Lose k) h = adds_step login w (λ l. cut_off l k) M.Lose
  adds login w (Serve c d1 d2) h = absurd h
  adds login w (Own b) h = absurd h
  adds login w Repeat h = adds_sends w (G.spelling w.board)
  adds login w (Text t) h = adds_sends w t
  adds login w Order h = adds_step login w (λ l. l) M.Order
  adds login w Withdraw h = adds_step login w (λ l. l) M.Withdraw

  -- of the server's answer: a decision is one of the connection logged in, and what is carried out leads to that board
  abbrev pub Fits : G.Board → ℕ → ℕ → ℕ → ℕ → Served G → Type 0
  Fits now logged_in c d1 d2 (V.Took d b) = (c ≡ logged_in) × (G.effect now d d1 d2 ≡ Some b)
  Fits now logged_in c d1 d2 (V.Undone d) = c ≡ logged_in
  Fits now logged_in c d1 d2 s = Unit {0}

  -- each answer is so
  pub fits : (now : G.Board) (logged_in c : ℕ) (first : Bool) (text : List ℕ) (d1 d2 : ℕ)
      → Fits now logged_in c d1 d2 (answered G now logged_in c first text d1 d2)
  fits now logged_in c true text d1 d2 =
      if_fact G (Fits now logged_in c d1 d2) (nat_lt c logged_in) _ _ (λ z. tt) (λ z. tt)
  fits now logged_in c false text d1 d2 =
      if_fact G (Fits now logged_in c d1 d2) (nat_eq c logged_in) _ _
      (λ z. obeys (eqb-true c logged_in z) (G.decision_in now text)) (λ z. tt)
    where
      carries : c ≡ logged_in → (d : G.Decision) (o : Option G.Board) → G.effect now d d1 d2 ≡ o
          → Fits now logged_in c d1 d2 (carried d o)
      carries e d None is = e
      carries e d (Some b) is = (e, is)

      obeys : c ≡ logged_in → (o : Option G.Decision) → Fits now logged_in c d1 d2 (obeyed now d1 d2 o)
      obeys e None = tt
      obeys e (Some d) = carries e d (G.effect now d d1 d2) refl
