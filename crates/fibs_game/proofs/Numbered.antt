-- No event notes a connection that never was.
use Rattle.std.proofs.Common.{◌≡◌, ℕ, ◌+◌, ◌≤◌, List, [], ◌∷◌, Option, Some, None, length, inl, inr, arith, subst}
use Rattle.fibs_game.specs.declared.world_refusal.WorldRefusal.TheVariants.{NotOpen}
use Rattle.fibs_game.specs.Log as L
use Rattle.fibs_game.specs.Log.{Entry}
use Rattle.fibs_game.specs.Machine.{on_wire}
use Rattle.fibs_game.specs.Words.{is_empty, open_now, unconfirmed}
use Rattle.fibs_game.specs.Events.{Event, Open, Lose, Serve, Own, Repeat, Text}
use Rattle.fibs_game.specs.Headline.{AllAtMost, conn_of}
use Rattle.fibs_game.specs.Refusals.{refusal}
use Rattle.fibs_game.specs.Talks.{IsWorld}
use Rattle.fibs_game.specs.Wires.{next_line, taken}
use Rattle.fibs_game.specs.World.{World, after, noted, linked, serves}
use Rattle.fibs_game.specs.Runs.{AllAccepted, after_all}
use Rattle.fibs_game.specs.Game.{Game}
use Rattle.fibs_game.proofs.Answering.{answered_at}
use Rattle.fibs_game.proofs.acts.Client.{does}
use Rattle.fibs_game.proofs.acts.Server.{Answers, answers_line, answers_served}
use Rattle.fibs_game.proofs.Refusing.{is_closed, is_open, served}
use Rattle.fibs_game.proofs.Sound.{sound_after}
use Rattle.fibs_game.proofs.Stepping.{opens_is, loses_is}
use Rattle.fibs_game.proofs.log.Numbers.{at_most_more, at_most_both, few_connections}

module _ (G : Game) where
  -- of each entry the connection was opened
  abbrev Counted : World G → Type 0
  Counted w = AllAtMost w.count w.log

  -- an entry of a connection that was opened is counted
  noted_one : (w : World G) (e : Entry G) → conn_of e ≤ w.count → Counted w → Counted (noted w (e ∷ []))
  noted_one w e le h = at_most_both G w.count w.log (e ∷ []) h (le, tt)

  -- the server's answer to a line notes entries of its connection
  counted_answers : (c : ℕ) (t : List ℕ) (w w' : World G) → c ≤ w.count → Answers G c t w w' → Counted w → Counted w'
  counted_answers c t w w' le a h = rw (a.log, a.count) (at_most_both G w.count w.log a.more h (a.counted w.count le))

  -- the server that takes the next line, if there is one, notes entries of its connection
  serves_line : (c : ℕ) (w : World G) (d1 d2 : ℕ) (o : Option (List ℕ × List ℕ)) → c ≤ w.count → Counted w
      → Counted (serves c w d1 d2 o)
  serves_line c w d1 d2 None le h = h
  serves_line c w d1 d2 (Some p) le h =
      let w1 : World G = linked w c (taken (w.links c) (on_wire p.0) p.1) in
      counted_answers c _ w1 _ le
      (answers_served G c w1 (answered_at G w.board w.logged_in c (is_empty (w.links c).served) p.0 d1 d2)) h

  -- the open connection is one of them
  here : (w : World G) → IsWorld w → open_now w.log ≤ w.count
  here w i = elim i.newest [ inl e ↦ omega (arith, e) | inr e ↦ omega (arith, e) ]

  -- an event that is not refused notes entries of connections that were opened
  counted_after : (login : List ℕ) (w : World G) (e : Event G) → IsWorld w → refusal w e ≡ None → Counted w
      → Counted (after login w e)
  counted_after login w Open i k h =
      subst Counted (opens_is G login w i (is_closed G w k))
      (at_most_both G (w.count + 1) w.log (L.Opened (w.count + 1) ∷ [])
      (at_most_more G w.count (w.count + 1) w.log (omega arith) h) (omega arith, tt))
  counted_after login w (Lose n) i k h =
      subst Counted (loses_is G login w n i (is_open G NotOpen _ k))
      (noted_one w (L.Lost (open_now w.log) (unconfirmed (open_now w.log) w.log)) (here w i) h)
  counted_after login w (Serve c d1 d2) i k h =
      serves_line c w d1 d2 (next_line (w.links c).asked) (let s = served G w c d1 d2 k in s.known) h
  counted_after login w (Own b) i k h = counted_answers 0 _ w _ (omega arith) (answers_line G 0 w b (G.spelling b)) h
  counted_after login w Repeat i k h =
      counted_answers 0 _ w _ (omega arith) (answers_line G 0 w w.board (G.spelling w.board)) h
  counted_after login w (Text t) i k h = counted_answers 0 _ w _ (omega arith) (answers_line G 0 w w.board t) h
  counted_after login w e i k h =
      let a = does G login w e i k tt in
      rw (a.count, a.log) (at_most_both G w.count w.log a.more h (a.clients.counted w.count (here w i)))

  -- events that are all accepted note entries of connections that were opened
  counted_all : (login : List ℕ) (w : World G) (es : List (Event G)) → IsWorld w → AllAccepted login w es → Counted w
      → IsWorld (after_all login w es) × Counted (after_all login w es)
  counted_all login w [] i a h = (i, h)
  counted_all login w (e ∷ es) i a h =
      counted_all login (after login w e) es (sound_after G login w e i a.0) a.1
      (counted_after login w e i a.0 h)

  -- after a list of events that were all accepted
  pub all_numbers : (login : List ℕ) (w : World G) (es : List (Event G)) → IsWorld w → AllAccepted login w es
      → Counted w → AllAtMost (length (after_all login w es).log) (after_all login w es).log
  all_numbers login w es i a h =
      let both = counted_all login w es i a h in
      let few = few_connections G (after_all login w es).log in
      at_most_more G (after_all login w es).count (length (after_all login w es).log) (after_all login w es).log
      (omega (arith, both.0.counted, few)) both.1
