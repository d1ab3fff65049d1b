-- What is left on a wire to the server: lines. At most one of them is a decision, the one that is not served.
use Rattle.std.proofs.Common.{◌≡◌, ◌⊎◌, inl, inr, ℕ, Bool, List, [], ◌∷◌, ◌++◌, Option, Some, None, nat_eq, flat_map, refl, sym, ◌∙◌, ap, subst, append_assoc}
use Rattle.std.proofs.lemmas.Bool.{false_from_ne_true}
use Rattle.fibs_game.specs.Machine.{on_wire}
use Rattle.fibs_game.specs.Words.{Ask, open_now}
use Rattle.fibs_game.specs.Joint.{AreLines, NoDecision, OneDecision, AtMostThis, Left}
use Rattle.fibs_game.specs.Wires.{next_line}
use Rattle.fibs_game.specs.World.{World}
use Rattle.fibs_game.specs.Game.{Game}
use Rattle.fibs_game.specs.Lawful.{AllQuiet}
use Rattle.fibs_game.proofs.joint.Joint.{Held}
use Rattle.fibs_game.proofs.wires.Cuts.{line_whole}
use Rattle.fibs_game.proofs.wires.Ways.{Queue, OnWay, Texts, texts_of}

module _ (G : Game) where
  -- of texts without CR the first have none
  texts_front : (ts gone : List (List ℕ)) → Texts G (ts ++ gone) → Texts G ts
  texts_front [] gone h = tt
  texts_front (t ∷ ts) gone h = (h.0, texts_front ts gone h.1)

  -- nor have the whole commands on a wire
  pub way_texts : (o : Bool) (p : Option (Ask G)) (asked : List ℕ) (way : OnWay G o p asked) → Texts G way.ts
  way_texts o p asked way = texts_front way.ts way.gone (texts_of G p (way.ts ++ way.gone) way.queue)

  -- whole commands and a part of one are these lines
  lines_are : (ts : List (List ℕ)) (part bytes : List ℕ) → bytes ≡ flat_map on_wire ts ++ part → next_line part ≡ None
      → Texts G ts → AreLines bytes ts
  lines_are [] part bytes e none h = ap next_line e ∙ none
  lines_are (t ∷ ts) part bytes e none h = (
    flat_map on_wire ts ++ part,
    ap next_line (e ∙ append_assoc (on_wire t) (flat_map on_wire ts) part)
        ∙ line_whole G t (flat_map on_wire ts ++ part) h.0,
    lines_are ts part (flat_map on_wire ts ++ part) refl none h.1,
  )

  -- the first of commands that are no decisions
  quiet_front : (ts gone : List (List ℕ)) → AllQuiet G (ts ++ gone) → AllQuiet G ts
  quiet_front [] gone h = tt
  quiet_front (t ∷ ts) gone h = (h.0, quiet_front ts gone h.1)

  -- none of them is a decision
  quiet_none : (now : G.Board) (ts : List (List ℕ)) → AllQuiet G ts → NoDecision G now ts
  quiet_none now [] h = tt
  quiet_none now (t ∷ ts) h = (h.0.quiet now, quiet_none now ts h.1)

  -- the decision is among the commands that are there, or among those that a loss took
  queue_one : (now : G.Board) (a : Ask G) → a.0 ≡ now → (ts gone : List (List ℕ)) → Queue G (Some a) (ts ++ gone)
      → OneDecision G now a.1 ts ⊎ (NoDecision G now ts × Queue G (Some a) gone)
  queue_one now a is [] gone q = inr (tt, q)
  queue_one now a is (t ∷ ts) gone q = elim q [
    | inl k ↦ elim (queue_one now a is ts gone k.1) [
      | inl o ↦ inl (record {
        before = t ∷ o.before;
        later = o.later;
        all = ap (λ l. t ∷ l) o.all;
        none_before = (k.0.quiet now, o.none_before);
        none_later = o.none_later;
      })
      | inr n ↦ inr ((k.0.quiet now, n.0), n.1)
    ]
    | inr k ↦ inl (record {
      before = [];
      later = ts;
      all = ap (λ x. x ∷ ts) (k.0 ∙ ap (λ b. G.command b a.1) is);
      none_before = tt;
      none_later = quiet_none now ts (quiet_front ts gone k.2);
    })
  ]

  -- at most the decision that is not served is on the wire
  few : (o : Bool) (now : G.Board) (p : Option (Ask G)) (asked : List ℕ) (way : OnWay G o p asked) → Held G now p
      → AtMostThis G o now p way.ts
  few o now None asked way held = quiet_none now way.ts (quiet_front way.ts way.gone way.queue)
  few o now (Some a) asked way held = (
    sym held.0,
    elim (queue_one now a (sym held.0) way.ts way.gone way.queue) [
      | inl one ↦ inl one
      | inr n ↦
          inr (false_from_ne_true o (λ e. subst (Queue G (Some a)) (way.exact e).1 n.1), n.0)
    ],
  )

  -- what is left on the wire of a connection
  pub left_on : (w : World G) (c : ℕ) (p : Option (Ask G)) → OnWay G (nat_eq (open_now w.log) c) p (w.links c).asked
      → Held G w.board p → Left c p w
  left_on w c p way held = record {
    lines = way.ts;
    are_lines =
        lines_are way.ts way.part (w.links c).asked way.bytes way.no_more (way_texts _ p (w.links c).asked way);
    at_most_this = few (nat_eq (open_now w.log) c) w.board p (w.links c).asked way held;
  }
