-- The bytes on the wires to the client.
use Rattle.std.proofs.Common.{◌≡◌, ℕ, Bool, true, false, List, [], ◌++◌, take, drop, refl, sym, ◌∙◌, ap, append-nil, append_assoc, true≢false}
use Rattle.std.proofs.lemmas.List.{take-append-drop}
use Rattle.fibs_game.specs.Joint.{Carried}
use Rattle.fibs_game.specs.Wires.{Link}
use Rattle.fibs_game.specs.Game.{Game}

module _ (G : Game) where
  -- the same bytes
  pub carried_is : (put put' : List ℕ) (z z' : Bool) (l l' : Link) → put' ≡ put → z' ≡ z → l'.heard ≡ l.heard
      → l'.coming ≡ l.coming → Carried put z l → Carried put' z' l'
  carried_is put put' z z' l l' p o h c k = record {
    dropped = k.dropped;
    all =
        p ∙ k.all ∙ ap (λ bytes. bytes ++ (l.coming ++ k.dropped)) (sym h)
        ∙ ap (λ bytes. l'.heard ++ (bytes ++ k.dropped)) (sym c);
    none_dropped = λ y. k.none_dropped (sym o ∙ y);
    none_coming = λ y. c ∙ k.none_coming (sym o ∙ y);
  }

  -- bytes are delivered
  pub carried_delivered : (put : List ℕ) (z : Bool) (l l' : Link) (n : ℕ) → z ≡ true
      → l'.heard ≡ l.heard ++ take n l.coming
      → l'.coming ≡ drop n l.coming → Carried put z l → Carried put z l'
  carried_delivered put z l l' n t h c k = record {
    dropped = k.dropped;
    all =
        k.all
        ∙ ap (λ bytes. l.heard ++ (bytes ++ k.dropped)) (sym (take-append-drop n l.coming))
        ∙ ap (λ bytes. l.heard ++ bytes) (append_assoc (take n l.coming) (drop n l.coming) k.dropped)
        ∙ sym (append_assoc l.heard (take n l.coming) (drop n l.coming ++ k.dropped))
        ∙ ap (λ bytes. bytes ++ (drop n l.coming ++ k.dropped)) (sym h)
        ∙ ap (λ bytes. l'.heard ++ (bytes ++ k.dropped)) (sym c);
    none_dropped = k.none_dropped;
    none_coming = λ y. absurd (true≢false (sym t ∙ y));
  }

  -- the connection is lost
  pub carried_lost : (put : List ℕ) (z : Bool) (l l' : Link) → z ≡ true → l'.heard ≡ l.heard → l'.coming ≡ []
      → Carried put z l → Carried put false l'
  carried_lost put z l l' t h c k = record {
    dropped = l.coming;
    all =
        k.all
        ∙ ap (λ bytes. l.heard ++ (l.coming ++ bytes)) (k.none_dropped t)
        ∙ ap (λ bytes. l.heard ++ bytes) (append-nil l.coming)
        ∙ ap (λ bytes. bytes ++ l.coming) (sym h)
        ∙ ap (λ bytes. l'.heard ++ (bytes ++ l.coming)) (sym c);
    none_dropped = λ y. absurd (true≢false (sym y));
    none_coming = λ y. c;
  }

  -- a line is sent
  pub carried_sent : (put t : List ℕ) (z : Bool) (l l' : Link) → z ≡ true → l'.heard ≡ l.heard
      → l'.coming ≡ l.coming ++ t
      → Carried put z l → Carried (put ++ t) z l'
  carried_sent put t z l l' o h c k = record {
    dropped = [];
    all =
        ap (λ bytes. bytes ++ t) (k.all ∙ ap (λ bytes. l.heard ++ (l.coming ++ bytes)) (k.none_dropped o))
        ∙ ap (λ bytes. (l.heard ++ bytes) ++ t) (append-nil l.coming)
        ∙ append_assoc l.heard l.coming t
        ∙ ap (λ bytes. bytes ++ (l.coming ++ t)) (sym h)
        ∙ ap (λ bytes. l'.heard ++ bytes) (sym c)
        ∙ ap (λ bytes. l'.heard ++ bytes) (sym (append-nil l'.coming));
    none_dropped = λ y. refl;
    none_coming = λ y. absurd (true≢false (sym o ∙ y));
  }

  -- a connection to which nothing was put, and on which nothing is
  pub carried_none : (z : Bool) (l : Link) → l.heard ≡ [] → l.coming ≡ [] → Carried [] z l
  carried_none z l h c = record {
    dropped = [];
    all = ap (λ bytes. bytes ++ []) (sym h) ∙ ap (λ bytes. l.heard ++ (bytes ++ [])) (sym c);
    none_dropped = λ y. refl;
    none_coming = λ y. c;
  }
