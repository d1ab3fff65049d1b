-- How calls of a client make up a run.
use Rattle.std.proofs.Common.{◌≡◌, ◌<◌, ◌≤◌, ◌+◌, suc, ℕ, ◌-◌, map, get_or, add-one, List, [], ◌∷◌, ◌++◌, length, take, drop, sym, ap, subst, ◌∙◌, arith, append_assoc, append-nil}
use Rattle.std.proofs.lemmas.List.{take-append-drop, length-drop, take_all}
use Rattle.std.proofs.Math.Seq.{drop-cons}
use Rattle.std.proofs.Math.ListN.{drop_of_length-le}
use Rattle.std.proofs.lemmas.List.Concat.{flat_map-append}
use Rattle.fibs_session.specs.History.Machine.{Talk, InputValue, Piece, step, run, on_wire, wire_of}
use Rattle.fibs_session.specs.History.MachineLaws.{PiecesJoin}
use Rattle.fibs_session.specs.Calls.Standing.{ClientValue, StandsAfter}
use Rattle.fibs_session.specs.Calls.Writing.{Writes}

-- two pieces are one
pub joined : PiecesJoin → (a b c : ClientValue) (p q x y z : List ℕ)
    → Writes a b (Piece p) x y → Writes b c (Piece q) y z → Writes a c (Piece (p ++ q)) x z
joined law a b c p q x y z f g = record {
  send = f.send ++ g.send;
  does = record {
    stands = λ t at. subst (λ s. StandsAfter c s.talk) (sym (law t p q)) (g.does.stands _ (f.does.stands t at));
    hands = λ t at. ap (λ l. l ++ g.send) (f.does.hands t at)
        ∙ ap (λ l. (step t (Piece p)).send ++ l) (g.does.hands _ (f.does.stands t at))
        ∙ ap (λ s. s.send) (sym (law t p q));
  };
  written = g.written ∙ ap (λ l. l ++ wire_of g.send) f.written ∙ append_assoc x (wire_of f.send) (wire_of g.send)
      ∙ ap (λ l. x ++ l) (sym (flat_map-append on_wire f.send g.send));
}

-- a front and what is left of it
pub done_and_rest : (all done rest : List ℕ) (used : ℕ)
    → all ≡ done ++ rest → all ≡ (done ++ take used rest) ++ take (length rest - used) (drop used rest)
done_and_rest all done rest used e = e ∙ ap (λ r. done ++ r) (front_and_rest used rest)
    ∙ sym (append_assoc done (take used rest) (take (length rest - used) (drop used rest)))
  where
    front_and_rest : (used : ℕ) (xs : List ℕ) → xs ≡ take used xs ++ take (length xs - used) (drop used xs)
    front_and_rest used xs =
        sym (take-append-drop used xs) ∙ ap (λ ys. take used xs ++ ys)
        (sym (take_all (length xs - used) (drop used xs) (omega (arith, length-drop used xs))))

-- what is still to be done of a run: the client is at some history, and the rest of the inputs gives the rest of
-- the bytes
pub record Going (c : ClientValue) (out : List ℕ) (later : List InputValue) (all : List ℕ) : Type 0 where
  pub talk : Talk
  pub stands : StandsAfter c talk
  pub whole : out ++ wire_of (run talk later).send ≡ all

-- a call that writes its commands does the next input of a run
pub goes_on : (c c' : ClientValue) (x y : List ℕ) (i : InputValue) (later : List InputValue) (all : List ℕ)
    → Going c x (i ∷ later) all → Writes c c' i x y → Going c' y later all
unfolding run
goes_on c c' x y i later all g w = record {
  talk = (step g.talk i).talk;
  stands = w.does.stands g.talk g.stands;
  whole =
      let rest = (run (step g.talk i).talk later).send in
      ap (λ l. l ++ wire_of rest) (w.written ∙ ap (λ s. x ++ wire_of s) (w.does.hands g.talk g.stands))
      ∙ append_assoc x (wire_of (step g.talk i).send) (wire_of rest)
      ∙ ap (λ l. x ++ l) (sym (flat_map-append on_wire (step g.talk i).send rest))
      ∙ g.whole;
}

-- at the end of a run all its bytes are written
pub ends : (c : ClientValue) (out all : List ℕ) → Going c out [] all → out ≡ all
unfolding run
ends c out all g = sym (append-nil out) ∙ g.whole

-- the first of the inputs that are left, and those after it
pub next : {A B : Type 0} (f : A → B) (xs : List A) (i : ℕ) (x : A)
    → x ≡ get_or xs i x → i < length xs → map f (drop i xs) ≡ f x ∷ map f (drop (i + 1) xs)
next f xs i x e lt = ap (map f) (drop-cons xs i x lt)
    ∙ ap (λ y. f y ∷ map f (drop (suc i) xs)) (sym e) ∙ ap (λ n. f x ∷ map f (drop n xs)) (sym (add-one i))

-- behind the last input none is left
pub none_left : {A B : Type 0} (f : A → B) (xs : List A) (i : ℕ) → length xs ≤ i → map f (drop i xs) ≡ []
none_left f xs i h = ap (map f) (drop_of_length-le xs h)
