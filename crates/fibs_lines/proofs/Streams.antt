-- A stream that goes on: what each further byte gives.
use Rattle.std.proofs.Common.{◌≡◌, ℕ, ◌+◌, ◌-◌, ◌≤◌, Bool, true, false, cond, eqb, List, [], ◌∷◌, ◌++◌, length, take, drop, map, refl, sym, ap, ◌∙◌, arith, append_assoc}
use Rattle.std.proofs.Math.Seq.{take-add}
use Rattle.std.proofs.lemmas.List.{append-nil, nil_from_length, length-append, map-append}
use Rattle.fibs_lines.specs.Lines.{ReadLine, takes_option, plain, line_of, lines_of, rest_of}
use Rattle.fibs_lines.specs.Progress.{data_of, telnet_after}
use Rattle.fibs_lines.specs.Standing.{telnet_of}
use Rattle.fibs_lines.proofs.Parts.{onto_each_first, finished, has_end, after_end, after_end_none, finished_none, finished_some, lines_of-is, rest_of-is}
use Rattle.fibs_lines.specs.declared.telnet.Telnet.{Telnet}
use Rattle.fibs_lines.specs.declared.telnet.Telnet.TheVariants.{Data, Command, Negotiation}

-- how far a command has come after more bytes
abbrev pub telnet_along : Telnet → List ℕ → Telnet
telnet_along t [] = t
telnet_along t (b ∷ s) = telnet_along (telnet_after t b) s

-- the data that more bytes give
abbrev pub data_along : Telnet → List ℕ → List ℕ
data_along t [] = []
data_along t (b ∷ s) = data_of t b ++ data_along (telnet_after t b) s

-- the data of a stream, byte by byte
pub plain-along : (s : List ℕ) → plain s ≡ data_along Data s
unfolding plain
plain-along [] = refl
plain-along (b ∷ []) = grind arith
plain-along (b ∷ c ∷ []) = grind arith
plain-along (b ∷ c ∷ d ∷ s) =
    let here = plain-along s in
    let one = plain-along (d ∷ s) in
    let two = plain-along (c ∷ d ∷ s) in
    grind arith

-- how far a command has come in a stream, byte by byte
pub telnet_of-along : (s : List ℕ) → telnet_of s ≡ telnet_along Data s
unfolding telnet_of
telnet_of-along [] = refl
telnet_of-along (b ∷ []) = grind arith
telnet_of-along (b ∷ c ∷ []) = grind arith
telnet_of-along (b ∷ c ∷ d ∷ s) =
    let here = telnet_of-along s in
    let one = telnet_of-along (d ∷ s) in
    let two = telnet_of-along (c ∷ d ∷ s) in
    elim (eqb b 255) as
    (λ v. cond v (cond (eqb c 255) (telnet_of (d ∷ s)) (cond (takes_option c) (telnet_of s) (telnet_of (d ∷ s))))
    (telnet_of (c ∷ d ∷ s)) ≡ telnet_along (cond v Command Data) (c ∷ d ∷ s)) [
      | true ↦
          elim (eqb c 255) as
          (λ v. cond v (telnet_of (d ∷ s)) (cond (takes_option c) (telnet_of s) (telnet_of (d ∷ s))) ≡ telnet_along
          (cond v Data (cond (takes_option c) Negotiation Data)) (d ∷ s)) [
            | true ↦ one
            | false ↦
                elim (takes_option c) as
                (λ v. cond v (telnet_of s) (telnet_of (d ∷ s)) ≡ telnet_along (cond v Negotiation Data) (d ∷ s))
                [ true ↦ here | false ↦ one ]
          ]
      | false ↦ two
    ]

-- the data of two lists in a row
data_along-append : (t : Telnet) (s u : List ℕ)
    → data_along t (s ++ u) ≡ data_along t s ++ data_along (telnet_along t s) u
data_along-append t [] u = refl
data_along-append t (b ∷ s) u =
    ap (λ l. data_of t b ++ l) (data_along-append (telnet_after t b) s u)
    ∙ sym (append_assoc (data_of t b) (data_along (telnet_after t b) s) (data_along (telnet_along t (b ∷ s)) u))

-- how far a command has come after two lists in a row
telnet_along-append : (t : Telnet) (s u : List ℕ) → telnet_along t (s ++ u) ≡ telnet_along (telnet_along t s) u
telnet_along-append t [] u = refl
telnet_along-append t (b ∷ s) u = telnet_along-append (telnet_after t b) s u

-- what a stream gives when it goes on depends only on its telnet state
pub plain-append : (s u : List ℕ) → plain (s ++ u) ≡ plain s ++ data_along (telnet_of s) u
plain-append s u =
    rw (plain-along, telnet_of-along s, plain-along s) (data_along-append Data s u)

-- so does how far a command has come
pub telnet_of-append : (s u : List ℕ) → telnet_of (s ++ u) ≡ telnet_along (telnet_of s) u
telnet_of-append s u =
    rw (telnet_of-along (s ++ u), telnet_of-along s) (telnet_along-append Data s u)

-- the pieces of data that goes on
pub has_end-append : (p q : List ℕ) → has_end (p ++ q) ≡ cond (has_end p) true (has_end q)
unfolding has_end
has_end-append [] q = refl
has_end-append (x ∷ p) q = let ih = has_end-append p q in grind arith

-- what follows the last line end, when more comes without one
pub after_end-append_none : (p q : List ℕ) → has_end q ≡ false → after_end (p ++ q) ≡ after_end p ++ q
unfolding after_end
after_end-append_none [] q h = after_end_none q h
after_end-append_none (x ∷ p) q h =
    let ih = after_end-append_none p q h in
    let e = has_end-append p q in
    grind arith

-- no further part is closed without a line end
pub finished-append_none : (p q : List ℕ) → has_end q ≡ false → finished (p ++ q) ≡ finished p
unfolding finished has_end
finished-append_none [] [] h = refl
finished-append_none [] (x ∷ q) h = let ih = finished-append_none [] q in grind arith
finished-append_none (x ∷ p) q h = let ih = finished-append_none p q h in grind arith

-- nothing follows a line end that has just come
pub after_end-append_end : (p : List ℕ) → after_end (p ++ 10 ∷ []) ≡ []
unfolding after_end has_end
after_end-append_end [] = refl
after_end-append_end (x ∷ p) = let ih = after_end-append_end p in let e = has_end-append p (10 ∷ []) in grind arith

-- the closed parts when a line end comes, with one byte more in front
finished-append_end_step : (x : ℕ) (p : List ℕ) (b : Bool) → has_end p ≡ b
    → finished (p ++ 10 ∷ []) ≡ finished p ++ after_end p ∷ []
    → finished (x ∷ p ++ 10 ∷ []) ≡ finished (x ∷ p) ++ after_end (x ∷ p) ∷ []
unfolding finished after_end
finished-append_end_step x p true h ih =
    let more = finished_some p h in
    let q = more.0 in
    let qs = more.1 in
    let e : finished p ≡ q ∷ qs = more.2 in
    grind arith
finished-append_end_step x p false h ih =
    let none = finished_none p h in
    let all = after_end_none p h in
    grind arith

-- a line end closes what followed the last one
pub finished-append_end : (p : List ℕ) → finished (p ++ 10 ∷ []) ≡ finished p ++ after_end p ∷ []
unfolding finished after_end has_end
finished-append_end [] = refl
finished-append_end (x ∷ p) = finished-append_end_step x p (has_end p) refl (finished-append_end p)

-- data that goes on without a line end
pub lines_of_more : (s u q : List ℕ) → plain (s ++ u) ≡ plain s ++ q → has_end q ≡ false
    → lines_of (s ++ u) ≡ lines_of s
lines_of_more s u q e h =
    lines_of-is (s ++ u) ∙ ap (λ p. map line_of (finished p)) e ∙ ap (map line_of) (finished-append_none (plain s) q h)
    ∙ sym (lines_of-is s)

-- the rest then grows by that data
pub rest_of_more : (s u q : List ℕ) → plain (s ++ u) ≡ plain s ++ q → has_end q ≡ false
    → rest_of (s ++ u) ≡ rest_of s ++ q
rest_of_more s u q e h =
    rest_of-is (s ++ u) ∙ ap after_end e ∙ after_end-append_none (plain s) q h ∙ ap (λ r. r ++ q) (sym (rest_of-is s))

-- a line end
pub lines_of_end : (s u : List ℕ) → plain (s ++ u) ≡ plain s ++ 10 ∷ []
    → lines_of (s ++ u) ≡ lines_of s ++ line_of (rest_of s) ∷ []
lines_of_end s u e =
    lines_of-is (s ++ u) ∙ ap (λ p. map line_of (finished p)) e ∙ ap (map line_of) (finished-append_end (plain s))
    ∙ map-append line_of (finished (plain s)) (after_end (plain s) ∷ [])
    ∙ ap (λ r. map line_of (finished (plain s)) ++ line_of r ∷ []) (sym (rest_of-is s))
    ∙ ap (λ ls. ls ++ line_of (rest_of s) ∷ []) (sym (lines_of-is s))

-- after it nothing is left over
pub rest_of_end : (s u : List ℕ) → plain (s ++ u) ≡ plain s ++ 10 ∷ [] → rest_of (s ++ u) ≡ []
rest_of_end s u e = rest_of-is (s ++ u) ∙ ap after_end e ∙ after_end-append_end (plain s)

-- more data takes no closed part back
finished_grows : (p q : List ℕ) → (ps : List (List ℕ)) × (finished (p ++ q) ≡ finished p ++ ps)
unfolding finished
finished_grows [] q = (finished q, refl)
finished_grows (x ∷ p) q =
    let more = finished_grows p q in
    elim (eqb x 10) as
    (λ v. (ps : List (List ℕ))
    × (cond v ([] ∷ finished (p ++ q)) (onto_each_first x (finished (p ++ q))) ≡ cond v ([] ∷ finished p)
    (onto_each_first x (finished p)) ++ ps)) [
      | true ↦ (more.0, ap (λ l. [] ∷ l) more.1)
      | false ↦ onto (finished p) more.0 (finished (p ++ q)) more.1
    ]
  where
    onto : (ps qs all : List (List ℕ)) → all ≡ ps ++ qs → (rs : List (List ℕ))
        × (onto_each_first x all ≡ onto_each_first x ps ++ rs)
    onto [] qs all e = (onto_each_first x all, refl)
    onto (r ∷ ps) qs all e = (qs, ap (onto_each_first x) e)

-- a stream that goes on has no line less
pub lines_of_grow : (s u : List ℕ) → (ls : List ReadLine) × (lines_of (s ++ u) ≡ lines_of s ++ ls)
lines_of_grow s u =
    let more = finished_grows (plain s) (data_along (telnet_of s) u) in (
      map line_of more.0,
      lines_of-is (s ++ u) ∙ ap (λ p. map line_of (finished p)) (plain-append s u) ∙ ap (map line_of) more.1
          ∙ map-append line_of (finished (plain s)) more.0 ∙ ap (λ ls. ls ++ map line_of more.0) (sym (lines_of-is s)),
    )

-- if a longer front of more gives no line, a shorter one gives none
pub lines_of_before : (s piece : List ℕ) (n k : ℕ) → n ≤ k → lines_of (s ++ take k piece) ≡ lines_of s
    → lines_of (s ++ take n piece) ≡ lines_of s
lines_of_before s piece n k h e =
    let front = lines_of_grow s (take n piece) in
    let whole = lines_of_grow (s ++ take n piece) (take (k - n) (drop n piece)) in
    let split : take k piece ≡ take n piece ++ take (k - n) (drop n piece) =
    ap (λ m. take m piece) {x = k} {y = n + (k - n)} (omega arith) ∙ take-add n (k - n) piece in
    let joined : s ++ take k piece ≡ s ++ take n piece ++ take (k - n) (drop n piece) =
    ap (λ l. s ++ l) split ∙ sym (append_assoc s (take n piece) (take (k - n) (drop n piece))) in
    let all : (lines_of s ++ front.0) ++ whole.0 ≡ lines_of s =
    ap (λ l. l ++ whole.0) (sym front.1) ∙ sym whole.1 ∙ ap lines_of (sym joined) ∙ e in
    let none : front.0 ≡ [] =
    nil_from_length front.0
    (omega
    (arith, ap length all, length-append (lines_of s ++ front.0) whole.0, length-append (lines_of s) front.0)) in
    front.1 ∙ ap (λ l. lines_of s ++ l) none ∙ append-nil (lines_of s)

-- an empty stream has no line
pub lines_of-nil : lines_of [] ≡ []
unfolding lines_of plain
lines_of-nil = refl
