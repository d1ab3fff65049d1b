-- The parts of a list between its line ends, one byte after the other. The definitions say the same of whole parts.
use Rattle.std.proofs.Common.{◌≡◌, ℕ, ◌+◌, ◌-◌, ◌<◌, Bool, true, false, cond, eqb, not, List, [], ◌∷◌, ◌++◌, length, take, drop, reverse, map, refl, sym, ap, ◌∙◌, arith, length-append}
use Rattle.std.specs.List.{slice_split, after_last, count_by, prefix_len, suffix_len}
use Rattle.std.proofs.lemmas.List.{take_at, drop_at, length-reverse, reverse-append}
use Rattle.std.proofs.lemmas.List.Splits.{length-slice_split}
use Rattle.fibs_lines.specs.Lines.{plain, is_line_end, finished_parts, line_of, lines_of, rest_of}

-- the lists with x put before the first, if there is one
abbrev pub onto_each_first : ℕ → List (List ℕ) → List (List ℕ)
onto_each_first x [] = []
onto_each_first x (part ∷ parts) = (x ∷ part) ∷ parts

-- the parts that a line end closes
unfoldable pub finished : List ℕ → List (List ℕ)
finished [] = []
finished (x ∷ p) = cond (is_line_end x) ([] ∷ finished p) (onto_each_first x (finished p))

-- whether a line end is there
unfoldable pub has_end : List ℕ → Bool
has_end [] = false
has_end (x ∷ p) = cond (is_line_end x) true (has_end p)

-- what follows the last line end
unfoldable pub after_end : List ℕ → List ℕ
after_end [] = []
after_end (x ∷ p) = cond (has_end p) (after_end p) (cond (is_line_end x) p (x ∷ p))

-- without a line end, all follows the last one
pub after_end_none : (q : List ℕ) → has_end q ≡ false → after_end q ≡ q
unfolding after_end has_end
after_end_none [] h = refl
after_end_none (x ∷ q) h = let ih = after_end_none q in grind arith

-- without a line end, no part is closed
pub finished_none : (p : List ℕ) → has_end p ≡ false → finished p ≡ []
unfolding finished has_end
finished_none [] h = refl
finished_none (x ∷ p) h = let ih = finished_none p in grind arith

-- with a line end, a part is closed
pub finished_some : (p : List ℕ) → has_end p ≡ true → (q : List ℕ) × (qs : List (List ℕ)) × (finished p ≡ q ∷ qs)
unfolding finished has_end
finished_some [] h = absurd (cc)
finished_some (x ∷ p) h =
    elim (eqb x 10) as
    (λ v. cond v true (has_end p) ≡ true → (q : List ℕ) × (qs : List (List ℕ))
    × (cond v ([] ∷ finished p) (onto_each_first x (finished p)) ≡ q ∷ qs)) [
      | true ↦ λ _. ([], finished p, refl)
      | false ↦ λ e. let more = finished_some p e in (x ∷ more.0, more.1, ap (onto_each_first x) more.2)
    ] h

-- these are the parts that std's split gives
split_step : (x : ℕ) (p : List ℕ) (b : Bool) → has_end p ≡ b
    → slice_split is_line_end p ≡ finished p ++ after_end p ∷ []
    → slice_split is_line_end (x ∷ p) ≡ finished (x ∷ p) ++ after_end (x ∷ p) ∷ []
unfolding finished after_end
split_step x p true h ih =
    let more = finished_some p h in
    let q = more.0 in
    let qs = more.1 in
    let e : finished p ≡ q ∷ qs = more.2 in
    grind arith
split_step x p false h ih =
    let none = finished_none p h in
    let all = after_end_none p h in
    grind arith

-- std's split gives the closed parts and what follows the last line end
pub slice_split-is : (p : List ℕ) → slice_split is_line_end p ≡ finished p ++ after_end p ∷ []
unfolding finished after_end
slice_split-is [] = refl
slice_split-is (x ∷ p) = split_step x p (has_end p) refl (slice_split-is p)

-- the finished parts of the definitions are the closed ones
pub finished_parts-is : (p : List ℕ) → finished_parts p ≡ finished p
finished_parts-is p =
    let as_many : length (finished p) ≡ count_by is_line_end p =
    omega (
      arith,
      length-slice_split is_line_end p,
      ap length (slice_split-is p),
      length-append (finished p) (after_end p ∷ []),
    ) in
    ap (take (count_by is_line_end p)) (slice_split-is p)
    ∙ take_at (finished p) (after_end p ∷ []) (count_by is_line_end p) as_many

-- what std's search from the end counts is as long as what follows the last line end
abbrev pub goes_on : ℕ → Bool
goes_on b = not (is_line_end b)

-- a search that passed all passes one byte more, unless that is a line end
prefix_len_past : (ys : List ℕ) (x : ℕ) → prefix_len goes_on ys ≡ length ys
    → prefix_len goes_on (ys ++ x ∷ []) ≡ cond (goes_on x) (1 + length ys) (length ys)
prefix_len_past [] x h = refl
prefix_len_past (y ∷ ys) x h =
    elim (eqb y 10) as
    (λ v. cond (not v) (1 + prefix_len goes_on ys) 0 ≡ length (y ∷ ys)
    → cond (not v) (1 + prefix_len goes_on (ys ++ x ∷ [])) 0 ≡ cond (goes_on x) (1 + length (y ∷ ys))
    (length (y ∷ ys))) [
      | true ↦ λ e. absurd (omega (arith, e))
      | false ↦ λ e. let ih = prefix_len_past ys x (omega (arith, e)) in grind arith
    ] h

-- a search that stopped stops there with one byte more
prefix_len_within : (ys : List ℕ) (x : ℕ) → prefix_len goes_on ys < length ys
    → prefix_len goes_on (ys ++ x ∷ []) ≡ prefix_len goes_on ys
prefix_len_within [] x h = absurd (omega arith)
prefix_len_within (y ∷ ys) x h =
    elim (eqb y 10) as
    (λ v. cond (not v) (1 + prefix_len goes_on ys) 0 < length (y ∷ ys)
    → cond (not v) (1 + prefix_len goes_on (ys ++ x ∷ [])) 0 ≡ cond (not v) (1 + prefix_len goes_on ys) 0) [
      | true ↦ λ e. refl
      | false ↦ λ e. ap (λ n. 1 + n) (prefix_len_within ys x (omega (arith, e)))
    ] h

-- with a line end, less than all follows the last one
shorter_after_end : (p : List ℕ) → has_end p ≡ true → length (after_end p) < length p
unfolding after_end has_end
shorter_after_end [] h = absurd (cc)
shorter_after_end (x ∷ p) h = let ih = shorter_after_end p in grind arith

-- the search from the end with one byte more in front
suffix_len-cons : (x : ℕ) (p : List ℕ) → suffix_len goes_on (x ∷ p) ≡ prefix_len goes_on (reverse p ++ x ∷ [])
suffix_len-cons x p = ap (prefix_len goes_on) (reverse-append (x ∷ []) p)

-- what the search from the end counts, with one byte more in front
suffix_len_step : (x : ℕ) (p : List ℕ) (b : Bool) → has_end p ≡ b → suffix_len goes_on p ≡ length (after_end p)
    → suffix_len goes_on (x ∷ p) ≡ length (after_end (x ∷ p))
unfolding after_end
suffix_len_step x p true h ih =
    let less : prefix_len goes_on (reverse p) < length (reverse p) =
    omega (arith, ih, shorter_after_end p h, length-reverse p) in
    suffix_len-cons x p ∙ prefix_len_within (reverse p) x less ∙ ih
    ∙ ap (λ b. length (cond b (after_end p) (cond (is_line_end x) p (x ∷ p)))) (sym h)
suffix_len_step x p false h ih =
    let whole : prefix_len goes_on (reverse p) ≡ length (reverse p) =
    ih ∙ ap length (after_end_none p h) ∙ sym (length-reverse p) in
    suffix_len-cons x p ∙ prefix_len_past (reverse p) x whole ∙ ap (λ n. cond (goes_on x) (1 + n) n) (length-reverse p)
    ∙ here ∙ ap (λ b. length (cond b (after_end p) (cond (is_line_end x) p (x ∷ p)))) (sym h)
  where
    here : cond (goes_on x) (1 + length p) (length p) ≡ length (cond (is_line_end x) p (x ∷ p))
    here = elim (eqb x 10) as (λ v. cond (not v) (1 + length p) (length p) ≡ length (cond v p (x ∷ p)))
        [ true ↦ refl | false ↦ omega arith ]

-- the search from the end counts what follows the last line end
suffix_len-is : (p : List ℕ) → suffix_len goes_on p ≡ length (after_end p)
unfolding after_end
suffix_len-is [] = refl
suffix_len-is (x ∷ p) = suffix_len_step x p (has_end p) refl (suffix_len-is p)

-- with one byte more in front, what follows the last line end still is at the end
before_end_step : (x : ℕ) (p : List ℕ) (b : Bool) → has_end p ≡ b → ((front : List ℕ) × (p ≡ front ++ after_end p))
    → (front : List ℕ) × (x ∷ p ≡ front ++ after_end (x ∷ p))
unfolding after_end
before_end_step x p true h ih = (
  x ∷ ih.0,
  ap (λ l. x ∷ l) ih.1
      ∙ ap (λ b. x ∷ ih.0 ++ cond b (after_end p) (cond (is_line_end x) p (x ∷ p))) (sym h),
)
before_end_step x p false h ih =
    elim (eqb x 10) as (λ v. (front : List ℕ) × (x ∷ p ≡ front ++ cond (has_end p) (after_end p) (cond v p (x ∷ p)))) [
      | true ↦ (x ∷ [], ap (λ b. x ∷ cond b (after_end p) p) (sym h))
      | false ↦ ([], ap (λ b. cond b (after_end p) (x ∷ p)) (sym h))
    ]

-- what follows the last line end is at the end
before_end : (p : List ℕ) → (front : List ℕ) × (p ≡ front ++ after_end p)
unfolding after_end
before_end [] = ([], refl)
before_end (x ∷ p) = before_end_step x p (has_end p) refl (before_end p)

-- std's `after_last` gives what follows the last line end
pub after_last-is : (p : List ℕ) → after_last is_line_end p ≡ after_end p
after_last-is p =
    let split = before_end p in
    let long : length p ≡ length split.0 + length (after_end p) =
    ap length split.1 ∙ length-append split.0 (after_end p) in
    let place : length p - suffix_len goes_on p ≡ length split.0 = omega (arith, suffix_len-is p, long) in
    ap (λ n. drop n p) place ∙ ap (drop (length split.0)) split.1 ∙ drop_at split.0 (after_end p) (length split.0) refl

-- the lines of a stream, by its closed parts
pub lines_of-is : (s : List ℕ) → lines_of s ≡ map line_of (finished (plain s))
unfolding lines_of
lines_of-is s = ap (map line_of) (finished_parts-is (plain s))

-- the rest of a stream, by what follows the last line end
pub rest_of-is : (s : List ℕ) → rest_of s ≡ after_end (plain s)
unfolding rest_of
rest_of-is s = after_last-is (plain s)
