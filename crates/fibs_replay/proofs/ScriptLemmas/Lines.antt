-- The lines of a script, one after another.
use Rattle.std.proofs.Common.{◌≡◌, ◌≢◌, ℕ, zero, suc, ◌+◌, ◌-◌, ◌<◌, ◌≤◌, ◌==◌, ◌&&◌, cond, List, [], ◌∷◌, ◌++◌, length, take, drop, map, slice_index, Option, Some, None, refl, ap, sym, ◌∙◌, subst, arith, inl, inr, append-nil, length-append}
use Rattle.std.specs.List.{slice_split, onto_first}
use Rattle.std.specs.Str.Lines.{lines, lines_of_parts, strip_carriage_return}
use Rattle.std.proofs.lemmas.Bool.{cases_eq, eq-eqb, ne_eqb, lt-ltb}
use Rattle.std.proofs.lemmas.List.Elements.{All-get_or}
use Rattle.std.proofs.Math.Seq.{get_or-append_seam}
use lib.Seq.{take-append_seam}
use Rattle.bstr.specs.Text.{line_len, lines_of, no_cr, without_terminator}
use Rattle.bstr.proofs.lemmas.LineLemmas.{lines-nil, lines-step}
use Rattle.fibs_fields.specs.Split.{before, after}
use Rattle.fibs_replay.specs.Scripts.{script_lines}
use Rattle.fibs_commands.proofs.SplitLemmas.{Without, from, before_and_from, before_without}

-- the parts after the first line end
abbrev parts_after : Option (List ℕ) → List (List ℕ)
parts_after None = []
parts_after (Some rest) = slice_split (λ b. b == 10) rest

-- the parts between line ends are what is before the first, and those after it
parts_of : (s : List ℕ) → slice_split (λ b. b == 10) s ≡ before 10 s ∷ parts_after (after 10 s)
parts_of [] = refl
parts_of (b ∷ s) = elim (cases_eq b 10) [
  | inl e ↦ rw (eq-eqb b 10 e) refl
  | inr n ↦ rw (ne_eqb b 10 n) (ap (onto_first b) (parts_of s))
]

-- a line end, if there is one, and what follows it
abbrev line_end : Option (List ℕ) → List ℕ
line_end None = []
line_end (Some rest) = 10 ∷ []

-- what is left behind a line end, if there is one
abbrev left : Option (List ℕ) → List ℕ
left None = []
left (Some rest) = rest

-- the first line with its end, and what follows it
first_line : (s : List ℕ) → (take (line_len s) s ≡ before 10 s ++ line_end (after 10 s))
    × (drop (line_len s) s ≡ left (after 10 s))
unfolding line_len
first_line [] = (refl, refl)
first_line (b ∷ s) = elim (cases_eq b 10) [
  | inl e ↦ rw (eq-eqb b 10 e) (ap (λ (x : ℕ). x ∷ []) e, refl)
  | inr n ↦ rw (ne_eqb b 10 n) (ap (λ (t : List ℕ). b ∷ t) (first_line s).0, (first_line s).1)
]

-- a part loses its carriage return
no_cr_is : (x : List ℕ) → no_cr x ≡ strip_carriage_return x
no_cr_is [] = refl
no_cr_is (b ∷ x) =
    let l : List ℕ = b ∷ x in
    ap (λ t. cond (t && slice_index l (length l - 1) == 13) (take (length l - 1) l) l)
    (lt-ltb 0 (length l) (omega arith))

-- what comes after the first line end is shorter
left_shorter : (s : List ℕ) → length (left (after 10 s)) ≤ length s
left_shorter [] = omega arith
left_shorter (b ∷ s) = elim (cases_eq b 10) [
  | inl e ↦ rw (eq-eqb b 10 e) (omega arith)
  | inr n ↦ rw (ne_eqb b 10 n) (let less = left_shorter s in omega arith)
]

-- what is left behind a line end is shorter than the whole
after_shorter : (b n : ℕ) (s r : List ℕ) → after 10 (b ∷ s) ≡ Some r → length (b ∷ s) ≤ suc n → length r ≤ n
after_shorter b n s r e h = elim (cases_eq b 10) [
  | inl is ↦ (
      let same : after 10 (b ∷ s) ≡ Some s = rw (eq-eqb b 10 is) refl in
      let equal : r ≡ s = cc in
      rw equal (omega arith))
  | inr not ↦ (
      let same : after 10 (b ∷ s) ≡ after 10 s = rw (ne_eqb b 10 not) refl in
      let less = left_shorter s in
      let equal : left (after 10 s) ≡ r = ap left (sym same ∙ e) in
      let long : length (left (after 10 s)) ≡ length r = ap length equal in
      omega arith)
]

-- what ends with a line end loses it
terminated : (l x : List ℕ) → 0 < length l → slice_index l (length l - 1) ≡ 10 → take (length l - 1) l ≡ x
    → without_terminator l ≡ no_cr x
terminated l x some last front =
    ap (λ t. cond (t && slice_index l (length l - 1) == 10) (no_cr (take (length l - 1) l)) l)
    (lt-ltb 0 (length l) some)
    ∙ ap (λ t. cond t (no_cr (take (length l - 1) l)) l) (eq-eqb (slice_index l (length l - 1)) 10 last)
    ∙ ap no_cr front

-- what does not stays as it is
unterminated : (l : List ℕ) → 0 < length l → slice_index l (length l - 1) ≢ 10 → without_terminator l ≡ l
unterminated l some last =
    ap (λ t. cond (t && slice_index l (length l - 1) == 10) (no_cr (take (length l - 1) l)) l)
    (lt-ltb 0 (length l) some)
    ∙ ap (λ t. cond t (no_cr (take (length l - 1) l)) l) (ne_eqb (slice_index l (length l - 1)) 10 last)

-- a line loses its end, and one carriage return before it
ended : (x : List ℕ) → without_terminator (x ++ 10 ∷ []) ≡ strip_carriage_return x
ended x =
    let l : List ℕ = x ++ 10 ∷ [] in
    let long : length l ≡ length x + 1 = length-append x (10 ∷ []) in
    let back : length l - 1 ≡ length x = omega arith in
    terminated l x (omega arith) (ap (slice_index l) back ∙ get_or-append_seam x 10 [] 0)
    (ap (λ n. take n l) back ∙ take-append_seam x (10 ∷ []))
    ∙ no_cr_is x

-- the last line, which has no end, stays as it is
open_ended : (x : List ℕ) → 0 < length x → Without 10 x → without_terminator x ≡ x
open_ended x some h = unterminated x some (All-get_or (λ b. b ≢ 10) x (length x - 1) 0 (omega arith) h)

-- the lines of parts
last_part : (x : List ℕ) → 0 < length x → lines_of_parts (x ∷ []) ≡ x ∷ []
last_part x some = ap (λ t. cond t [] (x ∷ [])) (ne_eqb (length x) 0 (λ e. absurd (omega arith)))

-- the first part between line ends is a line, and then come those of the rest
more_parts : (x s : List ℕ) → lines_of_parts (x ∷ slice_split (λ b. b == 10) s) ≡ strip_carriage_return x ∷ lines s
more_parts x s = rw (parts_of s) refl

-- the lines of one definition are those of the other
lines_up_to : (n : ℕ) (s : List ℕ) → length s ≤ n → map without_terminator (lines_of s) ≡ lines s
lines_up_to n [] h = ap (map without_terminator) lines-nil
lines_up_to zero (b ∷ s) h = absurd (omega arith)
lines_up_to (suc n) (b ∷ s) h = go (λ r few. lines_up_to n r few) (after 10 (b ∷ s)) refl
  where
    l : List ℕ
    l = b ∷ s

    step : map without_terminator (lines_of l)
        ≡ without_terminator (before 10 l ++ line_end (after 10 l))
        ∷ map without_terminator (lines_of (left (after 10 l)))
    step =
        ap (map without_terminator) (lines-step l (omega arith))
        ∙ ap (λ x. without_terminator x ∷ map without_terminator (lines_of (drop (line_len l) l))) (first_line l).0
        ∙ ap (λ x. without_terminator (before 10 l ++ line_end (after 10 l)) ∷ map without_terminator (lines_of x))
        (first_line l).1

    go : ((r : List ℕ) → length r ≤ n → map without_terminator (lines_of r) ≡ lines r) → (o : Option (List ℕ))
        → after 10 l ≡ o → map without_terminator (lines_of l) ≡ lines l
    go more None e =
        let whole : before 10 l ≡ l = sym (before_and_from 10 l ∙ ap (λ o. before 10 l ++ from 10 o) e
        ∙ append-nil (before 10 l)) in
        let same : without_terminator (before 10 l ++ []) ≡ l =
        ap without_terminator (append-nil (before 10 l) ∙ whole)
        ∙ open_ended l (omega arith) (subst (Without 10) whole (before_without 10 l)) in
        step ∙ ap (λ o. without_terminator (before 10 l ++ line_end o) ∷ map without_terminator (lines_of (left o))) e
        ∙ ap (λ x. x ∷ map without_terminator (lines_of [])) same
        ∙ ap (λ x. l ∷ map without_terminator x) lines-nil
        ∙ sym (ap lines_of_parts (parts_of l) ∙ ap (λ o. lines_of_parts (before 10 l ∷ parts_after o)) e
        ∙ ap (λ x. lines_of_parts (x ∷ [])) whole ∙ last_part l (omega arith))
    go more (Some r) e =
        let shorter : length r ≤ n = after_shorter b n s r e h in
        step ∙ ap (λ o. without_terminator (before 10 l ++ line_end o) ∷ map without_terminator (lines_of (left o))) e
        ∙ ap (λ x. x ∷ map without_terminator (lines_of r)) (ended (before 10 l))
        ∙ ap (λ x. strip_carriage_return (before 10 l) ∷ x) (more r shorter)
        ∙ sym (ap lines_of_parts (parts_of l) ∙ ap (λ o. lines_of_parts (before 10 l ∷ parts_after o)) e
        ∙ more_parts (before 10 l) r)

-- the lines that are taken one after another are those of the definition
pub lines_are : (s : List ℕ) → map without_terminator (lines_of s) ≡ script_lines s
unfolding script_lines
lines_are s = lines_up_to (length s) s (omega arith)
