-- Steps are given by their places, and plays by their steps.
use mathlib.Core.HLevel.{is_prop→PathP}
use Rattle.std.proofs.Common.{◌≡◌, ℕ, ◌<◌, ◌≤◌, List, [], ◌∷◌, ◌++◌, length, map, take, drop, Bool, true, refl, sym, ap, ap₂, ◌∙◌, arith, eq-eqb, take-append-drop, length-take-le, length-drop}
use Rattle.std.specs.Prelude.{◌==◌, ◌&&◌}
use Rattle.std.specs.Bool.{Decides}
use Rattle.std.specs.Coded.{le_prop, Coded-set, coded_bool, coded_ℕ}
use Rattle.std.specs.List.{list_all}
use Rattle.std.specs.Cmp.Lexicographic.{pointwise}
use Rattle.std.proofs.lemmas.Bool.{and_parts, and_from, eqb-true}
use Rattle.std.proofs.lemmas.Slice.Eq.{slice_eq-Decides}
use Rattle.fibs_rules.specs.Hop.{Hop, hop_of, is_blank}
use Rattle.fibs_rules.specs.PlayValue.{hops_of}
use Rattle.fibs_rules.specs.declared.step.Step.{Step}
use Rattle.fibs_rules.specs.declared.play.Play.{Play}

-- the two numbers of a step are in range
abbrev InRange : ℕ → ℕ → Type 0
InRange source target = (0 < source) × (source ≤ 25) × (target ≤ 24)

-- that they are has one proof
in_range_prop : (source target : ℕ) → IsProp (InRange source target)
in_range_prop source target = λ a b i. (le_prop a.0 b.0 i, le_prop a.1 b.1 i, le_prop a.2 b.2 i)

-- steps with the same places are one
pub same_step : (a b : Step) → a.source ≡ b.source → a.target ≡ b.target → a ≡ b
same_step a b s t =
    λ i. record {
      source = s i;
      target = t i;
      valid =
          is_prop→PathP (λ j. InRange (s j) (t j)) (λ j. in_range_prop (s j) (t j)) a.valid b.valid i;
    }

-- from a place on the steps are blank
abbrev BlankFrom : ℕ → List Step → Type 0
BlankFrom n steps = list_all is_blank (drop n steps) ≡ true

-- plays with the same fields are one
pub same_fields : (a b : Play) → a.steps ≡ b.steps → a.len ≡ b.len → a ≡ b
same_fields a b s l = λ i. record {
  steps = s i;
  len = l i;
  full = is_prop→PathP (λ j. length (s j) ≡ 4) (λ j. Coded-set coded_ℕ (length (s j)) 4) a.full b.full i;
  short = is_prop→PathP (λ j. l j ≤ 4) (λ j. le_prop) a.short b.short i;
  rest =
      is_prop→PathP (λ j. BlankFrom (l j) (s j)) (λ j. Coded-set coded_bool (list_all is_blank (drop (l j) (s j))) true)
      a.rest b.rest i;
}

-- blank steps are one
same_blank : (a b : Step) → is_blank a ≡ true → is_blank b ≡ true → a ≡ b
same_blank a b h k =
    let (s, t) = and_parts (a.source == 1) (a.target == 0) h in
    let (u, v) = and_parts (b.source == 1) (b.target == 0) k in
    same_step a b (eqb-true a.source 1 s ∙ sym (eqb-true b.source 1 u))
    (eqb-true a.target 0 t ∙ sym (eqb-true b.target 0 v))

-- so are lists of them
pub same_blanks : (xs ys : List Step) → list_all is_blank xs ≡ true → list_all is_blank ys ≡ true
    → length xs ≡ length ys
    → xs ≡ ys
same_blanks [] [] h k e = refl
same_blanks [] (y ∷ ys) h k e = absurd (omega arith)
same_blanks (x ∷ xs) [] h k e = absurd (omega arith)
same_blanks (x ∷ xs) (y ∷ ys) h k e =
    let (a, b) = and_parts (is_blank x) (list_all is_blank xs) h in
    let (c, d) = and_parts (is_blank y) (list_all is_blank ys) k in
    ap₂ (λ z zs. z ∷ zs) (same_blank x y a c) (same_blanks xs ys b d (omega arith))

-- steps with the same values are one
same_hops : (xs ys : List Step) → map hop_of xs ≡ map hop_of ys → xs ≡ ys
same_hops [] [] e = refl
same_hops [] (y ∷ ys) e = absurd cc
same_hops (x ∷ xs) [] e = absurd cc
same_hops (x ∷ xs) (y ∷ ys) e =
    let first : hop_of x ≡ hop_of y = cc in
    let others : map hop_of xs ≡ map hop_of ys = cc in
    ap₂ (λ z zs. z ∷ zs) (same_step x y (ap (λ (h : Hop). h.source) first) (ap (λ (h : Hop). h.target) first))
    (same_hops xs ys others)

-- a play is given by its steps
pub same_play : (a b : Play) → hops_of a ≡ hops_of b → a ≡ b
same_play a b e =
    let full = a.full in let whole = b.full in
    let front = same_hops (take a.len a.steps) (take b.len b.steps) e in
    let s = a.short in let t = b.short in
    let l = length-take-le a.len a.steps (omega arith) in
    let m = length-take-le b.len b.steps (omega arith) in
    let f = ap length front in
    let long : a.len ≡ b.len = omega (arith, l, m, f) in
    let rest =
    same_blanks (drop a.len a.steps) (drop b.len b.steps) a.rest b.rest
    (omega (arith, long, length-drop a.len a.steps, length-drop b.len b.steps)) in
    let all : a.steps ≡ b.steps = sym (take-append-drop a.len a.steps) ∙ ap₂ (λ xs ys. xs ++ ys) front rest
    ∙ take-append-drop b.len b.steps in
    same_fields a b all long

-- what `==` says of steps
step_eq : (a b : Step) → Decides ((a.source == b.source) && (a.target == b.target)) (a ≡ b)
step_eq a b = (
  λ h. let (s, t) = and_parts (a.source == b.source) (a.target == b.target) h in
      same_step a b (eqb-true a.source b.source s) (eqb-true a.target b.target t),
  λ e. and_from _ _ (eq-eqb a.source b.source (ap (λ (s : Step). s.source) e))
      (eq-eqb a.target b.target (ap (λ (s : Step). s.target) e)),
)

-- what `==` says
pub play_eq : (a b : Play) (r : Bool)
    → r ≡ (pointwise (λ (s t : Step). (s.source == t.source) && (s.target == t.target)) a.steps b.steps
    && (a.len == b.len)) → Decides r (hops_of a ≡ hops_of b)
play_eq a b r e =
    let E : Step → Step → Bool = λ s t. (s.source == t.source) && (s.target == t.target) in
    let steps = slice_eq-Decides {E = E} step_eq a.steps b.steps (pointwise E a.steps b.steps) refl in (
      λ h.
          let (s, l) = and_parts (pointwise E a.steps b.steps) (a.len == b.len) (sym e ∙ h) in
          ap₂ (λ n xs. map hop_of (take n xs)) (eqb-true a.len b.len l) (steps.0 s),
      λ h.
          let same = same_play a b h in
          e ∙ and_from _ _ (steps.1 (ap (λ (p : Play). p.steps) same))
          (eq-eqb a.len b.len (ap (λ (p : Play). p.len) same)),
    )
