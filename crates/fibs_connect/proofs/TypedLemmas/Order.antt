-- Lines that come one after another are the lines of what is typed.
use Rattle.std.proofs.Common.{◌≡◌, ℕ, suc, ◌<◌, ◌==◌, Bool, true, false, cond, List, [], ◌∷◌, ◌++◌, length, map, Option, Some, None, refl, ap, sym, ◌∙◌, arith}
use Rattle.std.proofs.lemmas.Bool.{ne_eqb}
use Rattle.std.specs.List.{slice_split}
use Rattle.std.specs.Str.Lines.{lines, lines_of_parts, strip_carriage_return}
use Rattle.fibs_fields.specs.Split.{before, after}
use Rattle.fibs_connect.specs.TypedLines.{typed_line, after_typed_line, kept_typed, without_end, rest_or_nothing}
use Rattle.fibs_connect.specs.Weaving.{NextValue, line_typed, server_heard, all_typed, Comes, lines_among, kept_lines, LinesComeInOrder}

-- the parts of a text between its line ends
abbrev parts : List ℕ → List (List ℕ)
parts = slice_split (λ b. b == 10)

-- a text without a line end is one part
parts-one : (s : List ℕ) → after 10 s ≡ None → parts s ≡ s ∷ []
parts-one [] e = refl
parts-one (b ∷ s) e = go (b == 10) refl (parts-one s) e
  where
    go : (t : Bool) → (b == 10) ≡ t → (after 10 s ≡ None → parts s ≡ s ∷ []) → cond t (Some s) (after 10 s) ≡ None
        → parts (b ∷ s) ≡ (b ∷ s) ∷ []
    go true is ih h = absurd (cc)
    go false is ih h = rw is (rw (ih h) refl)

-- else what is before its first line end is the first part, and the others are those of what follows it
parts-more : (s rest : List ℕ) → after 10 s ≡ Some rest → parts s ≡ before 10 s ∷ parts rest
parts-more [] rest e = absurd (cc)
parts-more (b ∷ s) rest e = go (b == 10) refl (parts-more s rest) e
  where
    go : (t : Bool) → (b == 10) ≡ t → (after 10 s ≡ Some rest → parts s ≡ before 10 s ∷ parts rest)
        → cond t (Some s) (after 10 s) ≡ Some rest → parts (b ∷ s) ≡ before 10 (b ∷ s) ∷ parts rest
    go true is ih h = let same : s ≡ rest = cc in rw is (rw same refl)
    go false is ih h = rw is (rw (ih h) refl)

-- there is always a part
a-part : (s : List ℕ) → (x : List ℕ) × (more : List (List ℕ)) × (parts s ≡ x ∷ more)
a-part s = go (after 10 s) refl
  where
    go : (o : Option (List ℕ)) → after 10 s ≡ o → (x : List ℕ) × (more : List (List ℕ)) × (parts s ≡ x ∷ more)
    go None e = (s, [], parts-one s e)
    go (Some rest) e = (before 10 s, parts rest, parts-more s rest e)

-- a part before others is a line, without one CR at its end
first-of-parts : (x : List ℕ) (ys : List (List ℕ)) (y : List ℕ) (more : List (List ℕ)) → ys ≡ y ∷ more
    → lines_of_parts (x ∷ ys) ≡ strip_carriage_return x ∷ lines_of_parts ys
first-of-parts x ys y more e = rw e refl

-- before all of a text without a line end is the text
before-none : (s : List ℕ) → after 10 s ≡ None → before 10 s ≡ s
before-none [] e = refl
before-none (b ∷ s) e = go (b == 10) refl (before-none s) e
  where
    go : (t : Bool) → (b == 10) ≡ t → (after 10 s ≡ None → before 10 s ≡ s) → cond t (Some s) (after 10 s) ≡ None
        → before 10 (b ∷ s) ≡ b ∷ s
    go true is ih h = absurd (cc)
    go false is ih h = rw is (ap (λ (l : List ℕ). b ∷ l) (ih h))

-- the last part is a line if it has a byte
last-part : (s : List ℕ) → 0 < length s → lines_of_parts (s ∷ []) ≡ s ∷ []
last-part [] some = absurd (omega (arith, some))
last-part (b ∷ s) some = ap (λ (t : Bool). cond t [] ((b ∷ s) ∷ [])) (ne_eqb (suc (length s)) 0 (omega arith))

-- the first line of a text that is not empty, and those after it
pub first-line : (s : List ℕ) → 0 < length s → lines s ≡ typed_line s ∷ lines (after_typed_line s)
first-line s some = go (after 10 s) refl
  where
    go : (o : Option (List ℕ)) → after 10 s ≡ o
        → lines s ≡ without_end (before 10 s) o ∷ lines (rest_or_nothing o)
    go None e = ap lines_of_parts (parts-one s e) ∙ last-part s some
        ∙ ap (λ (l : List ℕ). l ∷ []) (sym (before-none s e))
    go (Some rest) e = let p = a-part rest in
        ap lines_of_parts (parts-more s rest e) ∙ first-of-parts (before 10 s) (parts rest) p.0 p.1 p.2

-- one that comes, and the lines that are then still to come
one-comes : (next : NextValue) (typed mid : List ℕ) → Comes next typed mid
    → kept_lines typed ≡ lines_among (next ∷ []) ++ kept_lines mid
one-comes (line_typed line) typed mid c =
    ap (λ (ls : List (List ℕ)). map kept_typed ls) (first-line typed c.0)
    ∙ ap (λ (l : List ℕ). l ∷ kept_lines (after_typed_line typed)) (sym c.1)
    ∙ ap (λ (r : List ℕ). line ∷ kept_lines r) (sym c.2)
one-comes server_heard typed mid c = ap kept_lines (sym c)
one-comes all_typed typed mid c = ap kept_lines (c.0 ∙ sym c.1)

-- before others
among-more : (next : NextValue) (later : List NextValue) (rest : List (List ℕ))
    → lines_among (next ∷ []) ++ (lines_among later ++ rest) ≡ lines_among (next ∷ later) ++ rest
among-more (line_typed line) later rest = refl
among-more server_heard later rest = refl
among-more all_typed later rest = refl

-- the lines that come are those that were typed, in their order
pub lines_come_in_order : LinesComeInOrder
lines_come_in_order [] typed rest c = ap kept_lines (sym c)
lines_come_in_order (next ∷ later) typed rest c =
    one-comes next typed c.0 c.1
    ∙ ap (λ (ls : List (List ℕ)). lines_among (next ∷ []) ++ ls) (lines_come_in_order later c.0 rest c.2)
    ∙ among-more next later (kept_lines rest)
