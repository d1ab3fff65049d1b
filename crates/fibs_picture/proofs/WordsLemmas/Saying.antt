-- A text of some rows is broken row by row.
use Rattle.std.proofs.Common.{◌≡◌, ◌≤◌, ◌<◌, ◌+◌, ◌-◌, ◌==◌, ◌++◌, ℕ, zero, suc, Bool, true, false, cond, List, [], ◌∷◌, length, refl, sym, ◌∙◌, ap, arith, subst}
use Rattle.std.specs.Prelude.{Result, Ok, Err, OnOk, take, drop, slice_index}
use Rattle.std.proofs.lemmas.Bool.{ne_eqb}
use Rattle.std.proofs.lemmas.Bool.Decides.{nat_tests}
use Rattle.std.proofs.lemmas.List.{length-append}
use Rattle.fibs_fields.specs.Split as split
use Rattle.fibs_picture.specs.Fits.{ended}
use Rattle.fibs_picture.specs.InWords.Breaking.{AddsRows}
use Rattle.fibs_picture.specs.InWords.Rows.{IsBroken, Says, all_ended}
use Rattle.fibs_picture.proofs.WordsLemmas.Breaking.{adds_none, adds-both, adds-broken, take-more, take-whole, length-more}

-- ---- the first row of a text

-- a byte that is found to be a line end is one
is-end : (x : ℕ) → (x == 10) ≡ true → x ≡ 10
is-end x h = grind (arith, nat_tests)

-- what comes before the first line end is the same if the text ends in one
before-by : (end : Bool) (x : ℕ) (a b : List ℕ) → a ≡ b → cond end [] (x ∷ a) ≡ cond end [] (x ∷ b)
before-by true x a b e = refl
before-by false x a b e = ap (λ t. x ∷ t) e

-- so it is the same of a text with its end
before-ended : (xs : List ℕ) → split.before 10 (ended xs) ≡ split.before 10 xs
before-ended [] = refl
before-ended (x ∷ xs) = before-by (x == 10) x (split.before 10 (ended xs)) (split.before 10 xs) (before-ended xs)

-- so is what follows a place
drop-ended : (a : ℕ) (xs : List ℕ) → a ≤ length xs → drop a (ended xs) ≡ ended (drop a xs)
drop-ended zero xs h = refl
drop-ended (suc a) [] h = absurd (omega (arith, h))
drop-ended (suc a) (x ∷ xs) h = drop-ended a xs (omega (arith, h))

-- the row that begins at a place
pub row-from : (a : ℕ) (xs row : List ℕ) → a ≤ length xs → row ≡ split.before 10 (drop a xs)
    → row ≡ split.before 10 (drop a (ended xs))
row-from a xs row h is = is ∙ sym (before-ended (drop a xs)) ∙ ap (split.before 10) (sym (drop-ended a xs h))

-- a text begins with its first row and the end of it
abbrev Begins : List ℕ → List ℕ → Type 0
Begins xs row = (more : List ℕ) × (xs ≡ ended row ++ more)

-- a text with one more byte before it begins so, if the rest does
begins-by : (end : Bool) (x : ℕ) (xs row : List ℕ) → (x == 10) ≡ end → (end ≡ false → Begins xs row)
    → Begins (x ∷ xs) (cond end [] (x ∷ row))
begins-by true x xs row e next = (xs, ap (λ b. b ∷ xs) (is-end x e))
begins-by false x xs row e next = let it = next refl in (it.0, ap (λ t. x ∷ t) it.1)

-- a text with its end begins so
begins-ended : (xs : List ℕ) → Begins (ended xs) (split.before 10 (ended xs))
begins-ended [] = ([], refl)
begins-ended (x ∷ xs) = begins-by (x == 10) x (ended xs) (split.before 10 (ended xs)) refl
    (λ no. begins-ended xs)

-- so many bytes of two texts in a row are the first of them
take-first : (a b : List ℕ) → take (length a) (a ++ b) ≡ a
take-first [] b = refl
take-first (x ∷ a) b = ap (λ t. x ∷ t) (take-first a b)

-- a row with its end is a byte longer
length-ended : (row : List ℕ) → length (ended row) ≡ length row + 1
length-ended row = length-append row (10 ∷ [])

-- ---- rows that are broken one after another

-- the rows up to a place are broken
pub record RowsSo (rows : List ℕ) (columns at : ℕ) (a b : List ℕ) : Type 0 where
  pub low : at ≤ length rows + 1
  pub added : AddsRows columns (take at (ended rows)) a b

-- at first none is
pub rows-first : (rows : List ℕ) (columns : ℕ) (a : List ℕ) → RowsSo rows columns 0 a a
rows-first rows columns a = record { low = omega arith; added = adds_none columns a }

-- a row more
pub rows-next : (rows : List ℕ) (columns at : ℕ) (row a b c : List ℕ) → RowsSo rows columns at a b
    → at ≤ length rows → row ≡ split.before 10 (drop at (ended rows)) → AddsRows columns (ended row) b c
    → RowsSo rows columns (at + (length row + 1)) a c
rows-next rows columns at row a b c so more is added =
    let same : drop at (ended rows) ≡ ended (drop at rows) = drop-ended at rows more in
    let begins : Begins (ended (drop at rows)) row =
    subst (Begins (ended (drop at rows))) (sym (is ∙ ap (split.before 10) same)) (begins-ended (drop at rows)) in
    let parts : drop at (ended rows) ≡ ended row ++ begins.0 = same ∙ begins.1 in
    let size : length (ended row) ≡ length row + 1 = length-ended row in
    let first : take (length row + 1) (drop at (ended rows)) ≡ ended row =
    ap (λ t. take (length row + 1) t) parts ∙ ap (λ n. take n (ended row ++ begins.0)) (sym size)
    ∙ take-first (ended row) begins.0 in
    let all : at + length (drop at (ended rows)) ≡ length (ended rows) =
    length-more at (ended rows) (omega (arith, more, length-ended rows)) in
    let long : length (drop at (ended rows)) ≡ length (ended row) + length begins.0 =
    ap length parts ∙ length-append (ended row) begins.0 in record {
      low = omega (arith, all, long, size, length-ended rows);
      added = subst (λ t. AddsRows columns t a c)
          (ap (λ t. take at (ended rows) ++ t) (sym first)
          ∙ sym (take-more at (length row + 1) (ended rows)))
          (adds-both columns (take at (ended rows)) (ended row) a b c so.added added);
    }

-- all rows
pub rows-whole : (rows : List ℕ) (columns at : ℕ) (a b : List ℕ) → RowsSo rows columns at a b
    → length rows < at → AddsRows columns (ended rows) a b
rows-whole rows columns at a b so all =
    subst (λ t. AddsRows columns t a b) (take-whole at (ended rows) (omega (arith, all, length-ended rows))) so.added

-- ---- a text with the end of its last row

-- one that has it
all-ended-ended : (xs : List ℕ) → all_ended (ended xs) ≡ ended xs
all-ended-ended [] = refl
all-ended-ended (x ∷ []) = refl
all-ended-ended (x ∷ y ∷ xs) = ap (λ t. x ∷ t) (all-ended-ended (y ∷ xs))

-- one that has not
all-ended-more : (x : ℕ) (xs : List ℕ) → (slice_index (x ∷ xs) (length xs) == 10) ≡ false
    → all_ended (x ∷ xs) ≡ ended (x ∷ xs)
all-ended-more x [] e = rw e refl
all-ended-more x (y ∷ xs) e = ap (λ t. x ∷ t) (all-ended-more y xs e)

-- a text is its first bytes and its last one
last-taken : (x : ℕ) (xs : List ℕ) → x ∷ xs ≡ take (length xs) (x ∷ xs) ++ slice_index (x ∷ xs) (length xs) ∷ []
last-taken x [] = refl
last-taken x (y ∷ xs) = ap (λ t. x ∷ t) (last-taken y xs)

-- rows that were added are said
adds-said : {E : Type 0} (r : Result (Unit {0}) E) (columns : ℕ) (rows said a b : List ℕ) → ended rows ≡ all_ended said
    → OnOk r (AddsRows columns (ended rows) a b) → OnOk r (Says columns said a b)
adds-said (Ok x) columns rows said a b same p =
    subst (λ t. (s : List ℕ) × IsBroken columns t s × (b ≡ a ++ s)) same (adds-broken columns (ended rows) a b p)
adds-said (Err x) columns rows said a b same p = tt

-- nothing is said of nothing
pub says-none : (columns : ℕ) (said a : List ℕ) → said ≡ [] → Says columns said a a
says-none columns said a none = rw none (adds-broken columns [] a a (adds_none columns a))

-- what is said of a text without its last end
pub says-first : {E : Type 0} (r : Result (Unit {0}) E) (columns last : ℕ) (rows said a b : List ℕ)
    → 1 ≤ length said → last ≡ length said - 1 → slice_index said last ≡ 10 → rows ≡ take last said
    → OnOk r (AddsRows columns (ended rows) a b) → OnOk r (Says columns said a b)
says-first r columns last rows [] a b some place end is p = absurd (omega (arith, some))
says-first r columns last rows (x ∷ xs) a b some place end is p =
    let at : last ≡ length xs = omega (arith, place) in
    let whole : ended rows ≡ x ∷ xs = ap ended (is ∙ ap (λ n. take n (x ∷ xs)) at)
    ∙ ap (λ y. take (length xs) (x ∷ xs) ++ y ∷ []) (sym end ∙ ap (slice_index (x ∷ xs)) at)
    ∙ sym (last-taken x xs) in
    adds-said r columns rows (x ∷ xs) a b
    (sym (all-ended-ended rows) ∙ ap all_ended whole) p

-- and of one that has none
pub says-all : {E : Type 0} (r : Result (Unit {0}) E) (columns last : ℕ) (said a b : List ℕ)
    → 1 ≤ length said → last ≡ length said - 1 → (slice_index said last ≡ 10 → ⊥)
    → OnOk r (AddsRows columns (ended said) a b) → OnOk r (Says columns said a b)
says-all r columns last [] a b some place end p = absurd (omega (arith, some))
says-all r columns last (x ∷ xs) a b some place end p =
    adds-said r columns (x ∷ xs) (x ∷ xs) a b
    (sym (all-ended-more x xs (ap (λ n. slice_index (x ∷ xs) n == 10) (omega (arith, place))
    ∙ ne_eqb (slice_index (x ∷ xs) last) 10 end))) p
