-- The rows of a board are known from each other, though some of them are left out.
use Rattle.std.proofs.Common.{◌≡◌, ◌+◌, ◌++◌, ℕ, Bool, true, false, cond, List, [], ◌∷◌, refl, sym, ◌∙◌, ap, append_assoc}
use Rattle.std.specs.Prelude.{Option, Some, None, slice_index_or}
use Rattle.std.specs.Str.{bytes_eq}
use Rattle.std.proofs.lemmas.Bool.{and_parts, false≢true}
use Rattle.std.proofs.lemmas.Slice.Eq.{bytes_eq-Decides}
use Rattle.fibs_picture.specs.Fits.{ended}
use Rattle.fibs_picture.specs.InWords.Rows.{is_lasting, is_left_out, told_row, told_rows}
use Rattle.fibs_picture.specs.declared.in_words.fact.Fact.{Fact}
use Rattle.fibs_picture.specs.declared.in_words.fact.Fact.TheVariants as F
use Rattle.fibs_picture.proofs.PictureLemmas.Parts.{lacks, ends-tell}

-- ---- rows that differ

-- no text begins with the row of one and of the other
abbrev pub Differ : List ℕ → List ℕ → Type 0
Differ x y = (r s : List ℕ) → x ++ (10 ∷ r) ≡ y ++ (10 ∷ s) → ⊥

-- a text does not begin with a row
abbrev pub Apart : List ℕ → List ℕ → Type 0
Apart x text = (r : List ℕ) → x ++ (10 ∷ r) ≡ text → ⊥

-- a byte of a text
abbrev pub byte : ℕ → List ℕ → ℕ
byte k text = slice_index_or text k 0

-- rows differ if a byte of them does
pub differ-by : (k m n : ℕ) (x y : List ℕ) → ((r : List ℕ) → byte k (x ++ r) ≡ m)
    → ((r : List ℕ) → byte k (y ++ r) ≡ n) → (m ≡ n → ⊥) → Differ x y
differ-by k m n x y f g clash r s e = clash (sym (f (10 ∷ r)) ∙ ap (byte k) e ∙ g (10 ∷ s))

-- a text that begins with another row does not begin with this one
pub apart-row : (x y u : List ℕ) → Differ x y → Apart x (ended y ++ u)
apart-row x y u d r e = d r u (e ∙ append_assoc y (10 ∷ []) u)

-- the same if the other row may be left out
apart-by : (out : Bool) (x y u : List ℕ) → Differ x y → Apart x u → Apart x (cond out [] (ended y) ++ u)
apart-by true x y u d p = p
apart-by false x y u d p = apart-row x y u d

-- ---- a row that may be left out

-- rows that are left out both are the same
both-out : (before : Option (Fact → List ℕ)) (fact : Fact) (x y : List ℕ) → is_left_out before fact x ≡ true
    → is_left_out before fact y ≡ true → x ≡ y
both-out None fact x y h k = absurd (false≢true h)
both-out (Some old) fact x y h k =
    let p = (and_parts (is_lasting fact) (bytes_eq (old fact) x) h).1 in
    let q = (and_parts (is_lasting fact) (bytes_eq (old fact) y) k).1 in
    sym ((bytes_eq-Decides (old fact) x).0 p) ∙ (bytes_eq-Decides (old fact) y).0 q

-- equal texts that begin with such a row have the same one, and the same follows
row-by : (out out' : Bool) (x y u v : List ℕ) → lacks 10 x ≡ true → lacks 10 y ≡ true
    → (out ≡ true → out' ≡ true → x ≡ y) → Apart x v → Apart y u
    → cond out [] (ended x) ++ u ≡ cond out' [] (ended y) ++ v → (x ≡ y) × (u ≡ v)
row-by true true x y u v h k same p q e = (same refl refl, e)
row-by true false x y u v h k same p q e = absurd (q v (sym (append_assoc y (10 ∷ []) v) ∙ sym e))
row-by false true x y u v h k same p q e = absurd (p u (sym (append_assoc x (10 ∷ []) u) ∙ e))
row-by false false x y u v h k same p q e =
    ends-tell 10 x y u v h k (sym (append_assoc x (10 ∷ []) u) ∙ e ∙ append_assoc y (10 ∷ []) v)

-- ---- all rows

-- the rows that may be left out differ from those that may follow them
pub record Distinct (rows others : Fact → List ℕ) : Type 0 where
  pub score_cube : Differ (rows F.Score) (others F.Cube)
  pub score_way : Differ (rows F.Score) (others F.Way)
  pub score_own : Differ (rows F.Score) (others F.Own)
  pub cube_way : Differ (rows F.Cube) (others F.Way)
  pub cube_own : Differ (rows F.Cube) (others F.Own)
  pub way_own : Differ (rows F.Way) (others F.Own)

-- the rows on the game have no line end
pub record ArePlain (rows : Fact → List ℕ) : Type 0 where
  pub turn : lacks 10 (rows F.Turn) ≡ true
  pub dice : lacks 10 (rows F.Dice) ≡ true
  pub score : lacks 10 (rows F.Score) ≡ true
  pub cube : lacks 10 (rows F.Cube) ≡ true
  pub way : lacks 10 (rows F.Way) ≡ true

-- what follows the rows of the sides
abbrev pub after_sides : Option (Fact → List ℕ) → (Fact → List ℕ) → List ℕ
after_sides before rows = told_row before rows F.Held ++ (told_row before rows F.Blots ++ [])

-- the rows of the sides, and what follows
abbrev pub sides : Option (Fact → List ℕ) → (Fact → List ℕ) → List ℕ
sides before rows = ended (rows F.Own) ++ (ended (rows F.Other) ++ after_sides before rows)

-- what follows the cube
abbrev after_cube : Option (Fact → List ℕ) → (Fact → List ℕ) → List ℕ
after_cube before rows = told_row before rows F.Way ++ sides before rows

-- what follows the score
abbrev after_score : Option (Fact → List ℕ) → (Fact → List ℕ) → List ℕ
after_score before rows = told_row before rows F.Cube ++ after_cube before rows

-- what is told, in its parts
told-parts : (before : Option (Fact → List ℕ)) (rows : Fact → List ℕ) → told_rows before rows 9
    ≡ ended (rows F.Turn) ++ (ended (rows F.Dice) ++ (told_row before rows F.Score ++ after_score before rows))
unfolding told_rows
told-parts None rows = refl
told-parts (Some old) rows = refl

pub record SameRows (before : Option (Fact → List ℕ)) (rows others : Fact → List ℕ) : Type 0 where
  pub turn : rows F.Turn ≡ others F.Turn
  pub dice : rows F.Dice ≡ others F.Dice
  pub score : rows F.Score ≡ others F.Score
  pub cube : rows F.Cube ≡ others F.Cube
  pub way : rows F.Way ≡ others F.Way
  pub sides_are : sides before rows ≡ sides before others

-- equal texts that begin with a row begin with the same one
pub first-row : (x y u v : List ℕ) → lacks 10 x ≡ true → lacks 10 y ≡ true → ended x ++ u ≡ ended y ++ v
    → (x ≡ y) × (u ≡ v)
first-row x y u v h k e =
    ends-tell 10 x y u v h k (sym (append_assoc x (10 ∷ []) u) ∙ e ∙ append_assoc y (10 ∷ []) v)

-- the row of a fact that may be left out, in texts that begin with it
lasting-row : (before : Option (Fact → List ℕ)) (fact : Fact) (rows others : Fact → List ℕ) (u v : List ℕ)
    → lacks 10 (rows fact) ≡ true → lacks 10 (others fact) ≡ true → Apart (rows fact) v → Apart (others fact) u
    → told_row before rows fact ++ u ≡ told_row before others fact ++ v → (rows fact ≡ others fact) × (u ≡ v)
lasting-row before fact rows others u v h k p q e =
    row-by (is_left_out before fact (rows fact)) (is_left_out before fact (others fact)) (rows fact) (others fact) u v
    h k (both-out before fact (rows fact) (others fact)) p q e

-- the score's row is apart from what follows it
score-apart : (before : Option (Fact → List ℕ)) (rows others : Fact → List ℕ) → Distinct rows others
    → Apart (rows F.Score) (after_score before others)
score-apart before rows others d =
    let s = rows F.Score in
    apart-by (is_left_out before F.Cube (others F.Cube)) s (others F.Cube) (after_cube before others) d.score_cube
    (apart-by (is_left_out before F.Way (others F.Way)) s (others F.Way) (sides before others) d.score_way
    (apart-row s (others F.Own) (ended (others F.Other) ++ after_sides before others) d.score_own))

-- so is the cube's
cube-apart : (before : Option (Fact → List ℕ)) (rows others : Fact → List ℕ) → Distinct rows others
    → Apart (rows F.Cube) (after_cube before others)
cube-apart before rows others d =
    let s = rows F.Cube in
    apart-by (is_left_out before F.Way (others F.Way)) s (others F.Way) (sides before others) d.cube_way
    (apart-row s (others F.Own) (ended (others F.Other) ++ after_sides before others) d.cube_own)

-- and that of the way
way-apart : (before : Option (Fact → List ℕ)) (rows others : Fact → List ℕ) → Distinct rows others
    → Apart (rows F.Way) (sides before others)
way-apart before rows others d =
    apart-row (rows F.Way) (others F.Own) (ended (others F.Other) ++ after_sides before others) d.way_own

-- what is told determines the rows, whatever was told before
pub rows-known : (before : Option (Fact → List ℕ)) (rows others : Fact → List ℕ) → ArePlain rows → ArePlain others
    → Distinct rows others → Distinct others rows → told_rows before rows 9 ≡ told_rows before others 9
    → SameRows before rows others
rows-known before rows others p q d c e =
    let turn = first-row (rows F.Turn) (others F.Turn) _ _ p.turn q.turn
    (sym (told-parts before rows) ∙ e ∙ told-parts before others) in
    let dice = first-row (rows F.Dice) (others F.Dice) _ _ p.dice q.dice turn.1 in
    let score = lasting-row before F.Score rows others (after_score before rows) (after_score before others)
    p.score q.score (score-apart before rows others d) (score-apart before others rows c) dice.1 in
    let cube = lasting-row before F.Cube rows others (after_cube before rows) (after_cube before others)
    p.cube q.cube (cube-apart before rows others d) (cube-apart before others rows c) score.1 in
    let way = lasting-row before F.Way rows others (sides before rows) (sides before others)
    p.way q.way (way-apart before rows others d) (way-apart before others rows c) cube.1 in
    record {
      turn = turn.0;
      dice = dice.0;
      score = score.0;
      cube = cube.0;
      way = way.0;
      sides_are = way.1;
    }
