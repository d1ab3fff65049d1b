-- How a row is broken, piece by piece, and rows that are broken follow one another.
use Rattle.std.proofs.Common.{◌≡◌, ◌≤◌, ◌<◌, ◌+◌, ◌-◌, ◌==◌, ◌++◌, ℕ, zero, suc, Bool, true, false, not, cond, List, [], ◌∷◌, length, refl, sym, ◌∙◌, ap, arith, inl, inr, subst, append-nil, append_assoc}
use Rattle.std.specs.Prelude.{Option, Some, None, Result, Ok, Err, OnOk, is_ok, take, drop, slice_index}
use Rattle.std.specs.List.{flat_map, list_all, AllByRecursion}
use Rattle.std.proofs.lemmas.Bool.{false≢true}
use Rattle.std.proofs.lemmas.Bool.Decides.{nat_tests}
use Rattle.std.proofs.lemmas.List.{length-append}
use Rattle.std.proofs.lemmas.List.Concat.{flat_map-append}
use Rattle.fibs_fields.specs.Split as split
use Rattle.fibs_picture.specs.Fits.{ended}
use Rattle.fibs_picture.specs.InWords.Breaking.{piece_len, is_over, placed, ends_at, AreAlike, Stands, Breaks, AddsRows}
use Rattle.fibs_picture.specs.InWords.Rows.{goes_on, rejoined, HasRoom, IsBroken, told_row, told_rows, words, fact_at}
use Rattle.fibs_picture.specs.InWords.Tellings.{row_in, rows_before, players_in, words_after}
use Rattle.fibs_picture.specs.declared.in_words.fact.Fact.{Fact}
use Rattle.fibs_picture.specs.declared.in_words.told.Told.{Told}
use Rattle.fibs_picture.specs.declared.in_words.told.Told.TheVariants as T
use Rattle.fibs_picture.proofs.PictureLemmas.Growing.{columns-more}

-- ---- a line end before a space

-- it does not change whether a text goes on
goes-on-break : (t u : List ℕ) → goes_on (t ++ (10 ∷ (32 ∷ u))) ≡ goes_on (t ++ (32 ∷ u))
goes-on-break [] u = refl
goes-on-break (x ∷ t) u = rw (goes-on-break t u) refl

-- nor the rows that are joined again
rejoined-break : (t u : List ℕ) → rejoined (t ++ (10 ∷ (32 ∷ u))) ≡ rejoined (t ++ (32 ∷ u))
rejoined-break [] u = refl
rejoined-break (x ∷ t) u = rw (goes-on-break t u, rejoined-break t u) refl

-- ---- texts that are the same if they are joined again

-- a text and itself
alike-same : (a : List ℕ) → AreAlike a a
alike-same a before after = refl

-- a word that goes on, behind a line end and without it
alike-break : (word : List ℕ) → AreAlike (10 ∷ (32 ∷ word)) (32 ∷ word)
alike-break word before after = rejoined-break before (word ++ after)

-- two texts in a row
alike-both : (a b c d : List ℕ) → AreAlike a b → AreAlike c d → AreAlike (a ++ c) (b ++ d)
alike-both a b c d p q before after =
    ap (λ t. rejoined (before ++ t)) (append_assoc a c after)
    ∙ p before (c ++ after)
    ∙ ap rejoined (sym (append_assoc before b (c ++ after)))
    ∙ q (before ++ b) after
    ∙ ap rejoined (append_assoc before b (d ++ after))
    ∙ ap (λ t. rejoined (before ++ t)) (sym (append_assoc b d after))

-- so they are the same by themselves
alike-alone : (a b : List ℕ) → AreAlike a b → rejoined a ≡ rejoined b
alike-alone a b p = ap rejoined (sym (append-nil a)) ∙ p [] [] ∙ ap rejoined (append-nil b)

-- ---- lists of rows

-- what holds of the rows of two lists holds of both in a row
all-both : (P : List ℕ → Type 0) (xs ys : List (List ℕ)) → AllByRecursion P xs → AllByRecursion P ys
    → AllByRecursion P (xs ++ ys)
all-both P [] ys p q = q
all-both P (x ∷ xs) ys p q = (p.0, all-both P xs ys p.1 q)

-- some rows and one more
one-more : (rows : List (List ℕ)) (row : List ℕ)
    → (flat_map ended rows ++ row) ++ (10 ∷ []) ≡ flat_map ended (rows ++ row ∷ [])
one-more rows row =
    append_assoc (flat_map ended rows) row (10 ∷ [])
    ∙ ap (λ t. flat_map ended rows ++ t) (sym (append-nil (ended row)))
    ∙ sym (flat_map-append ended rows (row ∷ []))

-- ---- pieces

-- at first nothing is written
pub stands-first : (columns : ℕ) → Stands columns [] [] 0
stands-first columns = record {
  joined = alike-same [];
  lines = [];
  here = [];
  whole = refl;
  above = tt;
  room = inl (omega arith);
  width = refl;
}

-- a piece that begins with a space stands behind a line end
stands-below : (columns column : ℕ) (text written word : List ℕ) → Stands columns text written column
    → list_all (λ x. not (x == 32)) word ≡ true
    → Stands columns (text ++ (32 ∷ word)) (written ++ (10 ∷ (32 ∷ word))) (length (32 ∷ word))
stands-below columns column text written word s plain = record {
  joined = alike-both written text (10 ∷ (32 ∷ word)) (32 ∷ word) s.joined (alike-break word);
  lines = s.lines ++ s.here ∷ [];
  here = 32 ∷ word;
  whole = ap (λ t. t ++ (10 ∷ (32 ∷ word))) s.whole
      ∙ sym (append_assoc (flat_map ended s.lines ++ s.here) (10 ∷ []) (32 ∷ word))
      ∙ ap (λ t. t ++ (32 ∷ word)) (one-more s.lines s.here);
  above = all-both (HasRoom columns) s.lines (s.here ∷ []) s.above (s.room, tt);
  room = inr plain;
  width = refl;
}

-- a piece that has room stands behind what is there
stands-beside : (columns column : ℕ) (text written piece : List ℕ) (s : Stands columns text written column)
    → HasRoom columns (s.here ++ piece)
    → Stands columns (text ++ piece) (written ++ piece) (column + length piece)
stands-beside columns column text written piece s room = record {
  joined = alike-both written text piece piece s.joined (alike-same piece);
  lines = s.lines;
  here = s.here ++ piece;
  whole = ap (λ t. t ++ piece) s.whole ∙ append_assoc (flat_map ended s.lines) s.here piece;
  above = s.above;
  room = room;
  width = length-append s.here piece ∙ ap (λ n. n + length piece) s.width;
}

-- nothing is as long as nothing
is-empty : (t : List ℕ) → length t ≡ 0 → t ≡ []
is-empty [] h = refl
is-empty (x ∷ t) h = absurd (omega (arith, h))

-- what is not over has room: it is the first piece, or not too wide
has-room : (columns column : ℕ) (here piece : List ℕ) → length here ≡ column
    → list_all (λ x. not (x == 32)) (drop 1 piece) ≡ true → is_over columns column piece ≡ false
    → HasRoom columns (here ++ piece)
has-room columns zero here piece width plain e = rw (is-empty here width) (inr plain)
has-room columns (suc n) here piece width plain e =
    let most : suc n + length piece ≤ columns = grind (arith, nat_tests) in
    inl (omega (arith, width, length-append here piece, most))

-- a piece that is over is not the first
over-some : (columns column : ℕ) (piece : List ℕ) → is_over columns column piece ≡ true → 0 < column
over-some columns zero piece e = absurd (false≢true e)
over-some columns (suc n) piece e = omega arith

-- a piece by whether it is over
stands-by : (over : Bool) (columns column : ℕ) (text written piece : List ℕ) → is_over columns column piece ≡ over
    → Stands columns text written column → list_all (λ x. not (x == 32)) (drop 1 piece) ≡ true
    → 1 ≤ length piece → (0 < column → slice_index piece 0 ≡ 32)
    → Stands columns (text ++ piece) (written ++ cond over (10 ∷ piece) piece)
    (cond over (length piece) (column + length piece))
stands-by true columns column text written [] e s plain some begins = absurd (omega (arith, some))
stands-by true columns column text written (x ∷ word) e s plain some begins =
    let space : x ≡ 32 = begins (over-some columns column (x ∷ word) e) in
    rw space (stands-below columns column text written word s plain)
stands-by false columns column text written piece e s plain some begins =
    stands-beside columns column text written piece s
    (has-room columns column s.here piece s.width plain e)

-- the next piece of a row
pub stands-next : (columns column : ℕ) (text written piece : List ℕ)
    → Stands columns text written column → list_all (λ x. not (x == 32)) (drop 1 piece) ≡ true
    → 1 ≤ length piece → (0 < column → slice_index piece 0 ≡ 32)
    → Stands columns (text ++ piece) (written ++ placed columns column piece) (ends_at columns column piece)
stands-next columns column text written piece s plain some begins =
    stands-by (is_over columns column piece) columns column text written piece refl s plain some begins

-- the end of a row
pub stands-ended : (columns column : ℕ) (text written : List ℕ) → Stands columns text written column
    → Breaks columns (ended text) (written ++ 10 ∷ [])
stands-ended columns column text written s = record {
  joined = alike-both written text (10 ∷ []) (10 ∷ []) s.joined (alike-same (10 ∷ []));
  rows = (
    s.lines ++ s.here ∷ [],
    all-both (HasRoom columns) s.lines (s.here ∷ []) s.above (s.room, tt),
    ap (λ t. t ++ 10 ∷ []) s.whole ∙ one-more s.lines s.here,
  );
}

-- ---- the pieces of a row

-- so many bytes of a text are a word: no space is in them, and one follows unless the text ends
record IsWord (text : List ℕ) (n : ℕ) : Type 0 where
  plain : list_all (λ x. not (x == 32)) (take n text) ≡ true
  low : n ≤ length text
  next : n < length text → slice_index text n ≡ 32

-- a byte that is found to be a space is one
is-space : (x : ℕ) → (x == 32) ≡ true → x ≡ 32
is-space x h = grind (arith, nat_tests)

-- the first word by whether the first byte is a space
word-by : (space : Bool) (x : ℕ) (t word : List ℕ) → (x == 32) ≡ space → IsWord t (length word)
    → IsWord (x ∷ t) (length (cond space [] (x ∷ word)))
word-by true x t word e w = record {
  plain = refl;
  low = omega arith;
  next = λ h. is-space x e;
}
word-by false x t word e w = record {
  plain = rw (e, w.plain) refl;
  low = omega (arith, w.low);
  next = λ h. w.next (omega (arith, h));
}

-- what comes before the first space is a word
word-of : (t : List ℕ) → IsWord t (length (split.before 32 t))
word-of [] = record { plain = refl; low = omega arith; next = λ h. absurd (omega (arith, h)) }
word-of (x ∷ t) = word-by (x == 32) x t (split.before 32 t) refl (word-of t)

-- so many bytes of a row are a piece: no space is in them but for the first
record IsPiece (text : List ℕ) (n : ℕ) : Type 0 where
  some : 1 ≤ n
  plain : list_all (λ x. not (x == 32)) (drop 1 (take n text)) ≡ true
  low : n ≤ length text
  next : n < length text → slice_index text n ≡ 32

-- a byte and the word behind it are a piece
piece-at : (x : ℕ) (t : List ℕ) (n m : ℕ) → m ≡ suc n → IsWord t n → IsPiece (x ∷ t) m
piece-at x t n m e w = rw e (record {
  some = omega arith;
  plain = w.plain;
  low = omega (arith, w.low);
  next = λ more. w.next (omega (arith, more));
})

-- the first piece of a row
piece-of : (t : List ℕ) → 1 ≤ length t → IsPiece t (piece_len t)
piece-of [] h = absurd (omega (arith, h))
piece-of (x ∷ t) h = piece-at x t (length (split.before 32 t)) (piece_len (x ∷ t)) (omega arith) (word-of t)

-- none and a number is the number
zero-plus : (n : ℕ) → 0 + n ≡ n
zero-plus n = omega arith

-- the next number and another one
suc-plus : (a n : ℕ) → suc a + n ≡ suc (a + n)
suc-plus a n = omega arith

-- nothing is taken of nothing
take-none : (n : ℕ) → take {A = ℕ} n [] ≡ []
take-none zero = refl
take-none (suc n) = refl

-- and nothing is there
none-there : (n : ℕ) → slice_index [] n ≡ 0
none-there zero = refl
none-there (suc n) = refl

-- a piece is no longer than its row
pub piece_low : (t : List ℕ) → 1 ≤ length t → piece_len t ≤ length t
piece_low t h = (piece-of t h).low

-- some bytes, and some of what follows
pub take-more : (a n : ℕ) (xs : List ℕ) → take (a + n) xs ≡ take a xs ++ take n (drop a xs)
take-more zero n xs = ap (λ m. take m xs) (zero-plus n)
take-more (suc a) n [] = take-none (suc a + n) ∙ sym (take-none n)
take-more (suc a) n (x ∷ xs) =
    ap (λ m. take m (x ∷ xs)) (suc-plus a n) ∙ ap (λ t. x ∷ t) (take-more a n xs)

-- a byte of what follows
index-more : (a n : ℕ) (xs : List ℕ) → slice_index (drop a xs) n ≡ slice_index xs (a + n)
index-more zero n xs = ap (slice_index xs) (sym (zero-plus n))
index-more (suc a) n [] = none-there n ∙ sym (none-there (suc a + n))
index-more (suc a) n (x ∷ xs) = index-more a n xs ∙ sym (ap (slice_index (x ∷ xs)) (suc-plus a n))

-- how much follows
pub length-more : (a : ℕ) (xs : List ℕ) → a ≤ length xs → a + length (drop a xs) ≡ length xs
length-more zero xs h = zero-plus (length xs)
length-more (suc a) [] h = absurd (omega (arith, h))
length-more (suc a) (x ∷ xs) h = omega (arith, length-more a xs (omega (arith, h)))

-- so many bytes
length-taken : (n : ℕ) (xs : List ℕ) → n ≤ length xs → length (take n xs) ≡ n
length-taken zero xs h = refl
length-taken (suc n) [] h = absurd (omega (arith, h))
length-taken (suc n) (x ∷ xs) h = omega (arith, length-taken n xs (omega (arith, h)))

-- the first of them
first-taken : (n : ℕ) (xs : List ℕ) → 1 ≤ n → slice_index (take n xs) 0 ≡ slice_index xs 0
first-taken zero xs h = absurd (omega (arith, h))
first-taken (suc n) [] h = refl
first-taken (suc n) (x ∷ xs) h = refl

-- a number and none is the number
plus-none : (n : ℕ) → n + 0 ≡ n
plus-none n = omega arith

-- all bytes of a row
pub take-whole : (n : ℕ) (xs : List ℕ) → length xs ≤ n → take n xs ≡ xs
take-whole zero [] h = refl
take-whole zero (x ∷ xs) h = absurd (omega (arith, h))
take-whole (suc n) [] h = refl
take-whole (suc n) (x ∷ xs) h = ap (λ t. x ∷ t) (take-whole n xs (omega (arith, h)))

-- what follows a place, whole
pub from-place : (a : ℕ) (xs : List ℕ) → a ≤ length xs → take (length xs - a) (drop a xs) ≡ drop a xs
from-place a xs h = take-whole (length xs - a) (drop a xs) (omega (arith, length-more a xs h))

-- a row is written up to a place
pub record RowSo (row : List ℕ) (columns at column : ℕ) (a b : List ℕ) : Type 0 where
  pub low : at ≤ length row
  pub small : column ≤ at
  pub space : 0 < column → at < length row → slice_index row at ≡ 32
  pub written : List ℕ
  pub stands : Stands columns (take at row) written column
  pub text : b ≡ a ++ written

-- at first nothing of it is
pub row-first : (row : List ℕ) (columns : ℕ) (a : List ℕ) → RowSo row columns 0 0 a a
row-first row columns a = record {
  low = omega arith;
  small = omega arith;
  space = λ some more. absurd (omega (arith, some));
  written = [];
  stands = stands-first columns;
  text = sym (append-nil a);
}

-- where a piece ends, by whether it is over
ends-by : (over : Bool) (column size : ℕ) → cond over size (column + size) ≤ column + size
ends-by true column size = omega arith
ends-by false column size = omega arith

-- a piece more
pub row-next : (row : List ℕ) (columns at column n end : ℕ) (piece a b c : List ℕ)
    → RowSo row columns at column a b → at < length row → n ≡ piece_len (drop at row)
    → piece ≡ take n (drop at row) → c ≡ b ++ placed columns column piece → end ≡ ends_at columns column piece
    → RowSo row columns (at + n) end a c
row-next row columns at column n end piece a b c so more size is added ended_at =
    let whole = length-more at row so.low in
    let p : IsPiece (drop at row) n =
    subst (IsPiece (drop at row)) (sym size) (piece-of (drop at row) (omega (arith, whole, more))) in
    let long : length piece ≡ n = ap length is ∙ length-taken n (drop at row) p.low in
    let ends = ends-by (is_over columns column piece) column (length piece) in record {
      low = omega (arith, whole, p.low);
      small = omega (arith, ended_at, ends, long, so.small);
      space = λ some less. sym (index-more at n row) ∙ p.next (omega (arith, whole, less));
      written = so.written ++ placed columns column piece;
      stands = subst (λ e. Stands columns (take (at + n) row) (so.written ++ placed columns column piece) e)
          (sym ended_at)
          (subst (λ t. Stands columns t (so.written ++ placed columns column piece) (ends_at columns column piece))
          (ap (λ t. take at row ++ t) is ∙ sym (take-more at n row))
          (stands-next columns column (take at row) so.written piece so.stands
          (subst (λ t. list_all (λ x. not (x == 32)) (drop 1 t) ≡ true) (sym is) p.plain)
          (omega (arith, long, p.some))
          (λ some. ap (λ t. slice_index t 0) is ∙ first-taken n (drop at row) p.some ∙ index-more at 0 row
          ∙ ap (slice_index row) (plus-none at) ∙ so.space some more)));
      text = added ∙ ap (λ t. t ++ placed columns column piece) so.text
          ∙ append_assoc a so.written (placed columns column piece);
    }

-- ---- rows that are broken

-- no rows
pub breaks-none : (columns : ℕ) → Breaks columns [] []
breaks-none columns = record { joined = alike-same []; rows = ([], tt, refl) }

-- equal texts in a row are equal
both : (t v x y : List ℕ) → t ≡ x → v ≡ y → t ++ v ≡ x ++ y
both t v x y e f = rw (e, f) refl

-- some rows after others
breaks-both : (columns : ℕ) (s t u v : List ℕ) → Breaks columns s t → Breaks columns u v
    → Breaks columns (s ++ u) (t ++ v)
breaks-both columns s t u v p q = record {
  joined = alike-both t s v u p.joined q.joined;
  rows = (
    p.rows.0 ++ q.rows.0,
    all-both (HasRoom columns) p.rows.0 q.rows.0 p.rows.1 q.rows.1,
    both t v (flat_map ended p.rows.0) (flat_map ended q.rows.0) p.rows.2 q.rows.2
        ∙ sym (flat_map-append ended p.rows.0 q.rows.0),
  );
}

-- nothing is added
pub adds_none : (columns : ℕ) (a : List ℕ) → AddsRows columns [] a a
adds_none columns a = ([], breaks-none columns, sym (append-nil a))

-- some rows are added, and then others
pub adds-both : (columns : ℕ) (s u a b c : List ℕ) → AddsRows columns s a b → AddsRows columns u b c
    → AddsRows columns (s ++ u) a c
adds-both columns s u a b c p q = (
  p.0 ++ q.0,
  breaks-both columns s p.0 u q.0 p.1 q.1,
  q.2 ∙ ap (λ t. t ++ q.0) p.2 ∙ append_assoc a p.0 q.0,
)

-- a row that is written whole, and its end
pub row-ended : (row : List ℕ) (columns at column : ℕ) (a b c : List ℕ) → RowSo row columns at column a b
    → length row ≤ at → c ≡ b ++ 10 ∷ [] → AddsRows columns (ended row) a c
row-ended row columns at column a b c so all added = (
  so.written ++ 10 ∷ [],
  stands-ended columns column row so.written
      (subst (λ t. Stands columns t so.written column) (take-whole at row all) so.stands),
  added ∙ ap (λ t. t ++ 10 ∷ []) so.text ∙ append_assoc a so.written (10 ∷ []),
)

-- the same if memory sufficed
pub ok-ended : {E : Type 0} (r : Result (Unit {0}) E) (row : List ℕ) (columns at column : ℕ) (a b c : List ℕ)
    → RowSo row columns at column a b → length row ≤ at → c ≡ cond (is_ok r) (b ++ 10 ∷ []) b
    → OnOk r (AddsRows columns (ended row) a c)
ok-ended (Ok x) row columns at column a b c so all added = row-ended row columns at column a b c so all added
ok-ended (Err x) row columns at column a b c so all added = tt

-- the rows of one more fact
pub adds-fact : (columns n : ℕ) (fact : Fact) (before : Option (Fact → List ℕ)) (rows : Fact → List ℕ)
    (a b c : List ℕ) → fact ≡ fact_at n
    → AddsRows columns (told_rows before rows n) a b → AddsRows columns (told_row before rows fact) b c
    → AddsRows columns (told_rows before rows (n + 1)) a c
unfolding told_rows
adds-fact columns n fact before rows a b c e p q' =
    let q : AddsRows columns (told_row before rows (fact_at n)) b c =
    subst (λ f. AddsRows columns (told_row before rows f) b c) e q' in
    subst (λ t. AddsRows columns t a c) (sym (columns-more (λ i. told_row before rows (fact_at i)) n))
    (adds-both columns (told_rows before rows n) (told_row before rows (fact_at n)) a b c p q)

-- at first no fact is told
pub adds-first : (columns : ℕ) (before : Option (Fact → List ℕ)) (rows : Fact → List ℕ) (a : List ℕ)
    → AddsRows columns (told_rows before rows 0) a a
unfolding told_rows
adds-first columns before rows a = adds_none columns a

-- rows that were added are in their room
pub adds-broken : (columns : ℕ) (s a b : List ℕ) → AddsRows columns s a b
    → (t : List ℕ) × IsBroken columns s t × (b ≡ a ++ t)
adds-broken columns s a b p = (
  p.0,
  record { joined = alike-alone p.0 s p.1.joined; rows = p.1.rows },
  p.2,
)

-- so is a row
pub ok-row : {E : Type 0} (r : Result (Unit {0}) E) (columns : ℕ) (row now a b : List ℕ) → now ≡ row
    → OnOk r (AddsRows columns (ended now) a b) → OnOk r ((t : List ℕ) × IsBroken columns (ended row) t × (b ≡ a ++ t))
ok-row (Ok x) columns row now a b e p =
    adds-broken columns (ended row) a b (subst (λ t. AddsRows columns (ended t) a b) e p)
ok-row (Err x) columns row now a b e p = tt

-- the words of a board are who plays, if that is told, and its rows
words-parts : (before : Option Told) (told : Told) → words_after before told
    ≡ players_in before told ++ told_rows (rows_before before) (row_in told) 9
unfolding words
words-parts None (T.Game game n) = refl
words-parts (Some old) (T.Game game n) = refl
words-parts None (T.Watched watched n) = refl
words-parts (Some old) (T.Watched watched n) = refl

-- so are all rows of a board
pub ok-words : {E : Type 0} (r : Result (Unit {0}) E) (columns : ℕ) (before : Option Told) (told : Told)
    (a b c : List ℕ) → AddsRows columns (players_in before told) a b
    → OnOk r (AddsRows columns (told_rows (rows_before before) (row_in told) 9) b c)
    → OnOk r ((t : List ℕ) × IsBroken columns (words_after before told) t × (c ≡ a ++ t))
ok-words (Ok x) columns before told a b c p q =
    adds-broken columns (words_after before told) a c
    (subst (λ t. AddsRows columns t a c) (sym (words-parts before told))
    (adds-both columns (players_in before told) (told_rows (rows_before before) (row_in told) 9) a b c p q))
ok-words (Err x) columns before told a b c p q = tt
