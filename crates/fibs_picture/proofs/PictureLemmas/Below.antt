-- The text below a board tells its facts: each by its words, and how many these are by the first of them.
use Rattle.std.proofs.Common.{◌≡◌, ◌<◌, ◌≤◌, ◌+◌, ◌-◌, ◌==◌, ◌&&◌, ◌++◌, ℕ, Bool, true, false, cond, codes, List, [], ◌∷◌, length, take, refl, sym, ◌∙◌, ap, arith, lit<, append_assoc, map, min}
use Rattle.std.specs.Prelude.{ℤ, pos, slice_index_or}
use Rattle.std.specs.Fmt.{signed_decimal}
use Rattle.std.specs.Ordering.{int_eq}
use Rattle.std.proofs.lemmas.Bool.{and_parts, false≢true}
use Rattle.std.proofs.lemmas.List.{append_cancel_left, append_cancel_right, length-append}
use Rattle.fibs_fields.specs.Board.{BoardFields, field_of}
use Rattle.fibs_fields.specs.FieldRanges.{FieldRanges}
use Rattle.fibs_position.specs.PositionValue.{position_of}
use Rattle.fibs_picture.specs.Below.{is_full, ends_at, facts_behind, told, side_facts, match_facts, half_above, half_below, words_below}
use Rattle.fibs_picture.specs.Look.{HasLetters}
use Rattle.fibs_picture.specs.Notes.{says_long_words, spaced, room, labelled, match_words, whose, doublers, note}
use Rattle.fibs_picture.specs.Picture.{is_one}
use Rattle.fibs_picture.specs.Strip.{is_below}
use Rattle.fibs_picture.specs.Tells.{IsSeen, AlikeNotes}
use Rattle.fibs_picture.specs.declared.cell.Half.{Half}
use Rattle.fibs_picture.specs.declared.cell.Half.TheVariants as half
use Rattle.fibs_picture.specs.declared.look.Look.{Look}
use Rattle.fibs_picture.specs.declared.mark.Mark.TheVariants as M
use Rattle.fibs_picture.specs.declared.notes.Note.{Note}
use Rattle.fibs_picture.specs.declared.notes.Note.TheVariants as T
use Rattle.fibs_picture.proofs.PictureLemmas.Ranges.{ranges-of}
use Rattle.fibs_picture.proofs.PictureLemmas.Solid.{doublers-row, match-row, note-row}
use Rattle.fibs_picture.proofs.PictureLemmas.Spaced.{before-row, doublers-some}
use Rattle.fibs_picture.proofs.PictureLemmas.Words.{solid, solid-tell, is_row, words-tell, solid-append, name-solid, number-solid}

-- ---- words before a comma

-- rows of as many words each, with a comma and what follows, are equal in their words
commas-tell : (ws vs : List (List ℕ)) (c d : ℕ) (u v : List ℕ) → is_row ws ≡ true → is_row vs ≡ true
    → length ws ≡ length vs → c ≤ 32 → d ≤ 32 → spaced ws ++ (44 ∷ c ∷ u) ≡ spaced vs ++ (44 ∷ d ∷ v)
    → (ws ≡ vs) × (c ≡ d) × (u ≡ v)
commas-tell [] vs c d u v h k l m n e = absurd (false≢true h)
commas-tell (w ∷ []) [] c d u v h k l m n e = absurd (false≢true k)
commas-tell (w ∷ x ∷ ws) [] c d u v h k l m n e = absurd (false≢true k)
commas-tell (w ∷ []) (y ∷ z ∷ vs) c d u v h k l m n e = absurd (omega (arith, l))
commas-tell (w ∷ x ∷ ws) (y ∷ []) c d u v h k l m n e = absurd (omega (arith, l))
commas-tell (w ∷ []) (y ∷ []) c d u v h k l m n e =
    let t = solid-tell (w ++ codes ",") (y ++ codes ",") u v c d (solid-append w (codes ",") h refl)
    (solid-append y (codes ",") k refl) m n
    (append_assoc w (codes ",") (c ∷ u) ∙ e ∙ sym (append_assoc y (codes ",") (d ∷ v))) in
    let same : w ≡ y = append_cancel_right w y (codes ",") t.0 in
    ((cc), t.1, t.2)
commas-tell (w ∷ x ∷ ws) (y ∷ z ∷ vs) c d u v h k l m n e =
    let p = and_parts (solid w) (is_row (x ∷ ws)) h in
    let q = and_parts (solid y) (is_row (z ∷ vs)) k in
    let t = solid-tell w y (spaced (x ∷ ws) ++ (44 ∷ c ∷ u)) (spaced (z ∷ vs) ++ (44 ∷ d ∷ v)) 32 32 p.0 q.0
    (omega arith) (omega arith) (sym (append_assoc w (32 ∷ spaced (x ∷ ws)) (44 ∷ c ∷ u)) ∙ e
    ∙ append_assoc y (32 ∷ spaced (z ∷ vs)) (44 ∷ d ∷ v)) in
    let s = commas-tell (x ∷ ws) (z ∷ vs) c d u v p.1 q.1 (omega (arith, l)) m n t.2 in
    let first : w ≡ y = t.0 in
    let others : x ∷ ws ≡ z ∷ vs = s.0 in
    ((cc), s.1, s.2)

-- ---- the first word

-- with the comma, if it is the only one
abbrev head : List (List ℕ) → List ℕ
head [] = []
head (w ∷ []) = w ++ codes ","
head (w ∷ x ∷ ws) = w

-- what stands behind it
abbrev gap : List (List ℕ) → ℕ → ℕ
gap [] c = c
gap (w ∷ []) c = c
gap (w ∷ x ∷ ws) c = 32

-- and what follows
abbrev tail : List (List ℕ) → ℕ → List ℕ → List ℕ
tail [] c u = u
tail (w ∷ []) c u = u
tail (w ∷ x ∷ ws) c u = spaced (x ∷ ws) ++ (44 ∷ c ∷ u)

-- a row and a comma begin with it
head-text : (ws : List (List ℕ)) (c : ℕ) (u : List ℕ) → is_row ws ≡ true
    → spaced ws ++ (44 ∷ c ∷ u) ≡ head ws ++ (gap ws c ∷ tail ws c u)
head-text [] c u h = absurd (false≢true h)
head-text (w ∷ []) c u h = sym (append_assoc w (codes ",") (c ∷ u))
head-text (w ∷ x ∷ ws) c u h = append_assoc w (32 ∷ spaced (x ∷ ws)) (44 ∷ c ∷ u)

-- it is solid
head-solid : (ws : List (List ℕ)) → is_row ws ≡ true → solid (head ws) ≡ true
head-solid [] h = refl
head-solid (w ∷ []) h = solid-append w (codes ",") h refl
head-solid (w ∷ x ∷ ws) h = (and_parts (solid w) (is_row (x ∷ ws)) h).0

-- a space, or what follows the comma
gap-low : (ws : List (List ℕ)) (c : ℕ) → c ≤ 32 → gap ws c ≤ 32
gap-low [] c h = h
gap-low (w ∷ []) c h = h
gap-low (w ∷ x ∷ ws) c h = omega arith

-- equal texts have equal first words
head-tells : (ws vs : List (List ℕ)) (c d : ℕ) (u v : List ℕ) → is_row ws ≡ true → is_row vs ≡ true
    → c ≤ 32 → d ≤ 32 → spaced ws ++ (44 ∷ c ∷ u) ≡ spaced vs ++ (44 ∷ d ∷ v) → head ws ≡ head vs
head-tells ws vs c d u v h k m n e =
    (solid-tell (head ws) (head vs) (tail ws c u) (tail vs d v) (gap ws c) (gap vs d) (head-solid ws h)
    (head-solid vs k)
    (gap-low ws c m) (gap-low vs d n) (sym (head-text ws c u h) ∙ e ∙ head-text vs d v k)).0

-- if the first word says how many there are, rows with equal first words have as many
by-head : (count : List ℕ → ℕ) (ws vs : List (List ℕ)) → count (head ws) ≡ length ws → count (head vs) ≡ length vs
    → head ws ≡ head vs → length ws ≡ length vs
by-head count ws vs p q e = sym p ∙ ap count e ∙ q

-- it does of one of two rows
count-cond : (count : List ℕ → ℕ) (b : Bool) (xs ys : List (List ℕ)) → count (head xs) ≡ length xs
    → count (head ys) ≡ length ys → count (head (cond b xs ys)) ≡ length (cond b xs ys)
count-cond count true xs ys p q = p
count-cond count false xs ys p q = q

-- ---- facts before a comma

-- a fact with a comma and what follows is known from the text
abbrev Before : Look → Bool → BoardFields → BoardFields → Note → Type 0
Before look watched a b n = (c d : ℕ) (u v : List ℕ) → c ≤ 32 → d ≤ 32
    → told look watched a (position_of a) n ++ (44 ∷ c ∷ u) ≡ told look watched b (position_of b) n ++ (44 ∷ d ∷ v)
    → (note look watched a (position_of a) M.Plain n ≡ note look watched b (position_of b) M.Plain n)
    × (c ≡ d) × (u ≡ v)

-- if it has as many words on both boards
before-of : FieldRanges → (look : Look) → HasLetters look → (watched : Bool) (a b : BoardFields) → IsSeen a → IsSeen b
    → (n : Note)
    → length (note look watched a (position_of a) M.Plain n) ≡ length (note look watched b (position_of b) M.Plain n)
    → Before look watched a b n
unfolding told
before-of f look h watched a b sa sb n l c d u v low near e =
    commas-tell (note look watched a (position_of a) M.Plain n) (note look watched b (position_of b) M.Plain n) c d u v
    (note-row look h watched a sa (ranges-of f a sa.board) n) (note-row look h watched b sb (ranges-of f b sb.board) n)
    l low near e

-- a word behind a label
label-length : (below : Bool) (label : List ℕ) (fill : List (List ℕ)) (x y : List ℕ)
    → length (labelled below label fill (x ∷ [])) ≡ length (labelled below label fill (y ∷ []))
label-length true label fill x y = refl
label-length false label fill x y = omega (arith, length-append fill (x ∷ []), length-append fill (y ∷ []))

-- three words behind a label
race-length : (below : Bool) (label : List ℕ) (fill : List (List ℕ)) (x y z x' y' z' : List ℕ)
    → length (labelled below label fill (x ∷ y ∷ z ∷ [])) ≡ length (labelled below label fill (x' ∷ y' ∷ z' ∷ []))
race-length true label fill x y z x' y' z' = refl
race-length false label fill x y z x' y' z' =
    omega (arith, length-append fill (x ∷ y ∷ z ∷ []), length-append fill (x' ∷ y' ∷ z' ∷ []))

-- a name, a score, what is off, pips
name-length : (look : Look) (watched : Bool) (a b : BoardFields) (h : Half)
    → length (note look watched a (position_of a) M.Plain (T.Name h))
    ≡ length (note look watched b (position_of b) M.Plain (T.Name h))
unfolding note
name-length look watched a b half.Upper = refl
name-length look watched a b half.Lower = refl

-- a score
score-length : (look : Look) (watched : Bool) (a b : BoardFields) (h : Half)
    → length (note look watched a (position_of a) M.Plain (T.Score h))
    ≡ length (note look watched b (position_of b) M.Plain (T.Score h))
unfolding note
score-length look watched a b half.Upper = label-length (is_below look.columns) (codes "score") [] _ _
score-length look watched a b half.Lower = label-length (is_below look.columns) (codes "score") [] _ _

-- what is off
off-length : (look : Look) (watched : Bool) (a b : BoardFields) (h : Half)
    → length (note look watched a (position_of a) M.Plain (T.Off h))
    ≡ length (note look watched b (position_of b) M.Plain (T.Off h))
unfolding note
off-length look watched a b half.Upper = label-length (is_below look.columns) (codes "off") ([] ∷ [] ∷ []) _ _
off-length look watched a b half.Lower = label-length (is_below look.columns) (codes "off") ([] ∷ [] ∷ []) _ _

-- pips
pips-length : (look : Look) (watched : Bool) (a b : BoardFields) (h : Half)
    → length (note look watched a (position_of a) M.Plain (T.Pips h))
    ≡ length (note look watched b (position_of b) M.Plain (T.Pips h))
unfolding note
pips-length look watched a b half.Upper = label-length (is_below look.columns) (codes "pips") ([] ∷ []) _ _
pips-length look watched a b half.Lower = race-length (is_below look.columns) (codes "pips") ([] ∷ []) _ _ _ _ _ _

-- ---- the length of the match

-- the first word says whether there is one
abbrev match_count : List ℕ → ℕ
match_count w = cond (slice_index_or w 0 0 == 117) 2 3

-- it does
match-count : (z : ℤ) → match_count (head (match_words z)) ≡ length (match_words z)
match-count z = count-cond match_count (int_eq z (pos 9999)) (codes "unlimited" ∷ codes "match" ∷ [])
    (codes "match" ∷ codes "to" ∷ signed_decimal z ∷ []) refl refl

-- so the length is known
length-before : FieldRanges → (look : Look) → HasLetters look → (watched : Bool) (a b : BoardFields) → IsSeen a
    → IsSeen b
    → Before look watched a b T.Length
unfolding told note
length-before f look h watched a b sa sb c d u v low near e =
    let m = match-row (field_of a 4) (ranges-of f a sa.board).length_of in
    let n = match-row (field_of b 4) (ranges-of f b sb.board).length_of in
    let same = head-tells (match_words (field_of a 4)) (match_words (field_of b 4)) c d u v m n low near e in
    commas-tell (match_words (field_of a 4)) (match_words (field_of b 4)) c d u v m n
    (by-head match_count (match_words (field_of a 4)) (match_words (field_of b 4)) (match-count (field_of a 4))
    (match-count (field_of b 4)) same) low near e

-- ---- the cube

-- the last byte
abbrev last : ℕ → List ℕ → ℕ
last p [] = p
last p (x ∷ xs) = last x xs

-- after a comma that is one
last-comma : (p : ℕ) (xs : List ℕ) → last p (xs ++ codes ",") ≡ 44
last-comma p [] = refl
last-comma p (x ∷ xs) = last-comma x xs

-- the first word says how many say who may double: a letter and a name, one with its comma, or two or three
abbrev owners_count : Bool → List ℕ → ℕ
owners_count watched w = cond (watched && (length w == 1)) 2
    (cond (last 0 w == 44) 1 (cond (slice_index_or w 0 0 == 105) 3 2))

whose-count : (name : List ℕ) → owners_count false (whose name ++ codes ",") ≡ 1
whose-count name = rw (last-comma 0 (whose name)) refl

-- it does of each
owners-count : (look : Look) (watched : Bool) (b : BoardFields) (left : ℕ) (own other : Bool)
    → owners_count watched (head (doublers look watched b left own other))
    ≡ length (doublers look watched b left own other)
unfolding doublers
owners-count look true b left true true = count-cond (owners_count true) (says_long_words look)
    (codes "in" ∷ codes "the" ∷ codes "middle" ∷ []) (codes "centred" ∷ []) refl refl
owners-count look false b left true true = count-cond (owners_count false) (says_long_words look)
    (codes "in" ∷ codes "the" ∷ codes "middle" ∷ []) (codes "centred" ∷ []) refl refl
owners-count look true b left true false = refl
owners-count look false b left true false = refl
owners-count look true b left false true = refl
owners-count look false b left false true = count-cond (owners_count false) (says_long_words look)
    (codes "the" ∷ codes "opponent's" ∷ []) (whose (take (min (left - 2) 24) b.opponent) ∷ []) refl
    (whose-count (take (min (left - 2) 24) b.opponent))
owners-count look true b left false false = refl
owners-count look false b left false false = refl

-- what follows the digits of a cube
cube-text : (x : List ℕ) (look : Look) (watched : Bool) (b : BoardFields) (left : ℕ) (own other : Bool) (r : List ℕ)
    → spaced (codes "cube" ∷ x ∷ doublers look watched b left own other) ++ r
    ≡ codes "cube " ++ (x ++ (32 ∷ (spaced (doublers look watched b left own other) ++ r)))
cube-text x look watched b left own other r =
    let ds = doublers look watched b left own other in
    ap (λ t. codes "cube " ++ (t ++ r)) (before-row x ds (doublers-some look watched b left own other))
    ∙ ap (λ t. codes "cube " ++ t) (append_assoc x (32 ∷ spaced ds) r)

-- as many words on both boards
cube-length : (look : Look) → HasLetters look → (watched : Bool) (a b : BoardFields) (x y : List ℕ) (m n : ℕ)
    (o t o' t' : Bool) (c d : ℕ) (u v : List ℕ)
    → solid x ≡ true → solid y ≡ true
    → solid a.player ≡ true → solid a.opponent ≡ true → solid b.player ≡ true → solid b.opponent ≡ true
    → c ≤ 32 → d ≤ 32
    → spaced (codes "cube" ∷ x ∷ doublers look watched a m o t) ++ (44 ∷ c ∷ u)
    ≡ spaced (codes "cube" ∷ y ∷ doublers look watched b n o' t') ++ (44 ∷ d ∷ v)
    → length (doublers look watched a m o t) ≡ length (doublers look watched b n o' t')
cube-length look h watched a b x y m n o t o' t' c d u v sx sy pa oa pb ob low near e =
    let ds = doublers look watched a m o t in
    let es = doublers look watched b n o' t' in
    let front = append_cancel_left (codes "cube ") _ _
    (sym (cube-text x look watched a m o t (44 ∷ c ∷ u)) ∙ e ∙ cube-text y look watched b n o' t' (44 ∷ d ∷ v)) in
    let rest = (solid-tell x y (spaced ds ++ (44 ∷ c ∷ u)) (spaced es ++ (44 ∷ d ∷ v)) 32 32 sx sy (omega arith)
    (omega arith) front).2 in
    by-head (owners_count watched) ds es (owners-count look watched a m o t) (owners-count look watched b n o' t')
    (head-tells ds es c d u v (doublers-row look h watched a pa oa m o t) (doublers-row look h watched b pb ob n o' t')
    low near rest)

-- so the cube is known
cube-before : FieldRanges → (look : Look) → HasLetters look → (watched : Bool) (a b : BoardFields) → IsSeen a → IsSeen b
    → Before look watched a b T.Cube
unfolding told note
cube-before f look h watched a b sa sb c d u v low near e =
    let r = ranges-of f a sa.board in
    let s = ranges-of f b sb.board in
    let x = signed_decimal (field_of a 38) in
    let y = signed_decimal (field_of b 38) in
    let m = (room look.columns - 7) - length x in
    let n = (room look.columns - 7) - length y in
    let same = cube-length look h watched a b (x ++ codes ",") (y ++ codes ",") m n
    (is_one a 39) (is_one a 40) (is_one b 39) (is_one b 40) c d u v
    (solid-append x (codes ",") (number-solid 1048576 (field_of a 38) (lit< tt) r.cube_is) refl)
    (solid-append y (codes ",") (number-solid 1048576 (field_of b 38) (lit< tt) s.cube_is) refl)
    (name-solid a.player sa.board.0) (name-solid a.opponent sa.board.1)
    (name-solid b.player sb.board.0) (name-solid b.opponent sb.board.1) low near e in
    before-of f look h watched a b sa sb T.Cube (omega (arith, same)) c d u v low near e

-- ---- groups

-- facts are the same on both boards
abbrev SameNotes : Look → Bool → BoardFields → BoardFields → List Note → Type 0
SameNotes look watched a b [] = Unit {0}
SameNotes look watched a b (n ∷ ns) =
    (note look watched a (position_of a) M.Plain n ≡ note look watched b (position_of b) M.Plain n)
    × SameNotes look watched a b ns

-- all but the last are known before their commas
abbrev Befores : Look → Bool → BoardFields → BoardFields → Note → List Note → Type 0
Befores look watched a b n [] = Unit {0}
Befores look watched a b n (m ∷ ms) = Before look watched a b n × Befores look watched a b m ms

-- a space or an end of a row
sep-low : (full : Bool) → cond full 10 32 ≤ 32
sep-low true = omega arith
sep-low false = omega arith

-- equal groups, with what follows them, have equal facts
group-tells : FieldRanges → (look : Look) → HasLetters look → (watched : Bool) (a b : BoardFields) → IsSeen a → IsSeen b
    → (n : Note) (ns : List Note) → Befores look watched a b n ns → (i j : ℕ) (u v : List ℕ)
    → told look watched a (position_of a) n
    ++ (facts_behind look.columns i (map (told look watched a (position_of a)) ns) ++ u)
    ≡ told look watched b (position_of b) n
    ++ (facts_behind look.columns j (map (told look watched b (position_of b)) ns) ++ v)
    → SameNotes look watched a b (n ∷ ns) × (u ≡ v)
unfolding told
group-tells f look h watched a b sa sb n [] k i j u v e =
    let t = words-tell (note look watched a (position_of a) M.Plain n) (note look watched b (position_of b)
    M.Plain n) u v
    (note-row look h watched a sa (ranges-of f a sa.board) n) (note-row look h watched b sb (ranges-of f b sb.board)
    n) e in
    ((t.0, tt), t.1)
group-tells f look h watched a b sa sb n (m ∷ ms) k i j u v e =
    let x = told look watched a (position_of a) m in
    let y = told look watched b (position_of b) m in
    let p = facts_behind look.columns (ends_at look.columns i x) (map (told look watched a (position_of a)) ms) in
    let q = facts_behind look.columns (ends_at look.columns j y) (map (told look watched b (position_of b)) ms) in
    let t = k.0 (cond (is_full look.columns i x) 10 32) (cond (is_full look.columns j y) 10 32) ((x ++ p)
    ++ u) ((y ++ q) ++ v)
    (sep-low (is_full look.columns i x)) (sep-low (is_full look.columns j y)) e in
    let s = group-tells f look h watched a b sa sb m ms k.1 (ends_at look.columns i x) (ends_at look.columns j y) u v
    (sym (append_assoc x p u) ∙ t.2 ∙ append_assoc y q v) in
    ((t.0, s.0), s.1)

-- what is told of a side
abbrev SameSide : Look → Bool → BoardFields → BoardFields → Half → Type 0
SameSide look watched a b h = SameNotes look watched a b (T.Name h ∷ T.Score h ∷ T.Off h ∷ T.Pips h ∷ T.Dice h ∷ [])

-- equal texts of a side are of equal facts
side-tells : FieldRanges → (look : Look) → HasLetters look → (watched : Bool) (a b : BoardFields) → IsSeen a → IsSeen b
    → (side : Half) (u v : List ℕ)
    → side_facts look watched a (position_of a) side ++ u ≡ side_facts look watched b (position_of b) side ++ v
    → SameSide look watched a b side × (u ≡ v)
side-tells f look h watched a b sa sb side u v e =
    let before = before-of f look h watched a b sa sb in
    group-tells f look h watched a b sa sb (T.Name side) (T.Score side ∷ T.Off side ∷ T.Pips side ∷ T.Dice side ∷ []) (
      before (T.Name side) (name-length look watched a b side),
      (
        before (T.Score side)
            (score-length look watched a b side),
        (
          before (T.Off side) (off-length look watched a b side),
          (
            before (T.Pips side)
                (pips-length look watched a b side),
            tt,
          ),
        ),
      ),
    )
    _ _ u v
    (sym (append_assoc (told look watched a (position_of a) (T.Name side)) _ u) ∙ e
    ∙ append_assoc (told look watched b (position_of b) (T.Name side)) _ v)

-- what is told of the match
abbrev SameMatch : Look → Bool → BoardFields → BoardFields → Type 0
SameMatch look watched a b = SameNotes look watched a b (T.Length ∷ T.Cube ∷ T.Turn ∷ [])

-- equal texts of a match are of equal facts
match-tells : FieldRanges → (look : Look) → HasLetters look → (watched : Bool) (a b : BoardFields) → IsSeen a → IsSeen b
    → (u v : List ℕ)
    → match_facts look watched a (position_of a) ++ u ≡ match_facts look watched b (position_of b) ++ v
    → SameMatch look watched a b × (u ≡ v)
match-tells f look h watched a b sa sb u v e =
    group-tells f look h watched a b sa sb T.Length (T.Cube ∷ T.Turn ∷ [])
    (length-before f look h watched a b sa sb, (cube-before f look h watched a b sa sb, tt))
    _ _ u v
    (sym (append_assoc (told look watched a (position_of a) T.Length) _ u) ∙ e
    ∙ append_assoc (told look watched b (position_of b) T.Length) _ v)

-- ---- all that is told

-- the facts of both sides and of the match are all facts
all-facts : (look : Look) (watched : Bool) (a b : BoardFields) → SameSide look watched a b half.Upper
    → SameMatch look watched a b → SameSide look watched a b half.Lower → AlikeNotes look watched a b
all-facts look watched a b upper both lower (T.Name half.Upper) = upper.0
all-facts look watched a b upper both lower (T.Score half.Upper) = upper.1.0
all-facts look watched a b upper both lower (T.Off half.Upper) = upper.1.1.0
all-facts look watched a b upper both lower (T.Pips half.Upper) = upper.1.1.1.0
all-facts look watched a b upper both lower (T.Dice half.Upper) = upper.1.1.1.1.0
all-facts look watched a b upper both lower (T.Name half.Lower) = lower.0
all-facts look watched a b upper both lower (T.Score half.Lower) = lower.1.0
all-facts look watched a b upper both lower (T.Off half.Lower) = lower.1.1.0
all-facts look watched a b upper both lower (T.Pips half.Lower) = lower.1.1.1.0
all-facts look watched a b upper both lower (T.Dice half.Lower) = lower.1.1.1.1.0
all-facts look watched a b upper both lower T.Length = both.0
all-facts look watched a b upper both lower T.Cube = both.1.0
all-facts look watched a b upper both lower T.Turn = both.1.1.0

-- whoever is above
sides-facts : (look : Look) (watched : Bool) (a b : BoardFields) (turned : Bool)
    → SameSide look watched a b (half_above turned) → SameMatch look watched a b
    → SameSide look watched a b (half_below turned)
    → AlikeNotes look watched a b
sides-facts look watched a b true x both y = all-facts look watched a b y both x
sides-facts look watched a b false x both y = all-facts look watched a b x both y

-- three texts in a row, and a fourth
three : (x y z u : List ℕ) → (x ++ (y ++ z)) ++ u ≡ x ++ (y ++ (z ++ u))
three x y z u = append_assoc x (y ++ z) u ∙ ap (λ t. x ++ t) (append_assoc y z u)

-- equal words below the board are of equal facts
pub below-tells : FieldRanges → (look : Look) → HasLetters look → (watched : Bool) (a b : BoardFields) → IsSeen a
    → IsSeen b
    → (u v : List ℕ)
    → words_below look watched a (position_of a) ++ u ≡ words_below look watched b (position_of b) ++ v
    → AlikeNotes look watched a b × (u ≡ v)
unfolding words_below
below-tells f look h watched a b sa sb u v e =
    let turned = look.is_turned in
    let xa = side_facts look watched a (position_of a) (half_above turned) in
    let xb = side_facts look watched b (position_of b) (half_above turned) in
    let ma = match_facts look watched a (position_of a) in
    let mb = match_facts look watched b (position_of b) in
    let ya = side_facts look watched a (position_of a) (half_below turned) in
    let yb = side_facts look watched b (position_of b) (half_below turned) in
    let x = side-tells f look h watched a b sa sb (half_above turned) (ma ++ (ya ++ u)) (mb ++ (yb ++ v))
    (sym (three xa ma ya u) ∙ e ∙ three xb mb yb v) in
    let m = match-tells f look h watched a b sa sb (ya ++ u) (yb ++ v) x.1 in
    let y = side-tells f look h watched a b sa sb (half_below turned) u v m.1 in
    (sides-facts look watched a b turned x.0 m.0 y.0, y.1)
