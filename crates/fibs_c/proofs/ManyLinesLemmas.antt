-- Lines that were read one after another: their texts come after each other, and a later one leaves the earlier as
-- they are.
use Rattle.std.proofs.Common.{◌≡◌, ◌≢◌, ◌<◌, ◌≤◌, ◌+◌, ◌-◌, ℕ, Bool, not, true, false, List, [], ◌∷◌, ◌++◌, length, take, drop, map, refl, sym, ap, subst, ◌∙◌, arith, append_assoc, slice_set, length-set, length-drop, if◌then◌else◌}
use borrow.Rule.Slice.PartMut.{mid_of, post_of, put_mid, same_len_mid}
use Rattle.std.proofs.lemmas.Bool.{ne_eqb}
use Rattle.std.proofs.lemmas.List.{take-take, drop-take, take_more_set, map-append, append-nil, take_all, drop_all, drop_at, drop-drop, drop-set-lt}
use Rattle.std.proofs.lemmas.Slice.{between_to_end, take-put_mid_below}
use Rattle.std.proofs.Math.Seq.{take-add, length-take-le}
use Rattle.std.specs.List.{AllByRecursion, between, concat}
use Rattle.fibs_lines.specs.Lines.{ReadLine, lines_of, kept_limit}
use Rattle.fibs_session.specs.History.Hearing.{line_reading}
use Rattle.fibs_c.specs.Records.Kinds.{told_kind}
use Rattle.fibs_lines.specs.LinesValue.{LinesValue, StandsAfter}
use Rattle.fibs_c.specs.LinesDoor.{FeedsLine, WritesLine, copied}
use Rattle.fibs_c.specs.ManyLines.{line_in, line_bytes, kind_in, kind_of_line, LiesWithin}
use Rattle.fibs_c.specs.ReadingOn.{ReadSoFar}
use Rattle.fibs_c.specs.Records.Texts.{is_set}
use Rattle.fibs_c.specs.declared.lines.FedLine.{FedLine}
use Rattle.fibs_c.specs.declared.many_lines.ToldLine.{ToldLine}

-- nothing is read yet
pub none_read : (v : LinesValue) (piece : List ℕ) (rows : List ToldLine) (text : List ℕ)
    → ReadSoFar v v piece 0 0 0 rows rows text text
none_read v piece rows text = record {
  in_range = omega arith;
  begun = λ e. (refl, refl);
  few = omega arith;
  room = omega arith;
  same_rows = refl;
  same_text = refl;
  stands = λ s h. subst (λ (t : List ℕ). StandsAfter v t) (sym (append-nil s)) h;
  gains = λ s h. ap lines_of (append-nil s) ∙ sym (append-nil (lines_of s));
  kinds = refl;
  within = tt;
  joined = refl;
  rest_of_rows = refl;
  rest_of_text = refl;
}

-- two texts with the same front have the same bytes there
same_bytes : (t u : List ℕ) (b i n : ℕ) → take b t ≡ take b u → i + n ≤ b → take n (drop i t) ≡ take n (drop i u)
same_bytes t u b i n e h =
    sym (drop-take i n t) ∙ ap (drop i) (sym (take-take (i + n) b t h) ∙ ap (take (i + n)) e ∙ take-take (i + n) b u h)
    ∙ drop-take i n u

-- a row that lies within a front gives the same line in texts with the same front
same_line : (t u : List ℕ) (b : ℕ) (row : ToldLine) → take b t ≡ take b u → LiesWithin b row
    → line_in t row ≡ line_in u row
same_line t u b row e h =
    let f : List ℕ → ReadLine = λ bytes. record { bytes = bytes; cut = is_set row.cut } in
    ap f (same_bytes t u b row.start row.len e h.place)

-- so do all rows that lie within it
same_lines : (t u : List ℕ) (b : ℕ) (rows : List ToldLine) → take b t ≡ take b u → AllByRecursion (LiesWithin b) rows
    → map (line_in t) rows ≡ map (line_in u) rows
same_lines t u b [] e h = refl
same_lines t u b (row ∷ rows) e h = λ i. same_line t u b row e h.0 i ∷ same_lines t u b rows e h.1 i

-- what lies within a front lies within a longer one
further : (b c : ℕ) (rows : List ToldLine) → b ≤ c → AllByRecursion (LiesWithin b) rows
    → AllByRecursion (LiesWithin c) rows
further b c [] le h = tt
further b c (row ∷ rows) le h =
    (record { place = omega (arith, le, h.0.place); flag = h.0.flag }, further b c rows le h.1)

-- one more row that lies within a front follows rows that do
and_last : (b : ℕ) (rows : List ToldLine) (row : ToldLine) → AllByRecursion (LiesWithin b) rows → LiesWithin b row
    → AllByRecursion (LiesWithin b) (rows ++ row ∷ [])
and_last b [] row h last = (last, tt)
and_last b (r ∷ rows) row h last = (h.0, and_last b rows row h.1 last)

-- the bytes of one line more
one_more : (ls : List ReadLine) (l : ReadLine) → concat (map line_bytes (ls ++ l ∷ []))
    ≡ concat (map line_bytes ls) ++ l.bytes
one_more [] l = append-nil l.bytes
one_more (x ∷ ls) l =
    ap (λ (t : List ℕ). x.bytes ++ t) (one_more ls l) ∙ sym (append_assoc x.bytes (concat (map line_bytes ls)) l.bytes)

-- the bytes read before and now are one front of the piece
front : (s piece : List ℕ) (used more : ℕ) → (s ++ take used piece) ++ take more (drop used piece)
    ≡ s ++ take (used + more) piece
front s piece used more = append_assoc s (take used piece) (take more (drop used piece))
    ∙ ap (λ t. s ++ t) (sym (take-add used more piece))

-- the line that a call read
abbrev line_fed : FedLine → List ℕ → ReadLine
line_fed fed text = record { bytes = take fed.len text; cut = is_set fed.cut }

-- a call that read up to a line end gives one line
copied_one : (fed : FedLine) (text : List ℕ) → is_set fed.ended ≡ true → copied fed text ≡ line_fed fed text ∷ []
copied_one fed text e = ap (λ (b : Bool). let ls : List ReadLine = (if b then line_fed fed text ∷ [] else []) in ls) e

-- a call that met no line end gives none
copied_none : (fed : FedLine) (text : List ℕ) → is_set fed.ended ≡ false → copied fed text ≡ []
copied_none fed text e = ap (λ (b : Bool). let ls : List ReadLine = (if b then line_fed fed text ∷ [] else []) in ls) e

-- a piece without a line end was read
pub no_line : (old now new : LinesValue) (piece : List ℕ) (used count bytes : ℕ) (rows₀ rows : List ToldLine)
    (text₀ text text' suffix : List ℕ) (fed : FedLine)
    → ReadSoFar old now piece used count bytes rows₀ rows text₀ text
    → FeedsLine now new (drop used piece) fed suffix
    → take bytes text' ≡ take bytes text → drop bytes text' ≡ drop bytes text → length text' ≡ length text
    → used + fed.used ≤ length piece → 0 < fed.used
    → is_set fed.ended ≡ false
    → ReadSoFar old new piece (used + fed.used) count bytes rows₀ rows text₀ text'
no_line old now new piece used count bytes rows₀ rows text₀ text text' suffix fed so f e ed el low more none =
    let same : map (line_in text') (take count rows) ≡ map (line_in text) (take count rows) =
    same_lines text' text bytes (take count rows) e so.within in
    record {
      in_range = low;
      begun = λ z. absurd (omega (arith, z, more));
      few = so.few;
      room = subst (λ (n : ℕ). bytes ≤ n) (sym el) so.room;
      same_rows = so.same_rows;
      same_text = el ∙ so.same_text;
      stands = λ s h. subst (λ (t : List ℕ). StandsAfter new t) (front s piece used fed.used)
          (f.stands (s ++ take used piece) (so.stands s h));
      gains = λ s h. ap lines_of (sym (front s piece used fed.used)) ∙ f.gains (s ++ take used piece) (so.stands s h)
          ∙ ap (λ ls. lines_of (s ++ take used piece) ++ ls) (copied_none fed suffix none)
          ∙ append-nil (lines_of (s ++ take used piece))
          ∙ so.gains s h ∙ ap (λ ls. lines_of s ++ ls) (sym same);
      kinds = so.kinds ∙ ap (map kind_of_line) (sym same);
      within = so.within;
      joined = e ∙ so.joined ∙ ap (λ (ls : List ReadLine). concat (map line_bytes ls)) (sym same);
      rest_of_rows = so.rest_of_rows;
      rest_of_text = ed ∙ so.rest_of_text;
    }

-- and with one
pub one_line : (old now new : LinesValue) (piece : List ℕ) (used count bytes : ℕ) (rows₀ rows : List ToldLine)
    (text₀ text text' suffix : List ℕ) (fed : FedLine) (row : ToldLine)
    → ReadSoFar old now piece used count bytes rows₀ rows text₀ text
    → FeedsLine now new (drop used piece) fed suffix
    → count < length rows
    → take bytes text' ≡ take bytes text → drop bytes text' ≡ suffix
    → drop fed.len suffix ≡ drop fed.len (drop bytes text)
    → length text' ≡ length text
    → used + fed.used ≤ length piece → 0 < fed.used → bytes + fed.len ≤ length text
    → is_set fed.ended ≡ true → fed.cut ≤ 1
    → row.start ≡ bytes → row.len ≡ fed.len → row.cut ≡ fed.cut → row.kind ≡ kind_of_line (line_fed fed suffix)
    → ReadSoFar old new piece (used + fed.used) (count + 1) (bytes + fed.len) rows₀
    (slice_set rows count row) text₀ text'
one_line old now new piece used count bytes rows₀ rows text₀ text text' suffix fed row so f few e ed behind_line el low
    more fits one flag starts lens cuts kind =
    let same : map (line_in text') (take count rows) ≡ map (line_in text) (take count rows) =
    same_lines text' text bytes (take count rows) e so.within in
    let is : line_in text' row ≡ line_fed fed (drop bytes text') =
    λ i. record { bytes = take (lens i) (drop (starts i) text'); cut = is_set (cuts i) } in
    let is' : line_in text' row ≡ line_fed fed suffix = is ∙ ap (line_fed fed) ed in
    let rows' : take (count + 1) (slice_set rows count row) ≡ take count rows ++ row ∷ [] =
    take_more_set rows count row few in
    let lines' : map (line_in text') (take (count + 1) (slice_set rows count row))
    ≡ map (line_in text) (take count rows) ++ line_fed fed suffix ∷ [] =
    ap (map (line_in text')) rows' ∙ map-append (line_in text') (take count rows) (row ∷ [])
    ∙ (λ i. same i ++ is' i ∷ []) in
    record {
      in_range = low;
      begun = λ z. absurd (omega (arith, z, more));
      few = subst (λ (n : ℕ). count + 1 ≤ n) (sym (length-set rows count row)) (omega (arith, few));
      room = subst (λ (n : ℕ). bytes + fed.len ≤ n) (sym el) fits;
      same_rows = length-set rows count row ∙ so.same_rows;
      same_text = el ∙ so.same_text;
      stands = λ s h. subst (λ (t : List ℕ). StandsAfter new t) (front s piece used fed.used)
          (f.stands (s ++ take used piece) (so.stands s h));
      gains = λ s h. ap lines_of (sym (front s piece used fed.used)) ∙ f.gains (s ++ take used piece) (so.stands s h)
          ∙ (λ i. so.gains s h i ++ copied_one fed suffix one i)
          ∙ append_assoc (lines_of s) (map (line_in text) (take count rows)) (line_fed fed suffix ∷ [])
          ∙ ap (λ ls. lines_of s ++ ls) (sym lines');
      kinds = ap (map kind_in) rows' ∙ map-append kind_in (take count rows) (row ∷ [])
          ∙ (λ i. so.kinds i ++ kind i ∷ [])
          ∙ sym (map-append kind_of_line (map (line_in text) (take count rows)) (line_fed fed suffix ∷ []))
          ∙ ap (map kind_of_line) (sym lines');
      within = subst (AllByRecursion (LiesWithin (bytes + fed.len))) (sym rows')
          (and_last (bytes + fed.len) (take count rows) row
          (further bytes (bytes + fed.len) (take count rows) (omega arith) so.within)
          (record {
            place = subst (λ (n : ℕ). n + row.len ≤ bytes + fed.len) (sym starts)
                (subst (λ (n : ℕ). bytes + n ≤ bytes + fed.len) (sym lens) (omega arith));
            flag = subst (λ (n : ℕ). n ≤ 1) (sym cuts) flag;
          }));
      joined = take-add bytes fed.len text' ∙ (λ i. e i ++ take fed.len (ed i))
          ∙ ap (λ (t : List ℕ). t ++ take fed.len suffix) so.joined
          ∙ sym (one_more (map (line_in text) (take count rows)) (line_fed fed suffix))
          ∙ ap (λ (ls : List ReadLine). concat (map line_bytes ls)) (sym lines');
      rest_of_rows = drop-set-lt (count + 1) rows count row (omega arith) ∙ sym (drop-drop 1 count rows)
          ∙ ap (drop 1) so.rest_of_rows ∙ drop-drop 1 count rows₀;
      rest_of_text = sym (drop-drop fed.len bytes text') ∙ ap (drop fed.len) ed ∙ behind_line
          ∙ ap (drop fed.len) so.rest_of_text ∙ drop-drop fed.len bytes text₀;
    }

-- what is written from b on comes after b
behind : (text suffix : List ℕ) (b : ℕ) → b ≤ length text → drop b (put_mid b (length text - b) text suffix) ≡ suffix
behind text suffix b h =
    drop_at (take b text) (suffix ++ post_of b (length text - b) text) b (length-take-le b text h)
    ∙ ap (λ (l : List ℕ). suffix ++ l) (drop_all (length text - b) (drop b text) (omega (arith, length-drop b text)))
    ∙ append-nil suffix

-- a flag that is not 0 is set
set_of : (n : ℕ) → n ≢ 0 → is_set n ≡ true
set_of n h = ap not (ne_eqb n 0 h)

-- what was fed is what follows the bytes that were read
fed_rest : (now new : LinesValue) (piece suffix : List ℕ) (used : ℕ) (fed : FedLine)
    → FeedsLine now new (between used (length piece) piece) fed suffix → FeedsLine now new (drop used piece) fed suffix
fed_rest now new piece suffix used fed f =
    subst (λ (rest : List ℕ). FeedsLine now new rest fed suffix)
    (between_to_end piece used (length piece) (omega arith)) f

-- the rest of a text is all that follows
mid_is : (text : List ℕ) (b : ℕ) → mid_of b (length text - b) text ≡ drop b text
mid_is text b = take_all (length text - b) (drop b text) (omega (arith, length-drop b text))

-- the same as `no_line`, of a text that was written from `bytes` on
pub no_line_next : (old now new : LinesValue) (piece : List ℕ) (used count bytes : ℕ) (rows₀ rows : List ToldLine)
    (text₀ text suffix : List ℕ) (fed : FedLine)
    → FeedsLine now new (between used (length piece) piece) fed suffix
    → WritesLine fed (mid_of bytes (length text - bytes) text) suffix
    → used < length piece
    → length suffix ≡ length (mid_of bytes (length text - bytes) text)
    → fed.ended ≡ 0
    → ReadSoFar old now piece used count bytes rows₀ rows text₀ text
    → ReadSoFar old new piece (used + fed.used) count bytes rows₀ rows text₀
    (put_mid bytes (length text - bytes) text suffix)
no_line_next old now new piece used count bytes rows₀ rows text₀ text suffix fed f w more same none so =
    let rest : FeedsLine now new (drop used piece) fed suffix = fed_rest now new piece suffix used fed f in
    let low : fed.used ≤ length (drop used piece) = rest.in_range in
    let unwritten : suffix ≡ mid_of bytes (length text - bytes) text =
    subst (λ (n : ℕ). drop n suffix ≡ drop n (mid_of bytes (length text - bytes) text)) (w.none none).0 w.rest in
    no_line old now new piece used count bytes rows₀ rows text₀ text
    (put_mid bytes (length text - bytes) text suffix) suffix fed so rest
    (take-put_mid_below bytes (length text - bytes) text suffix bytes (omega arith) so.room)
    (behind text suffix bytes so.room ∙ unwritten ∙ mid_is text bytes)
    (same_len_mid bytes (length text - bytes) text suffix same)
    (omega (arith, low, length-drop used piece))
    (rest.progress (omega (arith, more, length-drop used piece)))
    (ap is_set none)

-- the same as `one_line`
pub one_line_next : (old now new : LinesValue) (piece : List ℕ) (used count bytes : ℕ) (rows₀ rows : List ToldLine)
    (text₀ text suffix : List ℕ) (fed : FedLine) (row : ToldLine)
    → FeedsLine now new (between used (length piece) piece) fed suffix
    → WritesLine fed (mid_of bytes (length text - bytes) text) suffix
    → used < length piece → count < length rows → bytes + kept_limit ≤ length text
    → length suffix ≡ length (mid_of bytes (length text - bytes) text)
    → fed.ended ≢ 0
    → row.start ≡ bytes → row.len ≡ fed.len → row.cut ≡ fed.cut
    → row.kind ≡ told_kind (line_reading (record {
      bytes = between bytes (bytes + fed.len) (put_mid bytes (length text - bytes) text suffix);
      cut = is_set fed.cut;
    }))
    → ReadSoFar old now piece used count bytes rows₀ rows text₀ text
    → ReadSoFar old new piece (used + fed.used) (count + 1) (bytes + fed.len) rows₀ (slice_set rows count row) text₀
    (put_mid bytes (length text - bytes) text suffix)
one_line_next old now new piece used count bytes rows₀ rows text₀ text suffix fed row f w more few room same one starts
    lens cuts kind so =
    let text' : List ℕ = put_mid bytes (length text - bytes) text suffix in
    let rest : FeedsLine now new (drop used piece) fed suffix = fed_rest now new piece suffix used fed f in
    let low : fed.used ≤ length (drop used piece) = rest.in_range in
    let short : fed.len ≤ kept_limit = w.few in
    let at : drop bytes text' ≡ suffix = behind text suffix bytes so.room in
    let size : bytes + fed.len - bytes ≡ fed.len = omega arith in
    let is : between bytes (bytes + fed.len) text' ≡ take fed.len suffix = λ i. take (size i) (at i) in
    let line : List ℕ → ReadLine = λ bytes. record { bytes = bytes; cut = is_set fed.cut } in
    one_line old now new piece used count bytes rows₀ rows text₀ text text' suffix fed row so rest few
    (take-put_mid_below bytes (length text - bytes) text suffix bytes (omega arith) so.room)
    at
    (w.rest ∙ ap (drop fed.len) (mid_is text bytes))
    (same_len_mid bytes (length text - bytes) text suffix same)
    (omega (arith, low, length-drop used piece))
    (rest.progress (omega (arith, more, length-drop used piece)))
    (omega (arith, short, room))
    (set_of fed.ended one) w.cut_flag starts lens cuts
    (kind ∙ ap (λ (b : List ℕ). told_kind (line_reading (line b))) is)
