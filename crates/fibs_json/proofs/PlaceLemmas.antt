-- The place of a line in its stream, and what is printed for lines with their places.
use Rattle.std.proofs.Common.{◌≡◌, ◌≤◌, ◌<◌, ◌+◌, ◌-◌, ◌^◌, ℕ, min, List, [], ◌∷◌, ◌++◌, Option, None, Some, true, false, codes, length, take, drop, refl, sym, ap, subst, ◌∙◌, append_assoc, append-nil, length-append, arith, inl, inr, is_some, true≢false}
use Rattle.std.proofs.lemmas.Bool.{cases_eq}
use Rattle.std.proofs.lemmas.List.{length-take-le, take_all, take-append-drop, take-append-le, take-take, take_at}
use Rattle.std.proofs.Math.Seq.{take-append-add}
use Rattle.fibs_lines.specs.Feeding.{Feeds, lent_lines}
use Rattle.fibs_lines.specs.Lines.{ReadLine, lines_of, rest_of, kept_limit, value_of}
use Rattle.fibs_lines.specs.declared.line.Line.{Line}
use Rattle.fibs_lines.specs.declared.lines.Fed.{Fed}
use Rattle.fibs_lines.proofs.StreamLawProofs.{empty_stream_has_no_line, lines_only_grow}
use Rattle.fibs_json.specs.Counting.{one_more}
use Rattle.fibs_json.specs.Json.{Member, member, more_member, more_members, whole}
use Rattle.fibs_json.specs.Lines.{LineObject, line_object, opening}
use Rattle.fibs_json.specs.Passing.{AnyAt, IsPlaceIn, ObjectAt, ending_at, members_of}
use Rattle.fibs_json.specs.Places.{BeginsAt, EachPlaced, Ending, NumberedText, PlacedObject, UnfinishedObject, WithMembers, in_64_bits, place_members, place_of, unfinished_members}
use Rattle.fibs_json.specs.declared.place.Place.{Place}
use Rattle.fibs_json.proofs.ObjectLemmas.{closed}
use Rattle.fibs_json.proofs.TellingLemmas.{ending_brace}

-- ---- where a line begins

-- the first line begins at the first byte
pub begins_first : BeginsAt [] 0 0
begins_first = record {
  within = omega arith;
  ended = ap (λ (ls : List ReadLine). length ls) empty_stream_has_no_line.0;
  shortest = λ n less. absurd (omega (arith, less));
}

-- what comes later moves no line
pub begins_kept : (s piece : List ℕ) (before offset : ℕ) → BeginsAt s before offset
    → BeginsAt (s ++ piece) before offset
begins_kept s piece before offset b = record {
  within = omega (arith, b.within, length-append s piece);
  ended = ap (λ (l : List ℕ). length (lines_of l)) (take-append-le offset s piece b.within) ∙ b.ended;
  shortest = λ n less.
      subst (λ (l : List ℕ). length (lines_of l) < before)
      (sym (take-append-le n s piece (omega (arith, less, b.within))))
      (b.shortest n less);
}

-- a front of a stream has at most as many lines
front_has_fewer : (n : ℕ) (s : List ℕ) → length (lines_of (take n s)) ≤ length (lines_of s)
front_has_fewer n s =
    let more = lines_only_grow (take n s) (drop n s) in
    let all : lines_of s ≡ lines_of (take n s) ++ more.0 = ap lines_of (sym (take-append-drop n s)) ∙ more.1 in
    let long : length (lines_of s) ≡ length (lines_of (take n s)) + length more.0 =
    ap (λ (ls : List ReadLine). length ls) all ∙ length-append (lines_of (take n s)) more.0 in
    omega (arith, long)

-- a part of the piece, with which no line ends
part_ends_none : (s piece : List ℕ) (n : ℕ) → length s ≤ n
    → ((k : ℕ) → k < length piece → lines_of (s ++ take k piece) ≡ lines_of s) → n < length (s ++ piece)
    → lines_of (take n (s ++ piece)) ≡ lines_of s
part_ends_none s piece n past same less =
    let here : take n (s ++ piece) ≡ s ++ take (n - length s) piece =
    ap (λ m. take m (s ++ piece)) {x = n} {y = length s + (n - length s)} (omega (arith, past))
    ∙ take-append-add s piece (n - length s) in
    ap lines_of here ∙ same (n - length s) (omega (arith, past, less, length-append s piece))

-- the next line begins behind a piece that ends one, if no front of the piece does
pub begins_next : (s piece : List ℕ) (line : ReadLine) → lines_of (s ++ piece) ≡ lines_of s ++ (line ∷ [])
    → ((k : ℕ) → k < length piece → lines_of (s ++ take k piece) ≡ lines_of s)
    → BeginsAt (s ++ piece) (length (lines_of s) + 1) (length (s ++ piece))
begins_next s piece line gains same = record {
  within = omega arith;
  ended = ap (λ (l : List ℕ). length (lines_of l)) (take_all (length (s ++ piece)) (s ++ piece) (omega arith))
      ∙ ap (λ (ls : List ReadLine). length ls) gains
      ∙ length-append (lines_of s) (line ∷ []);
  shortest = λ n less. elim (cases_eq (n - length s) 0) [
    | inl none ↦
        omega (
          arith,
          front_has_fewer n s,
          ap (λ (l : List ℕ). length (lines_of l)) (take-append-le n s piece (omega (arith, none))),
        )
    | inr some ↦
        omega (
          arith,
          ap (λ (ls : List ReadLine). length ls) (part_ends_none s piece n (omega (arith, some)) same less),
        )
  ];
}

-- ---- the place that is kept

-- a count is one more in 64 bits too
pub counts_more : (n k : ℕ) → min (in_64_bits n + k) (2 ^ 64 - 1) ≡ in_64_bits (n + k)
counts_more n k = omega arith

-- before anything is read it is that of the first line
pub place_first : (p : Place) → p.lines ≡ 0 → p.bytes ≡ 0 → p.offset ≡ 0 → IsPlaceIn p []
place_first p lines bytes offset = record {
  start = 0;
  begins = subst (λ n. BeginsAt [] n 0) (sym (ap (λ (ls : List ReadLine). length ls) empty_stream_has_no_line.0))
      begins_first;
  lines = lines ∙ ap (λ (ls : List ReadLine). in_64_bits (length ls)) (sym empty_stream_has_no_line.0);
  bytes = bytes;
  offset = offset;
}

-- the bytes that were read are more in 64 bits too
bytes_more : (s piece : List ℕ) (bytes read used : ℕ) → bytes ≡ in_64_bits (length s) → used ≤ length piece
    → read ≡ min (bytes + used) (2 ^ 64 - 1) → read ≡ in_64_bits (length (s ++ take used piece))
bytes_more s piece bytes read used before fits after =
    let long : length (s ++ take used piece) ≡ length s + used =
    length-append s (take used piece) ∙ ap (λ n. length s + n) (length-take-le used piece fits) in
    after ∙ ap (λ n. min (n + used) (2 ^ 64 - 1)) before ∙ counts_more (length s) used
    ∙ ap in_64_bits (sym long)

-- bytes were read that end no line
place_passes : (p q : Place) (s piece : List ℕ) (fed : Fed) → IsPlaceIn p s → Feeds s piece fed
    → fed.line ≡ None → q.lines ≡ p.lines → q.offset ≡ p.offset → q.bytes ≡ min (p.bytes + fed.used) (2 ^ 64 - 1)
    → IsPlaceIn q (s ++ take fed.used piece)
place_passes p q s piece fed at feeds none lines offset bytes =
    let same : lines_of (s ++ take fed.used piece) ≡ lines_of s =
    feeds.gains ∙ ap (λ l. lines_of s ++ lent_lines l) none ∙ append-nil (lines_of s) in
    let count : length (lines_of (s ++ take fed.used piece)) ≡ length (lines_of s) =
    ap (λ (ls : List ReadLine). length ls) same in
    record {
      start = at.start;
      begins = subst (λ n. BeginsAt (s ++ take fed.used piece) n at.start) (sym count)
          (begins_kept s (take fed.used piece) (length (lines_of s)) at.start at.begins);
      lines = lines ∙ at.lines ∙ ap in_64_bits (sym count);
      bytes = bytes_more s piece p.bytes q.bytes fed.used at.bytes feeds.in_range bytes;
      offset = offset ∙ at.offset;
    }

-- no front of the bytes of an answer ends a line
pub fronts_end_none : (s piece : List ℕ) (fed : Fed) → Feeds s piece fed → (k : ℕ) → k < length (take fed.used piece)
    → lines_of (s ++ take k (take fed.used piece)) ≡ lines_of s
fronts_end_none s piece fed feeds k less =
    let short : k < fed.used = omega (arith, less, length-take-le fed.used piece feeds.in_range) in
    ap (λ l. lines_of (s ++ l)) (take-take k fed.used piece (omega (arith, short))) ∙ feeds.shortest k short

-- bytes were read that end a line
place_ends : (p q : Place) (s piece : List ℕ) (fed : Fed) (line : Line) → IsPlaceIn p s → Feeds s piece fed
    → fed.line ≡ Some line → q.lines ≡ min (p.lines + 1) (2 ^ 64 - 1) → q.offset ≡ q.bytes
    → q.bytes ≡ min (p.bytes + fed.used) (2 ^ 64 - 1) → IsPlaceIn q (s ++ take fed.used piece)
place_ends p q s piece fed line at feeds some lines offset bytes =
    let part : List ℕ = take fed.used piece in
    let gains : lines_of (s ++ part) ≡ lines_of s ++ (value_of line ∷ []) =
    feeds.gains ∙ ap (λ l. lines_of s ++ lent_lines l) some in
    let count : length (lines_of (s ++ part)) ≡ length (lines_of s) + 1 =
    ap (λ (ls : List ReadLine). length ls) gains ∙ length-append (lines_of s) (value_of line ∷ []) in
    let read : q.bytes ≡ in_64_bits (length (s ++ part)) =
    bytes_more s piece p.bytes q.bytes fed.used at.bytes feeds.in_range bytes in
    record {
      start = length (s ++ part);
      begins = subst (λ n. BeginsAt (s ++ part) n (length (s ++ part))) (sym count)
          (begins_next s part (value_of line) gains (fronts_end_none s piece fed feeds));
      lines = lines ∙ ap (λ n. min (n + 1) (2 ^ 64 - 1)) at.lines ∙ counts_more (length (lines_of s)) 1
          ∙ ap in_64_bits (sym count);
      bytes = read;
      offset = offset ∙ read;
    }

-- the same by what is known of the answer
pub place_ends_some : (p q : Place) (s piece : List ℕ) (fed : Fed) (line : Option Line) → fed.line ≡ line
    → is_some line ≡ true → IsPlaceIn p s → Feeds s piece fed → q.lines ≡ min (p.lines + 1) (2 ^ 64 - 1)
    → q.offset ≡ q.bytes → q.bytes ≡ min (p.bytes + fed.used) (2 ^ 64 - 1) → IsPlaceIn q (s ++ take fed.used piece)
place_ends_some p q s piece fed None is some at feeds lines offset bytes = absurd (true≢false (sym some))
place_ends_some p q s piece fed (Some line) is some at feeds lines offset bytes =
    place_ends p q s piece fed line at feeds is lines offset bytes

-- or that no line was lent
pub place_passes_none : (p q : Place) (s piece : List ℕ) (fed : Fed) (line : Option Line) → fed.line ≡ line
    → is_some line ≡ false → IsPlaceIn p s → Feeds s piece fed → q.lines ≡ p.lines → q.offset ≡ p.offset
    → q.bytes ≡ min (p.bytes + fed.used) (2 ^ 64 - 1) → IsPlaceIn q (s ++ take fed.used piece)
place_passes_none p q s piece fed None is none at feeds lines offset bytes =
    place_passes p q s piece fed at feeds is lines offset bytes
place_passes_none p q s piece fed (Some line) is none at feeds lines offset bytes = absurd (true≢false none)

-- ---- what is printed with a place

-- further members stand before the end of an object
pub inside : (old front popped one now : List ℕ) (ms : List Member) (kept : ℕ) → old ≡ front ++ (125 ∷ [])
    → kept ≡ length old - 1 → popped ≡ take kept old → one ≡ popped ++ more_members ms → now ≡ one ++ (125 ∷ [])
    → now ≡ front ++ (more_members ms ++ (125 ∷ []))
inside old front popped one now ms kept ends count rest first last =
    let long : length old ≡ length front + 1 =
    ap (λ (l : List ℕ). length l) ends ∙ length-append front (125 ∷ []) in
    let short : popped ≡ front =
    rest ∙ ap (λ l. take kept l) ends ∙ take_at front (125 ∷ []) kept (omega (arith, long, count)) in
    last ∙ ap (λ (l : List ℕ). l ++ (125 ∷ [])) (first ∙ ap (λ (l : List ℕ). l ++ more_members ms) short)
    ∙ append_assoc front (more_members ms) (125 ∷ [])

-- the object of a line gained its place
pub object_at : (p : Place) (line : ReadLine) (old one now shown : List ℕ) → LineObject line shown
    → one ≡ old ++ shown
    → ((front : List ℕ) → one ≡ front ++ (125 ∷ []) → now ≡ front ++ (more_members (members_of p) ++ (125 ∷ [])))
    → (text : List ℕ) × ObjectAt p line text × (now ≡ old ++ text)
object_at p line old one now shown told first goes =
    let ends = ending_brace line shown told in
    let members : List ℕ = more_members (members_of p) ++ (125 ∷ []) in (
      ends.0 ++ members,
      (shown, told, (ends.0, ends.1, refl)),
      goes (old ++ ends.0) (first ∙ ap (λ l. old ++ l) ends.1 ∙ sym (append_assoc old ends.0 (125 ∷ [])))
          ∙ append_assoc old ends.0 members,
    )

-- the number and the offset of a place are those of its line
members_same : (p : Place) (s : List ℕ) → (at : IsPlaceIn p s)
    → members_of p ≡ place_of (length (lines_of s)) at.start
members_same p s at =
    ap (λ n. place_members (one_more n) p.offset) at.lines
    ∙ ap (λ n. place_members n p.offset) (counts_more (length (lines_of s)) 1)
    ∙ ap (λ n. place_members (in_64_bits (length (lines_of s) + 1)) n) at.offset

-- the object of the next line has its place in whatever follows
pub object_placed : (p : Place) (s piece : List ℕ) (line : ReadLine) (text : List ℕ) → IsPlaceIn p s
    → ObjectAt p line text → PlacedObject (s ++ piece) (length (lines_of s)) line text
object_placed p s piece line text at told = (
  told.0,
  at.start,
  told.1,
  begins_kept s piece (length (lines_of s)) at.start at.begins,
  subst (λ ms. WithMembers told.0 ms text) (members_same p s at) told.2,
)

-- the place of a line stays, whatever follows
pub placed_kept : (s piece : List ℕ) (before : ℕ) (line : ReadLine) (text : List ℕ) → PlacedObject s before line text
    → PlacedObject (s ++ piece) before line text
placed_kept s piece before line text h = (h.0, h.1, h.2, begins_kept s piece before h.1 h.3, h.4)

-- ---- lines with their numbers

-- what is printed for a line of a stream is printed for it whatever follows
abbrev pub Stays : (List ℕ → ℕ → ReadLine → List ℕ → Type 0) → Type 0
Stays Prints = (s piece : List ℕ) (before : ℕ) (line : ReadLine) (text : List ℕ) → Prints s before line text
    → Prints (s ++ piece) before line text

-- so is what is printed for lines
pub numbered_stays : (Prints : List ℕ → ℕ → ReadLine → List ℕ → Type 0) → Stays Prints → (s piece : List ℕ) (before : ℕ)
    (lines : List ReadLine) (text : List ℕ) → NumberedText (Prints s) before lines text
    → NumberedText (Prints (s ++ piece)) before lines text
numbered_stays Prints stays s piece before [] text h = h
numbered_stays Prints stays s piece before (line ∷ lines) text h = (
  h.0,
  h.1,
  stays s piece before line h.0 h.2,
  numbered_stays Prints stays s piece (before + 1) lines h.1 h.3,
  h.4,
)

-- a line more
numbered_more : (Prints : ℕ → ReadLine → List ℕ → Type 0) (before : ℕ) (lines : List ReadLine) (line : ReadLine)
    (text one : List ℕ) → NumberedText Prints before lines text → Prints (before + length lines) line one
    → NumberedText Prints before (lines ++ (line ∷ [])) (text ++ (one ++ (10 ∷ [])))
numbered_more Prints before [] line text one h last = (
  one,
  [],
  subst (λ n. Prints n line one) (omega arith) last,
  refl,
  ap (λ l. l ++ (one ++ (10 ∷ []))) h,
)
numbered_more Prints before (first ∷ lines) line text one h last = (
  h.0,
  h.1 ++ (one ++ (10 ∷ [])),
  h.2,
  numbered_more Prints (before + 1) lines line h.1 one h.3 (subst (λ n. Prints n line one) (omega arith) last),
  ap (λ l. l ++ (one ++ (10 ∷ []))) h.4 ∙ append_assoc h.0 (10 ∷ h.1) (one ++ (10 ∷ [])),
)

-- what is printed if bytes come that end no line
pub each_passes : (Prints : List ℕ → ℕ → ReadLine → List ℕ → Type 0) → Stays Prints → (s piece text : List ℕ)
    (fed : Fed) → EachPlaced Prints s text → Feeds s piece fed → fed.line ≡ None
    → EachPlaced Prints (s ++ take fed.used piece) (text ++ [])
each_passes Prints stays s piece text fed h feeds none =
    let same : lines_of (s ++ take fed.used piece) ≡ lines_of s =
    feeds.gains ∙ ap (λ l. lines_of s ++ lent_lines l) none ∙ append-nil (lines_of s) in
    subst (λ t. NumberedText (Prints (s ++ take fed.used piece)) 0 (lines_of (s ++ take fed.used piece)) t)
    (sym (append-nil text))
    (subst (λ ls. NumberedText (Prints (s ++ take fed.used piece)) 0 ls text) (sym same)
    (numbered_stays Prints stays s (take fed.used piece) 0 (lines_of s) text h))

-- and if they end a line
pub each_ends : (Prints : List ℕ → ℕ → ReadLine → List ℕ → Type 0) → Stays Prints → (s piece text one : List ℕ)
    (fed : Fed) (line : Line) → EachPlaced Prints s text → Feeds s piece fed → fed.line ≡ Some line
    → Prints (s ++ take fed.used piece) (length (lines_of s)) (value_of line) one
    → EachPlaced Prints (s ++ take fed.used piece) (text ++ (one ++ (10 ∷ [])))
each_ends Prints stays s piece text one fed line h feeds some told =
    let all : List ℕ = s ++ take fed.used piece in
    let gains : lines_of all ≡ lines_of s ++ (value_of line ∷ []) =
    feeds.gains ∙ ap (λ l. lines_of s ++ lent_lines l) some in
    subst (λ ls. NumberedText (Prints all) 0 ls (text ++ (one ++ (10 ∷ [])))) (sym gains)
    (numbered_more (Prints all) 0 (lines_of s) (value_of line) text one
    (numbered_stays Prints stays s (take fed.used piece) 0 (lines_of s) text h)
    (subst (λ n. Prints all n (value_of line) one) (omega arith) told))

-- what is printed at a place is printed for the line that stands there
abbrev pub Stands : (List ℕ → ℕ → ReadLine → List ℕ → Type 0) → (Place → ReadLine → List ℕ → Type 0) → Type 0
Stands Prints Printed = (p : Place) (s piece : List ℕ) (line : ReadLine) (text : List ℕ) → IsPlaceIn p s
    → Printed p line text → Prints (s ++ piece) (length (lines_of s)) line text

-- a printer has heard the bytes of an answer if its place has passed them, and what it printed at the place before them
-- is what is printed for the line, if one was lent
pub heard_at : (Prints : List ℕ → ℕ → ReadLine → List ℕ → Type 0) (Printed : Place → ReadLine → List ℕ → Type 0)
    → Stays Prints → Stands Prints Printed → (p q : Place) (piece added : List ℕ) (fed : Fed) (line : Option Line)
    → fed.line ≡ line → AnyAt Printed p line added
    → ((s t : List ℕ) → IsPlaceIn p s → Feeds s t fed → IsPlaceIn q (s ++ take fed.used t)) → (s text : List ℕ)
    → IsPlaceIn p s → EachPlaced Prints s text → Feeds s piece fed
    → IsPlaceIn q (s ++ take fed.used piece) × EachPlaced Prints (s ++ take fed.used piece) (text ++ added)
heard_at Prints Printed stays stands p q piece added fed None is at passes s text reads prints feeds = (
  passes s piece reads feeds,
  subst (λ l. EachPlaced Prints (s ++ take fed.used piece) (text ++ l)) (sym at)
      (each_passes Prints stays s piece text fed prints feeds is),
)
heard_at Prints Printed stays stands p q piece added fed (Some line) is at passes s text reads prints feeds = (
  passes s piece reads feeds,
  subst (λ l. EachPlaced Prints (s ++ take fed.used piece) (text ++ l)) (sym at.2)
      (each_ends Prints stays s piece text at.0 fed line prints feeds is
      (stands p s (take fed.used piece) (value_of line) at.0 reads at.1)),
)

-- the objects of lines stand there
pub objects_stand : Stands PlacedObject ObjectAt
objects_stand p s piece line text at told = object_placed p s piece line text at told

-- the objects of lines stay
pub objects_stay : Stays PlacedObject
objects_stay s piece before line text h = placed_kept s piece before line text h

-- of no line nothing is printed
pub each_of_nothing : (Prints : List ℕ → ℕ → ReadLine → List ℕ → Type 0) → EachPlaced Prints [] []
each_of_nothing Prints = subst (λ ls. NumberedText (Prints []) 0 ls []) (sym empty_stream_has_no_line.0) refl

-- ---- the end

-- the object of a line that has not ended is that of its bytes and its place
unfinished_at : (p : Place) (s bytes : List ℕ) → IsPlaceIn p s → UnfinishedObject s bytes (ending_at p bytes)
unfinished_at p s [] at = refl
unfinished_at p s (b ∷ bytes) at = (
  at.start,
  at.begins,
  ap (λ ms. line_object (codes "unfinished") (b ∷ bytes) (member (codes "bytes") (whole (length (b ∷ bytes))) ∷ ms)
      ++ (10 ∷ [])) (members_same p s at),
)

-- it is that of bytes if there are some
pub ending_some : (p : Place) (b : List ℕ) → 0 < length b
    → ending_at p b ≡ line_object (codes "unfinished") b (unfinished_members (length b) (one_more p.lines) p.offset)
    ++ (10 ∷ [])
ending_some p [] some = absurd (omega (arith, some))
ending_some p (x ∷ b) some = refl

-- so it is at the end of a stream
pub ending_of : (p : Place) (s : List ℕ) → IsPlaceIn p s → (text : List ℕ) × Ending s text
ending_of p s at =
    (ending_at p (take kept_limit (rest_of s)), unfinished_at p s (take kept_limit (rest_of s)) at)

-- if the reader of lines has these bytes
pub ends_at : (p : Place) (s bytes : List ℕ) → IsPlaceIn p s → bytes ≡ take kept_limit (rest_of s)
    → Ending s (ending_at p bytes)
ends_at p s bytes at is =
    subst (λ l. UnfinishedObject s l (ending_at p bytes)) is (unfinished_at p s bytes at)

-- an object and a line end after it
unfinished_closed : (front bytes place b : List ℕ) (ms : List Member) → more_members ms ≡ bytes ++ place
    → front ++ (more_members ms ++ (125 ∷ [])) ≡ line_object (codes "unfinished") b ms
    → front ++ (bytes ++ (place ++ (125 ∷ 10 ∷ []))) ≡ line_object (codes "unfinished") b ms ++ (10 ∷ [])
unfinished_closed front bytes place b ms parts is =
    ap (λ (l : List ℕ). front ++ l)
    (ap (λ (l : List ℕ). bytes ++ l) (sym (append_assoc place (125 ∷ []) (10 ∷ [])))
    ∙ sym (append_assoc bytes (place ++ (125 ∷ [])) (10 ∷ []))
    ∙ ap (λ (l : List ℕ). l ++ (10 ∷ [])) (sym (append_assoc bytes place (125 ∷ []))
    ∙ ap (λ (l : List ℕ). l ++ (125 ∷ [])) (sym parts)))
    ∙ sym (append_assoc front (more_members ms ++ (125 ∷ [])) (10 ∷ []))
    ∙ ap (λ (l : List ℕ). l ++ (10 ∷ [])) is

-- the object of such a line is appended, and a line end
pub unfinished_gained : (p : Place) (old one two three four b : List ℕ) → one ≡ old ++ opening (codes "unfinished") b
    → two ≡ one ++ more_member (member (codes "bytes") (whole (length b)))
    → three ≡ two ++ more_members (members_of p) → four ≡ three ++ codes "}\n"
    → four ≡ old ++ (line_object (codes "unfinished") b (unfinished_members (length b) (one_more p.lines) p.offset)
    ++ (10 ∷ []))
unfinished_gained p old one two three four b first second third fourth =
    let front : List ℕ = opening (codes "unfinished") b in
    let bytes : List ℕ = more_member (member (codes "bytes") (whole (length b))) in
    let place : List ℕ = more_members (members_of p) in
    fourth
    ∙ ap (λ (l : List ℕ). l ++ codes "}\n") (third ∙ ap (λ (l : List ℕ). l ++ place) (second
    ∙ ap (λ (l : List ℕ). l ++ bytes) first))
    ∙ append_assoc ((old ++ front) ++ bytes) place (125 ∷ 10 ∷ [])
    ∙ append_assoc (old ++ front) bytes (place ++ (125 ∷ 10 ∷ []))
    ∙ append_assoc old front (bytes ++ (place ++ (125 ∷ 10 ∷ [])))
    ∙ ap (λ (l : List ℕ). old ++ l) (unfinished_closed front bytes place b
    (unfinished_members (length b) (one_more p.lines) p.offset) refl
    (closed (codes "unfinished") b (unfinished_members (length b) (one_more p.lines) p.offset)))
