-- The parts of an object, one after the other.
use Rattle.std.proofs.Common.{◌≡◌, ◌≤◌, ◌+◌, ◌*◌, ℕ, Bool, true, false, List, [], ◌∷◌, ◌++◌, codes, map, sum, refl, sym, ap, subst, ◌∙◌, append_assoc, append-nil, arith, inl, take, get_or, ◌<◌, length}
use Rattle.std.specs.List.{flat_map, range_with_len}
use Rattle.std.proofs.lemmas.List.{map-append, take_more}
use Rattle.std.proofs.lemmas.List.FromFn.{map-range_with_len_more}
use Rattle.std.proofs.lemmas.List.Sums.{sum_by_push}
use Rattle.std.proofs.Math.Nat.{mul-le-mul_left}
use Rattle.fibs_engine.proofs.EscapeLemmas.{flat_map-append}
use Rattle.fibs_lines.specs.Lines.{ReadLine}
use Rattle.fibs_fields.specs.Field.{FieldValue}
use Rattle.fibs_fields.specs.Board.{BoardFields}
use Rattle.fibs_messages.specs.Line.{IsReading, ReadingValue, board_line, reading_of}
use Rattle.fibs_messages.specs.declared.line.Reading.{Reading}
use Rattle.fibs_messages.specs.declared.line.Reading.TheVariants as R
use Rattle.fibs_fields.specs.declared.boards.board.Board.{Board}
use Rattle.fibs_messages.specs.Message.{MessageValue}
use Rattle.fibs_position.specs.GoodBoard.{IsGood}
use Rattle.fibs_position.specs.Phases.{InPhase}
use Rattle.fibs_position.specs.PositionValue.{PositionValue, position_of}
use Rattle.fibs_position.specs.declared.phase.Phase.{Phase}
use Rattle.fibs_json.specs.Boards.{PositionMembers, position_members}
use Rattle.fibs_json.specs.Columns.{NamedField, field_member, field_members, message_members, row_of}
use Rattle.fibs_json.specs.Parts.{field_text}
use Rattle.fibs_json.specs.Json.{Member, member, more_member, more_members, quoted, string, whole}
use Rattle.fibs_json.specs.Lines.{HeardAs, HeardObject, LineObject, ObjectAs, ReadObject, line_object, object_with, opening}

-- the front of an object, its further members and its end are the object
pub closed : (kind bytes : List ℕ) (ms : List Member)
    → opening kind bytes ++ (more_members ms ++ (125 ∷ [])) ≡ line_object kind bytes ms
closed kind bytes ms =
    let line : List ℕ = more_member (member (codes "line") (string bytes)) in
    let more : List ℕ = more_members ms in
    let front : List ℕ = codes "{\"kind\":" in
    ap (λ (l : List ℕ). front ++ l)
    (append_assoc (quoted kind) line (more ++ (125 ∷ []))
    ∙ ap (λ (l : List ℕ). quoted kind ++ l) (sym (append_assoc line more (125 ∷ []))))

-- a text that gained the front, the further members and the end gained the object
pub gained : (old kind bytes one two three : List ℕ) (ms : List Member) → one ≡ old ++ opening kind bytes
    → two ≡ one ++ more_members ms → three ≡ two ++ (125 ∷ []) → three ≡ old ++ line_object kind bytes ms
gained old kind bytes one two three ms first second third =
    let more : List ℕ = more_members ms in
    third
    ∙ ap (λ (l : List ℕ). l ++ (125 ∷ [])) (second ∙ ap (λ (l : List ℕ). l ++ more) first)
    ∙ append_assoc (old ++ opening kind bytes) more (125 ∷ [])
    ∙ append_assoc old (opening kind bytes) (more ++ (125 ∷ []))
    ∙ ap (λ (l : List ℕ). old ++ l) (closed kind bytes ms)

-- one member more
pub first_member : (old one : List ℕ) (m : Member) → one ≡ old ++ more_member m → one ≡ old ++ more_members (m ∷ [])
first_member old one m e = e ∙ ap (λ (l : List ℕ). old ++ l) (sym (append-nil (more_member m)))

-- further members
pub next_members : (old one two : List ℕ) (ms ns : List Member) → one ≡ old ++ more_members ms
    → two ≡ one ++ more_members ns → two ≡ old ++ more_members (ms ++ ns)
next_members old one two ms ns first second =
    let more : List ℕ = more_members ns in
    second
    ∙ ap (λ (l : List ℕ). l ++ more) first
    ∙ append_assoc old (more_members ms) more
    ∙ ap (λ (l : List ℕ). old ++ l) (sym (flat_map-append more_member ms ns))

-- a further member
pub next_member : (old one two : List ℕ) (ms : List Member) (m : Member) → one ≡ old ++ more_members ms
    → two ≡ one ++ more_member m → two ≡ old ++ more_members (ms ++ (m ∷ []))
next_member old one two ms m first second =
    next_members old one two ms (m ∷ []) first (first_member one two m second)

-- the texts of the fields of a message are those of its members
field_texts : (fields : List FieldValue) (names : List NamedField)
    → flat_map (field_text fields) names ≡ more_members (flat_map (field_member fields) names)
unfolding field_text
field_texts fields [] = refl
field_texts fields (n ∷ names) =
    ap (λ (l : List ℕ). more_members (field_member fields n) ++ l) (field_texts fields names)
    ∙ sym (flat_map-append more_member (field_member fields n) (flat_map (field_member fields) names))

-- the number, the word and the fields are the members of a message
pub said : (m : MessageValue) (old one two three : List ℕ)
    → one ≡ old ++ more_member (member (codes "number") (whole m.number))
    → two ≡ one ++ more_member (member (codes "message") (string (row_of m.number).word))
    → three ≡ two ++ flat_map (field_text m.fields) (row_of m.number).fields
    → three ≡ old ++ more_members (message_members m)
said m old one two three first second third =
    let number : Member = member (codes "number") (whole m.number) in
    let word : Member = member (codes "message") (string (row_of m.number).word) in
    let both = next_members old one two (number ∷ []) (word ∷ []) (first_member old one number first)
    (first_member one two word second) in
    next_members old two three (number ∷ word ∷ []) (field_members m) both
    (third ∙ ap (λ (l : List ℕ). two ++ l) (field_texts m.fields (row_of m.number).fields))

-- what is printed by its position for a good board
pub placed : (b : BoardFields) (v : PositionValue) (old now : List ℕ) → IsGood b → v ≡ position_of b
    → ((phase : Phase) × InPhase v phase × (now ≡ old ++ more_members (position_members phase v)))
    → (ms : List Member) × PositionMembers b ms × (now ≡ old ++ more_members ms)
placed b v old now good same h = (
  position_members h.0 (position_of b),
  inl (good, (h.0, subst (λ p. InPhase p h.0) same h.1, refl)),
  h.2 ∙ ap (λ p. old ++ more_members (position_members h.0 p)) same,
)

-- the object of a line that was cut
pub cut_object : (line : ReadLine) → line.cut ≡ true → LineObject line (line_object (codes "cut") line.bytes [])
cut_object line e =
    let P : Bool → Type 0 = λ b. ObjectAs b line.bytes (line_object (codes "cut") line.bytes []) in
    subst P (sym e) refl

-- of a line that was not
pub read_object : (line : ReadLine) (reading : ReadingValue) (text : List ℕ) → line.cut ≡ false
    → IsReading line.bytes reading → ReadObject line.bytes reading text → LineObject line text
read_object line reading text e reads is =
    let P : Bool → Type 0 = λ b. ObjectAs b line.bytes text in
    subst P (sym e) (reading, reads, is)

-- the checkers of one place more
pub checkers_more : (f : ℕ → ℕ) (old now : List ℕ) (place count : ℕ) → old ≡ map f (range_with_len 0 place)
    → now ≡ old ++ (count ∷ []) → count ≡ f place → now ≡ map f (range_with_len 0 (place + 1))
checkers_more f old now place count before grown here =
    rw (map-range_with_len_more f 0 place place (omega arith))
    (grown ∙ ap (λ (l : List ℕ). l ++ (count ∷ [])) before
    ∙ ap (λ (n : ℕ). map f (range_with_len 0 place) ++ (n ∷ [])) here)

-- a place that is at most 25 away, with at most 15 checkers, adds at most 375 pips
pub pips_more : (f : ℕ → ℕ) (pips place away count : ℕ) → away ≤ 25 → count ≤ 15 → f place ≡ away * count
    → (pips ≡ sum (map f (range_with_len 0 place))) × (pips ≤ 375 * place)
    → (pips + away * count ≡ sum (map f (range_with_len 0 (place + 1)))) × (pips + away * count ≤ 375 * (place + 1))
pips_more f pips place away count near few here before = (
  rw (
    map-range_with_len_more f 0 place place (omega arith),
    sum_by_push (λ x. x) (map f (range_with_len 0 place))
        (f place),
  )
      (omega (arith, before.0, here)),
  let most : away * count ≤ away * 15 = mul-le-mul_left away few in omega (arith, before.1),
)

-- a text that gained the front, the text of further members and the end gained the object
pub gained_with : (old kind bytes more one two three : List ℕ) → one ≡ old ++ opening kind bytes → two ≡ one ++ more
    → three ≡ two ++ (125 ∷ []) → three ≡ old ++ object_with kind bytes more
gained_with old kind bytes more one two three first second third =
    third
    ∙ ap (λ (l : List ℕ). l ++ (125 ∷ [])) (second ∙ ap (λ (l : List ℕ). l ++ more) first)
    ∙ append_assoc (old ++ opening kind bytes) more (125 ∷ [])
    ∙ append_assoc old (opening kind bytes) (more ++ (125 ∷ []))

-- the same with members, and then a text
pub gained_both : (old kind bytes plays one two three four five : List ℕ) (ms ns : List Member)
    → one ≡ old ++ opening kind bytes → two ≡ one ++ more_members ms → three ≡ two ++ more_members ns
    → four ≡ three ++ plays → five ≡ four ++ (125 ∷ [])
    → five ≡ old ++ object_with kind bytes (more_members (ms ++ ns) ++ plays)
gained_both old kind bytes plays one two three four five ms ns first second third fourth fifth =
    let more : List ℕ = more_members (ms ++ ns) in
    gained_with old kind bytes (more ++ plays) one four five first
    (fourth ∙ ap (λ (l : List ℕ). l ++ plays) (next_members one two three ms ns second third)
    ∙ append_assoc one more plays)
    fifth

-- the object of a line whose reading is known, if it was cut
pub cut_heard : (line : ReadLine) (reading : ReadingValue) → line.cut ≡ true
    → HeardObject line reading (line_object (codes "cut") line.bytes [])
cut_heard line reading e =
    let P : Bool → Type 0 = λ b. HeardAs b line.bytes reading (line_object (codes "cut") line.bytes []) in
    subst P (sym e) refl

-- if it was not
pub read_heard : (line : ReadLine) (reading : ReadingValue) (text : List ℕ) → line.cut ≡ false
    → ReadObject line.bytes reading text → HeardObject line reading text
read_heard line reading text e is =
    let P : Bool → Type 0 = λ b. HeardAs b line.bytes reading text in
    subst P (sym e) is

-- the texts of the items up to one, and its own
pub items_more : {A B : Type 0} (f : A → B) (text : B → List ℕ) (xs : List A) (i : ℕ) (x : A) (old mid now : List ℕ)
    → i < length xs → x ≡ get_or xs i x → mid ≡ old ++ flat_map text (map f (take i xs)) → now ≡ mid ++ text (f x)
    → now ≡ old ++ flat_map text (map f (take (i + 1) xs))
items_more f text xs i x old mid now within is before next =
    let some = map f (take i xs) in
    let more = ap (map f) (take_more xs i x within ∙ ap (λ y. take i xs ++ y ∷ []) (sym is))
    ∙ map-append f (take i xs) (x ∷ []) in
    next ∙ ap (λ (l : List ℕ). l ++ text (f x)) before ∙ append_assoc old (flat_map text some) (text (f x))
    ∙ ap (λ (l : List ℕ). old ++ l) (sym (ap (flat_map text) more ∙ flat_map-append text some (f x ∷ [])
    ∙ ap (λ (l : List ℕ). flat_map text some ++ l) (append-nil (text (f x)))))

-- a text that had nothing, and gained an object and a line end
pub line_whole : (none one two three shown : List ℕ) → none ≡ [] → one ≡ none ++ shown → two ≡ one ++ (10 ∷ [])
    → three ≡ two → three ≡ shown ++ (10 ∷ [])
line_whole none one two three shown empty first second third =
    third ∙ second ∙ ap (λ (l : List ℕ). l ++ (10 ∷ [])) (first ∙ ap (λ (l : List ℕ). l ++ shown) empty)

-- a text that gained four parts
pub gained_four : (old a b c d one two three four : List ℕ) → one ≡ old ++ a → two ≡ one ++ b → three ≡ two ++ c
    → four ≡ three ++ d → four ≡ old ++ (a ++ (b ++ (c ++ d)))
gained_four old a b c d one two three four first second third fourth =
    fourth
    ∙ ap (λ (l : List ℕ). l ++ d) (third ∙ ap (λ (l : List ℕ). l ++ c) (second
    ∙ ap (λ (l : List ℕ). l ++ b) first))
    ∙ append_assoc ((old ++ a) ++ b) c d
    ∙ append_assoc (old ++ a) b (c ++ d)
    ∙ append_assoc old a (b ++ (c ++ d))

-- a reading that is no board says none
pub says_no_board : (r : Reading) (b : BoardFields) → ((board : Board) → r ≡ R.Board board → ⊥)
    → reading_of r ≡ board_line b → ⊥
says_no_board (R.Numbered message) b none e = cc
says_no_board (R.Board board) b none e = none board refl
says_no_board (R.Text text) b none e = cc
says_no_board (R.Malformed number field fault) b none e = cc
