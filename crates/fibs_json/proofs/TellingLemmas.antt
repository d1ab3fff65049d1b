-- An object tells its line: what is in a string ends at the next quotation mark, and tells the bytes.
use Rattle.std.proofs.Common.{◌≡◌, ◌/◌, ◌%◌, ◌==◌, ℕ, Bool, true, false, cond, List, [], ◌∷◌, ◌++◌, codes, drop, refl, sym, ap, ◌∙◌, append_assoc, arith, inl, inr}
use Rattle.std.proofs.lemmas.Bool.Decides.{nat_tests}
use Rattle.fibs_lines.specs.Lines.{ReadLine}
use Rattle.fibs_messages.specs.Line.{ReadingValue, numbered_line, board_line, text_line, malformed_line}
use Rattle.fibs_json.specs.Boards.{board_members}
use Rattle.fibs_json.specs.Columns.{message_members}
use Rattle.fibs_json.specs.Json.{Member, character, digit, in_string, inside, is_escaped, more_member, more_members, quoted}
use Rattle.fibs_json.specs.Lines.{ObjectAs, LineObject, ObjectsTellLines, OpeningsTell, ReadObject, line_object, opening, HeardAs, HeardObject, object_with, malformed_members}
use Rattle.fibs_json.specs.Plays.{PlaysObject, PlaysTellLines}
use Rattle.fibs_json.proofs.ObjectLemmas.{closed}

-- a hexadecimal digit tells its value
digit_tells : (d e : ℕ) → digit d ≡ digit e → d ≡ e
digit_tells d e h = grind (arith, nat_tests)

-- two tell a byte
parts_tell : (a b : ℕ) → a / 16 ≡ b / 16 → a % 16 ≡ b % 16 → a ≡ b
parts_tell a b high low = omega (arith, high, low)

-- a byte is known by its two hexadecimal digits
digits_tell : (a b : ℕ) → digit (a / 16) ≡ digit (b / 16) → digit (a % 16) ≡ digit (b % 16) → a ≡ b
digits_tell a b high low = parts_tell a b (digit_tells (a / 16) (b / 16) high) (digit_tells (a % 16) (b % 16) low)

-- a byte that stands as it is is no backslash, and no quotation mark
no_backslash : (b : ℕ) → is_escaped b ≡ false → 92 ≡ b → ⊥
no_backslash b plain same = grind (arith, nat_tests)

-- a byte that is printed as itself is no quotation mark
no_quote : (b : ℕ) → is_escaped b ≡ false → 34 ≡ b → ⊥
no_quote b plain same = grind (arith, nat_tests)

-- what begins with a backslash does not begin with a quotation mark
backslash_is_no_quote : (x y : List ℕ) → 34 ∷ x ≡ 92 ∷ y → ⊥
backslash_is_no_quote x y e = cc

-- lists that are the same have the same first element
heads : (a b : ℕ) (x y : List ℕ) → a ∷ x ≡ b ∷ y → a ≡ b
heads a b x y e = cc

-- lists that are the same have the same rest
tails : (a b : ℕ) (x y : List ℕ) → a ∷ x ≡ b ∷ y → x ≡ y
tails a b x y e = cc

-- two characters in a row of others
characters_tell : (a b : ℕ) (x y : List ℕ) → character a ++ x ≡ character b ++ y → (a ≡ b) × (x ≡ y)
characters_tell a b x y e =
    let at : digit (a / 16) ∷ digit (a % 16) ∷ x ≡ digit (b / 16) ∷ digit (b % 16) ∷ y =
    ap (λ (l : List ℕ). drop 4 l) e in
    let next = tails _ _ (digit (a % 16) ∷ x) (digit (b % 16) ∷ y) at in (
      digits_tell a b (heads _ _ _ _ at) (heads _ _ _ _ next),
      tails _ _ x y next,
    )

-- what stands for a byte tells it
byte_tells : (a b : ℕ) (p q : Bool) → is_escaped a ≡ p → is_escaped b ≡ q → (x y : List ℕ)
    → cond p (character a) (a ∷ []) ++ x ≡ cond q (character b) (b ∷ []) ++ y → (a ≡ b) × (x ≡ y)
byte_tells a b true true ea eb x y e = characters_tell a b x y e
byte_tells a b true false ea eb x y e = absurd (no_backslash b eb (heads 92 b _ y e))
byte_tells a b false true ea eb x y e = absurd (no_backslash a ea (sym (heads a 92 x _ e)))
byte_tells a b false false ea eb x y e = (heads a b x y e, tails a b x y e)

-- and is no quotation mark
byte_is_no_quote : (b : ℕ) (q : Bool) → is_escaped b ≡ q → (x y : List ℕ)
    → 34 ∷ x ≡ cond q (character b) (b ∷ []) ++ y → ⊥
byte_is_no_quote b true eb x y e = backslash_is_no_quote x _ e
byte_is_no_quote b false eb x y e = no_quote b eb (heads 34 b x y e)

-- bytes in a string, and what follows them
inside_tells : (a b x y : List ℕ) → inside a ++ (34 ∷ x) ≡ inside b ++ (34 ∷ y) → (a ≡ b) × (x ≡ y)
inside_tells [] [] x y e = (refl, tails 34 34 x y e)
inside_tells [] (b ∷ bs) x y e =
    absurd (byte_is_no_quote b (is_escaped b) refl x (inside bs ++ (34 ∷ y))
    (e ∙ append_assoc (in_string b) (inside bs) (34 ∷ y)))
inside_tells (a ∷ as') [] x y e =
    absurd (byte_is_no_quote a (is_escaped a) refl y (inside as' ++ (34 ∷ x))
    (sym e ∙ append_assoc (in_string a) (inside as') (34 ∷ x)))
inside_tells (a ∷ as') (b ∷ bs) x y e =
    let one = byte_tells a b (is_escaped a) (is_escaped b) refl refl (inside as' ++ (34 ∷ x)) (inside bs ++ (34 ∷ y))
    (sym (append_assoc (in_string a) (inside as') (34 ∷ x)) ∙ e ∙ append_assoc (in_string b) (inside bs) (34 ∷ y)) in
    let more = inside_tells as' bs x y one.1 in
    (ap (λ n. n ∷ as') one.0 ∙ ap (λ l. b ∷ l) more.0, more.1)

-- a string, and what follows it
quoted_tells : (a b x y : List ℕ) → quoted a ++ x ≡ quoted b ++ y → (a ≡ b) × (x ≡ y)
quoted_tells a b x y e =
    inside_tells a b x y
    (sym (append_assoc (inside a) (34 ∷ []) x)
    ∙ tails 34 34 ((inside a ++ (34 ∷ [])) ++ x) ((inside b ++ (34 ∷ [])) ++ y) e
    ∙ append_assoc (inside b) (34 ∷ []) y)

-- the kind and the bytes of an object, whatever follows them
pub openings_tell : OpeningsTell
unfolding more_member
openings_tell j k a b x y e =
    let line_j : List ℕ = codes ",\"line\":" ++ quoted a in
    let line_k : List ℕ = codes ",\"line\":" ++ quoted b in
    let all : (quoted j ++ line_j) ++ x ≡ (quoted k ++ line_k) ++ y = ap (λ (l : List ℕ). drop 8 l) e in
    let kinds : quoted j ++ (line_j ++ x) ≡ quoted k ++ (line_k ++ y) =
    sym (append_assoc (quoted j) line_j x) ∙ all ∙ append_assoc (quoted k) line_k y in
    let first = quoted_tells j k (line_j ++ x) (line_k ++ y) kinds in
    let lines : quoted a ++ x ≡ quoted b ++ y = ap (λ (l : List ℕ). drop 8 l) first.1 in
    (first.0, (quoted_tells a b x y lines).0)

-- those of an object of members
object_tells : (j k a b : List ℕ) (ms ns : List Member) → line_object j a ms ≡ line_object k b ns → (j ≡ k) × (a ≡ b)
object_tells j k a b ms ns e =
    openings_tell j k a b (more_members ms ++ (125 ∷ [])) (more_members ns ++ (125 ∷ []))
    (closed j a ms ∙ e ∙ sym (closed k b ns))

-- the word begins as `cut` does
abbrev begins_cut : List ℕ → Bool
begins_cut [] = false
begins_cut (b ∷ s) = b == 99

-- an object of a line: its kind says whether it was cut
record IsObject (cut : Bool) (bytes text : List ℕ) : Type 0 where
  kind : List ℕ
  members : List Member
  text_is : text ≡ line_object kind bytes members
  cut_is : begins_cut kind ≡ cut

-- the object of a line that was not cut is one of its bytes
object_of_reading : (bytes text : List ℕ) (reading : ReadingValue) → ReadObject bytes reading text
    → IsObject false bytes text
object_of_reading bytes text (numbered_line m) h =
    record { kind = codes "message"; members = message_members m; text_is = h; cut_is = refl }
object_of_reading bytes text (board_line b) h =
    record { kind = codes "board"; members = board_members b ++ h.0; text_is = h.2; cut_is = refl }
object_of_reading bytes text (text_line said) h =
    record { kind = codes "text"; members = []; text_is = h; cut_is = refl }
object_of_reading bytes text (malformed_line number field fault) h =
    record { kind = codes "malformed"; members = malformed_members number field fault; text_is = h; cut_is = refl }

-- the object of a line is one of its bytes, and says whether it was cut
object_of : (cut : Bool) (bytes text : List ℕ) → ObjectAs cut bytes text → IsObject cut bytes text
object_of true bytes text h = record { kind = codes "cut"; members = []; text_is = h; cut_is = refl }
object_of false bytes text h = object_of_reading bytes text h.0 h.2

-- a line is its bytes, and whether it was cut
same_line : (l m : ReadLine) → l.bytes ≡ m.bytes → l.cut ≡ m.cut → l ≡ m
same_line l m bytes cut =
    ap (λ (b : List ℕ). record l { bytes = b }) bytes ∙ ap (λ (c : Bool). record m { cut = c }) cut

-- lines with the same object are the same
pub objects_tell : ObjectsTellLines
objects_tell l m text one two =
    let p = object_of l.cut l.bytes text one in
    let q = object_of m.cut m.bytes text two in
    let both = object_tells p.kind q.kind l.bytes m.bytes p.members q.members (sym p.text_is ∙ q.text_is) in
    same_line l m both.1 (sym p.cut_is ∙ ap begins_cut both.0 ∙ q.cut_is)

-- the object of a line ends with a brace
pub ending_brace : (line : ReadLine) (text : List ℕ) → LineObject line text
    → (front : List ℕ) × (text ≡ front ++ (125 ∷ []))
ending_brace line text h =
    let o = object_of line.cut line.bytes text h in
    let front : List ℕ = opening o.kind line.bytes in (
      front ++ more_members o.members,
      o.text_is ∙ sym (closed o.kind line.bytes o.members)
          ∙ sym (append_assoc front (more_members o.members) (125 ∷ [])),
    )

-- an object of a line, with whatever further members
pub record IsOpened (bytes text : List ℕ) : Type 0 where
  pub kind : List ℕ
  pub more : List ℕ
  pub text_is : text ≡ object_with kind bytes more

-- an object of a line is one with further members
opened_of_object : (cut : Bool) (bytes text : List ℕ) → IsObject cut bytes text → IsOpened bytes text
opened_of_object cut bytes text h = record {
  kind = h.kind;
  more = more_members h.members;
  text_is = h.text_is ∙ sym (closed h.kind bytes h.members);
}

-- that of a line whose reading is known
opened_as : (cut : Bool) (bytes text : List ℕ) (reading : ReadingValue) → HeardAs cut bytes reading text
    → IsOpened bytes text
opened_as true bytes text reading h =
    opened_of_object true bytes text (record { kind = codes "cut"; members = []; text_is = h; cut_is = refl })
opened_as false bytes text reading h = opened_of_object false bytes text (object_of_reading bytes text reading h)

-- so is the object of a line that was heard
pub opened_of_heard : (line : ReadLine) (reading : ReadingValue) (text : List ℕ) → HeardObject line reading text
    → IsOpened line.bytes text
opened_of_heard line reading text h = opened_as line.cut line.bytes text reading h

-- that of a line with its plays
opened_of : (bytes text : List ℕ) (status : ℕ) → PlaysObject bytes text status → IsOpened bytes text
opened_of bytes text status h = elim h [
  | inl good ↦ record { kind = codes "board"; more = _; text_is = good.3.4 }
  | inr other ↦ opened_of_object false bytes text (object_of_reading bytes text other.1.0 other.1.2)
]

-- lines with the same object of plays are the same
pub plays_tell : PlaysTellLines
plays_tell k l text s t one two =
    let p = opened_of k text s one in
    let q = opened_of l text t two in
    (openings_tell p.kind q.kind k l (p.more ++ (125 ∷ [])) (q.more ++ (125 ∷ [])) (sym p.text_is ∙ q.text_is)).1
