-- An object goes in again: the line is found in it, and no other.
use Rattle.std.proofs.Common.{◌≡◌, ◌≢◌, ◌⊎◌, ℕ, true, false, not, eqb, List, [], ◌∷◌, ◌++◌, codes, Option, Some, None, refl, sym, ap, subst, ◌∙◌, append_assoc, arith, inl, inr, MatchOption}
use Rattle.std.specs.Borrow.{Bor}
use Rattle.std.proofs.lemmas.Bool.{or_parts}
use Rattle.std.proofs.lemmas.Bool.Decides.{nat_tests}
use Rattle.std.proofs.lemmas.List.{append_cancel_left, append_cancel_right}
use Rattle.std.specs.List.{list_any}
use Rattle.fibs_fields.proofs.FieldLemmas.Splits.{before-behind, behind, cut_off, has_no}
use Rattle.fibs_fields.specs.Split.{after, before, seen}
use Rattle.std.specs.Option.{is_some}
use Rattle.fibs_fields.specs.Board.{BoardFields}
use Rattle.fibs_messages.specs.Line.{board_line}
use Rattle.fibs_json.specs.Boards.{board_members}
use Rattle.fibs_json.specs.Parts.{BeginsWith, front}
use Rattle.fibs_json.specs.Json.{inside, is_escaped, more_member, more_members}
use Rattle.fibs_json.specs.Lines.{ReadObject, object_with}
use Rattle.fibs_json.specs.Plays.{PlaysOf}
use Rattle.fibs_json.specs.Told.{BoardsGoInAgain, IsNoObject, IsObjectOf, OtherWordsAreLines, StandsAsItIs, WordsSayOneLine, begins_object}
use Rattle.fibs_json.proofs.ObjectLemmas.{closed}
use Rattle.fibs_json.proofs.TellingLemmas.{openings_tell}

-- a byte that stands as it is, in a string
plain_byte : (b : ℕ) → is_escaped b ≡ false → not (eqb b 34) ≡ true
plain_byte b h = grind (arith, nat_tests)

-- bytes none of which is escaped are their own text
inside_plain : (line : List ℕ) → StandsAsItIs line → inside line ≡ line
inside_plain [] h = refl
inside_plain (b ∷ line) h =
    let p = or_parts (is_escaped b) (list_any is_escaped line) h in
    rw p.0 (ap (λ (l : List ℕ). b ∷ l) (inside_plain line p.1))

-- no quotation mark is among them
no_mark : (line : List ℕ) → StandsAsItIs line → has_no 34 line ≡ true
no_mark [] h = refl
no_mark (b ∷ line) h =
    let p = or_parts (is_escaped b) (list_any is_escaped line) h in
    rw (plain_byte b p.0) (no_mark line p.1)

-- the object of a board's line is its front, the line, a quotation mark, what follows, and a brace
whole : (line more : List ℕ) → StandsAsItIs line
    → object_with (codes "board") line more ≡ (front ++ (line ++ (34 ∷ more))) ++ (125 ∷ [])
unfolding more_member
whole line more h =
    ap (λ (l : List ℕ). front ++ l)
    (append_assoc (inside line) (34 ∷ []) (more ++ (125 ∷ []))
    ∙ ap (λ (l : List ℕ). l ++ (34 ∷ (more ++ (125 ∷ [])))) (inside_plain line h)
    ∙ sym (append_assoc line (34 ∷ more) (125 ∷ [])))

-- a word that ends in a brace, and what precedes it without its front
pub without_front : (word object : List ℕ) (r : Option (Bor (List ℕ))) → word ≡ object ++ (125 ∷ [])
    → MatchOption r ((rest : List ℕ) → object ≢ front ++ rest) (λ rest. object ≡ front ++ rest.now)
    → MatchOption r ((rest : List ℕ) → word ≢ (front ++ rest) ++ (125 ∷ []))
    (λ rest. word ≡ (front ++ rest.now) ++ (125 ∷ []))
without_front word object None is none =
    λ rest e. none rest (append_cancel_right object (front ++ rest) (125 ∷ []) (sym is ∙ e))
without_front word object (Some rest) is some = is ∙ ap (λ (l : List ℕ). l ++ (125 ∷ [])) some

-- what is between the front and the brace of an object begins with its line
object_begins : (word rest line : List ℕ) → word ≡ (front ++ rest) ++ (125 ∷ []) → IsObjectOf line word
    → BeginsWith line rest
object_begins word rest line is h =
    let same = sym is ∙ h.1.1 ∙ whole line h.1.0 h.0 in
    let inside = append_cancel_right (front ++ rest) (front ++ (line ++ (34 ∷ h.1.0))) (125 ∷ []) same in
    (h.0, (h.1.0, append_cancel_left front rest (line ++ (34 ∷ h.1.0)) inside))

-- and the other way round
begins_object_of : (word rest line : List ℕ) → word ≡ (front ++ rest) ++ (125 ∷ []) → BeginsWith line rest
    → IsObjectOf line word
begins_object_of word rest line is h =
    (h.0, (h.1.0, is ∙ ap (λ (l : List ℕ). (front ++ l) ++ (125 ∷ [])) h.1.1 ∙ sym (whole line h.1.0 h.0)))

-- an object of a line has a front and a brace
object_has_rest : (word line : List ℕ) → IsObjectOf line word
    → (rest : List ℕ) × (word ≡ (front ++ rest) ++ (125 ∷ []))
object_has_rest word line h = (line ++ (34 ∷ h.1.0), h.1.1 ∙ whole line h.1.0 h.0)

-- a text that begins with a line is cut after it
cut_after : (text line more : List ℕ) → StandsAsItIs line → text ≡ line ++ (34 ∷ more)
    → (before 34 text ≡ line) × (after 34 text ≡ Some more)
cut_after text line more h is = rw is (cut_off 34 line (34 ∷ more) (no_mark line h) refl)

-- the line that is before a quotation mark
begins : (text line more : List ℕ) → line ≡ before 34 text → Some more ≡ after 34 text → StandsAsItIs line
    → BeginsWith line text
begins text line more first second h =
    let text_is = sym (before-behind 34 text) ∙ ap (λ (l : List ℕ). l ++ behind 34 (after 34 text)) (sym first)
    ∙ ap (λ (o : Option (List ℕ)). line ++ behind 34 o) (sym second) in
    (h, (more, text_is))

-- without a quotation mark there is none
no_end : (text line : List ℕ) → None ≡ after 34 text → ¬ BeginsWith line text
no_end text line none h =
    let found : None ≡ Some h.1.0 = none ∙ (cut_after text line h.1.0 h.0 h.1.1).1 in absurd (cc)

-- nor if a byte before it is escaped
pub no_plain : (text found line : List ℕ) → found ≡ before 34 text → list_any is_escaped found ≡ true
    → ¬ BeginsWith line text
no_plain text found line is escaped h =
    let same : found ≡ line = is ∙ (cut_after text line h.1.0 h.0 h.1.1).0 in
    let plain : list_any is_escaped found ≡ false = ap (list_any is_escaped) same ∙ h.0 in absurd (cc)

-- what is after the first quotation mark, if there is one, and what is before it
pub line_found : (text line : List ℕ) (more : Option (Bor (List ℕ))) → line ≡ before 34 text → seen more ≡ after 34 text
    → is_some more ≡ true → list_any is_escaped line ≡ false → BeginsWith line text
line_found text line None first second some plain = absurd (cc)
line_found text line (Some more) first second some plain = begins text line more.now first second plain

-- if there is none, the text begins with no line
pub line_missing : (text : List ℕ) (more : Option (Bor (List ℕ))) → seen more ≡ after 34 text → is_some more ≡ false
    → (line : List ℕ) → ¬ BeginsWith line text
line_missing text None second none line = no_end text line second
line_missing text (Some more) second none line = absurd (cc)

-- the line of what a word has between its front and its brace is the line of the word
pub line_of_rest : (word rest : List ℕ) (r : Option (Bor (List ℕ))) → word ≡ (front ++ rest) ++ (125 ∷ [])
    → MatchOption r ((line : List ℕ) → ¬ BeginsWith line rest) (λ line. BeginsWith line.now rest)
    → MatchOption r (IsNoObject word) (λ line. IsObjectOf line.now word)
line_of_rest word rest None is none = λ line h. none line (object_begins word rest line is h)
line_of_rest word rest (Some line) is h = begins_object_of word rest line.now is h

-- a word without that front or that brace is no object
pub no_rest : (word : List ℕ) → ((rest : List ℕ) → word ≢ (front ++ rest) ++ (125 ∷ [])) → IsNoObject word
no_rest word none line h = let has = object_has_rest word line h in none has.0 has.1

-- two lines of one object
one_object : (word j k : List ℕ) → IsObjectOf j word → IsObjectOf k word → j ≡ k
one_object word j k one two =
    (openings_tell (codes "board") (codes "board") j k (one.1.0 ++ (125 ∷ [])) (two.1.0 ++ (125 ∷ []))
    (sym one.1.1 ∙ two.1.1)).1

-- no word says two lines
pub words_say_one : WordsSayOneLine
words_say_one word j k one two = elim one [
  | inl a ↦ elim two [
    | inl b ↦ one_object word j k a b
    | inr b ↦ absurd (b.0 j a)
  ]
  | inr a ↦ elim two [
    | inl b ↦ absurd (a.0 k b)
    | inr b ↦ a.1 ∙ sym b.1
  ]
]

-- the object of a board's line, without its plays or with them
board_object : (b : BoardFields) (line text : List ℕ) → StandsAsItIs line
    → ReadObject line (board_line b) text ⊎ PlaysOf line b text → IsObjectOf line text
board_object b line text h shown = elim shown [
  | inl read ↦ (
    h,
    (
      more_members (board_members b ++ read.0),
      read.2 ∙ sym (closed (codes "board") line (board_members b ++ read.0)),
    ),
  )
  | inr plays ↦ (h, (_, plays.4))
]

-- what is printed for a board's line says that line alone
pub go_in_again : BoardsGoInAgain
go_in_again b line text said h shown =
    let is = board_object b line text h shown in (
      (λ says. words_say_one text said line says (inl is)),
      (λ same. inl (subst (λ l. IsObjectOf l text) (sym same) is)),
    )

-- a word that is an object begins as one
begins_so : (word line : List ℕ) → IsObjectOf line word → begins_object word ≡ true
unfolding more_member
begins_so word line h = ap begins_object h.1.1

-- so any other is none
no_object : (word : List ℕ) → begins_object word ≡ false → IsNoObject word
no_object word h line is = let both : true ≡ false = sym (begins_so word line is) ∙ h in absurd (cc)

-- a word that does not begin as an object says itself alone
pub others_are_lines : OtherWordsAreLines
others_are_lines word line h =
    let none = no_object word h in (
      (λ says. words_say_one word line word says (inr (none, refl))),
      (λ same. inr (none, same)),
    )
