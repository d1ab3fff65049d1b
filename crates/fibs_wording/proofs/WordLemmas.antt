-- The words of a text, taken off one by one.
use Rattle.std.proofs.Common.{◌≡◌, ◌∙◌, ◌+◌, ◌==◌, ℕ, Bool, true, false, not, cond, List, [], ◌∷◌, length, drop, Option, Some, None, if◌then◌else◌, refl, sym, ap, inl, inr, arith, nat_lt}
use Rattle.std.specs.List.{filter, onto_first, position_or_len, slice_split}
use Rattle.std.proofs.lemmas.Bool.{cases_Bool, cases_eq, eq-eqb, ltb-false, ne_eqb}
use Rattle.std.proofs.lemmas.Bool.Decides.{Decides-eqb}
use Rattle.std.proofs.lemmas.List.{drop-drop, drop_all}
use Rattle.fibs_fields.specs.Split.{before, after}
use Rattle.fibs_wording.specs.SavedLists.{in_front, words}

-- a byte is a space
abbrev pub is_space : ℕ → Bool
is_space b = b == 32

-- a part of a text is a word
abbrev pub is_full : List ℕ → Bool
is_full part = not (length part == 0)

-- the parts of what follows a space, if there is one
abbrev pub later_parts : Option (List ℕ) → List (List ℕ)
later_parts None = []
later_parts (Some rest) = slice_split is_space rest

-- the parts of a text are what is before the first space, and the parts of what follows it
pub parts_first : (text : List ℕ) → slice_split is_space text ≡ before 32 text ∷ later_parts (after 32 text)
parts_first [] = refl
parts_first (b ∷ s) = elim (cases_eq b 32) [
  | inl e ↦ rw (eq-eqb b 32 e) refl
  | inr n ↦ rw (ne_eqb b 32 n) (ap (onto_first b) (parts_first s))
]

-- a part in front of others
front_kept : (is : Bool) (part : List ℕ) (others : List (List ℕ))
    → cond (not is) (part ∷ others) others ≡ (if is then others else part ∷ others)
front_kept true part others = refl
front_kept false part others = refl

-- the words of a text are what is before the first space, if that is a word, and the words of what follows
pub words_first : (text : List ℕ)
    → words text ≡ in_front (before 32 text) (filter is_full (later_parts (after 32 text)))
words_first text = ap (filter is_full) (parts_first text)
    ∙ front_kept (length (before 32 text) == 0) (before 32 text) (filter is_full (later_parts (after 32 text)))

-- spaces at the front make no words
pub words_after_spaces : (text : List ℕ)
    → words (drop (position_or_len (λ b. not (is_space b)) text) text) ≡ words text
words_after_spaces [] = refl
words_after_spaces (b ∷ s) = elim (cases_eq b 32) [
  | inl e ↦ rw (eq-eqb b 32 e)
      (ap words (sym (drop-drop (position_or_len (λ c. not (is_space c)) s) 1 (b ∷ s))) ∙ words_after_spaces s)
  | inr n ↦ ap (λ is. words (drop (cond (not (not is)) (1 + position_or_len (λ c. not (is_space c)) s) 0) (b ∷ s)))
      (ne_eqb b 32 n)
]

-- a value is something
some_is_none : (n : ℕ) → ◌≡◌ {A = Option ℕ} (Some n) None → ⊥
some_is_none n h = cc

-- where the first byte is that is no space, if there is one
abbrev pub first_place : List ℕ → ℕ
first_place text = position_or_len (λ b. not (is_space b)) text

-- the same, as `position` answers
abbrev pub place_answered : List ℕ → Option ℕ
place_answered text = cond (nat_lt (first_place text) (length text)) (Some (first_place text)) None

-- a text of spaces has no words
pub words_none : (text : List ℕ) (r : Option ℕ) → r ≡ place_answered text → r ≡ None → words [] ≡ words text
words_none text r is none = elim (cases_Bool (nat_lt (first_place text) (length text))) [
  | inl within ↦
      let some : r ≡ Some (first_place text) = is ∙ ap (λ b. cond b (Some (first_place text)) None) within in
      absurd (some_is_none (first_place text) (sym some ∙ none))
  | inr past ↦
      ap words (sym (drop_all (first_place text) text (ltb-false (first_place text) (length text) past)))
      ∙ words_after_spaces text
]

-- of another one the words are those from that place on
pub words_some : (text : List ℕ) (r : Option ℕ) (at : ℕ) → r ≡ place_answered text → r ≡ Some at
    → words (drop at text) ≡ words text
words_some text r at is some = elim (cases_Bool (nat_lt (first_place text) (length text))) [
  | inl within ↦
      let same : Some at ≡ Some (first_place text) =
      sym some ∙ is ∙ ap (λ b. cond b (Some (first_place text)) None) within in
      let place : at ≡ first_place text = cc in
      ap (λ n. words (drop n text)) place ∙ words_after_spaces text
  | inr past ↦
      let none : r ≡ None = is ∙ ap (λ b. cond b (Some (first_place text)) None) past in
      absurd (some_is_none at (sym some ∙ none))
]

-- the first word was taken off a text without spaces in front, after which there is no space
pub taken_none : (text t word : List ℕ) → words t ≡ words text → word ≡ before 32 t → after 32 t ≡ None
    → words text ≡ in_front word (words [])
taken_none text t word same is none =
    sym same ∙ words_first t ∙ ap (λ o. in_front (before 32 t) (filter is_full (later_parts o))) none
    ∙ ap (λ w. in_front w (words [])) (sym is)

-- or after which there is one
pub taken_some : (text t word rest : List ℕ) → words t ≡ words text → word ≡ before 32 t → after 32 t ≡ Some rest
    → words text ≡ in_front word (words rest)
taken_some text t word rest same is some =
    sym same ∙ words_first t ∙ ap (λ o. in_front (before 32 t) (filter is_full (later_parts o))) some
    ∙ ap (λ w. in_front w (words rest)) (sym is)

-- a list that has no element
left_nil : (left : List ℕ) → (length left == 0) ≡ true → left ≡ []
left_nil [] none = refl
left_nil (b ∷ s) none = absurd (omega (arith, (Decides-eqb (length (b ∷ s)) 0).0 none))

-- spaces alone have no words
pub no_words : (text left : List ℕ) → words left ≡ words text → (length left == 0) ≡ true → words text ≡ []
no_words text left same none = sym (sym (ap words (left_nil left none)) ∙ same)

-- five words that were taken off are the words of a text
pub five_words : (text r1 r2 r3 r4 r5 w1 w2 w3 w4 w5 v3 v5 : List ℕ) → words text ≡ in_front w1 (words r1)
    → words r1 ≡ in_front w2 (words r2) → words r2 ≡ in_front w3 (words r3) → words r3 ≡ in_front w4 (words r4)
    → words r4 ≡ in_front w5 (words r5) → w3 ≡ v3 → w5 ≡ v5 → words r5 ≡ []
    → words text ≡ in_front w1 (in_front w2 (in_front v3 (in_front w4 (in_front v5 []))))
five_words text r1 r2 r3 r4 r5 w1 w2 w3 w4 w5 v3 v5 p1 p2 p3 p4 p5 e3 e5 last =
    p1 ∙ ap (in_front w1) (p2 ∙ ap (in_front w2) (p3 ∙ ap (λ w. in_front w (words r3)) e3
    ∙ ap (in_front v3) (p4 ∙ ap (in_front w4) (p5 ∙ ap (λ w. in_front w (words r5)) e5 ∙ ap (in_front v5) last))))
