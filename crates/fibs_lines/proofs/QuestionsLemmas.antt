-- What is kept of a login byte by byte is what its whole lines and the one that has not ended say.
use Rattle.std.proofs.Common.{◌≡◌, ◌==◌, ◌&&◌, ◌||◌, ◌<◌, ◌≤◌, ◌-◌, ℕ, zero, suc, Bool, true, false, cond, not, inl, inr, List, [], ◌∷◌, ◌++◌, length, take, refl, sym, ap, subst, ◌∙◌, arith, append_assoc, append-nil, if◌then◌else◌, nat_lt}
use Rattle.std.specs.List.{after_last, filter, list_any}
use Rattle.std.proofs.lemmas.Bool.{cases_lt, cond-true, cond-false, eqb-true, lt-ltb, le-ltb}
use Rattle.std.proofs.lemmas.List.Elements.{filter-append}
use Rattle.std.proofs.lemmas.List.Folds.{list_any-append}
use Rattle.fibs_lines.specs.Lines.{finished_parts, is_line_end}
use Rattle.fibs_lines.proofs.Advancing.{take-grown}
use Rattle.fibs_lines.proofs.Parts.{after_end, after_last-is, finished, finished_parts-is, has_end}
use Rattle.fibs_lines.proofs.Streams.{after_end-append_end, after_end-append_none, finished-append_end, finished-append_none}
use Rattle.fibs_lines.specs.Questions.{HasCome, IsAskedAgain, MoreComes, asks_again, greets, is_question, open_line, whole_lines, without_returns}
use Rattle.fibs_lines.specs.QuestionsSteps.{after_byte, after_bytes, after_line, asks_now, line_after, with_byte}
use Rattle.fibs_lines.specs.declared.questions.Questions.{Questions}

-- whether a line asks is said by its first nine bytes
question_front : (l : List ℕ) → is_question (take 9 l) ≡ is_question l
question_front [] = refl
question_front (a ∷ []) = refl
question_front (a ∷ b ∷ []) = refl
question_front (a ∷ b ∷ c ∷ []) = refl
question_front (a ∷ b ∷ c ∷ d ∷ []) = refl
question_front (a ∷ b ∷ c ∷ d ∷ e ∷ []) = refl
question_front (a ∷ b ∷ c ∷ d ∷ e ∷ f ∷ []) = refl
question_front (a ∷ b ∷ c ∷ d ∷ e ∷ f ∷ g ∷ []) = refl
question_front (a ∷ b ∷ c ∷ d ∷ e ∷ f ∷ g ∷ h ∷ l) = refl

-- and so is whether it greets
greets_front : (l : List ℕ) → greets (take 9 l) ≡ greets l
greets_front [] = refl
greets_front (a ∷ []) = refl
greets_front (a ∷ b ∷ []) = refl
greets_front (a ∷ b ∷ c ∷ []) = refl
greets_front (a ∷ b ∷ c ∷ d ∷ []) = refl
greets_front (a ∷ b ∷ c ∷ d ∷ e ∷ []) = refl
greets_front (a ∷ b ∷ c ∷ d ∷ e ∷ f ∷ []) = refl
greets_front (a ∷ b ∷ c ∷ d ∷ e ∷ f ∷ g ∷ []) = refl
greets_front (a ∷ b ∷ c ∷ d ∷ e ∷ f ∷ g ∷ h ∷ []) = refl
greets_front (a ∷ b ∷ c ∷ d ∷ e ∷ f ∷ g ∷ h ∷ i ∷ []) = refl
greets_front (a ∷ b ∷ c ∷ d ∷ e ∷ f ∷ g ∷ h ∷ i ∷ j ∷ l) = refl

-- a byte that ends no line
no_end : (b : ℕ) → (b == 10) ≡ false → has_end (b ∷ []) ≡ false
unfolding has_end
no_end b other = ap (λ t. cond t true false) other

-- a line end ends the line that had not ended
whole_ended : (p : List ℕ) → finished_parts (p ++ 10 ∷ []) ≡ finished_parts p ++ after_last is_line_end p ∷ []
whole_ended p =
    finished_parts-is (p ++ 10 ∷ []) ∙ finished-append_end p
    ∙ ap (λ ls. ls ++ after_end p ∷ []) (sym (finished_parts-is p))
    ∙ ap (λ l. finished_parts p ++ l ∷ []) (sym (after_last-is p))

-- and begins another one
open_ended : (p : List ℕ) → after_last is_line_end (p ++ 10 ∷ []) ≡ []
open_ended p = after_last-is (p ++ 10 ∷ []) ∙ after_end-append_end p

-- another byte ends none
whole_more : (p : List ℕ) (b : ℕ) → (b == 10) ≡ false → finished_parts (p ++ b ∷ []) ≡ finished_parts p
whole_more p b other =
    finished_parts-is (p ++ b ∷ []) ∙ finished-append_none p (b ∷ []) (no_end b other) ∙ sym (finished_parts-is p)

-- and is one more of the line that has not ended
open_more : (p : List ℕ) (b : ℕ) → (b == 10) ≡ false
    → after_last is_line_end (p ++ b ∷ []) ≡ after_last is_line_end p ++ b ∷ []
open_more p b other =
    after_last-is (p ++ b ∷ []) ∙ after_end-append_none p (b ∷ []) (no_end b other)
    ∙ ap (λ l. l ++ b ∷ []) (sym (after_last-is p))

-- a byte that is no CR stays
stays : (s : List ℕ) (b : ℕ) → (b == 13) ≡ false → without_returns (s ++ b ∷ []) ≡ without_returns s ++ b ∷ []
stays s b other =
    filter-append (λ b. not (b == 13)) s (b ∷ [])
    ∙ ap (λ t. without_returns s ++ cond (not t) (b ∷ []) []) other

-- and a CR does not
goes : (s : List ℕ) (b : ℕ) → (b == 13) ≡ true → without_returns (s ++ b ∷ []) ≡ without_returns s
goes s b is =
    filter-append (λ b. not (b == 13)) s (b ∷ []) ∙ ap (λ t. without_returns s ++ cond (not t) (b ∷ []) []) is
    ∙ append-nil (without_returns s)

-- one of some bytes, if there is room
take_one : (k b : ℕ) → 0 < k → take k (b ∷ []) ≡ b ∷ []
take_one zero b some = absurd (omega (arith, some))
take_one (suc zero) b some = refl
take_one (suc (suc k)) b some = refl

-- the first bytes of a line after one more
grown : (l : List ℕ) (b : ℕ) → line_after (take 9 l) b ≡ take 9 (l ++ b ∷ [])
grown l b =
    let kept = take 9 l in
    elim (cases_lt (length kept) 9) [
      | inl room ↦
          cond-true (nat_lt (length kept) 9) (kept ++ b ∷ []) kept (lt-ltb (length kept) 9 room)
          ∙ ap (λ q. kept ++ q) (sym (take_one (9 - length kept) b (omega (arith, room))))
          ∙ take-grown 9 l (b ∷ [])
      | inr none ↦
          cond-false (nat_lt (length kept) 9) (kept ++ b ∷ []) kept (le-ltb (length kept) 9 none)
          ∙ sym (append-nil kept)
          ∙ ap (λ k. kept ++ take k (b ∷ [])) (the_rest (length kept) none)
          ∙ take-grown 9 l (b ∷ [])
    ]
  where
    the_rest : (n : ℕ) → 9 ≤ n → 0 ≡ 9 - n
    the_rest n none = omega (arith, none)

-- a test of one more line
any_more : (test : List ℕ → Bool) (ls : List (List ℕ)) (l : List ℕ) (t : Bool) → t ≡ list_any test ls
    → (t || test l) ≡ list_any test (ls ++ l ∷ [])
any_more test ls l t is =
    ap (λ t. t || test l) is ∙ ap (λ u. list_any test ls || u) (sym (or_none (test l)))
    ∙ sym (list_any-append test ls (l ∷ []))
  where
    or_none : (u : Bool) → (u || false) ≡ u
    or_none true = refl
    or_none false = refl

-- after a line end
ended : (q : Questions) (s : List ℕ) → HasCome q s → HasCome (after_line q) (s ++ 10 ∷ [])
ended q s h =
    let p = without_returns s in
    let same = stays s 10 refl in
    let whole = ap finished_parts same ∙ whole_ended p in
    record {
      asked =
          ap (λ l. q.has_asked || is_question l) h.begun
          ∙ ap (λ t. q.has_asked || t) (question_front (open_line s))
          ∙ any_more is_question (whole_lines s) (open_line s) q.has_asked h.asked
          ∙ ap (list_any is_question) (sym whole);
      greeted =
          ap (λ l. q.is_greeted || greets l) h.begun
          ∙ ap (λ t. q.is_greeted || t) (greets_front (open_line s))
          ∙ any_more greets (whole_lines s) (open_line s) q.is_greeted h.greeted
          ∙ ap (list_any greets) (sym whole);
      begun = sym (ap (λ l. take 9 (after_last is_line_end l)) same ∙ ap (take 9) (open_ended p));
    }

-- after a byte of a line
went_on : (q : Questions) (s : List ℕ) (b : ℕ) → (b == 10) ≡ false → (b == 13) ≡ false → HasCome q s
    → HasCome (with_byte q b) (s ++ b ∷ [])
went_on q s b no_feed no_return h =
    let p = without_returns s in
    let same = stays s b no_return in
    let whole = ap finished_parts same ∙ whole_more p b no_feed in
    record {
      asked = h.asked ∙ ap (list_any is_question) (sym whole);
      greeted = h.greeted ∙ ap (list_any greets) (sym whole);
      begun =
          ap (λ l. line_after l b) h.begun ∙ grown (open_line s) b
          ∙ ap (take 9) (sym (ap (after_last is_line_end) same ∙ open_more p b no_feed));
    }

-- after a CR
returned : (q : Questions) (s : List ℕ) (b : ℕ) → (b == 13) ≡ true → HasCome q s → HasCome q (s ++ b ∷ [])
returned q s b is h =
    let same = sym (goes s b is) in
    record {
      asked = h.asked ∙ ap (λ p. list_any is_question (finished_parts p)) same;
      greeted = h.greeted ∙ ap (λ p. list_any greets (finished_parts p)) same;
      begun = h.begun ∙ ap (λ p. take 9 (after_last is_line_end p)) same;
    }

-- after a byte
one_byte : (q : Questions) (s : List ℕ) (b : ℕ) (feed back : Bool) → (b == 10) ≡ feed → (b == 13) ≡ back → HasCome q s
    → HasCome (if feed then after_line q else if back then q else with_byte q b) (s ++ b ∷ [])
one_byte q s b true back is other h =
    subst (λ c. HasCome (after_line q) (s ++ c ∷ [])) (sym (eqb-true b 10 is)) (ended q s h)
one_byte q s b false true is other h = returned q s b other h
one_byte q s b false false is other h = went_on q s b is other h

-- after bytes
all_bytes : (q : Questions) (s bytes : List ℕ) → HasCome q s → HasCome (after_bytes q bytes) (s ++ bytes)
all_bytes q s [] h = subst (HasCome q) (sym (append-nil s)) h
all_bytes q s (b ∷ bytes) h =
    subst (HasCome (after_bytes (after_byte q b) bytes)) (append_assoc s (b ∷ []) bytes)
    (all_bytes (after_byte q b) (s ++ b ∷ []) bytes (one_byte q s b (b == 10) (b == 13) refl refl h))

-- what is kept says whether the server asks once more
asks_so : (q : Questions) (s : List ℕ) → HasCome q s → asks_now q ≡ asks_again s
asks_so q s h =
    ap (λ t. t && (not q.is_greeted && is_question q.line.items)) h.asked
    ∙ ap (λ t. list_any is_question (whole_lines s) && (not t && is_question q.line.items)) h.greeted
    ∙ ap (λ l. list_any is_question (whole_lines s) && (not (list_any greets (whole_lines s)) && is_question l)) h.begun
    ∙ ap (λ t. list_any is_question (whole_lines s) && (not (list_any greets (whole_lines s)) && t))
    (question_front (open_line s))

-- bytes come, after whatever had come before
pub comes : (old new : Questions) (bytes : List ℕ) → new ≡ after_bytes old bytes → MoreComes old new bytes
comes old new bytes is s h = subst (λ q. HasCome q (s ++ bytes)) (sym is) (all_bytes old s bytes h)

-- the answer by what is kept is that of all that has come
pub answers : (q : Questions) (answer : Bool) → answer ≡ asks_now q → IsAskedAgain q answer
answers q answer is s h = is ∙ asks_so q s h
