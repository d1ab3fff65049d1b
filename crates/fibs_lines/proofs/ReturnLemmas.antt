-- The byte 13 at a line's end.
use Rattle.std.proofs.Common.{◌≡◌, ℕ, zero, suc, ◌+◌, ◌-◌, ◌<◌, ◌≤◌, Bool, true, false, eqb, cond, List, [], ◌∷◌, ◌++◌, length, take, min, refl, sym, ap, ◌∙◌, arith, get_or, ne_eqb, ◌≢◌}
use Rattle.std.specs.Prelude.{◌||◌, nat_lt}
use Rattle.std.proofs.lemmas.List.{take_all, take_more, take_min}
use Rattle.std.specs.Str.Lines.{strip_carriage_return}
use Rattle.fibs_lines.specs.Lines.{kept_limit, without_prompts, line_of, ReadLine}
use Rattle.fibs_lines.specs.LinesValue.{kept_line}

-- a list cut at a limit, or at its length where that is less
pub take_at_limit : (n k : ℕ) (l : List ℕ) → k ≡ min (length l) n → take k l ≡ take n l
take_at_limit n k l e = ap (λ m. take m l) {y = min n (length l)} (omega arith) ∙ take_min n l

-- std's `strip_carriage_return`, from the front on
unfoldable pub without_return : List ℕ → List ℕ
without_return [] = []
without_return (x ∷ []) = cond (eqb x 13) [] (x ∷ [])
without_return (x ∷ y ∷ p) = x ∷ without_return (y ∷ p)

-- one byte more than the limit is enough to know what is kept
take-without_return : (limit : ℕ) (r : List ℕ)
    → take limit (without_return (take (suc limit) r)) ≡ take limit (without_return r)
unfolding without_return
take-without_return zero r = refl
take-without_return (suc n) [] = refl
take-without_return (suc n) (x ∷ []) = refl
take-without_return (suc n) (x ∷ y ∷ r) = ap (λ l. x ∷ l) (take-without_return n (y ∷ r))

-- one byte at most goes
length-without_return : (r : List ℕ) → length r ≤ length (without_return r) + 1
unfolding without_return
length-without_return [] = omega arith
length-without_return (x ∷ []) = grind arith
length-without_return (x ∷ y ∷ r) = let ih = length-without_return (y ∷ r) in omega arith

-- one byte more than the limit is enough to know whether a line is cut
over-without_return : (limit room : ℕ) (r : List ℕ) → room ≡ suc limit
    → (nat_lt room (length r) || nat_lt limit (length (without_return (take room r)))) ≡ nat_lt limit
    (length (without_return r))
over-without_return limit room r e = let less = length-without_return r in cases (nat_lt room (length r)) refl
  where
    cases : (b : Bool) → nat_lt room (length r) ≡ b
        → (b || nat_lt limit (length (without_return (take room r)))) ≡ nat_lt limit (length (without_return r))
    cases true h = let less = length-without_return r in grind arith
    cases false h = let all : take room r ≡ r = take_all room r (grind arith) in
        ap (λ l. nat_lt limit (length (without_return l))) all

-- a line of these bytes
made : List ℕ → Bool → ReadLine
made b c = record { bytes = b; cut = c }

-- lines are equal if their bytes are, and if both are cut or neither is
pub same_read_line : (a b : ReadLine) → a.bytes ≡ b.bytes → a.cut ≡ b.cut → a ≡ b
unfolding made
same_read_line a b e f = ap (λ x. made x a.cut) e ∙ ap (made b.bytes) f

-- the same for the record, at any limit
abbrev pub read_line : ℕ → List ℕ → Bool → ReadLine
read_line limit line over =
    record { bytes = without_prompts (take limit line); cut = over || nat_lt limit (length line) }

-- the line that is read from what is kept is that of the whole rest
read_line_is : (limit room : ℕ) (head r : List ℕ) (over : Bool) → room ≡ suc limit → head ≡ take room r
    → over ≡ nat_lt room (length r)
    → read_line limit (without_return head) over ≡ read_line limit (without_return r) false
read_line_is limit room head r over e f o =
    same_read_line _ _
    (ap without_prompts
    (ap (λ l. take limit (without_return l)) f ∙ ap (λ n. take limit (without_return (take n r))) e
    ∙ take-without_return limit r))
    (ap (λ b. b || nat_lt limit (length (without_return head))) o
    ∙ ap (λ l. nat_lt room (length r) || nat_lt limit (length (without_return l))) f
    ∙ over-without_return limit room r e)

-- a list that ends in 13, and one that ends in another byte
pub without_return_yes : (p : List ℕ) → without_return (p ++ 13 ∷ []) ≡ p
unfolding without_return
without_return_yes [] = refl
without_return_yes (x ∷ []) = refl
without_return_yes (x ∷ y ∷ p) = ap (λ l. x ∷ l) (without_return_yes (y ∷ p))

-- a list that ends in another byte stays
without_return_no : (p : List ℕ) (y : ℕ) → eqb y 13 ≡ false → without_return (p ++ y ∷ []) ≡ p ++ y ∷ []
unfolding without_return
without_return_no [] y h = grind arith
without_return_no (x ∷ []) y h = ap (λ l. x ∷ l) (without_return_no [] y h)
without_return_no (x ∷ z ∷ p) y h = ap (λ l. x ∷ l) (without_return_no (z ∷ p) y h)

-- a list is its front and its last byte
last_split : (l : List ℕ) (n : ℕ) → n + 1 ≡ length l → l ≡ take n l ++ get_or l n 0 ∷ []
last_split l n h = sym (take_all (n + 1) l (omega arith)) ∙ take_more l n 0 (omega arith)

-- a list whose last byte is 13 loses it
pub without_return_at : (l : List ℕ) → 0 < length l → get_or l (length l - 1) 0 ≡ 13
    → without_return l ≡ take (length l - 1) l
without_return_at l some e =
    let n = length l - 1 in
    ap without_return (last_split l n (omega arith) ∙ ap (λ x. take n l ++ x ∷ []) e) ∙ without_return_yes (take n l)

-- a list whose last byte is not 13 stays
pub without_return_none : (l : List ℕ) → (0 < length l → get_or l (length l - 1) 0 ≢ 13) → without_return l ≡ l
unfolding without_return
without_return_none [] h = refl
without_return_none (x ∷ l) h =
    let n = length (x ∷ l) - 1 in
    let split = last_split (x ∷ l) n (omega arith) in
    ap without_return split ∙ without_return_no (take n (x ∷ l)) (get_or (x ∷ l) n 0) (ne_eqb _ _ (h (omega arith)))
    ∙ sym split

-- both cases of the last byte
strip_cases : (l : List ℕ) (b : Bool) → eqb (get_or l (length l - 1) 0) 13 ≡ b
    → cond b (take (length l - 1) l) l ≡ without_return l
strip_cases [] true h = absurd (cc)
strip_cases (x ∷ l) true h = sym (without_return_at (x ∷ l) (omega arith) (grind arith))
strip_cases l false h = sym (without_return_none l (λ _ e. grind arith))

-- std's `strip_carriage_return` is this
pub strip-is : (l : List ℕ) → strip_carriage_return l ≡ without_return l
strip-is l = strip_cases l (eqb (get_or l (length l - 1) 0) 13) refl

-- the line that ends after r
pub kept_line_is : (head r : List ℕ) (over : Bool) → head ≡ take (kept_limit + 1) r
    → over ≡ nat_lt (kept_limit + 1) (length r) → kept_line head over ≡ line_of r
unfolding line_of
kept_line_is head r over f o =
    ap (λ l. read_line kept_limit l over) (strip-is head)
    ∙ read_line_is kept_limit (kept_limit + 1) head r over refl f o
    ∙ ap (λ l. read_line kept_limit l false) (sym (strip-is r))
