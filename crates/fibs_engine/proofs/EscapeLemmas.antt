-- Bytes up to the first that is escaped.
use Rattle.std.proofs.Common.{◌≡◌, ℕ, zero, suc, ◌+◌, ◌<◌, ◌≤◌, Bool, false, cond, Some, None, List, [], ◌∷◌, ◌++◌, length, get_or, take, drop, refl, sym, ap, ◌∙◌, arith, append_assoc, take-append-drop, add-one, nat_lt, not, ◌-◌}
use Rattle.std.specs.List.{list_any, position, position_or_len, flat_map}
use Rattle.std.proofs.Math.Seq.{drop-cons}
use Rattle.std.proofs.lemmas.List.Quantifiers.{position-Some}
use Rattle.std.proofs.lemmas.List.Sums.{prefix_len_passes}
use Rattle.std.proofs.lemmas.Bool.{not-true, or_parts}
use Rattle.std.proofs.lemmas.Bool.Decides.{nat_tests}
use Rattle.std.proofs.lemmas.List.{take_all, take_rest}
use Rattle.fibs_fields.specs.Hex.{hex_escape}
use Rattle.fibs_engine.specs.Escape.{is_escaped, escaped}

-- what a function makes of two lists in a row is what it makes of each, in a row
pub flat_map-append : {X A : Type 0} (f : X → List A) (xs ys : List X)
    → flat_map f (xs ++ ys) ≡ flat_map f xs ++ flat_map f ys
flat_map-append f [] ys = refl
flat_map-append f (x ∷ xs) ys =
    ap (λ l. f x ++ l) (flat_map-append f xs ys) ∙ sym (append_assoc (f x) (flat_map f xs) (flat_map f ys))

-- what is shown for one byte
abbrev one : ℕ → List ℕ
one b = cond (is_escaped b) (hex_escape b) (b ∷ [])

-- a run that needs no escape is its own text
shown_run : (n : ℕ) (xs : List ℕ) → n ≤ length xs → ((k : ℕ) → k < n → is_escaped (get_or xs k 0) ≡ false)
    → escaped (take n xs) ≡ take n xs
shown_run zero xs h p = refl
shown_run (suc n) [] h p = refl
shown_run (suc n) (x ∷ xs) h p =
    ap (λ b. cond b (hex_escape x) (x ∷ []) ++ escaped (take n xs)) (p 0 (omega arith))
    ∙ ap (λ l. x ∷ l) (shown_run n xs (omega arith) (λ k l. p (suc k) (omega arith)))

-- the bytes up to the first that is escaped, its escape, and the rest
pub escaped_some : (xs : List ℕ) (at : ℕ) → position is_escaped xs ≡ Some at
    → escaped xs ≡ take at xs ++ hex_escape (get_or xs at 0) ++ escaped (drop (at + 1) xs)
escaped_some xs at e =
    let found = position-Some is_escaped xs at 0 e in
    ap escaped (sym (take-append-drop at xs))
    ∙ flat_map-append one (take at xs) (drop at xs)
    ∙ ap (λ l. l ++ escaped (drop at xs)) (shown_run at xs (omega (arith, found.0)) found.2)
    ∙ ap (λ l. take at xs ++ escaped l) (drop-cons xs at 0 found.0)
    ∙ ap (λ b. take at xs ++ (cond b (hex_escape (get_or xs at 0)) (get_or xs at 0 ∷ []) ++ escaped (drop (suc at) xs)))
    found.1
    ∙ sym (append_assoc (take at xs) (hex_escape (get_or xs at 0)) (escaped (drop (suc at) xs)))
    ∙ ap (λ n. take at xs ++ hex_escape (get_or xs at 0) ++ escaped (drop n xs)) (sym (add-one at))

-- if no byte is escaped, every place passes
none_below : (n m : ℕ) → cond (nat_lt n m) (Some n) None ≡ None → m ≤ n
none_below n m e = grind (arith, nat_tests)

-- if no byte is escaped, the bytes are their own text
pub escaped_none : (xs : List ℕ) → position is_escaped xs ≡ None → escaped xs ≡ xs
escaped_none xs e =
    let all = none_below (position_or_len is_escaped xs) (length xs) e in
    let plain : take (length xs) xs ≡ xs = take_all (length xs) xs (omega arith) in
    ap escaped (sym plain)
    ∙ shown_run (length xs) xs (omega arith)
    (λ k l. not-true (is_escaped (get_or xs k 0))
    (prefix_len_passes (λ b. not (is_escaped b)) xs k 0 (omega (arith, all))))
    ∙ plain

-- what is left after a front: a run, the escape after it, and the text of the rest
pub escaped_run : (front xs whole : List ℕ) (at : ℕ) → position is_escaped xs ≡ Some at → front ++ escaped xs ≡ whole
    → front ++ (take at xs ++ (hex_escape (get_or xs at 0) ++ escaped (drop (at + 1) xs))) ≡ whole
escaped_run front xs whole at found kept =
    let escape : List ℕ = hex_escape (get_or xs at 0) in
    let rest : List ℕ = escaped (drop (at + 1) xs) in
    ap (λ l. front ++ l) (sym (escaped_some xs at found ∙ append_assoc (take at xs) escape rest)) ∙ kept

-- the same after the run
pub escaped_escape : (front xs whole : List ℕ) (at : ℕ) → position is_escaped xs ≡ Some at → front ++ escaped xs ≡ whole
    → (front ++ take at xs) ++ (hex_escape (get_or xs at 0) ++ escaped (drop (at + 1) xs)) ≡ whole
escaped_escape front xs whole at found kept =
    append_assoc front (take at xs) (hex_escape (get_or xs at 0) ++ escaped (drop (at + 1) xs))
    ∙ escaped_run front xs whole at found kept

-- and after the escape
pub escaped_rest : (front xs left whole : List ℕ) (at : ℕ) → position is_escaped xs ≡ Some at
    → left ≡ drop (at + 1) xs → front ++ escaped xs ≡ whole
    → ((front ++ take at xs) ++ hex_escape (get_or xs at 0)) ++ escaped left ≡ whole
escaped_rest front xs left whole at found same kept =
    ap (λ l. ((front ++ take at xs) ++ hex_escape (get_or xs at 0)) ++ escaped l) same
    ∙ append_assoc (front ++ take at xs) (hex_escape (get_or xs at 0)) (escaped (drop (at + 1) xs))
    ∙ escaped_escape front xs whole at found kept

-- if no byte of a text is escaped, the text stays as it is
pub escaped_plain : (xs : List ℕ) → list_any is_escaped xs ≡ false → escaped xs ≡ xs
escaped_plain [] e = refl
escaped_plain (x ∷ xs) e =
    let parts = or_parts (is_escaped x) (list_any is_escaped xs) e in
    ap (λ b. cond b (hex_escape x) (x ∷ []) ++ escaped xs) parts.0 ∙ ap (λ l. x ∷ l) (escaped_plain xs parts.1)

-- a text that has none from a place on is its own front and the escapes of the rest
pub escaped_unchanged : (text seen : List ℕ) (start : ℕ) (found : Bool) → seen ≡ text
    → found ≡ list_any is_escaped (take (length seen - start) (drop start seen)) → found ≡ false
    → text ≡ take start text ++ escaped (drop start text)
escaped_unchanged text seen start found same whole absent =
    let rest : take (length seen - start) (drop start seen) ≡ drop start text =
    take_rest seen start ∙ ap (drop start) same in
    let none : list_any is_escaped (drop start text) ≡ false =
    ap (list_any is_escaped) (sym rest) ∙ sym whole ∙ absent in
    sym (take-append-drop start text) ∙ ap (λ l. take start text ++ l) (sym (escaped_plain (drop start text) none))
