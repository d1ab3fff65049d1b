-- Numbers that fields may have, and boards with several fields changed.
use Rattle.std.proofs.Common.{◌≡◌, ℕ, ◌≤◌, ◌+◌, ◌-◌, List, [], ◌∷◌, ◌++◌, true, lit≤, refl, sym, ap, ◌∙◌, arith}
use Rattle.std.specs.Prelude.{ℤ, pos, negsuc, ◌≤ℤ◌, map}
use Rattle.std.specs.List.{range_with_len}
use Rattle.std.proofs.lemmas.List.FromFn.{map-range_with_len_more}
use Rattle.fibs_fields.specs.Board.{BoardFields, can_have}
use Rattle.fibs_fields.specs.FieldRanges.{FieldRanges}
use Rattle.fibs_position.specs.OwnView.{places}
use Rattle.fibs_position.specs.BoardEffect.{set_field, set_fields}

-- numbers of the turn
pub may_turn : FieldRanges → (z : ℤ) → negsuc 0 ≤ℤ z → z ≤ℤ pos 1 → can_have 33 z ≡ true
may_turn ranges z low high = (ranges.turn 33 z refl).1 (low, high)

-- numbers of dice
pub may_show : FieldRanges → (n : ℕ) (z : ℤ) → 34 ≤ n → n ≤ 37 → pos 0 ≤ℤ z → z ≤ℤ pos 6 → can_have n z ≡ true
may_show ranges n z from to low high = (ranges.dice n z from to).1 (low, high)

-- numbers of the cube
pub may_cube : FieldRanges → (z : ℤ) → pos 1 ≤ℤ z → z ≤ℤ pos 1048576 → can_have 38 z ≡ true
may_cube ranges z low high = (ranges.cube 38 z refl).1 (low, high)

-- numbers of places
pub may_stand : FieldRanges → (n : ℕ) (z : ℤ) → 7 ≤ n → n ≤ 32 → negsuc 14 ≤ℤ z → z ≤ℤ pos 15 → can_have n z ≡ true
may_stand ranges n z from to low high = (ranges.place n z from to).1 (low, high)

-- numbers of checkers off
pub may_off : FieldRanges → (z : ℤ) → pos 0 ≤ℤ z → z ≤ℤ pos 15 → can_have 46 z ≡ true
may_off ranges z low high = (ranges.off 46 z (lit≤ tt) (lit≤ tt)).1 (low, high)

-- changes one after another
pub set_fields_append : (b : BoardFields) (xs ys : List (ℕ × ℤ))
    → set_fields b (xs ++ ys) ≡ set_fields (set_fields b xs) ys
set_fields_append b [] ys = refl
set_fields_append b (x ∷ xs) ys = set_fields_append (set_field b x.0 x.1) xs ys

-- the loop over the places
pub set_more : (b : BoardFields) (says : ℕ → ℕ × ℤ) (before after : BoardFields) (place n : ℕ) (z : ℤ) → 1 ≤ place
    → before ≡ set_fields b (map says (range_with_len 1 (place - 1)))
    → n ≡ (says place).0 → z ≡ (says place).1 → after ≡ set_field before n z
    → after ≡ set_fields b (map says (range_with_len 1 (place + 1 - 1)))
set_more b says before after place n z from so field value is =
    let long : place + 1 - 1 ≡ place - 1 + 1 = omega arith in
    let more : map says (range_with_len 1 (place + 1 - 1)) ≡ map says (range_with_len 1 (place - 1))
    ++ says place ∷ [] = ap (λ k. map says (range_with_len 1 k)) long
    ∙ map-range_with_len_more says 1 (place - 1) place (omega arith) in
    let so_far = set_fields b (map says (range_with_len 1 (place - 1))) in
    let joined = set_fields_append b (map says (range_with_len 1 (place - 1))) (says place ∷ []) in
    let now : after ≡ set_field so_far (says place).0 (says place).1 =
    is ∙ ap (λ f. set_field f n z) so ∙ ap (λ k. set_field so_far k z) field
    ∙ ap (set_field so_far (says place).0) value in
    now ∙ sym joined ∙ ap (set_fields b) (sym more)

-- the four fields after the places
pub set_last : (b placed counted one none after : BoardFields) (changes : List (ℕ × ℤ)) (off turn off' turn' : ℤ)
    → placed ≡ set_fields b changes → counted ≡ set_field placed 46 off → one ≡ set_field counted 34 (pos 0)
    → none ≡ set_field one 35 (pos 0) → after ≡ set_field none 33 turn → off ≡ off' → turn ≡ turn'
    → after ≡ set_fields b (changes ++ (46, off') ∷ (34, pos 0) ∷ (35, pos 0) ∷ (33, turn') ∷ [])
set_last b placed counted one none after changes off turn off' turn' p q r s t e f =
    let now : after ≡ set_field (set_field (set_field (set_field (set_fields b changes) 46 off') 34 (pos 0)) 35 (pos 0))
    33 turn' =
    t ∙ ap (λ k. set_field k 33 turn)
    (s ∙ ap (λ k. set_field k 35 (pos 0))
    (r ∙ ap (λ k. set_field k 34 (pos 0))
    (q ∙ ap (λ k. set_field k 46 off) p ∙ ap (set_field (set_fields b changes) 46) e)))
    ∙ ap (set_field (set_field (set_field (set_field (set_fields b changes) 46 off') 34 (pos 0)) 35 (pos 0)) 33) f in
    now ∙ sym (set_fields_append b changes ((46, off') ∷ (34, pos 0) ∷ (35, pos 0) ∷ (33, turn') ∷ []))

-- the places are the numbers from 1 to 24
pub places_are : places ≡ range_with_len 1 24
unfolding places
places_are = refl
