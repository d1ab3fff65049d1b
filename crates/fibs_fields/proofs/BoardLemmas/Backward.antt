-- One more number is written before the others.
use Rattle.std.proofs.Common.{◌≡◌, ◌≤◌, ◌+◌, ◌++◌, ◌∷◌, List, ℕ, codes, sym, ap, ◌∙◌, arith, get_or, length, take, drop}
use Rattle.std.specs.Prelude.{ℤ, pos}
use Rattle.std.specs.Fmt.{signed_decimal}
use Rattle.fibs_fields.specs.Board.{BoardFields, Fit, field_values, spelling}
use Rattle.fibs_fields.specs.Numerals.{after_colons}
use Rattle.fibs_fields.proofs.BoardLemmas.Lengths.{total, room_before}
use Rattle.fibs_fields.proofs.BoardLemmas.OneNumberMore.{fit_long, colons_before, join_is_after}
use Rattle.fibs_fields.proofs.BoardLemmas.FieldTable.{all_narrow, table_long}

-- it has room, and those before it have
pub room_left : (spare : ℕ) (zs : List ℤ) (i left start : ℕ) (y : ℤ) → Fit field_values zs → i + 1 ≡ left → left ≤ 50
    → total (take left field_values) + spare ≤ start → y ≡ get_or zs i (pos 0)
    → 1 + length (signed_decimal y) + total (take i field_values) + spare ≤ start
room_left spare zs i left start y fit there high room is =
    let before =
    room_before field_values zs i (pos 0) all_narrow fit
    (omega (arith, fit_long field_values zs fit, table_long)) in
    omega (arith, ap (λ x. length (signed_decimal x)) is, ap (λ n. total (take n field_values)) there, before)

-- with its colon it is before the others
pub text_left : (zs : List ℤ) (i left start s : ℕ) (y : ℤ) (old new : List ℕ) → Fit field_values zs → i + 1 ≡ left
    → left ≤ 50 → y ≡ get_or zs i (pos 0)
    → drop start old ≡ after_colons (drop left zs) → drop s new ≡ 58 ∷ signed_decimal y ++ drop start old
    → drop s new ≡ after_colons (drop i zs)
text_left zs i left start s y old new fit there high is others written =
    written
    ∙ ap (λ l. 58 ∷ l)
    (ap (λ x. signed_decimal x ++ drop start old) is
    ∙ ap (λ l. signed_decimal (get_or zs i (pos 0)) ++ l) (others ∙ ap (λ n. after_colons (drop n zs)) (sym there)))
    ∙ sym (colons_before zs i (pos 0) (omega (arith, fit_long field_values zs fit, table_long)))

-- what is written part by part, from the last to the first, is the spelling
pub written_backward : (b : BoardFields) (n o c p w : List ℕ) → n ≡ after_colons b.numbers → o ≡ b.opponent ++ n
    → c ≡ 58 ∷ o → p ≡ b.player ++ c → w ≡ codes "board:" ++ p
    → w ≡ spelling b
written_backward b n o c p w en eo ec ep ew =
    ew ∙ ap (λ l. codes "board:" ++ l)
    (ep ∙ ap (λ l. b.player ++ l) (ec ∙ ap (λ l. 58 ∷ l) (eo ∙ ap (λ l. b.opponent ++ l) en)))
    ∙ ap (λ l. codes "board:" ++ (b.player ++ 58 ∷ l)) (sym (join_is_after b.opponent b.numbers))
