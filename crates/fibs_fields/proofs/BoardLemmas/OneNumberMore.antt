-- One more number is read.
use Rattle.std.proofs.Common.{◌≡◌, ◌==◌, ℕ, zero, suc, ◌<◌, ◌+◌, true, List, [], ◌∷◌, ◌++◌, Option, Some, None, length, get_or, take, drop, map, arith, refl, sym, ap, ◌∙◌, append_assoc, add-one, drop-cons}
use Rattle.std.specs.Prelude.{ℤ, slice_get, slice_set}
use Rattle.std.specs.List.{join_with_byte}
use Rattle.std.specs.Fmt.{signed_decimal}
use Rattle.std.proofs.lemmas.List.{append-nil, take_more_set, take_more, map-append}
use Rattle.std.proofs.lemmas.Bool.{false≢true}
use Rattle.std.proofs.lemmas.Option.{get_or_from_slice_get, slice_get_within}
use Rattle.fibs_fields.specs.Board.{Fit, allowed_by, pieces}
use Rattle.fibs_fields.specs.Field.{Kind, a_number_of}
use Rattle.fibs_fields.specs.Numerals.{after_colons}
use Rattle.fibs_fields.specs.Decimal.{allows}
use Rattle.fibs_fields.specs.BoardReading.{first_fault}
use Rattle.fibs_fields.specs.declared.fault.Fault.TheVariants.{Extra}
use Rattle.std.proofs.lemmas.List.Splits.{length-slice_split}
use Rattle.fibs_fields.specs.declared.values.Values.{Values}

-- the pieces that were read, and one more
pub read_more : (zs : List ℤ) (i : ℕ) (z : ℤ) (ps qs rs : List (List ℕ)) → i < length zs
    → ps ≡ map signed_decimal (take i zs) ++ qs → qs ≡ signed_decimal z ∷ rs
    → ps ≡ map signed_decimal (take (i + 1) (slice_set zs i z)) ++ rs
read_more zs i z ps qs rs within e f =
    e ∙ ap (λ l. map signed_decimal (take i zs) ++ l) f
    ∙ sym (append_assoc (map signed_decimal (take i zs)) (signed_decimal z ∷ []) rs)
    ∙ ap (λ l. l ++ rs)
    (sym (map-append signed_decimal (take i zs) (z ∷ []))
    ∙ ap (map signed_decimal) (sym (take_more_set zs i z within)))

-- numbers that fit, and one more
pub Fit-push : (vs : List Values) (zs : List ℤ) (v : Values) (z : ℤ) → Fit vs zs → allows v z ≡ true
    → Fit (vs ++ v ∷ []) (zs ++ z ∷ [])
Fit-push [] [] v z h good = (good, tt)
Fit-push [] (y ∷ ys) v z h good = absurd h
Fit-push (x ∷ xs) [] v z h good = absurd h
Fit-push (x ∷ xs) (y ∷ ys) v z h good = (h.0, Fit-push xs ys v z h.1 good)

-- the entries up to a place, and the one there
pub take_next : (vs : List Values) (i : ℕ) (v : Values) → slice_get vs i ≡ Some v
    → take (i + 1) vs ≡ take i vs ++ v ∷ []
take_next vs i v e =
    take_more vs i v (slice_get_within vs i v e) ∙ ap (λ x. take i vs ++ x ∷ []) (get_or_from_slice_get vs i v v e)

-- the entries from a place on: the one there, and the others
pub drop_next : (vs : List Values) (i : ℕ) (v : Values) → slice_get vs i ≡ Some v → drop i vs ≡ v ∷ drop (i + 1) vs
drop_next vs i v e = rw (add-one, drop-cons vs i v (slice_get_within vs i v e), get_or_from_slice_get vs i v v e) refl

-- the numbers up to a place fit, and the next one does
pub fit_more : (vs : List Values) (zs : List ℤ) (i : ℕ) (o : Option Values) (z : ℤ) → i < length zs → slice_get vs i ≡ o
    → allowed_by o z ≡ true → Fit (take i vs) (take i zs) → Fit (take (i + 1) vs) (take (i + 1) (slice_set zs i z))
fit_more vs zs i None z within e good h = absurd (false≢true good)
fit_more vs zs i (Some v) z within e good h =
    rw (take_next vs i v e, take_more_set zs i z within) (Fit-push (take i vs) (take i zs) v z h good)

-- the first fault from a place on is that after a right piece
pub fault_more : (vs : List Values) (i : ℕ) (v : Values) (qs rs : List (List ℕ)) → slice_get vs i ≡ Some v
    → ((later : List Kind) → first_fault (i + 4) (a_number_of v ∷ later) qs ≡ first_fault (i + 4 + 1) later rs)
    → first_fault (i + 4) (map a_number_of (drop i vs)) qs ≡ first_fault (i + 1 + 4) (map a_number_of (drop (i + 1) vs))
    rs
fault_more vs i v qs rs e step =
    ap (λ l. first_fault (i + 4) (map a_number_of l) qs) (drop_next vs i v e) ∙ step (map a_number_of (drop (i + 1) vs))
    ∙ ap (λ n. first_fault n (map a_number_of (drop (i + 1) vs)) rs) (omega arith)

-- the first piece too many is Extra
extra_of : (n : ℕ) (ps : List (List ℕ)) → 0 < length ps
    → first_fault n [] ps ≡ Some (record { field = n; fault = Extra })
extra_of n [] some = absurd (omega arith)
extra_of n (p ∷ ps) some = refl

-- a text has one piece or more
pub extra_piece : (n : ℕ) (text : List ℕ) → first_fault n [] (pieces text) ≡ Some (record { field = n; fault = Extra })
extra_piece n text = extra_of n (pieces text) (omega (arith, length-slice_split (λ c. c == 58) text))

-- a number that fits, at its place
pub fit_at : (vs : List Values) (zs : List ℤ) (i : ℕ) (z : ℤ) → Fit vs zs → i < length vs
    → allowed_by (slice_get vs i) (get_or zs i z) ≡ true
fit_at [] zs i z h within = absurd (omega arith)
fit_at (v ∷ vs) [] i z h within = absurd h
fit_at (v ∷ vs) (y ∷ ys) zero z h within = h.0
fit_at (v ∷ vs) (y ∷ ys) (suc i) z h within = fit_at vs ys i z h.1 (omega arith)

-- numbers that fit still fit if one gets another that may be there
pub fit_set : (vs : List Values) (zs : List ℤ) (i : ℕ) (z : ℤ) → Fit vs zs → allowed_by (slice_get vs i) z ≡ true
    → Fit vs (slice_set zs i z)
fit_set [] [] i z h good = h
fit_set [] (y ∷ ys) i z h good = absurd h
fit_set (v ∷ vs) [] i z h good = absurd h
fit_set (v ∷ vs) (y ∷ ys) zero z h good = (good, h.1)
fit_set (v ∷ vs) (y ∷ ys) (suc i) z h good = (h.0, fit_set vs ys i z h.1 good)

-- fields joined by colons, if all but the first are written after colons
pub join_is_after : (x : List ℕ) (zs : List ℤ) → join_with_byte 58 (x ∷ map signed_decimal zs) ≡ x ++ after_colons zs
join_is_after x [] = sym (append-nil x)
join_is_after x (z ∷ zs) = ap (λ l. x ++ 58 ∷ l) (join_is_after (signed_decimal z) zs)

-- there are as many numbers as fields
pub fit_long : (vs : List Values) (zs : List ℤ) → Fit vs zs → length zs ≡ length vs
fit_long [] [] h = refl
fit_long [] (z ∷ zs) h = absurd h
fit_long (v ∷ vs) [] h = absurd h
fit_long (v ∷ vs) (z ∷ zs) h = omega (arith, fit_long vs zs h.1)

-- the numbers from a place on, each after a colon
pub colons_before : (zs : List ℤ) (i : ℕ) (d : ℤ) → i < length zs
    → after_colons (drop i zs) ≡ 58 ∷ (signed_decimal (get_or zs i d) ++ after_colons (drop (i + 1) zs))
colons_before zs i d within =
    let parts : drop i zs ≡ get_or zs i d ∷ drop (i + 1) zs = rw (add-one, drop-cons zs i d within) refl in
    ap after_colons parts
