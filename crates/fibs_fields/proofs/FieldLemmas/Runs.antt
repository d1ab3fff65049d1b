-- Runs of bytes, and where a window of 16 bytes shows that one ends.
use Rattle.std.proofs.Common.{◌≡◌, ◌∙◌, ℕ, suc, ◌%◌, ◌^◌, ◌<◌, ◌≤◌, ltb, leb, eqb, cond, Bool, true, false, not, ◌&&◌, List, length, get_or, take, drop, map, replicate, Some, refl, sym, ap, subst, arith, inl, inr, w64, bit_or, true≢false}
use Rattle.std.specs.Char.{is_ascii_digit}
use Rattle.std.specs.Int.{bit_at}
use Rattle.std.specs.List.{prefix_len}
use Rattle.std.specs.Simd.Lanes.{mask_l, top, zip2}
use Rattle.std.proofs.lemmas.Bool.{cases_lt, cases_eq, lt-ltb, le-ltb, le-leb, lt-leb, leb-true, eq-eqb, ne_eqb, cond-false, and_from, and_right}
use Rattle.std.proofs.lemmas.List.{length-map}
use Rattle.std.proofs.lemmas.List.Folds.{prefix_len-append}
use Rattle.std.proofs.lemmas.List.Sums.{prefix_len-le-length, prefix_len_passes, prefix_len_stops}
use Rattle.std.proofs.lemmas.Nat.Bits.{bit_at-trailing_zeros}
use Rattle.std.proofs.lemmas.Simd.{chunk-drop, length-chunk, map-map, mask_l-lt, mask_l-mod, trailing_mask_l, zip2_of_maps, zip2_splat, zip2_splat_left}
use lib.Lanes.{chunk}
use lib.Count.{count_trailing_zeros}
use Rattle.bstr.specs.Find.{IsFirstByte, is_byte}
use Rattle.fibs_fields.specs.Runs.{is_between, is_outside}
use Rattle.fibs_fields.specs.Split.{before, after}
use Rattle.fibs_fields.proofs.FieldLemmas.Splits.{split_at}

-- ---- the mask of a window

-- below, in a lane
abbrev below : ℕ → ℕ → ℕ
below a b = cond (ltb a b) 255 0

-- equal, in a lane
abbrev same : ℕ → ℕ → ℕ
same a b = cond (eqb a b) 255 0

-- less is not at least
less_is : (a b : ℕ) → ltb a b ≡ not (leb b a)
less_is a b = elim (cases_lt a b) [
  | inl lt ↦ lt-ltb a b lt ∙ ap not (sym (lt-leb b a lt))
  | inr le ↦ le-ltb a b le ∙ ap not (sym (le-leb b a le))
]

-- three answers of a lane are one
three_lanes : (a b e : Bool)
    → top 7 (bit_or (bit_or (cond (not a) 255 0) (cond (not b) 255 0)) (cond e 255 0)) ≡ not (a && b && not e)
three_lanes true true true = refl
three_lanes true true false = refl
three_lanes true false true = refl
three_lanes true false false = refl
three_lanes false true true = refl
three_lanes false true false = refl
three_lanes false false true = refl
three_lanes false false false = refl

-- a lane says whether its byte is outside
lane_is : (low high except x : ℕ)
    → top 7 (bit_or (bit_or (below x low) (below high x)) (same x except)) ≡ is_outside low high except x
lane_is low high except x =
    (λ i. top 7 (bit_or (bit_or (cond (less_is x low i) 255 0) (cond (less_is high x i) 255 0)) (same x except)))
    ∙ three_lanes (leb low x) (leb x high) (eqb x except)

-- the mask has the bits of the bytes outside
pub outside_mask : (low high except : ℕ) (v : List ℕ) → length v ≡ 16
    → mask_l (map (top 7) (zip2 bit_or
    (zip2 bit_or (zip2 below v (replicate 16 low)) (zip2 below (replicate 16 high) v))
    (zip2 same v (replicate 16 except)))) % 2 ^ 64
    ≡ mask_l (map (is_outside low high except) v)
outside_mask low high except v long =
    let lanes =
    zip2_of_maps bit_or (λ (x : ℕ). bit_or (below x low) (below high x)) (λ (x : ℕ). same x except) v
    (zip2_of_maps bit_or (λ (x : ℕ). below x low) (λ (x : ℕ). below high x) v (zip2_splat below v 16 low long)
    (zip2_splat_left below high 16 v long))
    (zip2_splat same v 16 except long) in
    ap (λ (l : List ℕ). mask_l (map (top 7) l) % 2 ^ 64) lanes
    ∙ (ap (λ (l : List Bool). mask_l l % 2 ^ 64)
    (map-map (top 7) (λ (x : ℕ). bit_or (bit_or (below x low) (below high x)) (same x except)) v
    ∙ (λ i. map (λ (x : ℕ). lane_is low high except x i) v))
    ∙ mask_l-mod (map (is_outside low high except) v) 64
    (omega (arith, length-map v (is_outside low high except))))

-- ---- the run of a window

-- twice not
not_not : (b : Bool) → not (not b) ≡ b
not_not true = refl
not_not false = refl

-- the lowest bit is where the run ends
pub window_run : (p : ℕ → Bool) (text : List ℕ) (m : ℕ) → 16 ≤ length text
    → m ≡ mask_l (map (λ x. not (p x)) (chunk 0 16 text)) → 0 < m
    → (count_trailing_zeros 64 m ≡ prefix_len p text) × (count_trailing_zeros 64 m < length text)
window_run p text m room is some =
    let q = λ (x : ℕ). not (p x) in
    let v = chunk 0 16 text in
    let r = count_trailing_zeros 64 m in
    let long : length v ≡ 16 = length-chunk 0 16 text (omega arith) in
    let few : mask_l (map q v) < 2 ^ 16 =
    subst (λ (n : ℕ). mask_l (map q v) < 2 ^ n) (length-map v q ∙ long) (mask_l-lt (map q v)) in
    let counted : r ≡ prefix_len p v =
    ap (count_trailing_zeros 64) is
    ∙ (trailing_mask_l q 64 v (omega arith) (omega arith) ∙ (λ i. prefix_len (λ (x : ℕ). not_not (p x) i) v)) in
    let set : bit_at m r ≡ 1 = (bit_at-trailing_zeros w64 m some (omega arith)).1 in
    let short : r < 16 = elim (cases_lt r 16) [
      | inl lt ↦ lt
      | inr le ↦
          let whole : r ≡ 16 = omega (arith, counted, prefix_len-le-length p v) in
          let there : bit_at m 16 ≡ 1 = subst (λ (k : ℕ). bit_at m k ≡ 1) whole set in
          absurd (omega arith)
    ] in (
      counted
          ∙ sym (ap (prefix_len p) (chunk-drop 0 16 text)
          ∙ (prefix_len-append p v (drop 16 text)
          ∙ cond-false _ _ _ (ne_eqb (prefix_len p v) (length v) (λ (e : prefix_len p v ≡ length v). omega arith)))),
      omega arith,
    )

-- ---- digits

-- what no digit is need not be tested of one
and_not : (a b e : Bool) → (b ≡ true → e ≡ false) → (a && b && not e) ≡ (a && b)
and_not true true true h = absurd (true≢false (h refl))
and_not true true false h = refl
and_not true false e h = refl
and_not false b e h = refl

-- no digit is a colon
digit_is : (c : ℕ) → is_between 48 57 58 c ≡ is_ascii_digit c
digit_is c = and_not (leb 48 c) (leb c 57) (eqb c 58) (λ low. ne_eqb c 58 (λ e. omega (arith, leb-true c 57 low)))

-- so digits are the bytes from 0 to 9 that are no colon
pub digits_run : (text : List ℕ) → prefix_len (is_between 48 57 58) text ≡ prefix_len is_ascii_digit text
digits_run text = λ i. prefix_len (λ (c : ℕ). digit_is c i) text

-- ---- texts that are split

-- a byte that ends a run and is in none parts the text
pub run_is_split : (p : ℕ → Bool) (text : List ℕ) (byte n : ℕ) → n ≡ prefix_len p text → n < length text
    → get_or text n 0 ≡ byte → p byte ≡ false
    → (take n text ≡ before byte text) × (Some (drop (suc n) text) ≡ after byte text)
run_is_split p text byte n is within there other =
    split_at byte text n within
    (λ j below same. true≢false
    (sym (prefix_len_passes p text j 0 (omega arith)) ∙ (ap p same ∙ other)))
    there

-- the one byte that is not in a class of bytes
all_but : (byte c : ℕ) → c < 256 → is_between 0 255 byte c ≡ false → c ≡ byte
all_but byte c fits h = elim (cases_eq c byte) [
  | inl e ↦ e
  | inr other ↦
      absurd (true≢false (sym (and_from (leb 0 c && leb c 255) (not (eqb c byte))
      (and_from (leb 0 c) (leb c 255) (le-leb 0 c (omega arith)) (le-leb c 255 (omega arith)))
      (ap not (ne_eqb c byte other))) ∙ h))
]

-- the first byte outside of it is the first that is that one
pub first_of_class : (text : List ℕ) (byte n : ℕ) → get_or text n 0 < 256
    → n ≡ prefix_len (is_between 0 255 byte) text → n < length text → IsFirstByte (is_byte byte) text (Some n)
first_of_class text byte n fits is within = (
  record {
    low = omega arith;
    high = within;
    before = λ j low below same. true≢false
        (sym (prefix_len_passes (is_between 0 255 byte) text j 0 (omega arith))
        ∙ and_right (leb 0 (get_or text j 0) && leb (get_or text j 0) 255) (not (eqb (get_or text j 0) byte))
        (ap not same));
  },
  eq-eqb (get_or text n 0) byte
      (all_but byte (get_or text n 0) fits
      (subst (λ (k : ℕ). is_between 0 255 byte (get_or text k 0) ≡ false) (sym is)
      (prefix_len_stops (is_between 0 255 byte) text 0 (omega arith)))),
)
