-- Literal bytes, in a window and at the front of a piece.
use Rattle.std.proofs.Common.{◌≡◌, ◌≢◌, ℕ, ◌+◌, ◌^◌, ◌%◌, ◌<◌, ◌≤◌, Bool, true, false, not, List, [], ◌∷◌, map, length, get_or, refl, sym, ap, ap₂, ◌∙◌, subst, arith, inl, inr, Fits, w8, cond, ltb, eqb}
use Rattle.std.proofs.lemmas.Bool.{agree_below, agree_below_at, not-false, cases_lt}
use Rattle.std.proofs.lemmas.List.{length-map}
use Rattle.std.proofs.lemmas.Simd.{mask_l-mod, length-chunk, trailing_mask_l, none_from_empty_mask, run_in_chunk_le, run_in_chunk_fails}
use Rattle.std.specs.List.{prefix_len}
use Rattle.std.specs.Simd.Lanes.{mask_l, top, Each1, chunk}
use lib.Count.{count_trailing_zeros}
use Rattle.fibs_lines.specs.Literal.{is_literal}
use Rattle.fibs_lines.specs.Progress.{IsLiteralTo}

-- a byte that is not literal
abbrev pub is_other : ℕ → Bool
is_other b = not (is_literal b)

-- what a lane holds after a comparison: all bits if the one is below the other, or equal to it
abbrev pub below : ℕ → ℕ → ℕ
below a b = cond (ltb a b) 255 0

-- what a lane holds after a search for a byte: all bits if it is there
abbrev pub hit : ℕ → ℕ → ℕ
hit a b = cond (eqb a b) 255 0

-- a test that agrees with the lanes at each byte agrees with them
each_byte : (f : ℕ → ℕ) (p : ℕ → Bool) → agree_below (λ b. top 7 (f b)) p 256 ≡ true → (v : List ℕ) → Each1 (Fits w8) v
    → map (top 7) (map f v) ≡ map p v
each_byte f p all [] fits = refl
each_byte f p all (b ∷ v) fits =
    ap₂ (λ x y. x ∷ y) (agree_below_at (λ c. top 7 (f c)) p 256 b all fits.0.fits) (each_byte f p all v fits.1)

-- the mask of lanes that are computed from those of v is that of a test which agrees with them at each byte
pub mask_is : (f : ℕ → ℕ) (p : ℕ → Bool) (v z : List ℕ) → length v ≤ 64 → Each1 (Fits w8) v → z ≡ map f v
    → agree_below (λ b. top 7 (f b)) p 256 ≡ true → mask_l (map (top 7) z) % 2 ^ 64 ≡ mask_l (map p v)
mask_is f p v z short fits lanes all =
    ap (λ l. mask_l l % 2 ^ 64) (ap (map (top 7)) lanes ∙ each_byte f p all v fits)
    ∙ mask_l-mod (map p v) 64 (omega (arith, length-map v p))

-- a byte before `at` is literal, and so is one after it by what a window says
both : (bytes : List ℕ) (at n : ℕ) → IsLiteralTo bytes at
    → ((k : ℕ) → at ≤ k → k < n → is_other (get_or bytes k 0) ≡ false)
    → (k : ℕ) → k < n → is_literal (get_or bytes k 0) ≡ true
both bytes at n h more k l = elim (cases_lt k at) [
  | inl before ↦ h.each k before
  | inr after ↦ not-false (is_literal (get_or bytes k 0)) (more k (omega arith) l)
]

module _ (bytes : List ℕ) (at found : ℕ) (h : IsLiteralTo bytes at) (room : at + 32 ≤ length bytes)
    (is : found ≡ mask_l (map is_other (chunk at 32 bytes))) where
  -- no bit is set: the window is literal
  pub literal_window : found ≡ 0 → IsLiteralTo bytes (at + 32)
  literal_window none = record {
    in_range = room;
    each = both bytes at (at + 32) h (none_from_empty_mask is_other bytes at 32 0 room (sym is ∙ none));
  }

  -- the lowest bit is where the literal bytes end
  pub literal_stops : (stop : ℕ) → found ≢ 0 → stop ≡ count_trailing_zeros 64 found → IsLiteralTo bytes (at + stop)
  literal_stops stop some e =
      let set : 0 < mask_l (map is_other (chunk at 32 bytes)) = omega (arith, is, some) in
      let long : length (chunk at 32 bytes) ≡ 32 = length-chunk at 32 bytes room in
      let counted : stop ≡ prefix_len (λ b. not (is_other b)) (chunk at 32 bytes) =
      e ∙ ap (count_trailing_zeros 64) is ∙ trailing_mask_l is_other 64 (chunk at 32 bytes) (omega arith) set in
      record {
        in_range = omega (arith, run_in_chunk_le is_other bytes at 32 stop 0 room counted, room);
        each = both bytes at (at + stop) h (run_in_chunk_fails is_other bytes at 32 stop 0 room counted);
      }

-- of fewer bytes it holds too
pub literal_back : (bytes : List ℕ) (at fewer : ℕ) → IsLiteralTo bytes at → fewer ≤ at → IsLiteralTo bytes fewer
literal_back bytes at fewer h less = record {
  in_range = omega (arith, h.in_range, less);
  each = λ k l. h.each k (omega (arith, l, less));
}

-- one literal byte more
pub literal_next : (bytes : List ℕ) (at : ℕ) → IsLiteralTo bytes at → at < length bytes
    → is_literal (get_or bytes at 0) ≡ true → IsLiteralTo bytes (at + 1)
literal_next bytes at h l e = record {
  in_range = omega arith;
  each = λ k m. elim (cases_lt k at) [
    | inl before ↦ h.each k before
    | inr after ↦
        let here : at ≡ k = omega arith in
        subst (λ i. is_literal (get_or bytes i 0) ≡ true) here e
  ];
}
