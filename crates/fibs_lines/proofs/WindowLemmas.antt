-- Windows of a run, taken before they are searched.
use Rattle.std.proofs.Common.{◌≡◌, ◌≢◌, ℕ, suc, ◌+◌, ◌*◌, ◌<◌, ◌≤◌, Bool, true, false, not, cond, List, [], ◌∷◌, ◌++◌, length, take, drop, map, get_or, refl, sym, ap, ◌∙◌, arith, append_assoc}
use Rattle.std.proofs.Math.Seq.{take-add, take-append-add}
use Rattle.std.proofs.lemmas.List.{take-take}
use Rattle.std.proofs.lemmas.Simd.{length-chunk, trailing_mask_l, none_from_empty_mask, run_in_chunk_fails, run_in_chunk_stops}
use Rattle.std.specs.List.{prefix_len}
use Rattle.std.specs.Simd.Lanes.{mask_l, chunk}
use lib.Count.{count_trailing_zeros}
use Rattle.fibs_lines.specs.Progress.{IsRun, ends_run}
use Rattle.fibs_lines.proofs.RunLemmas.{run_by_bytes}

-- one window more was taken
window_taken : (old now bytes : List ℕ) (at wide : ℕ) → now ≡ (old ++ take at bytes) ++ take wide (drop at bytes)
    → now ≡ old ++ take (at + wide) bytes
window_taken old now bytes at wide e =
    e ∙ append_assoc old (take at bytes) (take wide (drop at bytes))
    ∙ ap (λ l. old ++ l) (sym (take-add at wide bytes))

-- only the front of it is kept
window_cut : (old bytes : List ℕ) (at run wide : ℕ) → run ≤ wide
    → take (length (old ++ take at bytes) + run) ((old ++ take at bytes) ++ take wide (drop at bytes))
    ≡ old ++ take (at + run) bytes
window_cut old bytes at run wide within =
    take-append-add (old ++ take at bytes) (take wide (drop at bytes)) run
    ∙ ap (λ l. (old ++ take at bytes) ++ l) (take-take run wide (drop at bytes) within)
    ∙ window_taken old _ bytes at run refl

-- what is taken of a run grows by a window
pub window_more : (old head now bytes : List ℕ) (at : ℕ) → head ≡ old ++ take at bytes
    → now ≡ head ++ take 64 (drop at bytes) → now ≡ old ++ take (at + 64) bytes
window_more old head now bytes at taken more =
    window_taken old now bytes at 64 (more ∙ ap (λ l. l ++ take 64 (drop at bytes)) taken)

-- or by the front of one
pub window_part : (old head now cut bytes : List ℕ) (at start run : ℕ) → head ≡ old ++ take at bytes
    → start ≡ length head → now ≡ head ++ take 64 (drop at bytes) → cut ≡ take (start + run) now → run ≤ 64
    → cut ≡ old ++ take (at + run) bytes
window_part old head now cut bytes at start run taken here more kept within =
    kept ∙ ap (λ n. take (n + run) now) here ∙ ap (take (length head + run)) more
    ∙ ap (λ l. take (length l + run) (l ++ take 64 (drop at bytes))) taken ∙ window_cut old bytes at run 64 within

-- a byte that ends the run, or the bytes after it
some_step : (b : Bool) (n m len : ℕ) → 0 < cond b 1 0 + 2 * n → (0 < n → m < len) → cond (not b) (1 + m) 0 < suc len
some_step true n m len some f = omega arith
some_step false n m len some f = omega (arith, f (omega (arith, some)))

-- if a bit is set, a byte ends the run
some_end : (w : List ℕ) → 0 < mask_l (map ends_run w) → prefix_len (λ b. not (ends_run b)) w < length w
some_end [] some = absurd (omega (arith, some))
some_end (b ∷ w) some =
    some_step (ends_run b) (mask_l (map ends_run w)) (prefix_len (λ x. not (ends_run x)) w) (length w) some (some_end w)

module _ (bytes : List ℕ) (at found : ℕ) (room : at + 64 ≤ length bytes)
    (is : found ≡ mask_l (map ends_run (chunk at 64 bytes))) where
  -- no bit is set: the window goes on with the run
  pub window_run : found ≡ 0 → IsRun (take at bytes) → IsRun (take (at + 64) bytes)
  window_run none run =
      run_by_bytes bytes at 64 run (none_from_empty_mask ends_run bytes at 64 0 room (sym is ∙ none))

  -- the lowest bit is where the run ends
  pub window_stops : (stop : ℕ) → found ≢ 0 → stop ≡ count_trailing_zeros 64 found → IsRun (take at bytes)
      → (stop < 64) × IsRun (take (at + stop) bytes) × (ends_run (get_or bytes (at + stop) 0) ≡ true)
  window_stops stop some e run =
      let set : 0 < mask_l (map ends_run (chunk at 64 bytes)) = omega (arith, is, some) in
      let long : length (chunk at 64 bytes) ≡ 64 = length-chunk at 64 bytes room in
      let counted : stop ≡ prefix_len (λ b. not (ends_run b)) (chunk at 64 bytes) =
      e ∙ ap (count_trailing_zeros 64) is ∙ trailing_mask_l ends_run 64 (chunk at 64 bytes) (omega arith) set in
      let short : stop < 64 = omega (arith, counted, long, some_end (chunk at 64 bytes) set) in (
        short,
        run_by_bytes bytes at stop run (run_in_chunk_fails ends_run bytes at 64 stop 0 room counted),
        run_in_chunk_stops ends_run bytes at 64 stop 0 room counted short,
      )
