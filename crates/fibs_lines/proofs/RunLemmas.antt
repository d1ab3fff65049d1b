-- Data that nothing interrupts.
use Rattle.std.proofs.Common.{◌≡◌, ℕ, zero, suc, ◌<◌, Bool, true, false, ◌+◌, List, [], ◌∷◌, ◌++◌, ◌-◌, ◌≤◌, length, take, drop, get_or, refl, sym, ap, ◌∙◌, subst, arith, true≢false}
use Rattle.std.proofs.lemmas.List.{length-take, take-take, take_rest, get_or-take, get_or-drop}
use Rattle.std.proofs.Math.Seq.{take-add}
use Rattle.fibs_lines.specs.Progress.{IsRun, ends_run}
use Rattle.fibs_lines.proofs.Parts.{has_end}
use Rattle.fibs_lines.specs.declared.telnet.Telnet.TheVariants.{Data}
use Rattle.fibs_lines.proofs.Streams.{data_along, telnet_along}

-- a run that ends before each place where a byte ends it
false_unless : (b : Bool) → (b ≡ true → ⊥) → b ≡ false
false_unless true = λ no. absurd (no refl)
false_unless false = λ _. refl

-- a front in which no byte ends a run is one
pub IsRun_take : (k : ℕ) (bytes : List ℕ) → ((j : ℕ) → j < k → ends_run (get_or bytes j 0) ≡ true → ⊥)
    → IsRun (take k bytes)
IsRun_take zero bytes h = tt
IsRun_take (suc k) [] h = tt
IsRun_take (suc k) (x ∷ bytes) h =
    (false_unless (ends_run x) (h 0 (omega arith)), IsRun_take k bytes (λ j l. h (suc j) (omega arith)))

-- a run has no line end
pub has_end_run : (q : List ℕ) → IsRun q → has_end q ≡ false
unfolding has_end
has_end_run [] h = refl
has_end_run (x ∷ q) h = let ih = has_end_run q h.1 in let e = h.0 in grind arith

-- a run is its own data
pub data_along_run : (q : List ℕ) → IsRun q → data_along Data q ≡ q
data_along_run [] h = refl
data_along_run (x ∷ q) h = let ih = data_along_run q h.1 in let e = h.0 in grind arith

-- no command is open after a run
pub telnet_along_run : (q : List ℕ) → IsRun q → telnet_along Data q ≡ Data
telnet_along_run [] h = refl
telnet_along_run (x ∷ q) h = let ih = telnet_along_run q h.1 in let e = h.0 in grind arith

-- two runs in a row are one
pub IsRun-append : (l q : List ℕ) → IsRun l → IsRun q → IsRun (l ++ q)
IsRun-append [] q h i = i
IsRun-append (x ∷ l) q h i = (h.0, IsRun-append l q h.1 i)

-- a run at a front, and a run after it
pub IsRun-further : (bytes : List ℕ) (at more : ℕ) → IsRun (take at bytes) → IsRun (take more (drop at bytes))
    → IsRun (take (at + more) bytes)
IsRun-further bytes at more h i =
    subst IsRun (sym (take-add at more bytes)) (IsRun-append (take at bytes) (take more (drop at bytes)) h i)

-- what is in a window
pub in-window : (bytes window : List ℕ) (at wide j : ℕ) → window ≡ take wide (take (length bytes - at) (drop at bytes))
    → j < length window → get_or window j 0 ≡ get_or bytes (at + j) 0
in-window bytes window at wide j same l =
    let rest = take (length bytes - at) (drop at bytes) in
    let narrow : j < wide = omega (arith, l, ap length same, length-take wide rest) in
    ap (λ w. get_or w j 0) same ∙ get_or-take wide rest j 0 narrow ∙ ap (λ r. get_or r j 0) (take_rest bytes at)
    ∙ get_or-drop at bytes j 0

-- a run at a front, and more of it in the window that was searched after it
pub IsRun-window : (bytes window : List ℕ) (at wide more : ℕ) → IsRun (take at bytes)
    → window ≡ take wide (take (length bytes - at) (drop at bytes)) → more ≤ length window
    → ((j : ℕ) → j < more → ends_run (get_or window j 0) ≡ true → ⊥) → IsRun (take (at + more) bytes)
IsRun-window bytes window at wide more h same within none =
    let rest = take (length bytes - at) (drop at bytes) in
    let narrow : more ≤ wide = omega (arith, within, ap length same, length-take wide rest) in
    let front : take more window ≡ take more (drop at bytes) =
    ap (take more) same ∙ take-take more wide rest narrow ∙ ap (take more) (take_rest bytes at) in
    IsRun-further bytes at more h (subst IsRun front (IsRun_take more window none))

-- a run at a front, and bytes after it none of which ends it
pub run_by_bytes : (bytes : List ℕ) (at more : ℕ) → IsRun (take at bytes)
    → ((k : ℕ) → at ≤ k → k < at + more → ends_run (get_or bytes k 0) ≡ false) → IsRun (take (at + more) bytes)
run_by_bytes bytes at more run none =
    IsRun-further bytes at more run (IsRun_take more (drop at bytes) (λ j l e.
    true≢false (sym e ∙ ap ends_run (get_or-drop at bytes j 0) ∙ none (at + j) (omega arith) (omega (arith, l)))))

-- a run at a front, and one byte more that ends none
IsRun_suc : (at : ℕ) (bytes : List ℕ) → at < length bytes → IsRun (take at bytes)
    → ends_run (get_or bytes at 0) ≡ false → IsRun (take (suc at) bytes)
IsRun_suc at [] l h e = absurd (omega (arith, l))
IsRun_suc zero (x ∷ bytes) l h e = (e, tt)
IsRun_suc (suc at) (x ∷ bytes) l h e = (h.0, IsRun_suc at bytes (omega (arith, l)) h.1 e)

-- the same, by the sum
pub IsRun-next : (at : ℕ) (bytes : List ℕ) → at < length bytes → IsRun (take at bytes)
    → ends_run (get_or bytes at 0) ≡ false → IsRun (take (at + 1) bytes)
IsRun-next at bytes l h e =
    let same : suc at ≡ at + 1 = omega arith in
    subst (λ n. IsRun (take n bytes)) same (IsRun_suc at bytes l h e)
