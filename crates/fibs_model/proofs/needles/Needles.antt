-- The next whole line is found by a search for CR LF.
use Rattle.std.proofs.Common.{◌≡◌, ℕ, zero, suc, ◌+◌, ◌<◌, Bool, true, false, List, [], ◌∷◌, Option, Some, None, ◌++◌, take, drop, nat_eq, refl, sym, ap, ◌∙◌, arith}
use Rattle.std.specs.Prelude.{◌&&◌, slice_index, option_map, IfSome, if◌then◌else◌}
use Rattle.memchr.specs.Find.{OccursAt, FindsNeedle}
use Rattle.fibs_model.specs.Wires.{next_line, put}

-- the bytes of CR LF
abbrev pub line_end : List ℕ
line_end = 13 ∷ 10 ∷ []

-- the two bytes in front are CR LF
abbrev pub is_pair : ℕ → ℕ → Bool
is_pair b c = nat_eq b 13 && nat_eq c 10

-- how the bytes of CR LF are read
reads_pair : (b c : ℕ) (bytes : List ℕ) → b ≡ 13 → c ≡ 10 → (j : ℕ) → j < 2
    → slice_index (b ∷ c ∷ bytes) (0 + j) ≡ slice_index line_end j
reads_pair b c bytes e f zero below = e
reads_pair b c bytes e f (suc zero) below = f
reads_pair b c bytes e f (suc (suc j)) below = absurd (omega arith)

-- a test of two bytes that they pass
both : (b c : ℕ) → is_pair b c ≡ true → (b ≡ 13) × (c ≡ 10)
both b c test = grind arith

-- the two bytes pass the test
passes : (b c : ℕ) → b ≡ 13 → c ≡ 10 → is_pair b c ≡ true
passes b c e f = grind arith

-- if the two bytes in front are CR LF, it occurs there
occurs_here : (b c : ℕ) (bytes : List ℕ) → is_pair b c ≡ true → OccursAt (b ∷ c ∷ bytes) line_end 0
occurs_here b c bytes test =
    let e = both b c test in
    record { fits = omega arith; reads = reads_pair b c bytes e.0 e.1 }

-- if it occurs there, they are
here_occurs : (b c : ℕ) (bytes : List ℕ) → OccursAt (b ∷ c ∷ bytes) line_end 0 → is_pair b c ≡ true
here_occurs b c bytes o = passes b c (o.reads 0 (omega arith)) (o.reads 1 (omega arith))

-- one place later after a byte
later : (b : ℕ) (bytes : List ℕ) (k j : ℕ) → slice_index (b ∷ bytes) (suc k + j) ≡ slice_index bytes (k + j)
later b bytes k j =
    let e : suc k + j ≡ suc (k + j) = omega arith in
    ap (λ n. slice_index (b ∷ bytes) n) e

-- CR LF after a byte is CR LF one place later
occurs_behind : (b : ℕ) (bytes : List ℕ) (k : ℕ) → OccursAt bytes line_end k → OccursAt (b ∷ bytes) line_end (suc k)
occurs_behind b bytes k o =
    record { fits = omega (arith, o.fits); reads = λ j below. later b bytes k j ∙ o.reads j below }

-- and one place later is after the byte
behind_occurs : (b : ℕ) (bytes : List ℕ) (k : ℕ) → OccursAt (b ∷ bytes) line_end (suc k) → OccursAt bytes line_end k
behind_occurs b bytes k o =
    record { fits = omega (arith, o.fits); reads = λ j below. sym (later b bytes k j) ∙ o.reads j below }

-- the whole line if the two bytes in front are no CR LF
no_pair : (b c : ℕ) (bytes : List ℕ) → is_pair b c ≡ false → next_line (b ∷ c ∷ bytes) ≡ put b (next_line (c ∷ bytes))
unfolding next_line
no_pair b c bytes test =
    ap (λ pair. if pair then Some ([], bytes) else put b (next_line (c ∷ bytes))) test

-- and if they are
pair : (b c : ℕ) (bytes : List ℕ) → is_pair b c ≡ true → next_line (b ∷ c ∷ bytes) ≡ Some ([], bytes)
unfolding next_line
pair b c bytes test = ap (λ pair. if pair then Some ([], bytes) else put b (next_line (c ∷ bytes))) test

-- a test that the two bytes in front do not pass
fails : (b c : ℕ) (bytes : List ℕ) (test : Bool) → is_pair b c ≡ test → ¬ OccursAt (b ∷ c ∷ bytes) line_end 0
    → is_pair b c ≡ false
fails b c bytes false e not = e
fails b c bytes true e not = absurd (not (occurs_here b c bytes e))

-- if it occurs nowhere, there is no whole line
pub none_found : (bytes : List ℕ) → ((k : ℕ) → ¬ OccursAt bytes line_end k) → next_line bytes ≡ None
unfolding next_line
none_found [] never = refl
none_found (b ∷ []) never = refl
none_found (b ∷ c ∷ bytes) never =
    no_pair b c bytes (fails b c bytes (is_pair b c) refl (never 0))
    ∙ ap (put b) (none_found (c ∷ bytes) (λ k o. never (suc k) (occurs_behind b (c ∷ bytes) k o)))

-- if it occurs first, the whole line ends
pub found : (bytes : List ℕ) (k : ℕ) → ((j : ℕ) → j < k → ¬ OccursAt bytes line_end j) → OccursAt bytes line_end k
    → next_line bytes ≡ Some (take k bytes, drop (k + 2) bytes)
found [] k before o = absurd (omega (arith, o.fits))
found (b ∷ []) k before o = absurd (omega (arith, o.fits))
found (b ∷ c ∷ bytes) zero before o = pair b c bytes (here_occurs b c bytes o)
found (b ∷ c ∷ bytes) (suc k) before o =
    let e : suc (k + 2) ≡ suc k + 2 = omega arith in
    no_pair b c bytes (fails b c bytes (is_pair b c) refl (before 0 (omega arith)))
    ∙ ap (put b) (found (c ∷ bytes) k
    (λ j below here. before (suc j) (omega arith) (occurs_behind b (c ∷ bytes) j here))
    (behind_occurs b (c ∷ bytes) k o))
    ∙ ap (λ n. Some (take (suc k) (b ∷ c ∷ bytes), drop n (b ∷ c ∷ bytes))) e

-- what a search for CR LF answers is the next whole line
pub searched : (bytes : List ℕ) (answer : Option ℕ) → FindsNeedle bytes line_end 0 answer
    → next_line bytes ≡ option_map (λ len. (take len bytes, drop (len + 2) bytes)) answer
searched bytes None h = none_found bytes (λ k o. h k (omega arith) (omega (arith, o.fits)) o)
searched bytes (Some k) h = found bytes k (λ j below. h.0.before j (omega arith) below) h.1

-- two bytes that are CR LF
ends_pair : (b c : ℕ) (bytes : List ℕ) → b ≡ 13 → c ≡ 10 → take 2 (b ∷ c ∷ bytes) ≡ line_end
ends_pair b c bytes e f = cc

-- if it occurs, the bytes in front and it are those up to its end
ends : (bytes : List ℕ) (k : ℕ) → OccursAt bytes line_end k → take (k + 2) bytes ≡ take k bytes ++ line_end
ends [] k o = absurd (omega (arith, o.fits))
ends (b ∷ []) k o = absurd (omega (arith, o.fits))
ends (b ∷ c ∷ bytes) zero o = ends_pair b c bytes (o.reads 0 (omega arith)) (o.reads 1 (omega arith))
ends (b ∷ c ∷ bytes) (suc k) o =
    ap (λ n. take n (b ∷ c ∷ bytes)) {x = suc k + 2} {y = suc (k + 2)} (omega arith)
    ∙ ap (λ xs. b ∷ xs) (ends (c ∷ bytes) k (behind_occurs b (c ∷ bytes) k o))

-- the bytes up to what a search finds, and CR LF, are those up to the line's end
pub searched_ends : (bytes : List ℕ) (answer : Option ℕ) → FindsNeedle bytes line_end 0 answer
    → IfSome answer (λ len. take (len + 2) bytes ≡ take len bytes ++ line_end)
searched_ends bytes None h = tt
searched_ends bytes (Some k) h = ends bytes k h.1
