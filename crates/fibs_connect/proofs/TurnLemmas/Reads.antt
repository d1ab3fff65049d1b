-- How much one turn reads.
use Rattle.std.proofs.Common.{◌≡◌, ◌≤◌, ◌<◌, ◌*◌, ◌+◌, ◌++◌, ℕ, List, Option, arith, length, take, mul-le-mul_right}
use Rattle.std.proofs.lemmas.List.{length-append, length-take}
use Rattle.std.specs.Io.KnownBytes.{Consumes, Keeps}
use Rattle.std.proofs.KnownBytes.{Consumes-kept, Consumes-trans}
use Rattle.fibs_engine.specs.Reads.{LostAtMost}

-- a portion more makes one more read
pub more_read : (made size : ℕ) (read : List ℕ) (count : ℕ) (portion : List ℕ) → length read ≤ made * size
    → length portion ≡ size → length (read ++ take count portion) ≤ (made + 1) * size
more_read made size read count portion few whole =
    omega (arith, few, whole, length-append read (take count portion), length-take count portion)

-- so many reads are no more than may be made
pub few_reads : (made reads size : ℕ) (a b : Option (List ℕ)) (read : List ℕ) → Consumes a b read
    → length read ≤ made * size → made ≤ reads → LostAtMost (reads * size) a b
few_reads made reads size a b read took few fits =
    let all : made * size ≤ reads * size = mul-le-mul_right size fits in
    (read, omega (arith, few, all), took)

-- nor with one read that gave nothing
pub few_and_none : (made reads size : ℕ) (a b c : Option (List ℕ)) (read : List ℕ) → Consumes a b read
    → length read ≤ made * size → made < reads → Keeps b c → LostAtMost (reads * size) a c
few_and_none made reads size a b c read took few fits kept =
    few_reads made reads size a c read (Consumes-kept a b c read took kept) few (omega (arith, fits))

-- nor with one that gave a portion
pub few_and_portion : (made reads size : ℕ) (a b c d : Option (List ℕ)) (read : List ℕ) (count : ℕ) (portion : List ℕ)
    → Consumes a b read → length read ≤ made * size → made < reads → length portion ≡ size
    → Consumes b c (take count portion) → Keeps c d → LostAtMost (reads * size) a d
few_and_portion made reads size a b c d read count portion took few fits whole more kept =
    few_reads (made + 1) reads size a d (read ++ take count portion)
    (Consumes-kept a c d (read ++ take count portion) (Consumes-trans a b c read (take count portion) took more) kept)
    (more_read made size read count portion few whole) (omega (arith, fits))
