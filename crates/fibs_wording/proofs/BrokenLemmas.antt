-- A space that becomes a line end.
use Rattle.std.proofs.Common.{◌≡◌, ℕ, zero, suc, ◌<◌, List, [], ◌∷◌, map, length, slice_set, get_or, arith, ap, refl}
use Rattle.fibs_wording.specs.Broken.{spaced}

-- what counts as spaces stays so
pub ended-alike : (text : List ℕ) (place d : ℕ) → place < length text → get_or text place d ≡ 32
    → map spaced (slice_set text place 10) ≡ map spaced text
ended-alike [] place d low here = absurd (omega arith)
ended-alike (byte ∷ text) zero d low here = rw here refl
ended-alike (byte ∷ text) (suc place) d low here =
    ap (λ rest. spaced byte ∷ rest) (ended-alike text place d (omega arith) here)
