-- Texts that are only added to.
use Rattle.std.proofs.Common.{◌≡◌, ◌∙◌, ℕ, List, ◌++◌, length, take, drop, sym, ap, append_assoc}
use Rattle.std.proofs.lemmas.List.{take-append-drop}
use Rattle.std.proofs.Math.Seq.{take-append_seam}

-- what was at the front before is there after two steps
pub front_kept : (old more begun added now new : List ℕ) → begun ≡ old ++ more → now ≡ begun ++ added
    → take (length now) new ≡ now → take (length old) new ≡ old
front_kept old more begun added now new first then kept =
    let rest = drop (length now) new in
    let whole : new ≡ old ++ (more ++ (added ++ rest)) =
    sym (take-append-drop (length now) new)
    ∙ (ap (λ (x : List ℕ). x ++ rest) (kept ∙ (then ∙ ap (λ (x : List ℕ). x ++ added) first))
    ∙ (append_assoc (old ++ more) added rest ∙ append_assoc old more (added ++ rest))) in
    ap (take (length old)) whole ∙ take-append_seam old (more ++ (added ++ rest))
