-- The bytes of a name at the front of a text are one.
use Rattle.std.proofs.Common.{◌≡◌, ◌∙◌, ℕ, ◌<◌, ◌≤◌, ◌&&◌, Bool, true, List, length, take, ap, arith, nat_le, nat_lt}
use Rattle.std.specs.List.{list_all, prefix_len}
use Rattle.std.proofs.lemmas.Bool.{and_from, lt-ltb, le-leb}
use Rattle.std.proofs.lemmas.List.{get_or-take, length-take-le}
use Rattle.std.proofs.lemmas.List.Sums.{prefix_len_passes, prefix_len-le-length, list_all-from_AllPass}
use Rattle.fibs_fields.specs.Name.{is_name, is_name_byte}

-- each byte of the front that passes a test passes it
pub front_passes : (p : ℕ → Bool) (text : List ℕ) (n : ℕ) → n ≡ prefix_len p text → list_all p (take n text) ≡ true
front_passes p text n is =
    let within = prefix_len-le-length p text in
    list_all-from_AllPass p (take n text) (λ k d inside.
    let below : k < n = omega (arith, length-take-le n text (omega arith)) in
    ap p (get_or-take n text k d below) ∙ prefix_len_passes p text k d (omega arith))

-- some bytes of a name, not too many, are one
pub front_is_name : (text : List ℕ) (n : ℕ) → n ≡ prefix_len is_name_byte text → 0 < n → n ≤ 64
    → is_name (take n text) ≡ true
front_is_name text n is some few =
    let long : length (take n text) ≡ n =
    length-take-le n text (omega (arith, prefix_len-le-length is_name_byte text)) in
    and_from (nat_lt 0 (length (take n text)) && nat_le (length (take n text)) 64) (list_all is_name_byte (take n text))
    (and_from (nat_lt 0 (length (take n text))) (nat_le (length (take n text)) 64)
    (lt-ltb 0 (length (take n text)) (omega arith)) (le-leb (length (take n text)) 64 (omega arith)))
    (front_passes is_name_byte text n is)
