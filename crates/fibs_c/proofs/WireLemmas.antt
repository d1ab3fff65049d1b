-- What follows the bytes that a wire holds stays as it was, from call to call.
use Rattle.std.proofs.Common.{◌≡◌, ◌≤◌, ◌+◌, ◌-◌, ℕ, List, drop, ap, sym, subst, ◌∙◌, arith}
use Rattle.std.proofs.lemmas.List.{drop-drop}
use Rattle.fibs_c.specs.Records.Wires.{IsEmptied, RestStays}
use Rattle.fibs_c.specs.declared.records.wire.WireRecord.{WireRecord}

-- lists that are the same from a place on are the same from a later one on
further : (n m : ℕ) (xs ys : List ℕ) → n ≤ m → drop n xs ≡ drop n ys → drop m xs ≡ drop m ys
further n m xs ys h e =
    let sum : n + (m - n) ≡ m = omega (arith, h) in
    subst (λ (k : ℕ). drop k xs ≡ drop k ys) sum
    (sym (drop-drop (m - n) n xs) ∙ ap (drop (m - n)) e ∙ drop-drop (m - n) n ys)

-- through a wire that holds no more than the last one
pub rest_joined : (a b c : WireRecord) → b.len ≤ c.len → RestStays a b → RestStays b c → RestStays a c
rest_joined a b c h one other = other ∙ further b.len c.len b.bytes a.bytes h one

-- an emptied wire has all that it had
pub rest_of_emptied : (a b : WireRecord) → IsEmptied a b → RestStays a b
rest_of_emptied a b emptied = ap (λ (bytes : List ℕ). drop b.len bytes) emptied.bytes_are
