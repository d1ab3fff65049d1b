-- Bytes written one after another into a room.
use Rattle.std.proofs.Common.{◌≡◌, ◌≤◌, ◌+◌, ℕ, List, ◌++◌, length, take, drop, ap, sym, ◌∙◌, arith}
use borrow.Rule.Slice.PartMut.{mid_of, post_of, put_mid, put_same}
use Rattle.std.proofs.lemmas.List.{length-take-le, take-append-le, drop-append-le, drop_at, drop-drop}
use Rattle.std.proofs.lemmas.Slice.{take-put_mid_below}
use Rattle.std.proofs.Math.Seq.{take-add}

-- bytes written after a front of a room
pub append_bytes : (a k : ℕ) (xs ys bytes : List ℕ) (n : ℕ) → a ≤ length xs → n ≤ length ys → take n ys ≡ bytes
    → take (a + n) (put_mid a k xs ys) ≡ take a xs ++ bytes
append_bytes a k xs ys bytes n h room e =
    take-add a n (put_mid a k xs ys)
    ∙ (λ i. take-put_mid_below a k xs ys a (omega arith) h i
    ++ take n (drop_at (take a xs) (ys ++ post_of a k xs) a (length-take-le a xs h) i))
    ∙ ap (λ t. take a xs ++ t) (take-append-le n ys (post_of a k xs) room ∙ e)

-- what is in a part behind a front of it, and what is behind the part
behind_front : (a k : ℕ) (xs ys : List ℕ) (n : ℕ) → a ≤ length xs → n ≤ length ys
    → drop (a + n) (put_mid a k xs ys) ≡ drop n ys ++ post_of a k xs
behind_front a k xs ys n h room =
    sym (drop-drop n a (put_mid a k xs ys))
    ∙ ap (drop n) (drop_at (take a xs) (ys ++ post_of a k xs) a (length-take-le a xs h))
    ∙ drop-append-le n ys (post_of a k xs) room

-- what is behind those bytes is as it was, if it is so in the part
pub rest_stays : (a k : ℕ) (xs ys : List ℕ) (n : ℕ) → a ≤ length xs → n ≤ length ys → n ≤ length (mid_of a k xs)
    → drop n ys ≡ drop n (mid_of a k xs) → drop (a + n) (put_mid a k xs ys) ≡ drop (a + n) xs
rest_stays a k xs ys n h room before e =
    behind_front a k xs ys n h room
    ∙ ap (λ t. t ++ post_of a k xs) e
    ∙ sym (behind_front a k xs (mid_of a k xs) n h before)
    ∙ ap (drop (a + n)) (put_same a k xs)
