-- Two boards are equal exactly if their 53 fields are.
use Rattle.std.specs.Prelude.{ℤ}
use Rattle.std.proofs.Common.{◌≡◌, ◌==◌, ◌&&◌, ◌++◌, List, ℕ, refl, sym, ap, ◌∙◌, length, take, drop}
use Rattle.std.specs.Bool.{Decides}
use Rattle.std.specs.Cmp.Lexicographic.{pointwise}
use Rattle.std.specs.Ordering.{int_eq}
use Rattle.std.specs.Str.{bytes_eq}
use Rattle.std.proofs.lemmas.Bool.Decides.{Decides-eqb, Decides-int_eq, Decides-and, Decides-like}
use Rattle.std.proofs.Math.Seq.{take-append_seam, drop-append_seam}
use Rattle.std.proofs.lemmas.Slice.Eq.{bytes_eq-Decides, slice_eq-Decides}
use Rattle.fibs_fields.specs.Board.{BoardFields}
use Rattle.fibs_fields.specs.StoredParts.{name_of}
use Rattle.fibs_fields.specs.StoredBoard.{fields_of}
use Rattle.fibs_fields.specs.StoredNumbers.{numbers_of}
use Rattle.fibs_fields.specs.StoredBytes.{IsStored, padded}
use Rattle.fibs_fields.specs.contracts.boards.board.BoardPartialEq.TheImpl.{eq-value as board_eq}
use Rattle.fibs_fields.specs.declared.boards.board.Board.{Board}
use Rattle.fibs_fields.specs.declared.boards.numbers.Numbers.{Numbers}
use Rattle.fibs_fields.specs.declared.boards.stored_name.StoredName.{StoredName}

-- stored bytes that begin with the same name are the same
stored_same : (x y : List ℕ) (m n : ℕ) → IsStored x m → IsStored y n → take m x ≡ take n y → (x ≡ y) × (m ≡ n)
stored_same x y m n g h e = (sym g.2 ∙ ap padded e ∙ h.2, sym g.0 ∙ ap (λ (l : List ℕ). length l) e ∙ h.0)

-- and the other way round
taken_same : (x y : List ℕ) (m n : ℕ) → (x ≡ y) × (m ≡ n) → take m x ≡ take n y
taken_same x y m n e i = take (e.1 i) (e.0 i)

-- what `==` answers of stored names
name_decides : (m n : StoredName) → Decides (bytes_eq m.bytes n.bytes && (m.len == n.len)) (name_of m ≡ name_of n)
name_decides m n =
    Decides-like (bytes_eq m.bytes n.bytes && (m.len == n.len)) (taken_same m.bytes n.bytes m.len n.len)
    (stored_same m.bytes n.bytes m.len n.len m.stored n.stored)
    (Decides-and (bytes_eq m.bytes n.bytes) (m.len == n.len) (bytes_eq-Decides m.bytes n.bytes)
    (Decides-eqb m.len n.len))

-- lists of two parts are equal exactly if the parts are
append_same : (x y l m : List ℤ) → length x ≡ length y → x ++ l ≡ y ++ m → (x ≡ y) × (l ≡ m)
append_same x y l m long e = (
  sym (take-append_seam x l) ∙ ap (λ n. take n (x ++ l)) long ∙ ap (take (length y)) e ∙ take-append_seam y m,
  sym (drop-append_seam x l) ∙ ap (λ n. drop n (x ++ l)) long ∙ ap (drop (length y)) e ∙ drop-append_seam y m,
)

-- lists of three parts are equal exactly if the parts are
three_same : (x y p q l m : List ℤ) → length x ≡ length y → length p ≡ length q → x ++ (p ++ l) ≡ y ++ (q ++ m)
    → (x ≡ y) × ((p ≡ q) × (l ≡ m))
three_same x y p q l m long wide e =
    let first = append_same x y (p ++ l) (q ++ m) long e in
    let rest = append_same p q l m wide first.1 in
    (first.0, (rest.0, rest.1))

-- what `==` answers of stored numbers
numbers_decide : (m n : Numbers)
    → Decides (pointwise int_eq m.first n.first && (pointwise int_eq m.small n.small && pointwise int_eq m.last n.last))
    (numbers_of m ≡ numbers_of n)
unfolding numbers_of
numbers_decide m n =
    let first = pointwise int_eq m.first n.first in
    let small = pointwise int_eq m.small n.small in
    let last = pointwise int_eq m.last n.last in
    Decides-like (first && (small && last))
    (λ (e : (m.first ≡ n.first) × ((m.small ≡ n.small) × (m.last ≡ n.last))). λ i. e.0 i ++ (e.1.0 i ++ e.1.1 i))
    (three_same m.first n.first m.small n.small m.last n.last (m.long.0 ∙ sym n.long.0) (m.long.1 ∙ sym n.long.1))
    (Decides-and first (small && last) (slice_eq-Decides Decides-int_eq m.first n.first first refl)
    (Decides-and small last (slice_eq-Decides Decides-int_eq m.small n.small small refl)
    (slice_eq-Decides Decides-int_eq m.last n.last last refl)))

-- boards with the same parts have the same fields
fields_same : (a b : Board)
    → (name_of a.player ≡ name_of b.player)
    × ((name_of a.opponent ≡ name_of b.opponent) × (numbers_of a.numbers ≡ numbers_of b.numbers))
    → fields_of a ≡ fields_of b
fields_same a b e i = record { player = e.0 i; opponent = e.1.0 i; numbers = e.1.1 i }

-- and the other way round
parts_same : (a b : Board) → fields_of a ≡ fields_of b
    → (name_of a.player ≡ name_of b.player)
    × ((name_of a.opponent ≡ name_of b.opponent) × (numbers_of a.numbers ≡ numbers_of b.numbers))
parts_same a b e = (
  ap (λ (f : BoardFields). f.player) e,
  (ap (λ (f : BoardFields). f.opponent) e, ap (λ (f : BoardFields). f.numbers) e),
)

-- what `==` answers of two boards
pub boards_decide : (a b : Board) → Decides (board_eq.it a b) (fields_of a ≡ fields_of b)
boards_decide a b =
    let player = bytes_eq a.player.bytes b.player.bytes && (a.player.len == b.player.len) in
    let opponent = bytes_eq a.opponent.bytes b.opponent.bytes && (a.opponent.len == b.opponent.len) in
    let m = a.numbers in
    let n = b.numbers in
    let numbers =
    pointwise int_eq m.first n.first && (pointwise int_eq m.small n.small && pointwise int_eq m.last n.last) in
    let each = Decides-and player (opponent && numbers) (name_decides a.player b.player)
    (Decides-and opponent numbers (name_decides a.opponent b.opponent)
    (numbers_decide a.numbers b.numbers)) in
    Decides-like (player && (opponent && numbers)) (fields_same a b) (parts_same a b) each
