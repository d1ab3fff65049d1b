-- Letters that are found to be so can be told from each other.
use Rattle.std.proofs.Common.{◌≡◌, ◌≢◌, ◌⊎◌, ◌<◌, ◌≤◌, ◌==◌, ◌&&◌, ◌||◌, ℕ, true, not, nat_lt, nat_le, arith}
use Rattle.std.proofs.lemmas.Bool.{and_parts}
use Rattle.std.proofs.lemmas.Bool.Decides.{nat_tests}
use Rattle.fibs_picture.specs.Look.{IsLetter, HasLetters, is_letter, are_letters}
use Rattle.fibs_picture.specs.declared.look.Look.{Look}

-- a number that is found to be at most another is
is-most : (m n : ℕ) → nat_le m n ≡ true → m ≤ n
is-most m n h = grind (arith, nat_tests)

-- one of two tests holds
one-holds : (byte : ℕ) → (nat_lt byte 48 || nat_lt 57 byte) ≡ true → (byte < 48) ⊎ (57 < byte)
one-holds byte h = grind (arith, nat_tests)

-- a letter that is found to be one is
letter-is : (byte : ℕ) → is_letter byte ≡ true → IsLetter byte
letter-is byte h =
    let p = and_parts (nat_le 33 byte) (nat_le byte 126 && (nat_lt byte 48 || nat_lt 57 byte)) h in
    let q = and_parts (nat_le byte 126) (nat_lt byte 48 || nat_lt 57 byte) p.1 in
    (is-most 33 byte p.0, is-most byte 126 q.0, one-holds byte q.1)

-- two letters that are found to differ do
not-same : (m n : ℕ) → not (m == n) ≡ true → m ≢ n
not-same m n h e = grind (arith, nat_tests)

-- so a look has letters if its letters are
pub letters_apart : (look : Look) → are_letters look.own look.other ≡ true → HasLetters look
letters_apart look h =
    let p = and_parts (is_letter look.own) (is_letter look.other && not (look.own == look.other)) h in
    let q = and_parts (is_letter look.other) (not (look.own == look.other)) p.1 in
    record { own = letter-is look.own p.0; other = letter-is look.other q.0; two = not-same look.own look.other q.1 }
