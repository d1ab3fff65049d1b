-- How a picture is drawn (the project's own).
use Rattle.std.specs.Prelude.{◌≢◌, ◌==◌, ◌&&◌, ◌||◌, ◌<◌, ◌≤◌, ◌⊎◌, not, nat_lt, nat_le, ℕ, Bool}
use Rattle.fibs_picture.specs.declared.look.Look.{Look}

-- a letter of checkers is printed, and no digit
abbrev pub IsLetter : ℕ → Type 0
IsLetter byte = (33 ≤ byte) × (byte ≤ 126) × ((byte < 48) ⊎ (57 < byte))

-- the letters can be told from each other, and from what else stands on a place
pub record HasLetters (look : Look) : Type 0 where
  pub own : IsLetter look.own
  pub other : IsLetter look.other
  pub two : look.own ≢ look.other

-- the same of two letters, as a test
abbrev pub is_letter : ℕ → Bool
is_letter byte = nat_le 33 byte && (nat_le byte 126 && (nat_lt byte 48 || nat_lt 57 byte))

-- of two letters that differ
abbrev pub are_letters : ℕ → ℕ → Bool
are_letters own other = is_letter own && (is_letter other && not (own == other))
