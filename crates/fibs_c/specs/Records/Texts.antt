-- Bytes that are handed out into a room of the caller, and flags.
use Rattle.std.specs.Prelude.{◌≡◌, ℕ, ◌<◌, ◌≤◌, Bool, List, length, take, drop, not, nat_eq, if◌then◌else◌}

-- the bytes are at the room's start, if they fit, and the rest of the room is as it was; else only their length is
-- given, and nothing is written
pub record HandsOut (bytes old new : List ℕ) (len status : ℕ) : Type 0 where
  pub len_is : len ≡ length bytes
  pub fits : length bytes ≤ length old → (status ≡ 0) × (take len new ≡ bytes) × (drop len new ≡ drop len old)
  pub short : length old < length bytes → (status ≡ 503) × (new ≡ old)

-- a flag as C has it: 1 or 0
abbrev pub flag_of : Bool → ℕ
flag_of flag = if flag then 1 else 0

-- whether it is set
abbrev pub is_set : ℕ → Bool
is_set n = not (nat_eq n 0)

-- a name is handed out; the empty one is that of no status, and then nothing is written
pub record IsNamed (name old new : List ℕ) (len len' status : ℕ) : Type 0 where
  pub none : length name ≡ 0 → (status ≡ 509) × (new ≡ old) × (len' ≡ len)
  pub some : 0 < length name → HandsOut name old new len' status
