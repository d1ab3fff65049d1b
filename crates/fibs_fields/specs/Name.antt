-- What a name is (FIBS board style 3, CLIP 1008).
use Rattle.std.specs.Prelude.{◌==◌, ◌&&◌, ℕ, Bool, not, List, length, nat_lt, nat_le}
use Rattle.std.specs.List.{list_all}

-- a printable byte of ASCII other than a colon
abbrev pub is_name_byte : ℕ → Bool
is_name_byte c = nat_le 33 c && nat_le c 126 && not (c == 58)

-- a name: 1 to 64 such bytes
abbrev pub is_name : List ℕ → Bool
is_name text = nat_lt 0 (length text) && nat_le (length text) 64 && list_all is_name_byte text
