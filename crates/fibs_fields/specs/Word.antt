-- What a word and a tail are: parts of a message of the server that are not names.
use Rattle.std.specs.Prelude.{◌==◌, ◌&&◌, ◌-◌, ℕ, Bool, not, List, length, nat_lt, slice_index}
use Rattle.std.specs.List.{list_all}

-- a word: 1 or more bytes, none of them a space
abbrev pub is_word : List ℕ → Bool
is_word text = nat_lt 0 (length text) && list_all (λ c. not (c == 32)) text

-- a tail: 1 or more bytes, the last of them not a space
abbrev pub is_tail : List ℕ → Bool
is_tail text = nat_lt 0 (length text) && not (slice_index text (length text - 1) == 32)
