-- What is said at the end of a login (the project's own).
use Rattle.std.specs.Prelude.{◌++◌, ◌||◌, ◌==◌, ℕ, Bool, not, List, [], codes, decimal, Option, Some, None, if◌then◌else◌}
use Rattle.fibs_fields.specs.Rating.{printed_rating}

-- the user's rating, in hundredths
abbrev pub rated_words : Option ℕ → List ℕ
rated_words None = []
rated_words (Some rating) = codes "Rated " ++ (printed_rating rating ++ codes ". ")

-- a number of players who can be invited
unfoldable pub some_ready : ℕ → List ℕ
some_ready ready = codes ", " ++ (decimal ready ++ codes " ready.")

-- how many of the others can be invited
abbrev pub ready_words : ℕ → List ℕ
ready_words ready = if ready == 0 then codes ", none ready." else some_ready ready

-- how many others there are
abbrev pub others_words : ℕ → ℕ → List ℕ
others_words others ready =
    if others == 0 then codes "Nobody else is here." else
    decimal others ++ ((if others == 1 then codes " player" else codes " players") ++ ready_words ready)

-- what to type next: only if the user is free to invite somebody, and somebody is here; whom he can invite, if anybody
abbrev pub next_words : ℕ → ℕ → Bool → List ℕ
next_words others ready is_free =
    if not is_free || others == 0 then [] else
    if ready == 0 then codes " players lists them." else codes " Type players ready, then invite NAME 5."

-- the row
abbrev pub greeting_words : Option ℕ → ℕ → ℕ → Bool → List ℕ
greeting_words rating others ready is_free =
    rated_words rating ++ (others_words others ready ++ next_words others ready is_free)
