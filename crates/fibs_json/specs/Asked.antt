-- Where a stream tells that a login was refused, as fibs_events says it of the bytes of a connection.
use Rattle.std.specs.Prelude.{◌+◌, ◌&&◌, ◌||◌, ℕ, zero, suc, Bool, false, not, List, [], ◌∷◌, ◌++◌, take, drop, if◌then◌else◌}
use Rattle.std.specs.List.{list_any}
use Rattle.fibs_lines.specs.Lines.{is_line_end}
use Rattle.fibs_lines.specs.Questions.{asks_again}

-- one of the numbers below n passes the test
abbrev pub any_below : (ℕ → Bool) → ℕ → Bool
any_below test zero = false
any_below test (suc n) = any_below test n || test n

-- with its first n bytes the stream asks for the login once more, and no line has ended since
abbrev pub asks_still : List ℕ → ℕ → Bool
asks_still s n = asks_again (take n s) && not (list_any is_line_end (drop n s))

-- with its first n bytes the stream asks for the login once more, and it had not asked so in that line before
abbrev pub refuses_at : List ℕ → ℕ → Bool
refuses_at s n = asks_again (take n s) && not (any_below (asks_still (take n s)) n)

-- an object with a line end for each refusal that is told by so many bytes which follow the first `start` ones
abbrev pub refusals : List ℕ → List ℕ → ℕ → ℕ → List ℕ
refusals s object start zero = []
refusals s object start (suc n) =
    refusals s object start n ++ (if refuses_at s (start + n + 1) then object ++ (10 ∷ []) else [])
