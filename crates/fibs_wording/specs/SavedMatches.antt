-- Matches that the server has saved (the project's own).
use Rattle.std.specs.Prelude.{◌++◌, ℕ, List, codes, decimal, take, Option, Some, None}

-- the length of a match, if it has one
abbrev pub length_words : Option ℕ → List ℕ
length_words None = codes ""
length_words (Some length) = codes " of " ++ decimal length

-- the score: the user's points, the other player's, and the length of the match
unfoldable pub score_words : ℕ → ℕ → Option ℕ → List ℕ
score_words own other length = decimal own ++ (codes "-" ++ (decimal other ++ length_words length))

-- what is said of a match
unfoldable pub match_words : ℕ → ℕ → Option ℕ → List ℕ
match_words own other length = codes " is here: your match (" ++ (score_words own other length ++ codes ") is saved")

-- what is said of a match whose other player is here: of his name the first 24 bytes
abbrev pub here_words : List ℕ → ℕ → ℕ → Option ℕ → List ℕ
here_words name own other length = take 24 name ++ match_words own other length
