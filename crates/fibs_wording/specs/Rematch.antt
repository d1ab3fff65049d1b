-- What to type after a match, in words (the project's own).
use Rattle.std.specs.Prelude.{◌++◌, ℕ, List, codes, decimal, Option, Some, None}

-- the line that invites a player to a match of so many points
unfoldable pub invitation_words : List ℕ → ℕ → List ℕ
invitation_words name points = codes "invite " ++ (name ++ (codes " " ++ decimal points))

-- what is said after a match with this opponent of so many points, if it is known how many
abbrev pub rematch_words : List ℕ → Option ℕ → List ℕ
rematch_words opponent None = codes "Another match: players ready lists those who can be invited."
rematch_words opponent (Some points) =
    invitation_words opponent points ++ codes " plays another match; players ready lists others."
