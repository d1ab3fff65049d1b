-- The user's own rating in words (the project's own).
use Rattle.std.specs.Prelude.{◌++◌, ◌-◌, ℕ, List, codes, cond, decimal, nat_lt}
use Rattle.fibs_fields.specs.Rating.{printed_rating}

-- by how much a rating has changed, with its sign
unfoldable pub change_words : ℕ → ℕ → List ℕ
change_words before now = cond (nat_lt now before)
    (codes "-" ++ printed_rating (before - now))
    (codes "+" ++ printed_rating (now - before))

-- what is said of the experience
unfoldable pub points_words : ℕ → List ℕ
points_words experience = codes "), experience " ++ (decimal experience ++ codes ".")

-- what is said of the change, and of the experience
unfoldable pub changed_words : ℕ → ℕ → ℕ → List ℕ
changed_words before now experience = codes " now (" ++ (change_words before now ++ points_words experience)

-- what is said of a rating that a match has changed
unfoldable pub rated_words : ℕ → ℕ → ℕ → List ℕ
rated_words before now experience = codes "You are rated " ++ (printed_rating now
    ++ changed_words before now experience)
