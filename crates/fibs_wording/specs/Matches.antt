-- Matches that have ended, as lines of a file (the project's own; docs/FORMATS.md).
use Rattle.std.specs.Prelude.{◌≡◌, ◌++◌, ◌∷◌, ◌||◌, ℕ, Bool, List, [], Option, Some, None, codes, cond, decimal, nat_le}
use Rattle.fibs_fields.specs.Split.{before, after}
use Rattle.fibs_fields.specs.Rating.{printed_rating, rating_value}
use Rattle.fibs_wording.specs.declared.matches.Score.{Score}

-- what stands for what is not known
abbrev pub unknown : List ℕ
unknown = codes "-"

-- a rating, if it is known
abbrev pub rating_field : Option ℕ → List ℕ
rating_field None = unknown
rating_field (Some rating) = printed_rating rating

-- the points of the matches that the user has played, if they are known
abbrev pub experience_field : Option ℕ → List ℕ
experience_field None = unknown
experience_field (Some points) = decimal points

-- the user's points and the opponent's
unfoldable pub score_field : ℕ → ℕ → List ℕ
score_field own other = decimal own ++ (codes "-" ++ decimal other)

-- the last three fields of a line, and its end: the ratings before and after the match, and the experience
unfoldable pub rated_fields : Option ℕ → Option ℕ → Option ℕ → List ℕ
rated_fields before after experience = rating_field before ++ ((9 ∷ []) ++ (rating_field after
    ++ ((9 ∷ []) ++ (experience_field experience ++ (10 ∷ [])))))

-- the last five, with the length and the score before these
unfoldable pub played_fields : ℕ → ℕ → ℕ → Option ℕ → Option ℕ → Option ℕ → List ℕ
played_fields length own other before after experience = decimal length ++ ((9 ∷ []) ++ (score_field own other
    ++ ((9 ∷ []) ++ rated_fields before after experience)))

-- a line of the file: seven fields, with a tab between them; the first are the date and the opponent
unfoldable pub match_line : List ℕ → List ℕ → ℕ → ℕ → ℕ → Option ℕ → Option ℕ → Option ℕ → List ℕ
match_line date opponent length own other before after experience = date ++ ((9 ∷ []) ++ (opponent ++ ((9 ∷ [])
    ++ played_fields length own other before after experience)))

-- what follows the first tab
abbrev pub after_tab : Option (List ℕ) → List ℕ
after_tab None = []
after_tab (Some rest) = rest

-- the second field of a line
abbrev pub opponent_in : List ℕ → List ℕ
opponent_in line = before 9 (after_tab (after 9 line))

-- what follows the first field of some
abbrev pub later : List ℕ → List ℕ
later fields = after_tab (after 9 fields)

-- what a field says of a rating: that it is not known, or its hundredths
abbrev pub IsRatingField : List ℕ → Option ℕ → Type 0
IsRatingField field None = field ≡ unknown
IsRatingField field (Some rating) = rating_value field ≡ rating

-- the last five fields of a line say a score, the ratings before and after the match, and the experience
pub record SaysPlayed (fields : List ℕ) (s : Score) (old new experience : Option ℕ) : Type 0 where
  pub match_length : before 9 fields ≡ decimal s.length
  pub own_points : before 45 (before 9 (later fields)) ≡ decimal s.own
  pub other_points : after 45 (before 9 (later fields)) ≡ Some (decimal s.other)
  pub old_rating : IsRatingField (before 9 (later (later fields))) old
  pub new_rating : IsRatingField (before 9 (later (later (later fields)))) new
  pub points : later (later (later (later fields))) ≡ experience_field experience

-- the points of a match are those of one that is over: a player has the points of its length
abbrev pub is_won : Score → Bool
is_won s = nat_le s.length s.own || nat_le s.length s.other

-- the score with which a match has ended: that of the board that came last, if it is one of a match that is over; else
-- that which a text says
abbrev pub final_score : Option Score → Option Score → Option Score
final_score None text = text
final_score (Some board) text = cond (is_won board) (Some board) text
