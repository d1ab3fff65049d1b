-- What a match has changed: when the user's rating after it is known (the project's own).
use Rattle.std.specs.Prelude.{◌==◌, ◌&&◌, Bool, Option, Some, None, false, cond, pos, unsigned_abs}
use Rattle.std.specs.Ordering.{int_eq}
use Rattle.fibs_fields.specs.Board.{BoardFields, field_of}
use Rattle.fibs_wording.specs.declared.matches.Score.{Score}
use Rattle.fibs_terminal.specs.declared.results.Rated.{Rated}
use Rattle.fibs_terminal.specs.declared.results.Ended.{Ended}

-- two that are alike: a match that counts has changed the rating, or the experience
abbrev pub is_alike : Rated → Rated → Bool
is_alike a b = (a.rating == b.rating) && (a.experience == b.experience)

-- whether what is said now is the same as what was known before
abbrev pub says_nothing_new : Option Rated → Rated → Bool
says_nothing_new None now = false
says_nothing_new (Some before) now = is_alike before now

-- the match whose rating is told by what the server says of the user now: the one that has ended, unless it says what
-- was known before
abbrev pub rated_by : Option Ended → Rated → Option Ended
rated_by None now = None
rated_by (Some ended) now = cond (says_nothing_new ended.before now) None (Some ended)

-- the match of which no rating was told then
abbrev pub unrated_after : Option Ended → Rated → Option Ended
unrated_after None now = None
unrated_after (Some ended) now = cond (says_nothing_new ended.before now) (Some ended) None

-- the score on a board of a match of some length: 9999 is no length
abbrev pub score_of : BoardFields → Option Score
score_of b = cond (int_eq (field_of b 4) (pos 9999)) None (Some (record {
  length = unsigned_abs (field_of b 4);
  own = unsigned_abs (field_of b 5);
  other = unsigned_abs (field_of b 6);
}))
