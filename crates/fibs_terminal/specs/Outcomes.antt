-- How a game has ended, as the board at its end and the one before it show it (the rules of backgammon; FIBS board
-- style 3).
use Rattle.std.specs.Prelude.{◌++◌, ◌&&◌, ◌-ℤ◌, ◌*ℤ◌, ℕ, ℤ, pos, Bool, true, false, not, List, [], codes, take, decimal, int_le, int_lt, unsigned_abs, Option, Some, None, if◌then◌else◌}
use Rattle.std.specs.Ordering.{int_eq}
use Rattle.fibs_fields.specs.Board.{BoardFields, field_of}
use Rattle.fibs_terminal.specs.Endings.{match_label, points_words}
use Rattle.fibs_terminal.specs.declared.drawing.ending.Ending.{Ending}
use Rattle.fibs_terminal.specs.declared.drawing.outcomes.Winner.{Winner}
use Rattle.fibs_terminal.specs.declared.drawing.outcomes.Winner.TheVariants as W

-- the field that has the points of a side: of the user, or of his opponent
abbrev pub score_field : Bool → ℕ
score_field true = 5
score_field false = 6

-- the field that has the checkers that a side has borne off
abbrev pub off_field : Bool → ℕ
off_field true = 46
off_field false = 47

-- the points of a side on a board
abbrev pub score_in : BoardFields → Bool → ℤ
score_in b is_own = field_of b (score_field is_own)

-- a side has borne off all of its checkers
abbrev pub is_off : BoardFields → Bool → Bool
is_off b is_own = int_eq (field_of b (off_field is_own)) (pos 15)

-- the points that a side has won since the board before, if there is one
unfoldable pub gained : Option BoardFields → BoardFields → Bool → ℤ
gained None b is_own = pos 0
gained (Some before) b is_own = score_in b is_own -ℤ score_in before is_own

-- a side has won points since
abbrev pub has_gained : Option BoardFields → BoardFields → Bool → Bool
has_gained before b is_own = int_lt (pos 0) (gained before b is_own)

-- who has won: the side whose score has grown, else the one that has no checkers left
unfoldable pub winner : Option BoardFields → BoardFields → Winner
winner before b =
    if has_gained before b true then W.Own else
    if has_gained before b false then W.Other else
    if is_off b true then W.Own else
    if is_off b false then W.Other else W.Unknown

-- the match is over: it has a length, and who has won the game has so many points
abbrev pub is_won : BoardFields → Bool → Bool
is_won b is_own = not (int_eq (field_of b 4) (pos 9999)) && int_le (field_of b 4) (score_in b is_own)

-- what is told of a game that a side has won by these points
abbrev pub ending_of : BoardFields → Bool → ℤ → Ending
ending_of b is_own points = record {
  is_own = is_own;
  points = unsigned_abs points;
  is_match = is_won b is_own;
  length = unsigned_abs (field_of b 4);
  won = unsigned_abs (score_in b is_own);
  lost = unsigned_abs (score_in b (not is_own));
}

-- so if the points are known
abbrev pub ending_if : Option BoardFields → BoardFields → Bool → Option Ending
ending_if before b is_own =
    if has_gained before b is_own then Some (ending_of b is_own (gained before b is_own)) else None

-- and if it is known who has won
abbrev pub ending_by : Winner → Option BoardFields → BoardFields → Option Ending
ending_by W.Own before b = ending_if before b true
ending_by W.Other before b = ending_if before b false
ending_by W.Unknown before b = None

-- how the game has ended
abbrev pub ending : Option BoardFields → BoardFields → Option Ending
ending before b = ending_by (winner before b) before b

-- ---- in words

-- the points are so many times those that the cube shows
abbrev pub is_times : ℤ → ℤ → ℤ → Bool
is_times times points cube = int_eq points (times *ℤ cube)

-- by what a game was won: by twice the points that the cube shows, or three times those
unfoldable pub win_words : ℤ → ℤ → List ℕ
win_words points cube =
    if is_times (pos 2) points cube then codes " by a gammon" else
    if is_times (pos 3) points cube then codes " by a backgammon" else []

-- by what, and for how many points
unfoldable pub gained_words : ℤ → ℤ → List ℕ
gained_words points cube = win_words points cube ++ (codes ", and " ++ points_words (unsigned_abs points))

-- so if that is known
abbrev pub gain_words : ℤ → ℤ → List ℕ
gain_words points cube = if int_lt (pos 0) points then gained_words points cube else []

-- what follows who has won
unfoldable pub won_words : ℤ → ℤ → List ℕ
won_words points cube = codes " the game" ++ gain_words points cube

-- the user has won these points, with the cube on this
unfoldable pub own_row : ℤ → ℤ → List ℕ
own_row points cube = codes "You win" ++ won_words points cube

-- his opponent has
unfoldable pub other_row : List ℕ → ℤ → ℤ → List ℕ
other_row opponent points cube = take 24 opponent ++ (codes " wins" ++ won_words points cube)

-- nobody knows who has
unfoldable pub unknown_row : List ℕ
unknown_row = codes "The game is over"

-- who has won, and by what
abbrev pub winner_row : Winner → Option BoardFields → BoardFields → List ℕ
winner_row W.Own before b = own_row (gained before b true) (field_of b 38)
winner_row W.Other before b = other_row b.opponent (gained before b false) (field_of b 38)
winner_row W.Unknown before b = unknown_row

-- so of a board and the one before it
abbrev pub won_row : Option BoardFields → BoardFields → List ℕ
won_row before b = winner_row (winner before b) before b

-- the points of the opponent, behind his name
unfoldable pub other_score : BoardFields → List ℕ
other_score b = take 24 b.opponent ++ (codes " " ++ decimal (unsigned_abs (score_in b false)))

-- the points of both sides
unfoldable pub scores_words : BoardFields → List ℕ
scores_words b = codes ". You " ++ (decimal (unsigned_abs (score_in b true)) ++ (codes ", " ++ other_score b))

-- the length of the match, if it has one
unfoldable pub length_words : BoardFields → List ℕ
length_words b = if int_eq (field_of b 4) (pos 9999) then [] else codes " of " ++ decimal (unsigned_abs (field_of b 4))

-- the score in a match that goes on
unfoldable pub score_row : BoardFields → List ℕ
score_row b = scores_words b ++ (length_words b ++ codes ".")

-- the points of who has lost a match
unfoldable pub lost_points : ℕ → List ℕ
lost_points lost = codes "-" ++ (decimal lost ++ codes ".")

-- the points of both in a match that is over
unfoldable pub final_words : Ending → List ℕ
final_words e = match_label ++ (decimal e.won ++ lost_points e.lost)

-- the end of a match
unfoldable pub match_row : Ending → List ℕ
match_row e = codes ", and the " ++ (decimal e.length ++ final_words e)

-- what follows: the end of the match, if the game has ended it, else the score
abbrev pub score_or_match : Option Ending → BoardFields → List ℕ
score_or_match None b = score_row b
score_or_match (Some e) b = if e.is_match then match_row e else score_row b

-- how a game has ended
abbrev pub outcome_words : Option BoardFields → BoardFields → List ℕ
outcome_words before b = won_row before b ++ score_or_match (ending before b) b
