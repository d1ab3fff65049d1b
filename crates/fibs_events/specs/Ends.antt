-- What boards of the user's game show of the cube, and of the ends of games and matches (FIBS board style 3).
use Rattle.std.specs.Prelude.{◌≡◌, ◌≤◌, ◌<◌, ◌+◌, ◌*◌, ◌==◌, ◌&&◌, ◌||◌, ◌⊎◌, ℕ, Bool, true, false, not, List, [], ◌∷◌, Option, Some, None, pos, nat_le, if◌then◌else◌}
use Rattle.std.specs.Ordering.{int_eq}
use Rattle.std.specs.Str.{bytes_eq}
use Rattle.fibs_fields.specs.Board.{BoardFields, field_of}
use Rattle.fibs_fields.specs.FieldReading.{natural}
use Rattle.fibs_position.specs.Phases.{phase_of}
use Rattle.fibs_position.specs.declared.phase.Phase.{Phase}
use Rattle.fibs_position.specs.declared.phase.Phase.TheVariants as P
use Rattle.fibs_position.specs.declared.stake.Stake.{Stake}
use Rattle.fibs_position.specs.declared.stake.Stake.TheVariants as K
use Rattle.fibs_events.specs.declared.event.Side.{Side}
use Rattle.fibs_events.specs.declared.event.Side.TheVariants as S
use Rattle.fibs_events.specs.declared.happened.Won.{Won}
use Rattle.fibs_events.specs.declared.happened.WonMatch.{WonMatch}

-- the other side
abbrev pub other_side : Side → Side
other_side S.Own = S.Other
other_side S.Other = S.Own

-- the points of a side on a board
abbrev pub score_of : Side → BoardFields → ℕ
score_of S.Own b = natural (field_of b 5)
score_of S.Other b = natural (field_of b 6)

-- the points of the user, and of his opponent
abbrev pub scores_of : BoardFields → List ℕ
scores_of b = score_of S.Own b ∷ score_of S.Other b ∷ []

-- what the cube shows
abbrev pub cube_of : BoardFields → ℕ
cube_of b = natural (field_of b 38)

-- who has taken the last double, by who may double next
abbrev pub taker_of : BoardFields → Option Side
taker_of b =
    if (natural (field_of b 39) == 1) && (natural (field_of b 40) == 0) then Some S.Own
    else if (natural (field_of b 39) == 0) && (natural (field_of b 40) == 1) then Some S.Other
    else None

-- who has taken a double: the other side than the one that is known to have doubled, or else whom the board says
abbrev pub taker_from : Option Side → Option Side → Option Side
taker_from None shown = shown
taker_from (Some doubler) shown = Some (other_side doubler)

-- a side has taken a double between two boards: the cube shows twice as much
pub record TakenBetween (doubler : Option Side) (before after : BoardFields) (who : Side) : Type 0 where
  pub cube : cube_of after ≡ cube_of before * 2
  pub by : taker_from doubler (taker_of after) ≡ Some who

-- the same from the board that is known, if one is
abbrev pub TakenFrom : Option Side → Option BoardFields → BoardFields → Side → Type 0
TakenFrom doubler None after who = ⊥
TakenFrom doubler (Some before) after who = TakenBetween doubler before after who

-- a board shows a double: the opponent's, which waits for an answer
abbrev pub DoubleShown : BoardFields → Side → Type 0
DoubleShown b who = (who ≡ S.Other) × (phase_of b ≡ P.AnswerDouble)

-- a side has doubled: a board shows it, or that the other side has taken it
abbrev pub DoubledFrom : Option BoardFields → BoardFields → Side → Type 0
DoubledFrom known after who =
    DoubleShown after who ⊎ ((taker : Side) × TakenFrom None known after taker × (who ≡ other_side taker))

-- what points are on a cube
abbrev pub worth_of : ℕ → ℕ → Option Stake
worth_of points cube =
    if points == cube then Some K.Normal
    else if points == cube * 2 then Some K.Gammon
    else if points == cube * 3 then Some K.Backgammon
    else None

-- what points are on the cube of a board, if one is known
abbrev pub worth_in : ℕ → Option BoardFields → Option Stake
worth_in points None = None
worth_in points (Some b) = worth_of points (cube_of b)

-- both sides have as many points on two boards
abbrev pub is_same_score : BoardFields → BoardFields → Bool
is_same_score a b = (score_of S.Own a == score_of S.Own b) && (score_of S.Other a == score_of S.Other b)

-- two boards are of matches with the same opponent, and of the same length
abbrev pub is_alike : BoardFields → BoardFields → Bool
is_alike a b = bytes_eq a.opponent b.opponent && int_eq (field_of a 4) (field_of b 4)

-- nobody has lost points between two boards
abbrev pub keeps_points : BoardFields → BoardFields → Bool
keeps_points a b = nat_le (score_of S.Own a) (score_of S.Own b) && nat_le (score_of S.Other a) (score_of S.Other b)

-- a board can be of the match of the one before it
abbrev pub is_same_match : BoardFields → BoardFields → Bool
is_same_match a b = is_alike a b && keeps_points a b

-- in this phase the game is over
abbrev pub is_over : Phase → Bool
is_over P.Over = true
is_over phase = false

-- a board is of another game than the one before it, by whether the end of that one was told
abbrev pub is_next_game : BoardFields → BoardFields → Bool → Bool
is_next_game a b was_over =
    not (is_over (phase_of b)) && (was_over || (is_over (phase_of a) || not (is_same_score a b)))

-- a game was won between two boards: the winner has its points more, the other side as many as before
pub record GameWon (before after : BoardFields) (won : Won) : Type 0 where
  pub some : 0 < won.points
  pub gained : score_of won.winner after ≡ score_of won.winner before + won.points
  pub kept : score_of (other_side won.winner) after ≡ score_of (other_side won.winner) before
  pub worth : won.worth ≡ worth_of won.points (cube_of before)

-- the same from the board that is known, if one is
abbrev pub WonFrom : Option BoardFields → BoardFields → Won → Type 0
WonFrom None after won = ⊥
WonFrom (Some before) after won = GameWon before after won

-- a board shows no end of a match: it is unlimited, or neither side has as many points
abbrev pub NoMatchWon : BoardFields → Type 0
NoMatchWon b =
    (field_of b 4 ≡ pos 9999)
    ⊎ ((score_of S.Own b < natural (field_of b 4)) × (score_of S.Other b < natural (field_of b 4)))

-- a board shows the end of a match: its length and its scores, and the winner has as many points
pub record MatchWon (b : BoardFields) (won : WonMatch) : Type 0 where
  pub length : won.length ≡ natural (field_of b 4)
  pub score : won.score ≡ scores_of b
  pub enough : won.length ≤ score_of won.winner b
