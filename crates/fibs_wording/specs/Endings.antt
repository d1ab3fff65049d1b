-- What texts of the server say of the end of a match of the user, as `You win the 3 point match 3-1 .` or
-- `bob wins the 3 point match 3-1 .` (as FIBS says it).
use Rattle.std.specs.Prelude.{◌≡◌, ◌≢◌, ◌++◌, ◌<◌, ◌≤◌, ℕ, Bool, true, false, List, Some, MatchOption, codes, decimal, if◌then◌else◌}
use Rattle.fibs_fields.specs.Split.{before, after}
use Rattle.fibs_wording.specs.Matches.{is_won}
use Rattle.fibs_wording.specs.declared.matches.Ending.{Ending}
use Rattle.fibs_wording.specs.declared.matches.Score.{Score}

-- how the text of a match begins that the user has won
abbrev pub own_win : List ℕ
own_win = codes "You win the "

-- a text does not begin so
abbrev pub BeginsOtherwise : List ℕ → List ℕ → Type 0
BeginsOtherwise text front = (rest : List ℕ) → text ≢ front ++ rest

-- a text says whether the user has won a match with this opponent, and this follows
abbrev pub SaysWinner : List ℕ → List ℕ → Bool → List ℕ → Type 0
SaysWinner text opponent true rest = text ≡ own_win ++ rest
SaysWinner text opponent false rest =
    BeginsOtherwise text own_win × (text ≡ opponent ++ (codes " wins the " ++ rest))

-- the points of the winner
abbrev pub winner_of : Bool → Score → ℕ
winner_of won s = if won then s.own else s.other

-- the points of the loser
abbrev pub loser_of : Bool → Score → ℕ
loser_of won s = if won then s.other else s.own

-- no number of a score has more than eleven digits
pub record IsSmall (s : Score) : Type 0 where
  pub length : s.length ≤ 99999999999
  pub own : s.own ≤ 99999999999
  pub other : s.other ≤ 99999999999

-- what follows the winner says a score: the length, `point match`, and the points of the winner and of the loser; the
-- winner has more of them, and has won the match
pub record SaysScore (won : Bool) (text : List ℕ) (s : Score) : Type 0 where
  pub points : List ℕ
  pub match_length : before 32 text ≡ decimal s.length
  pub follows : after 32 text ≡ Some (codes "point match " ++ points)
  pub winner : before 45 (before 32 points) ≡ decimal (winner_of won s)
  pub loser : after 45 (before 32 points) ≡ Some (decimal (loser_of won s))
  pub small : IsSmall s
  pub more : loser_of won s < winner_of won s
  pub over : is_won s ≡ true

-- a text says the end of a match with this opponent, and its score, if it can be read
pub record SaysEnding (text opponent : List ℕ) (ending : Ending) : Type 0 where
  pub won : Bool
  pub rest : List ℕ
  pub winner : SaysWinner text opponent won rest
  pub score : MatchOption ending.score ((s : Score) → ¬ SaysScore won rest s) (λ s. SaysScore won rest s)
