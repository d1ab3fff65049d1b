-- Which matches the lines of a file say, and what is said of them together (the project's own; docs/FORMATS.md).
use Rattle.std.specs.Prelude.{◌≡◌, ◌⊎◌, ◌++◌, ◌∷◌, ◌==◌, ◌-◌, ⊤, ℕ, List, [], codes, cond, count_by, decimal, length, nat_lt, take}
use Rattle.std.specs.List.{slice_split}
use Rattle.fibs_fields.specs.Name.{is_name}
use Rattle.fibs_fields.specs.Split.{before}
use Rattle.fibs_wording.specs.Matches.{SaysPlayed, later, opponent_in}
use Rattle.fibs_wording.specs.declared.matches.PlayedMatch.{PlayedMatch}

-- a line of the file says a match
pub record SaysMatch (line : List ℕ) (m : PlayedMatch) : Type 0 where
  pub date : m.date.now ≡ before 9 line
  pub opponent : m.opponent.now ≡ opponent_in line
  pub played : SaysPlayed (later (later line)) m.score m.before m.after m.experience

-- a match is asked for: all are, or those with a player
abbrev pub IsAskedFor : List ℕ → PlayedMatch → Type 0
IsAskedFor name m = (name ≡ []) ⊎ (m.opponent.now ≡ name)

-- some matches are said by lines, in their order, and each of them is asked for; a line may say none
abbrev pub AreSaid : List ℕ → List (List ℕ) → List PlayedMatch → Type 0
AreSaid name lines [] = ⊤
AreSaid name [] (m ∷ more) = ⊥
AreSaid name (line ∷ lines) (m ∷ more) =
    (SaysMatch line m × IsAskedFor name m × AreSaid name lines more) ⊎ AreSaid name lines (m ∷ more)

-- the lines of the file
abbrev pub file_lines : List ℕ → List (List ℕ)
file_lines file = slice_split (λ b. b == 10) file

-- how many of some matches the user has won
abbrev pub won_of : List PlayedMatch → ℕ
won_of found = count_by (λ (m : PlayedMatch). nat_lt m.score.other m.score.own) found

-- how many matches there are, if all are asked for; else with whom they are
abbrev pub balance_front : List ℕ → ℕ → List ℕ
balance_front name count =
    cond (length name == 0) (decimal count ++ cond (count == 1) (codes " match") (codes " matches")) name

-- how many of them were won and lost
abbrev pub balance_words : List ℕ → List PlayedMatch → List ℕ
balance_words name found = balance_front name (length found) ++ (codes ": " ++ (decimal (won_of found)
    ++ (codes " won, " ++ (decimal (length found - won_of found) ++ codes " lost.\n"))))

-- that there is no match in the file, or none with a player
abbrev pub none_words : List ℕ → List ℕ
none_words name =
    codes "No match" ++ (cond (is_name name) (codes " with " ++ take 20 name) [] ++ codes " is recorded.\n")
