-- The texts by which a server says how a game or a match has ended (the texts of FIBS).
use Rattle.std.specs.Prelude.{◌≡◌, ◌++◌, ◌==◌, ◌⊎◌, ℕ, Bool, true, false, List, codes, decimal, if◌then◌else◌}
use Rattle.fibs_terminal.specs.declared.drawing.ending.Ending.{Ending}

-- who has won
abbrev pub winner_words : Bool → List ℕ → List ℕ
winner_words is_own opponent = if is_own then codes "You win" else opponent ++ codes " wins"

-- points
abbrev pub points_words : ℕ → List ℕ
points_words points = decimal points ++ (if points == 1 then codes " point" else codes " points")

-- what follows who has won a game, before its points
abbrev pub gets_words : Bool → List ℕ
gets_words true = codes " the game and get "
gets_words false = codes " the game and gets "

-- what follows the points
abbrev pub end_words : Bool → List ℕ
end_words true = codes ". Congratulations!"
end_words false = codes ". Sorry."

-- what follows who has won a game
unfoldable pub won_words : Ending → List ℕ
won_words e = gets_words e.is_own ++ (points_words e.points ++ end_words e.is_own)

-- the text of a game
abbrev pub game_words : Ending → List ℕ → List ℕ
game_words e opponent = winner_words e.is_own opponent ++ won_words e

-- the points of who has lost, and the end of the text
unfoldable pub lost_words : ℕ → List ℕ
lost_words lost = codes "-" ++ (decimal lost ++ codes " .")

-- what follows the length of a match
unfoldable pub match_label : List ℕ
match_label = codes " point match "

-- the points of both
unfoldable pub score_words : Ending → List ℕ
score_words e = match_label ++ (decimal e.won ++ lost_words e.lost)

-- what follows who has won a match: its length, and the points of who has won, and of who has lost
unfoldable pub match_won_words : Ending → List ℕ
match_won_words e = codes " the " ++ (decimal e.length ++ score_words e)

-- the text of a match
abbrev pub match_words : Ending → List ℕ → List ℕ
match_words e opponent = winner_words e.is_own opponent ++ match_won_words e

-- a text says this ending whole, and no more: that of the game, or, if the match is over by it, that of the match
abbrev pub is_ending : Ending → List ℕ → List ℕ → Type 0
is_ending e opponent said =
    (said ≡ game_words e opponent) ⊎ ((e.is_match ≡ true) × (said ≡ match_words e opponent))
