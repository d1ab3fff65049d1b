-- What puts a title into a terminal's window (xterm's control sequences: OSC 2, and CSI 22 for the stack of titles).
use Rattle.std.specs.Prelude.{◌≡◌, ◌++◌, ◌⊎◌, ℕ, List, [], ◌∷◌, codes}

-- keeps the title that the window has
abbrev pub keep_title : List ℕ
keep_title = 27 ∷ codes "[22;0t"

-- puts the title back that the window had, if another one was put there
abbrev pub put_back : List ℕ → List ℕ
put_back [] = []
put_back (byte ∷ shown) = 27 ∷ codes "[23;0t"

-- puts words there: nothing else is between the two ends
abbrev pub set_title : List ℕ → List ℕ
set_title words = (27 ∷ codes "]2;") ++ (words ++ (27 ∷ 92 ∷ []))

-- what a title says: what the game says; without one that there is none, if the window had a title of a game before
abbrev pub title_words : List ℕ → List ℕ → List ℕ
title_words [] [] = []
title_words (byte ∷ shown) [] = codes "fibs"
title_words shown (byte ∷ game) = byte ∷ game

-- what is written stays as it is, or the title comes before it
abbrev pub PutsTitle : List ℕ → List ℕ → List ℕ → Type 0
PutsTitle words before after =
    (after ≡ before) ⊎ ((after ≡ set_title words ++ before) ⊎ (after ≡ keep_title ++ (set_title words ++ before)))
