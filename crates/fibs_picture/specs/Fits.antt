-- How large a picture is.
use Rattle.std.specs.Prelude.{◌≡◌, ◌≤◌, ◌++◌, ℕ, Bool, true, List, [], ◌∷◌, length}
use Rattle.std.specs.Int.{is_in_range}
use Rattle.std.specs.List.{flat_map, list_all, AllByRecursion}
use Rattle.fibs_fields.specs.Board.{BoardFields}
use Rattle.fibs_picture.specs.Look.{HasLetters}
use Rattle.fibs_picture.specs.Tells.{IsSeen}
use Rattle.fibs_picture.specs.Whole.{seen_picture}
use Rattle.fibs_picture.specs.declared.look.Look.{Look}

-- a text fits a terminal of so many columns: it is as wide at most, and no wider than 79; its bytes are from 32 to 126
abbrev pub Fits : ℕ → List ℕ → Type 0
Fits columns text = (length text ≤ columns) × (length text ≤ 79) × (list_all (is_in_range 32 126) text ≡ true)

-- a text and a line end
abbrev pub ended : List ℕ → List ℕ
ended text = text ++ 10 ∷ []

-- from 40 columns on a picture is rows that fit
abbrev pub PictureFits : Type 0
PictureFits = (look : Look) (watched wanted : Bool) (b : BoardFields) → HasLetters look → IsSeen b → 40 ≤ look.columns
    → (lines : List (List ℕ)) × AllByRecursion (Fits look.columns) lines
    × (seen_picture look watched wanted b ≡ flat_map ended lines)
