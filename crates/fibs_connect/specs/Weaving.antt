-- What comes while a user types: his lines, and that the server speaks between two of them (the project's own).
use Rattle.std.specs.Prelude.{◌≡◌, ◌<◌, ℕ, List, [], ◌∷◌, ◌++◌, length, map, Option, Some, None, ⊤}
use Rattle.std.specs.Str.Lines.{lines}
use Rattle.fibs_connect.specs.TypedLines.{typed_line, after_typed_line, kept_typed}
use Rattle.fibs_connect.specs.declared.typed.typed_lines.Next.{Next}
use Rattle.fibs_connect.specs.declared.typed.typed_lines.Next.TheVariants as N

-- one thing that comes
pub data NextValue : Type 0 where
  line_typed : List ℕ → NextValue  -- a line was typed, and this is kept of it
  server_heard : NextValue  -- the server has spoken
  all_typed : NextValue  -- nothing follows

-- what comes next, with the line
abbrev pub next_value : Next → List ℕ → NextValue
next_value N.Typed line = line_typed line
next_value N.Heard line = server_heard
next_value N.Ended line = all_typed

-- it comes, and then this is still to come of what is typed: a line takes itself with its end, and what is heard takes
-- nothing
abbrev pub Comes : NextValue → List ℕ → List ℕ → Type 0
Comes (line_typed line) typed rest =
    (0 < length typed) × (line ≡ kept_typed (typed_line typed)) × (rest ≡ after_typed_line typed)
Comes server_heard typed rest = rest ≡ typed
Comes all_typed typed rest = (typed ≡ []) × (rest ≡ [])

-- the same if the prover knows what is typed
abbrev pub ComesOf : NextValue → Option (List ℕ) → Option (List ℕ) → Type 0
ComesOf next None still = ⊤
ComesOf next (Some typed) None = ⊥
ComesOf next (Some typed) (Some rest) = Comes next typed rest

-- all of these come, one after another
abbrev pub AllCome : List NextValue → List ℕ → List ℕ → Type 0
AllCome [] typed rest = rest ≡ typed
AllCome (next ∷ later) typed rest = (mid : List ℕ) × Comes next typed mid × AllCome later mid rest

-- the lines among them
abbrev pub lines_among : List NextValue → List (List ℕ)
lines_among [] = []
lines_among (line_typed line ∷ later) = line ∷ lines_among later
lines_among (server_heard ∷ later) = lines_among later
lines_among (all_typed ∷ later) = lines_among later

-- the lines of a text, and what is kept of each
abbrev pub kept_lines : List ℕ → List (List ℕ)
kept_lines typed = map kept_typed (lines typed)

-- whatever is heard between them, the lines that came and those that are still to come are the lines of what was typed
abbrev pub LinesComeInOrder : Type 0
LinesComeInOrder = (nexts : List NextValue) (typed rest : List ℕ) → AllCome nexts typed rest
    → kept_lines typed ≡ lines_among nexts ++ kept_lines rest
