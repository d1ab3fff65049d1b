-- The facts of a board below it: in three groups, each in as many rows as it needs (the project's own).
use Rattle.std.specs.Prelude.{◌+◌, ◌-◌, ◌++◌, ℕ, Bool, List, [], ◌∷◌, length, map, nat_lt, if◌then◌else◌}
use Rattle.fibs_fields.specs.Board.{BoardFields}
use Rattle.fibs_position.specs.PositionValue.{PositionValue}
use Rattle.fibs_picture.specs.Notes.{spaced, note}
use Rattle.fibs_picture.specs.declared.cell.Half.{Half}
use Rattle.fibs_picture.specs.declared.cell.Half.TheVariants as half
use Rattle.fibs_picture.specs.declared.look.Look.{Look}
use Rattle.fibs_picture.specs.declared.mark.Mark.TheVariants as M
use Rattle.fibs_picture.specs.declared.notes.Note.{Note}
use Rattle.fibs_picture.specs.declared.notes.Note.TheVariants as T

-- ---- facts in rows

-- behind what ends at a column there is no room for a comma, a space, a fact and one more comma
abbrev pub is_full : ℕ → ℕ → List ℕ → Bool
is_full columns column fact = nat_lt (columns - column) (3 + length fact)

-- a fact behind another one: in the same row if there is room, else in the next one
abbrev pub behind : ℕ → ℕ → List ℕ → List ℕ
behind columns column fact = 44 ∷ (if is_full columns column fact then 10 else 32) ∷ fact

-- the column where it ends
abbrev pub ends_at : ℕ → ℕ → List ℕ → ℕ
ends_at columns column fact = if is_full columns column fact then length fact else column + (2 + length fact)

-- some facts behind one that ends at a column, and the end of their row
abbrev pub facts_behind : ℕ → ℕ → List (List ℕ) → List ℕ
facts_behind columns column [] = 10 ∷ []
facts_behind columns column (fact ∷ facts) =
    behind columns column fact ++ facts_behind columns (ends_at columns column fact) facts

-- a fact and some behind it
abbrev pub facts_from : ℕ → List ℕ → List (List ℕ) → List ℕ
facts_from columns fact facts = fact ++ facts_behind columns (length fact) facts

-- ---- the facts of a board

-- a fact as it is told here
unfoldable pub told : Look → Bool → BoardFields → PositionValue → Note → List ℕ
told look watched b p n = spaced (note look watched b p M.Plain n)

-- what is told of a side, and of the match
abbrev pub side_facts : Look → Bool → BoardFields → PositionValue → Half → List ℕ
side_facts look watched b p h = facts_from look.columns (told look watched b p (T.Name h))
    (map (told look watched b p) (T.Score h ∷ T.Off h ∷ T.Pips h ∷ T.Dice h ∷ []))

-- what is told of the match
abbrev pub match_facts : Look → Bool → BoardFields → PositionValue → List ℕ
match_facts look watched b p = facts_from look.columns (told look watched b p T.Length)
    (map (told look watched b p) (T.Cube ∷ T.Turn ∷ []))

-- who is above
abbrev pub half_above : Bool → Half
half_above turned = if turned then half.Lower else half.Upper

-- and who is below
abbrev pub half_below : Bool → Half
half_below turned = if turned then half.Upper else half.Lower

-- all that is told below a board
unfoldable pub words_below : Look → Bool → BoardFields → PositionValue → List ℕ
words_below look watched b p =
    side_facts look watched b p (half_above look.is_turned)
    ++ (match_facts look watched b p ++ side_facts look watched b p (half_below look.is_turned))
