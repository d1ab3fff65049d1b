-- How a terminal draws a board, or tells it (the project's own).
use Rattle.std.specs.Prelude.{◌≡◌, ◌≤◌, ◌&&◌, ℕ, List, [], ◌∷◌, Bool, Option, Some, None, false, not, nat_le, is_none, slice_index, if◌then◌else◌}
use Rattle.std.specs.List.{flat_map, AllByRecursion}
use Rattle.fibs_fields.specs.Board.{BoardFields}
use Rattle.fibs_position.specs.GoodBoard.{IsGood}
use Rattle.fibs_position.specs.PositionValue.{position_of}
use Rattle.fibs_picture.specs.Fits.{Fits, ended}
use Rattle.fibs_picture.specs.InWords.Rows.{IsBroken, words}
use Rattle.fibs_picture.specs.InWords.Tellings.{rows_before}
use Rattle.fibs_picture.specs.Look.{are_letters}
use Rattle.fibs_picture.specs.Marks.{seen}
use Rattle.fibs_picture.specs.Tells.{IsSeen, SameOnScreen, SameDeed}
use Rattle.fibs_picture.specs.Told.{SameToTheEye}
use Rattle.fibs_picture.specs.Whole.{written_picture}
use Rattle.fibs_picture.specs.declared.in_words.told.Told.{Told}
use Rattle.fibs_picture.specs.declared.look.Look.{Look}
use Rattle.fibs_wording.specs.declared.environment.settings.Settings.{Settings}

-- ---- pictures

-- the letters of both sides: O and X, if the user has none that can be told from each other and from digits
abbrev pub letters_of : Option (List ℕ) → List ℕ
letters_of None = 79 ∷ 88 ∷ []
letters_of (Some letters) =
    if are_letters (slice_index letters 0) (slice_index letters 1) then letters else 79 ∷ 88 ∷ []

-- the terminal shows nothing in bold, and is wide; the user has asked for no other letters and no other side
abbrev pub is_plain : Settings → Bool
is_plain s =
    not s.words && (not s.colour && (is_none s.letters && (not s.is_turned && nat_le 79 s.columns)))

-- how a terminal draws
abbrev pub look_of : Settings → Look
look_of s = record {
  own = slice_index (letters_of s.letters) 0;
  other = slice_index (letters_of s.letters) 1;
  numbers = s.numbers;
  is_turned = s.is_turned;
  is_marked = s.colour;
  is_long = is_plain s;
  columns = s.columns;
}

-- the picture of a board of the user's game, or of one that he watches: what can be done is below it if that is wanted,
-- and the opponent's checkers may be marked that have come
abbrev pub Draws : Settings → Bool → Bool → BoardFields → List ℕ → Type 0
Draws s watched wanted b text = (arrivals : List ℕ)
    × (text ≡ written_picture (look_of s) watched wanted b (position_of b) arrivals)

-- boards whose drawings the eye sees alike look the same: on every terminal
abbrev pub DrawingsTell : Type 0
DrawingsTell = (s : Settings) (watched wanted : Bool) (a b : BoardFields) (t u : List ℕ) → IsSeen a → IsSeen b
    → Draws s watched wanted a t → Draws s watched wanted b u → seen t ≡ seen u
    → SameOnScreen (look_of s) a b × SameDeed (look_of s) watched wanted a b

-- from 40 columns on the eye sees of a drawing rows that fit the terminal
abbrev pub DrawingsFit : Type 0
DrawingsFit = (s : Settings) (watched wanted : Bool) (b : BoardFields) (t : List ℕ) → IsSeen b → 40 ≤ s.columns
    → Draws s watched wanted b t
    → (lines : List (List ℕ)) × AllByRecursion (Fits s.columns) lines × (seen t ≡ flat_map ended lines)

-- ---- words

-- the board after which another one is told, if the user has what is new told, and not the whole board
abbrev pub told_before : Settings → Bool → Option Told → Option Told
told_before s whole last = if s.is_short && not whole then last else None

-- the board in words, in the user's numbers and after what was told before it, in rows that have room
abbrev pub TellsBoard : Settings → Option Told → BoardFields → List ℕ → Type 0
TellsBoard s before b text = IsBroken s.columns (words (rows_before before) false s.numbers b) text

-- boards of the same words after the same ones before are the same to the eye
abbrev pub TellingsTell : Type 0
TellingsTell = (s : Settings) (before : Option Told) (a b : BoardFields) (text : List ℕ) → IsGood a → IsGood b
    → TellsBoard s before a text → TellsBoard s before b text → SameToTheEye s.numbers a b
