-- What a picture tells: for every look.
use Rattle.std.specs.Prelude.{◌≡◌, ◌≤◌, ◌-◌, ◌&&◌, ◌++◌, nat_le, not, ℕ, Bool, true, false, List, [], ◌∷◌, map, take}
use Rattle.fibs_fields.specs.Board.{BoardFields, IsBoard, field_of}
use Rattle.fibs_position.specs.DirectionOf.{direction_of}
use Rattle.fibs_position.specs.OwnView.{own_view, own_placed, other_placed}
use Rattle.fibs_position.specs.Phases.{phase_of}
use Rattle.fibs_position.specs.PositionValue.{position_of}
use Rattle.fibs_picture.specs.Look.{HasLetters}
use Rattle.fibs_picture.specs.Marks.{seen}
use Rattle.fibs_picture.specs.Notes.{room, note}
use Rattle.fibs_picture.specs.Rows.{AlikeRows}
use Rattle.fibs_picture.specs.Told.{whose_turn}
use Rattle.fibs_picture.specs.Whole.{is_passing, written_picture, seen_picture}
use Rattle.fibs_picture.specs.declared.look.Look.{Look}
use Rattle.fibs_position.specs.declared.numbers.Numbers.TheVariants as N
use Rattle.fibs_picture.specs.declared.mark.Mark.TheVariants as M
use Rattle.fibs_picture.specs.declared.notes.Note.{Note}

-- a board of a game in which the user plays, or that he watches
pub record IsSeen (b : BoardFields) : Type 0 where
  pub board : IsBoard b
  pub own : own_placed b ≤ 15
  pub other : other_placed b ≤ 15

-- two boards look the same
pub record SameOnScreen (look : Look) (a b : BoardFields) : Type 0 where
  pub arrangement : own_view a ≡ own_view b
  -- the player's own numbers are the same on each board
  pub direction : look.numbers ≡ N.TheServers → direction_of a ≡ direction_of b
  pub turn : whose_turn a ≡ whose_turn b
  -- the player's and the opponent's
  pub dice : map (field_of a) (34 ∷ 35 ∷ 36 ∷ 37 ∷ []) ≡ map (field_of b) (34 ∷ 35 ∷ 36 ∷ 37 ∷ [])
  pub cube : field_of a 38 ≡ field_of b 38
  -- the player may double, the opponent may
  pub doublers : map (field_of a) (39 ∷ 40 ∷ []) ≡ map (field_of b) (39 ∷ 40 ∷ [])
  -- the player's and the opponent's
  pub scores : map (field_of a) (5 ∷ 6 ∷ []) ≡ map (field_of b) (5 ∷ 6 ∷ [])
  pub match_length : field_of a 4 ≡ field_of b 4
  -- as much of both names as there is room for
  pub player : take (room look.columns - 2) a.player ≡ take (room look.columns - 2) b.player
  pub opponent : take (room look.columns - 2) a.opponent ≡ take (room look.columns - 2) b.opponent

-- the words of two boards are the same, fact by fact
abbrev pub AlikeNotes : Look → Bool → BoardFields → BoardFields → Type 0
AlikeNotes look watched a b = (n : Note)
    → note look watched a (position_of a) M.Plain n ≡ note look watched b (position_of b) M.Plain n

-- boards with the same cells and the same words look the same: for every look, wherever the words stand
abbrev pub FactsTell : Type 0
FactsTell = (look : Look) (watched : Bool) (a b : BoardFields) → HasLetters look → IsSeen a → IsSeen b
    → AlikeRows look a b → AlikeNotes look watched a b → SameOnScreen look a b

-- two boards of the user's own games are the same in what he is to do, if the row below the board says it; else in
-- whether he can move
pub record SameDeed (look : Look) (watched wanted : Bool) (a b : BoardFields) : Type 0 where
  pub phase : (not watched && (wanted && nat_le 79 look.columns)) ≡ true → phase_of a ≡ phase_of b
  pub passing : watched ≡ false → is_passing (phase_of a) ≡ is_passing (phase_of b)

-- boards that the eye sees alike look the same, whatever the letters, the numbers, the marks, the side and the columns
-- are
abbrev pub PictureTells : Type 0
PictureTells = (look : Look) (watched wanted : Bool) (a b : BoardFields) → HasLetters look → IsSeen a → IsSeen b
    → seen_picture look watched wanted a ≡ seen_picture look watched wanted b
    → SameOnScreen look a b × SameDeed look watched wanted a b

-- the eye sees of a picture that is written its bytes, whatever is marked, and then what follows
abbrev pub PictureSeen : Type 0
PictureSeen = (look : Look) (watched wanted : Bool) (b : BoardFields) (arrivals : List ℕ) (rest : List ℕ)
    → HasLetters look → IsSeen b
    → seen (written_picture look watched wanted b (position_of b) arrivals ++ rest)
    ≡ seen_picture look watched wanted b ++ seen rest
