-- What a terminal is sent so that the newest board stands in its upper rows, and what is said scrolls below (control
-- sequences of ECMA-48: CUU, CUD, CUP, ED, EL and IL; DECSTBM, DECSC and DECRC of the VT100).
use Rattle.std.specs.Prelude.{◌≡◌, ◌≤◌, ◌++◌, ◌+◌, ◌==◌, ◌-◌, ◌&&◌, ◌||◌, ℕ, List, [], ◌∷◌, Bool, true, false, Option, Some, None, codes, count_by, decimal, max, min, nat_le, nat_lt, not, take, unwrap_or, if◌then◌else◌}
use Rattle.fibs_lines.specs.Lines.{is_line_end}
use Rattle.fibs_fields.specs.Board.{BoardFields}
use Rattle.fibs_position.specs.GameOf.{game_of}
use Rattle.fibs_position.specs.WatchedOf.{watched_of}
use Rattle.fibs_position.specs.declared.game_board.GameBoard.{GameBoard}
use Rattle.fibs_position.specs.declared.watched_board.WatchedBoard.{WatchedBoard}
use Rattle.fibs_wording.specs.declared.environment.settings.Settings.{Settings}
use Rattle.fibs_terminal.specs.Drawings.{Draws, is_plain}
use Rattle.fibs_terminal.specs.declared.drawing.above.Above.{Above}

-- ---- what is sent

-- a control sequence of one number
unfoldable pub control : ℕ → ℕ → List ℕ
control n final = 27 ∷ 91 ∷ (decimal n ++ final ∷ [])

-- to the upper left
abbrev pub goes_home : List ℕ
goes_home = 27 ∷ codes "[H"

-- keeps where the cursor is
abbrev pub keeps_cursor : List ℕ
keeps_cursor = 27 ∷ codes "7"

-- puts it there again, and then down to the last row
abbrev pub puts_cursor : List ℕ
puts_cursor = 27 ∷ (codes "8" ++ 27 ∷ codes "[999B")

-- so many rows are free below the cursor, which stays in its row: 24 at most
unfoldable pub frees_below : ℕ → List ℕ
frees_below n = take (min n 24) (codes "\n\n\n\n\n\n\n\n\n\n\n\n\n\n\n\n\n\n\n\n\n\n\n\n") ++ control (min n 24) 65

-- so many rows move down
unfoldable pub moves_down : ℕ → List ℕ
moves_down n = goes_home ++ control n 76

-- the rows up to this one are free and stay, while those below scroll; then to the upper left
unfoldable pub frees_upper : ℕ → List ℕ
frees_upper n = control (n + 1) 114 ++ (control n 72 ++ (27 ∷ codes "[1J" ++ (27 ∷ codes "[2K" ++ goes_home)))

-- a picture stands in the upper rows, with a free row below so many; if none stood there, what was said moves down
unfoldable pub placed : Bool → ℕ → List ℕ → List ℕ
placed is_first rows picture =
    (if is_first then frees_below (rows + 1) else [])
    ++ (keeps_cursor ++ ((if is_first then moves_down (rows + 1) else [])
    ++ (frees_upper (rows + 1) ++ (picture ++ puts_cursor))))

-- all rows scroll
unfoldable pub all_scroll : List ℕ
all_scroll = 27 ∷ (codes "7" ++ 27 ∷ (codes "[r" ++ 27 ∷ codes "8"))

-- all rows scroll again, if they did not
abbrev pub given_back : Above → List ℕ
given_back a = if a.held == 0 then [] else all_scroll

-- ---- when one is to stand there

-- it is to: the terminal can scroll below it, boards are drawn, and the user has asked for it, or, if he has said
-- nothing, the terminal has 30 rows or more
abbrev pub wants_above : Settings → Bool
wants_above s = s.scrolls_below && (not s.words && unwrap_or s.above (nat_le 30 s.rows))

-- ---- what stands there

-- how many rows there are below at least, with the free one
abbrev pub least_below : ℕ
least_below = 9

-- the picture of a board stands there, which has no more rows than are kept for it: so none of it scrolls
pub record Stands (s : Settings) (watched wanted : Bool) (b : BoardFields) (old now : Above) (before after : List ℕ)
    : Type 0 where
  pub picture : List ℕ
  pub drawn : Draws s watched wanted b picture
  pub fits : count_by is_line_end picture ≤ now.held
  pub kept : now.held ≡ max (count_by is_line_end picture) old.held
  pub most : now.held ≤ 99
  pub room : now.held + least_below ≤ s.rows
  pub text_is : after ≡ before ++ placed (old.held == 0) now.held picture

-- or none does, and all rows scroll
pub record StandsNot (old now : Above) (before after : List ℕ) : Type 0 where
  pub held : now.held ≡ 0
  pub text_is : after ≡ before ++ given_back old

-- the terminal has no room for a picture of so many rows, of which as many are kept as were before
abbrev pub has_no_room : ℕ → Above → Settings → Bool
has_no_room rows old s = nat_lt 99 (max rows old.held) || nat_lt s.rows (max rows old.held + least_below)

-- its picture has no room
pub record HasNoRoom (s : Settings) (watched wanted : Bool) (b : BoardFields) (old : Above) : Type 0 where
  pub picture : List ℕ
  pub drawn : Draws s watched wanted b picture
  pub lacks : has_no_room (count_by is_line_end picture) old s ≡ true

-- one of the two: it stands there if it is to, and does not if it is not to or has no room
abbrev pub StandsOrNot : Settings → Bool → Bool → BoardFields → Above → Above → List ℕ → List ℕ → Bool → Type 0
StandsOrNot s watched wanted b old now before after true = (wants_above s ≡ true)
    × Stands s watched wanted b old now before after
StandsOrNot s watched wanted b old now before after false = (wants_above s ≡ true → HasNoRoom s watched wanted b old)
    × StandsNot old now before after

-- the rows that are kept leave room below
abbrev pub leaves_room : Above → Settings → Bool
leaves_room a s = nat_le a.held (s.rows - least_below)

-- all rows scroll, unless this is true: then nothing changes
abbrev pub ScrollsUnless : Bool → Above → Above → List ℕ → List ℕ → Type 0
ScrollsUnless true old now before after = (now ≡ old) × (after ≡ before)
ScrollsUnless false old now before after = StandsNot old now before after

-- the board that came last stands there or not: that of the game that is watched, else that of the user's own. If none
-- is known, all rows scroll unless one is to stand there, and what stands there leaves room below
abbrev pub StandsAgain : Settings → Option WatchedBoard → Option GameBoard → Above → Above → List ℕ → List ℕ → Bool
    → Type 0
StandsAgain s (Some watched) game old now before after stands =
    StandsOrNot s true false (watched_of watched) old now before after stands
StandsAgain s None (Some game) old now before after stands =
    StandsOrNot s false (is_plain s && false) (game_of game) old now before after stands
StandsAgain s None None old now before after stands = (stands ≡ wants_above s && leaves_room old s)
    × ScrollsUnless stands old now before after
