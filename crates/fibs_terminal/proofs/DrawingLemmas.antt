-- What the eye sees of a drawing tells its board.
use Rattle.std.proofs.Common.{◌≡◌, ◌++◌, ℕ, Bool, true, false, List, [], ◌∷◌, Option, Some, None, cond, slice_index, refl, sym, ◌∙◌, ap, append-nil}
use Rattle.std.proofs.lemmas.List.{append_cancel_right}
use Rattle.fibs_fields.specs.Board.{BoardFields}
use Rattle.fibs_position.specs.PositionValue.{position_of}
use Rattle.fibs_picture.specs.Fits.{PictureFits}
use Rattle.fibs_picture.specs.Look.{HasLetters, are_letters}
use Rattle.fibs_picture.specs.Marks.{seen}
use Rattle.fibs_picture.specs.Tells.{IsSeen, PictureTells, PictureSeen}
use Rattle.fibs_picture.specs.Whole.{written_picture, seen_picture}
use Rattle.fibs_picture.proofs.PictureLemmas.Letters.{letters_apart}
use Rattle.fibs_terminal.specs.Drawings.{letters_of, look_of, Draws, DrawingsTell, DrawingsFit}
use Rattle.fibs_wording.specs.declared.environment.settings.Settings.{Settings}

-- letters are taken only if they can be told from each other
taken : (good : Bool) (letters : List ℕ) → are_letters (slice_index letters 0) (slice_index letters 1) ≡ good
    → are_letters (slice_index (cond good letters (79 ∷ 88 ∷ [])) 0) (slice_index (cond good letters (79 ∷ 88 ∷ [])) 1)
    ≡ true
taken true letters h = h
taken false letters h = refl

-- whatever the settings are
letters-good : (letters : Option (List ℕ))
    → are_letters (slice_index (letters_of letters) 0) (slice_index (letters_of letters) 1) ≡ true
letters-good None = refl
letters-good (Some letters) = taken (are_letters (slice_index letters 0) (slice_index letters 1)) letters refl

-- each terminal has letters
pub has_letters : (s : Settings) → HasLetters (look_of s)
has_letters s = letters_apart (look_of s) (letters-good s.letters)

-- the eye sees of a drawing the picture
drawing-seen : PictureSeen → (s : Settings) (watched wanted : Bool) (b : BoardFields) (t : List ℕ) → IsSeen b
    → Draws s watched wanted b t → seen t ≡ seen_picture (look_of s) watched wanted b ++ seen []
drawing-seen sees s watched wanted b t good drawn =
    ap seen (drawn.1 ∙ sym (append-nil (written_picture (look_of s) watched wanted b (position_of b) drawn.0)))
    ∙ sees (look_of s) watched wanted b drawn.0 [] (has_letters s) good

-- so equal drawings are of boards that look the same
pub drawings_tell : PictureTells → PictureSeen → DrawingsTell
drawings_tell tells sees s watched wanted a b t u good sound p q e =
    tells (look_of s) watched wanted a b (has_letters s) good sound
    (append_cancel_right (seen_picture (look_of s) watched wanted a) (seen_picture (look_of s) watched wanted b)
    (seen [])
    (sym (drawing-seen sees s watched wanted a t good p) ∙ e ∙ drawing-seen sees s watched wanted b u sound q))

-- nothing is seen of nothing
nothing-seen : seen [] ≡ []
unfolding seen
nothing-seen = refl

-- and fit the terminal
pub drawings_fit : PictureFits → PictureSeen → DrawingsFit
drawings_fit fits sees s watched wanted b t good least drawn =
    let shown = seen_picture (look_of s) watched wanted b in
    let rows = fits (look_of s) watched wanted b (has_letters s) good least in (
      rows.0,
      rows.1,
      drawing-seen sees s watched wanted b t good drawn ∙ ap (λ u. shown ++ u) nothing-seen
          ∙ append-nil shown ∙ rows.2,
    )
