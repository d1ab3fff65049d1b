-- Which of the user's matches a terminal knows to be saved (the project's own).
use Rattle.std.specs.Prelude.{◌≡◌, ◌≢◌, ◌⊎◌, ◌++◌, ℕ, Bool, pos, unsigned_abs, cond, is_some, List, codes, Option, Some, None}
use Rattle.std.specs.Ordering.{int_eq}
use Rattle.fibs_fields.specs.Board.{BoardFields, field_of}
use Rattle.fibs_fields.specs.Split.{before}
use Rattle.fibs_events.specs.declared.told.Told.{Told}
use Rattle.fibs_events.specs.declared.told.Told.TheVariants as T
use Rattle.fibs_wording.specs.SavedLists.{Keeps, KnownMatch, match_of, saved_with, without}
use Rattle.fibs_wording.specs.declared.saved.SavedMatch.{SavedMatch}

-- a match with a player is known to be saved
abbrev pub has_saved : List ℕ → List SavedMatch → Bool
has_saved name matches = is_some (saved_with name matches)

-- the length of the match of a board: 9999 is none
abbrev pub length_of : BoardFields → Option ℕ
length_of b = cond (int_eq (field_of b 4) (pos 9999)) None (Some (unsigned_abs (field_of b 4)))

-- the match of a board
abbrev pub match_on : BoardFields → KnownMatch
match_on b = match_of b.opponent (unsigned_abs (field_of b 5)) (unsigned_abs (field_of b 6)) (length_of b)

-- how the server says that no match with a player is saved
abbrev pub denial : List ℕ
denial = codes "** There's no saved match with "

-- it says so of this player: his name is the word that follows, up to a stop
abbrev pub Denies : List ℕ → List ℕ → Type 0
Denies said name = (rest : List ℕ) × (said ≡ denial ++ rest) × (name ≡ before 46 (before 32 rest))

-- what is known after it has said that no match is saved: none with this player is, and of others what was known
abbrev pub AfterDenial : List ℕ → List SavedMatch → List SavedMatch → Type 0
AfterDenial said old new = ((name : List ℕ) × Denies said name × (new ≡ without name old))
    ⊎ (((rest : List ℕ) → said ≢ denial ++ rest) × (new ≡ old))

-- what is known after a text that tells this of the match with an opponent, whose last board is this one: a match that
-- goes on is no longer saved; one that is left is saved as its last board has it, if that has come; and a text that
-- tells anything else changes nothing
abbrev pub AfterTold : Option Told → List ℕ → List ℕ → Option BoardFields → List SavedMatch → List SavedMatch → Type 0
AfterTold (Some T.Begins) said opponent board old new = new ≡ without opponent old
AfterTold (Some T.Resumes) said opponent board old new = new ≡ without opponent old
AfterTold (Some T.NoMatch) said opponent board old new = AfterDenial said old new
AfterTold (Some T.Saved) said opponent (Some board) old new = Keeps (match_on board) old new
AfterTold told said opponent board old new = new ≡ old
