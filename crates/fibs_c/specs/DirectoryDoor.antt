-- What the functions for C do with a directory.
use Rattle.std.specs.Prelude.{◌≡◌, ◌≢◌, ◌≤◌, ◌⊎◌, ℕ, ◌++◌, List, [], ◌∷◌, length, slice_get, Option, None, Some}
use Rattle.fibs_messages.specs.Directory.{IsDirectory, directory_limit, entry_of, name_of}
use Rattle.fibs_fields.specs.Field.{FieldValue}
use Rattle.fibs_messages.specs.FieldOf.{field_at}
use Rattle.fibs_messages.specs.Line.{ReadingValue, numbered_line, board_line, text_line, malformed_line}
use Rattle.fibs_messages.specs.Message.{MessageValue}
use Rattle.fibs_c.specs.Records.Fields.{IsToldField, told_field}
use Rattle.fibs_c.specs.declared.records.fields.FieldRecord.{FieldRecord}

-- a directory of no messages was made, or it was refused: one is held already, or memory ran out
abbrev pub IsNewDirectory : Option (List MessageValue) → Option (List MessageValue) → ℕ → Type 0
IsNewDirectory (Some d) new status = (status ≡ 502) × (new ≡ Some d)
IsNewDirectory None None status = status ≡ 401
IsNewDirectory None (Some d) status = (status ≡ 0) × IsDirectory [] d

-- a new name, and no room for it
pub record IsFull (d : List MessageValue) (m : MessageValue) : Type 0 where
  pub number : m.number ≡ 5
  pub is_new : entry_of (name_of m) d ≡ None
  pub full : length d ≡ directory_limit

-- what `Directory::note` does
pub record NotesMessage (old new : List MessageValue) (m : MessageValue) (status : ℕ) : Type 0 where
  pub noted : status ≡ 0 → (messages : List MessageValue) → IsDirectory messages old
      → IsDirectory (messages ++ m ∷ []) new
  pub unchanged : status ≢ 0 → new ≡ old
  pub full : status ≡ 402 → IsFull old m
  pub is_full : IsFull old m → status ≡ 402
  pub others : m.number ≢ 5 → status ≡ 0
  pub statuses : (status ≡ 0) ⊎ ((status ≡ 401) ⊎ (status ≡ 402))

-- a line that is no message changes nothing
abbrev pub Notes : List MessageValue → List MessageValue → ReadingValue → ℕ → Type 0
Notes old new (numbered_line m) status = NotesMessage old new m status
Notes old new (board_line b) status = (status ≡ 0) × (new ≡ old)
Notes old new (text_line text) status = (status ≡ 0) × (new ≡ old)
Notes old new (malformed_line n k f) status = (status ≡ 0) × (new ≡ old)

-- a line is noted, if the handle has a directory
abbrev pub IsNoted : Option (List MessageValue) → Option (List MessageValue) → ReadingValue → ℕ → Type 0
IsNoted None new r status = (status ≡ 501) × (new ≡ None)
IsNoted (Some d) None r status = ⊥
IsNoted (Some d) (Some e) r status = Notes d e r status

-- how many players there are, and the directory is as it was
abbrev pub IsCounted : Option (List MessageValue) → Option (List MessageValue) → ℕ → ℕ → ℕ → Type 0
IsCounted None new len len' status = (status ≡ 501) × (new ≡ None) × (len' ≡ len)
IsCounted (Some d) new len len' status =
    (status ≡ 0) × (new ≡ Some d) × (len' ≡ length d) × (len' ≤ directory_limit)

-- no player is left
abbrev pub IsCleared : Option (List MessageValue) → Option (List MessageValue) → ℕ → Type 0
IsCleared None new status = (status ≡ 501) × (new ≡ None)
IsCleared (Some d) None status = ⊥
IsCleared (Some d) (Some e) status = (status ≡ 0) × IsDirectory [] e

-- a field is given, or there is none of this number, and nothing is written
abbrev pub IsMaybeField : Option FieldValue → FieldRecord → FieldRecord → List ℕ → List ℕ → ℕ → Type 0
IsMaybeField None field field' old new status = (status ≡ 506) × (new ≡ old) × (field' ≡ field)
IsMaybeField (Some v) field field' old new status = IsToldField (told_field v) field' old new status

-- a field of a player whom a message 5 listed; or there is no player, and nothing is written
abbrev pub IsPlayerField : Option MessageValue → ℕ → FieldRecord → FieldRecord → List ℕ → List ℕ → ℕ → Type 0
IsPlayerField None number field field' old new status = (status ≡ 508) × (new ≡ old) × (field' ≡ field)
IsPlayerField (Some m) number field field' old new status =
    IsMaybeField (field_at number m.fields) field field' old new status

-- a field of the player at a place, and the directory is as it was
abbrev pub IsPlayerAt : Option (List MessageValue) → Option (List MessageValue) → ℕ → ℕ → FieldRecord → FieldRecord
    → List ℕ → List ℕ → ℕ → Type 0
IsPlayerAt None d place number field field' old new status =
    (status ≡ 501) × (d ≡ None) × (new ≡ old) × (field' ≡ field)
IsPlayerAt (Some d) d' place number field field' old new status =
    (d' ≡ Some d) × IsPlayerField (slice_get d place) number field field' old new status

-- a field of the player of a name, and the directory is as it was
abbrev pub IsPlayerOf : Option (List MessageValue) → Option (List MessageValue) → List ℕ → ℕ → FieldRecord
    → FieldRecord → List ℕ → List ℕ → ℕ → Type 0
IsPlayerOf None d name number field field' old new status =
    (status ≡ 501) × (d ≡ None) × (new ≡ old) × (field' ≡ field)
IsPlayerOf (Some d) d' name number field field' old new status =
    (d' ≡ Some d) × IsPlayerField (entry_of name d) number field field' old new status
