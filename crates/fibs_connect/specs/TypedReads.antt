-- How typed lines are read, portion by portion (the project's own).
use Rattle.std.specs.Prelude.{◌≡◌, ◌≤◌, ◌+◌, ◌*◌, ℕ, Bool, true, List, length, nat_lt, Option, Some, None, ⊤}
use Rattle.std.specs.Io.KnownBytes.{prepend_known, Consumes, IsAtEnd}
use Rattle.fibs_connect.specs.TypedLines.{typed_line, after_typed_line, kept_typed}

-- what a reader of typed lines keeps: bytes that wait, how many reads it may still make, and whether nothing follows
pub record TypedValue : Type 0 where
  pub waiting : List ℕ
  pub reads : ℕ
  pub ended : Bool

-- what is still to come, if the prover knows what the device has left
abbrev pub ahead : TypedValue → Option (List ℕ) → Option (List ℕ)
ahead value left = prepend_known value.waiting left

-- the reader of typed lines says that nothing follows only if the device is at its end
abbrev pub FitsDevice : TypedValue → Option (List ℕ) → Type 0
FitsDevice value left = value.ended ≡ true → IsAtEnd left

-- the device lost no more bytes than the reads may give that were made since: at most 1024 at each
abbrev pub SpendsReads : TypedValue → TypedValue → Option (List ℕ) → Option (List ℕ) → Type 0
SpendsReads old new left still =
    (read : List ℕ) × (length read + new.reads * 1024 ≤ old.reads * 1024) × Consumes left still read

-- the first line of what is still to come was taken: what is kept of it, what is then still to come, and whether there
-- was one
abbrev pub TakesLine : Option (List ℕ) → Option (List ℕ) → List ℕ → Bool → Type 0
TakesLine None still line found = ⊤
TakesLine (Some typed) None line found = ⊥
TakesLine (Some typed) (Some rest) line found =
    (line ≡ kept_typed (typed_line typed)) × (rest ≡ after_typed_line typed) × (found ≡ nat_lt 0 (length typed))
