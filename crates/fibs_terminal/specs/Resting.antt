-- What a terminal shows before the user types (the project's own).
use Rattle.std.specs.Prelude.{◌≡◌, ◌≢◌, ◌⊎◌, ◌&&◌, ℕ, Bool, true, false, List, [], Option, None, length}
use Rattle.std.specs.Io.KnownBytes.{Appends}
use Rattle.fibs_position.specs.declared.numbers.Numbers.{Numbers}
use Rattle.fibs_messages.specs.Directory.{entry_of}
use Rattle.fibs_messages.specs.Message.{MessageValue}
use Rattle.fibs_session.specs.History.Machine.{Talk}
use Rattle.fibs_session.specs.Calls.Standing.{ClientValue, StandsAfter}
use Rattle.fibs_advice.specs.Advised.{Advises, advice_text}
use Rattle.fibs_advice.specs.Rows.{is_asked_for}
use Rattle.fibs_advice.specs.declared.advised.Advice.{Advice}
use Rattle.fibs_advice.specs.declared.row.Row.{Row}
use Rattle.fibs_advice.specs.declared.row.Row.TheVariants as R
use Rattle.fibs_advice.specs.declared.situation.Situation.{Situation}
use Rattle.fibs_wording.specs.declared.environment.settings.Settings.{Settings}
use Rattle.fibs_picture.specs.InWords.Rows.{Says}
use Rattle.fibs_terminal.specs.OwnRows.{own_columns}
use Rattle.fibs_terminal.specs.Rematch.{SaysRematch}
use Rattle.fibs_terminal.specs.Sent.{ShowsSent}
use Rattle.fibs_terminal.specs.declared.memory.Memory.{Memory}
use Rattle.fibs_terminal.specs.declared.resting.Advising.{Advising}

-- how an advice is said in these numbers
abbrev pub row_of : Numbers → Situation → Advice → List ℕ
row_of numbers situation a = advice_text numbers situation.opponent.name.items situation.inviter.name.items a

-- a row says what the client takes on the board, and no more
abbrev pub is_of_board : Row → Bool
is_of_board R.Offers = true
is_of_board row = false

-- words have just told what a row says
abbrev pub has_told : Advising → Row → Bool
has_told advising row = advising.is_told && is_of_board row

-- the row that tells how an invitation by this player is accepted, whatever else is advised
abbrev pub IsJoinRow : List ℕ → List ℕ → Type 0
IsJoinRow inviter row = (numbers : Numbers) (opponent : List ℕ) (a : Advice) → a.row ≡ R.Invited
    → row ≡ advice_text numbers opponent inviter a

-- what is written is the row of an advice, which has room, or nothing. The row is written if the user asks; a row that
-- is said only if he asks is written only then, and so is one that words have just told. Any other is written if a
-- board has come since, or a line was sent, or it is not what was said last; and what was said last is not written
-- again for nothing
pub record SaysRow (s : Settings) (situation : Situation) (old : Advising) (a : Advice) (before after : List ℕ)
    : Type 0 where
  pub made : (after ≡ before) ⊎ Says (own_columns s) (row_of s.numbers situation a) before after
  pub asked : old.inquired ≡ true → Says (own_columns s) (row_of s.numbers situation a) before after
  pub unasked : old.inquired ≡ false → is_asked_for a.row ≡ true → after ≡ before
  pub told : old.inquired ≡ false → has_told old a.row ≡ true → after ≡ before
  pub owed : old.says_again ≡ true → is_asked_for a.row ≡ false → has_told old a.row ≡ false
      → Says (own_columns s) (row_of s.numbers situation a) before after
  pub another : is_asked_for a.row ≡ false → has_told old a.row ≡ false
      → old.said_last.items ≢ row_of s.numbers situation a
      → Says (own_columns s) (row_of s.numbers situation a) before after
  pub once : old.inquired ≡ false → old.says_again ≡ false → old.said_last.items ≡ row_of s.numbers situation a
      → after ≡ before

-- the row is what was said last, and it is owed no more
pub record IsSettled (s : Settings) (situation : Situation) (a : Advice) (new : Advising) : Type 0 where
  pub again : new.says_again ≡ false
  pub inquired : new.inquired ≡ false
  pub told : new.is_told ≡ false
  pub last : new.said_last.items ≡ row_of s.numbers situation a

-- the opponent is not here: he has not logged in on this connection, and the server lists others, and not him
pub record IsAbsent (situation : Situation) (players : List MessageValue) : Type 0 where
  pub out : situation.opponent.is_here ≡ false
  pub others : length players ≢ 0
  pub unlisted : entry_of situation.opponent.name.items players ≡ None

-- it is made of what may be advised now, by the history, in the state that the terminal has
abbrev pub SaysAdvice : ClientValue → Settings → Memory → List ℕ → List ℕ → Type 0
SaysAdvice client s memory before after = (a : Advice)
    × ((t : Talk) → StandsAfter client t → Advises t memory.here.situation.standing a)
    × SaysRow s memory.here.situation memory.here.advising a before after

-- before it stand the board after a move that was sent, if no board has confirmed it and none stands above, and how
-- another match is played, if one has ended and that was not said, or the user asks
abbrev pub Rests : ClientValue → Settings → Memory → List ℕ → List ℕ → Type 0
Rests client s memory before after = (shown : List ℕ) × (said : List ℕ) × ShowsSent client s before shown
    × (memory.program.above.held ≢ 0 → shown ≡ before)
    × SaysRematch (own_columns s) memory.here.advising.inquired memory.here.situation.standing memory.here.rematch shown
    said
    × SaysAdvice client s memory said after

-- the same for a writer
abbrev pub ShowsAdvice : ClientValue → Settings → Memory → Option (List ℕ) → Option (List ℕ) → Type 0
ShowsAdvice client s memory held now = (text : List ℕ) × Rests client s memory [] text × Appends held now text
