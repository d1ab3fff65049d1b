-- A move that the user looks at before it is sent: what `try` shows of it, what `go` sends (the project's own).
use Rattle.std.specs.Prelude.{◌≡◌, ◌≢◌, ◌⊎◌, ◌++◌, ℕ, List, [], codes, length, nat_lt, true, false, Option, Some, None, IfSome, Result, IfOk}
use Rattle.std.specs.Io.KnownBytes.{Appends}
use Rattle.fibs_fields.specs.Board.{BoardFields}
use Rattle.fibs_position.specs.DirectionOf.{direction_of}
use Rattle.fibs_position.specs.NumbersOf.{counted}
use Rattle.fibs_position.specs.declared.numbers.Numbers.{Numbers}
use Rattle.fibs_commands.specs.Commands.{command_of}
use Rattle.fibs_session.specs.History.Machine.{Talk, shown_now, answer_now}
use Rattle.fibs_session.specs.Calls.Standing.{ClientValue, StandsAfter}
use Rattle.fibs_session.specs.Typing.{is_command, typed_by, typed_decision, typed_now}
use Rattle.fibs_fields.specs.Split.{before}
use Rattle.fibs_connect.specs.Wishes.{typed_limit}
use Rattle.fibs_wording.specs.declared.environment.settings.Settings.{Settings}
use Rattle.fibs_picture.specs.InWords.Rows.{Says}
use Rattle.fibs_terminal.specs.Drawings.{Draws, is_plain}
use Rattle.fibs_terminal.specs.OwnRows.{own_columns}
use Rattle.fibs_connect.specs.declared.wish.Wish.{Wish}
use Rattle.fibs_connect.specs.declared.wish.Wish.TheVariants.{Say, Answered}
use Rattle.fibs_advice.specs.Leads.{LeadsTo}
use Rattle.fibs_advice.specs.Trials.{changes_of, tried, tried_on}
use Rattle.fibs_advice.specs.declared.trial.Trial.{Trial}

-- the command of the move, in the numbers of the board on which it was tried
abbrev pub tried_command : Trial → List ℕ
tried_command x = command_of (direction_of (tried_on x)) (tried x)

-- the same in the numbers that the user reads
abbrev pub command_by : Numbers → Trial → List ℕ
command_by numbers x = command_of (counted numbers (direction_of (tried_on x))) (tried x)

-- how it is sent
unfoldable pub go_row : List ℕ → List ℕ
go_row command = codes "Not sent yet: go sends " ++ (command ++ codes "\n")

-- what is written: the picture of the board to which the move leads, and how it is sent, in rows that have room
abbrev pub DrawsTrial : Settings → Trial → List ℕ → List ℕ → Type 0
DrawsTrial s x before after = (b : BoardFields) × LeadsTo (tried_on x) (tried x) b × ((picture : List ℕ)
    × Draws s false (is_plain s) b picture
    × Says (own_columns s) (go_row (command_by s.numbers x)) (before ++ picture) after)

-- or in words: what the move changes on the way to that board, and how it is sent
abbrev pub TellsTrial : Settings → Trial → List ℕ → List ℕ → Type 0
TellsTrial s x before after = (b : BoardFields) × LeadsTo (tried_on x) (tried x) b
    × Says (own_columns s) (changes_of s.numbers x b ++ go_row (command_by s.numbers x)) before after

-- the board is drawn, or what changes is told, if the user has asked for words
pub record ShowsTrial (s : Settings) (x : Trial) (before : List ℕ) (after : List ℕ) : Type 0 where
  pub drawn : s.words ≡ false → DrawsTrial s x before after
  pub told : s.words ≡ true → TellsTrial s x before after

-- the move was tried on the board that is shown, and the client would take it
pub record MayBeSent (t : Talk) (x : Trial) : Type 0 where
  pub shown : shown_now t ≡ Some (tried_on x)
  pub taken : answer_now t (tried x) ≡ None

-- `try`: no move is kept, or one that may be sent, and was shown
abbrev pub Tries : ClientValue → Settings → Option Trial → List ℕ → List ℕ → Type 0
Tries client s kept before after = IfSome kept (λ x. ((t : Talk) → StandsAfter client t → MayBeSent t x)
    × ShowsTrial s x before after)

-- any other word leaves the move that is kept
abbrev pub TriesOrKeeps : ClientValue → Settings → Option Trial → Option Trial → List ℕ → List ℕ → Type 0
TriesOrKeeps client s old kept before after = (kept ≡ old) ⊎ Tries client s kept before after

-- so does each line that the terminal does not answer
abbrev pub KeepsUnanswered : {E : Type 0} → Option Trial → Option Trial → Result Wish E → Type 0
KeepsUnanswered old new result = IfOk result (λ wish. wish ≢ Answered → new ≡ old)

-- a line whose first word is `try`, which is not too long, and is no command by these numbers
pub record IsTry (numbers : Numbers) (client : ClientValue) (line : List ℕ) : Type 0 where
  pub word : before 32 line ≡ codes "try"
  pub room : nat_lt typed_limit (length line) ≡ false
  pub talk : Talk
  pub stands : StandsAfter client talk
  pub unknown : is_command (typed_by numbers talk line) ≡ false

-- it is answered, and nothing is sent; after it no move is kept but the one that was shown
abbrev pub AnswersTry : {E : Type 0} → ClientValue → Settings → Option Trial → List ℕ → List ℕ → Result Wish E → Type 0
AnswersTry client s kept start now result = IfOk result (λ wish. (wish ≡ Answered) × Tries client s kept start now)

-- so what `go` sends is what the last `try` showed
abbrev pub ShowsTry : {E : Type 0} → ClientValue → Settings → List ℕ → Option Trial → List ℕ → List ℕ → Result Wish E
    → Type 0
ShowsTry client s line kept start now result = IsTry s.numbers client line → AnswersTry client s kept start now result

-- the same for a writer
abbrev pub WritesTry : {E : Type 0} → ClientValue → Settings → List ℕ → Option Trial → Option (List ℕ)
    → Option (List ℕ) → Result Wish E → Type 0
WritesTry client s line kept held now result = IsTry s.numbers client line → IfOk result (λ wish. (wish ≡ Answered)
    × ((text : List ℕ) × Tries client s kept [] text × Appends held now text))

-- the same for a writer
abbrev pub ShowsTried : ClientValue → Settings → Option Trial → Option Trial → Option (List ℕ) → Option (List ℕ)
    → Type 0
ShowsTried client s old kept held now = (text : List ℕ) × TriesOrKeeps client s old kept [] text
    × Appends held now text

-- the move that is kept was tried on the board that is shown
abbrev pub IsTriedNow : Talk → Option Trial → Trial → Type 0
IsTriedNow t kept x = (kept ≡ Some x) × (shown_now t ≡ Some (tried_on x))

-- the line is its command, which the client reads as that very move
pub record IsCommandOf (t : Talk) (x : Trial) (line : List ℕ) : Type 0 where
  pub text_is : line ≡ tried_command x
  pub is_read : typed_now t line ≡ typed_decision (tried x)

-- `go`: the client is asked to answer that line if, and only if, the move that is kept was tried on the board that is
-- shown; else nothing is asked for
pub record SendsTried (t : Talk) (kept : Option Trial) (wish : Wish) (line : List ℕ) : Type 0 where
  pub either : (wish ≡ Say) ⊎ (wish ≡ Answered)
  pub says : wish ≡ Say → (x : Trial) × IsTriedNow t kept x × IsCommandOf t x line
  pub sends : (x : Trial) → IsTriedNow t kept x → wish ≡ Say

-- after the word `go` that is what the line asks for
abbrev pub GoesOn : {E : Type 0} → ClientValue → Option Trial → List ℕ → List ℕ → Result Wish E → Type 0
GoesOn client kept before after result = before ≡ codes "go" → IfOk result (λ wish. (t : Talk) → StandsAfter client t
    → SendsTried t kept wish after)
