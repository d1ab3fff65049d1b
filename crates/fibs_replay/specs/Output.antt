-- What `fibs replay` prints for a script, and its status.
use Rattle.std.specs.Prelude.{◌≡◌, ◌≤◌, ◌<◌, ◌++◌, ◌⊎◌, ℕ, List, ◌∷◌, codes, decimal, length, Option, Some, None}
use Rattle.std.specs.Io.KnownBytes.{Appends, Consumes, IsAtEnd, Keeps}
use Rattle.fibs_fields.specs.Board.{BoardFields}
use Rattle.fibs_position.specs.GoodBoard.{IsGood}
use Rattle.fibs_commands.specs.Logins.{login_text}
use Rattle.fibs_game.specs.declared.world_refusal.WorldRefusal.{WorldRefusal}
use Rattle.fibs_game.specs.declared.world_refusal.WorldRefusal.TheVariants.{BadBoard}
use Rattle.fibs_model.specs.Events.{Event}
use Rattle.fibs_model.specs.RefusalNames.{refusal_number, refusal_name}
use Rattle.fibs_model.specs.Refusals.{refusal}
use Rattle.fibs_model.specs.Runs.{MayBe, world_after}
use Rattle.fibs_engine.specs.Reads.{LostAtMost}
use Rattle.fibs_engine.specs.Writing.{GainedFront}
use Rattle.fibs_engine.specs.Printing.{line_bytes}
use Rattle.fibs_replay.specs.LogLines.{log_text}
use Rattle.fibs_replay.specs.Scripts.{script_limit, script_lines, SayScript, FirstUnreadable, ReadsScript}
use Rattle.fibs_replay.specs.declared.script.Script.{Script}
use Rattle.fibs_replay.specs.declared.script.Script.TheVariants.{Readable, Unreadable}

-- the user of each script logs in by this command
abbrev pub script_login : List ℕ
script_login = login_text (codes "ann") (codes "secret")

-- the line of a script that is not run, for its line of this number, or 0 if it is too long
abbrev pub unread_text : ℕ → List ℕ
unread_text number = line_bytes (codes "script " ++ decimal number)

-- the last line of a script that was run to its end, after so many events
abbrev pub end_text : ℕ → List ℕ
end_text done = line_bytes (codes "end " ++ decimal done)

-- the last line if an event of the script is refused, after so many events
abbrev pub refused_text : ℕ → WorldRefusal → List ℕ
refused_text done why =
    line_bytes (codes "refused " ++ (decimal done ++ 32 ∷ (decimal (refusal_number why) ++ 32 ∷ refusal_name why)))

-- the lines of the log after some events
abbrev pub log_after : BoardFields → List Event → List ℕ
log_after first events = log_text (world_after script_login first events).log

-- what is printed for a script, and the status
pub data ReplayText : (script text : List ℕ) → (status : ℕ) → Type 0 where
  -- it is too long
  too_long : {script : List ℕ} → script_limit < length script → ReplayText script (unread_text 0) 3
  -- one of its lines is unreadable: nothing is run
  unreadable : {script : List ℕ} (number : ℕ) → length script ≤ script_limit
      → FirstUnreadable (script_lines script) number → ReplayText script (unread_text number) 3
  -- its first board is not good
  bad_board : {script : List ℕ} (first : BoardFields) (events : List Event) → length script ≤ script_limit
      → SayScript (script_lines script) first events → ¬ IsGood first → ReplayText script (refused_text 0 BadBoard) 3
  -- one of its events is refused, those before it are not
  refused : {script : List ℕ} (first : BoardFields) (before : List Event) (e : Event) (later : List Event)
      (why : WorldRefusal) → length script ≤ script_limit
      → SayScript (script_lines script) first (before ++ e ∷ later) → IsGood first → MayBe script_login first before
      → refusal (world_after script_login first before) e ≡ Some why
      → ReplayText script (log_after first before ++ refused_text (length before) why) 3
  -- none of them is
  to_the_end : {script : List ℕ} (first : BoardFields) (events : List Event) → length script ≤ script_limit
      → SayScript (script_lines script) first events → IsGood first → MayBe script_login first events
      → ReplayText script (log_after first events ++ end_text (length events)) 0

-- What a reader has left, and what a writer holds, is Some list if the prover knows its bytes, and else None: then the
-- next definitions say nothing.

-- a reader was read to its end, or past the limit of a script, and a writer gained all that is printed for its bytes
abbrev pub Replayed : ℕ → Option (List ℕ) → Option (List ℕ) → Option (List ℕ) → Option (List ℕ) → Type 0
Replayed status left still held now = (script text : List ℕ) × Consumes left still script
    × (IsAtEnd still ⊎ (script_limit < length script)) × ReplayText script text status × Appends held now text

-- the lines of the log after some first events of a script, which are accepted
abbrev pub LogOf : List ℕ → List ℕ → Type 0
LogOf script text = (first : BoardFields) × (before later : List Event)
    × SayScript (script_lines script) first (before ++ later) × MayBe script_login first before
    × (text ≡ log_after first before)

-- the text is for the script: what is printed for it, or the log so far
abbrev pub IsFor : List ℕ → List ℕ → Type 0
IsFor script text = ((status : ℕ) × ReplayText script text status) ⊎ LogOf script text

-- a read failed within the limit of a script, and nothing was written; or a write failed: the reader was read to its
-- end, or past the limit, and the writer gained a front of a text that is for what was read
abbrev pub ReplayFailed : Option (List ℕ) → Option (List ℕ) → Option (List ℕ) → Option (List ℕ) → Type 0
ReplayFailed left still held now =
    (LostAtMost script_limit left still × Keeps held now)
    ⊎ ((script text : List ℕ) × Consumes left still script × (IsAtEnd still ⊎ (script_limit < length script))
    × IsFor script text × GainedFront held now text)

-- the reader was read to its end, and just the lines of the log so far were written
abbrev pub LoggedInPart : Option (List ℕ) → Option (List ℕ) → Option (List ℕ) → Option (List ℕ) → Type 0
LoggedInPart left still held now =
    (script text : List ℕ) × Consumes left still script × IsAtEnd still × LogOf script text × Appends held now text

-- memory ran out: nothing was written, or just the lines of the log so far
abbrev pub ReplayedInPart : Option (List ℕ) → Option (List ℕ) → Option (List ℕ) → Option (List ℕ) → Type 0
ReplayedInPart left still held now = Keeps held now ⊎ LoggedInPart left still held now

-- a reader was read to its end, which is a script; or past the limit of one
abbrev pub ReadWhole : Option (List ℕ) → Option (List ℕ) → Option (List ℕ) → Type 0
ReadWhole (Some script) left still = Consumes left still script × IsAtEnd still × (length script ≤ script_limit)
ReadWhole None left still = (script : List ℕ) × Consumes left still script × (script_limit < length script)

-- a reader was read to its end, which is a script whose lines are readable; or what was read is not run, and this is
-- the number that is printed for it
abbrev pub ReadLines : Script → Option (List ℕ) → Option (List ℕ) → Type 0
ReadLines (Readable bytes) left still =
    ReadWhole (Some bytes.items) left still × ReadsScript None (script_lines bytes.items)
ReadLines (Unreadable number) left still =
    (script : List ℕ) × Consumes left still script × (IsAtEnd still ⊎ (script_limit < length script))
    × ReplayText script (unread_text number) 3
