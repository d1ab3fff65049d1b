-- What the two halves of `feed` do.
use Rattle.std.specs.Prelude.{◌≡◌, ℕ, ◌<◌, Bool, true, false, List, [], ◌∷◌, ◌++◌, length, take, Option, None, Some, option_map, IsNone}
use Rattle.fibs_lines.specs.Lines.{ReadLine, lines_of}
use Rattle.fibs_lines.specs.LinesValue.{StandsAfter as LinesStandAfter}
use Rattle.fibs_session.specs.History.Words.{Ask}
use Rattle.fibs_session.specs.History.Hearing.{line_reading}
use Rattle.fibs_session.specs.History.Machine.{Talk, Piece, step, is_online, line_heard}
use Rattle.fibs_session.specs.Calls.SessionValue.{SessionValue}
use Rattle.fibs_session.specs.Calls.SessionOf.{TakenValue, texts_of, ask_of}
use Rattle.fibs_session.specs.Calls.ClientOf.{lent_reading}
use Rattle.fibs_session.specs.Calls.Standing.{ClientValue, StandsAfter}
use Rattle.fibs_session.specs.Calls.Doing.{SessionHears}
use Rattle.fibs_session.specs.declared.client.heard_line.Answer.{Answer}
use Rattle.fibs_session.specs.declared.client.heard_line.HeardLine.{HeardLine}

-- a line that may be there, as a list
abbrev pub in_list : Option ReadLine → List ReadLine
in_list None = []
in_list (Some line) = line ∷ []

-- the shortest front of the piece with which the stream s has one line more, and that line; or the whole piece
pub record Gains (s piece : List ℕ) (used : ℕ) (line : Option ReadLine) : Type 0 where
  pub gains : lines_of (s ++ take used piece) ≡ lines_of s ++ in_list line
  pub shortest : (n : ℕ) → n < used → lines_of (s ++ take n piece) ≡ lines_of s
  pub whole : IsNone line → used ≡ length piece

-- the session has heard the line
abbrev pub AnswersLine : SessionValue → Option ReadLine → Option Answer → SessionValue → Type 0
AnswersLine v None None v' = v' ≡ v
AnswersLine v None (Some a) v' = ⊥
AnswersLine v (Some line) None v' = ⊥
AnswersLine v (Some line) (Some a) v' =
    SessionHears v v' line (texts_of a.send.items) (option_map ask_of a.confirmed) a.rolled
    × (lent_reading a.reading line ≡ line_reading line)

-- by lines and session, while a connection is open
pub record ReadsOnline (old new : ClientValue) (piece : List ℕ) (h : HeardLine) : Type 0 where
  pub gains : (s : List ℕ) → LinesStandAfter old.lines s → Gains s piece h.used new.lines.line
  pub stands : (s : List ℕ) → LinesStandAfter old.lines s → LinesStandAfter new.lines (s ++ take h.used piece)
  pub answers : AnswersLine old.session new.lines.line h.answer new.session

-- and while no connection is open
pub record ReadsOffline (old new : ClientValue) (piece : List ℕ) (h : HeardLine) : Type 0 where
  pub used : h.used ≡ length piece
  pub answer : h.answer ≡ None
  pub same : new ≡ old

-- a piece was read
pub record ReadsPiece (old new : ClientValue) (piece : List ℕ) (h : HeardLine) : Type 0 where
  pub online : old.session.online ≡ true → ReadsOnline old new piece h
  pub offline : old.session.online ≡ false → ReadsOffline old new piece h

-- what the line confirms
abbrev pub line_confirms : Talk → Option ReadLine → Option Ask
line_confirms t None = None
line_confirms t (Some l) = (line_heard t l).confirmed

-- whether a standing order rolls at the line
abbrev pub line_rolls : Talk → Option ReadLine → Bool
line_rolls t None = false
line_rolls t (Some l) = (line_heard t l).rolled

-- the reading is of the line
abbrev pub KeepsLine : Option ReadLine → Option Answer → Type 0
KeepsLine line None = Unit {0}
KeepsLine None (Some a) = ⊥
KeepsLine (Some l) (Some a) = lent_reading a.reading l ≡ line_reading l

-- the client still has the line that was heard
unfoldable pub Keeps : ClientValue → HeardLine → Type 0
Keeps c h = KeepsLine c.lines.line h.answer

-- the answer with its line
abbrev pub ShowsLine : Option ReadLine → Option Answer → Option TakenValue → Type 0
ShowsLine line None t = t ≡ None
ShowsLine None (Some a) t = ⊥
ShowsLine (Some line) (Some a) t =
    t ≡ Some (record {
      line = line;
      reading = line_reading line;
      send = texts_of a.send.items;
      confirmed = option_map ask_of a.confirmed;
      rolled = a.rolled;
    })

-- what is taken is what was heard, with its line
unfoldable pub Shows : ClientValue → HeardLine → Option TakenValue → Type 0
Shows c h t = ShowsLine c.lines.line h.answer t

-- the commands that answer a line
abbrev pub commands_of : Option TakenValue → List (List ℕ)
commands_of None = []
commands_of (Some t) = t.send

-- what a line confirmed
abbrev pub confirmed_of_taken : Option TakenValue → Option Ask
confirmed_of_taken None = None
confirmed_of_taken (Some t) = t.confirmed

-- whether a standing order rolled at a line
abbrev pub rolled_of_taken : Option TakenValue → Bool
rolled_of_taken None = false
rolled_of_taken (Some t) = t.rolled

-- the line
abbrev pub line_of_taken : Option TakenValue → Option ReadLine
line_of_taken None = None
line_of_taken (Some t) = Some t.line

-- the reading is the line's
abbrev pub ReadsItself : Option TakenValue → Type 0
ReadsItself None = Unit {0}
ReadsItself (Some t) = t.reading ≡ line_reading t.line

-- what `feed` answers, for each history by which the client was reached: the commands that the machine hands out; while
-- a connection is open, the shortest front with which the stream has one line more, and that line, its reading, what it
-- confirms and whether a standing order rolls at it; else the whole piece, and no line
pub record FeedAnswers (old : ClientValue) (piece : List ℕ) (used : ℕ) (taken : Option TakenValue) : Type 0 where
  pub hands : (t : Talk) → StandsAfter old t → commands_of taken ≡ (step t (Piece (take used piece))).send
  pub uses : (t : Talk) → StandsAfter old t → is_online t ≡ true → Gains t.stream piece used (line_of_taken taken)
  pub offline : (t : Talk) → StandsAfter old t → is_online t ≡ false → (used ≡ length piece) × (taken ≡ None)
  pub reading : ReadsItself taken
  pub confirms : (t : Talk) → StandsAfter old t → is_online t ≡ true
      → confirmed_of_taken taken ≡ line_confirms t (line_of_taken taken)
  pub rolls : (t : Talk) → StandsAfter old t → is_online t ≡ true
      → rolled_of_taken taken ≡ line_rolls t (line_of_taken taken)
