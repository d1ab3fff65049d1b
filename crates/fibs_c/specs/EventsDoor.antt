-- What the functions for C do with the events of a stream of lines.
use Rattle.std.specs.Prelude.{◌≡◌, ◌⊎◌, ℕ, List, [], Option, None, Some, IfSome, true}
use Rattle.fibs_fields.specs.Board.{BoardFields}
use Rattle.fibs_messages.specs.Line.{ReadingValue, board_line}
use Rattle.fibs_position.specs.GoodBoard.{good}
use Rattle.fibs_rules.specs.PlayValue.{hops_of}
use Rattle.fibs_events.specs.Asking.{HearsMore, not_asked}
use Rattle.fibs_events.specs.Known.{IsHeard, known_of, opponent_of}
use Rattle.fibs_events.specs.Said.{IsSaid}
use Rattle.fibs_events.specs.declared.asking.Asking.{Asking}
use Rattle.fibs_events.specs.declared.event.Event.{Event}
use Rattle.fibs_events.specs.declared.happened.Happened.{Happened}
use Rattle.fibs_c.specs.Records.EventOf.{AreEvents, events_in, events_of, listed}
use Rattle.fibs_c.specs.Records.Texts.{HandsOut}
use Rattle.fibs_c.specs.declared.records.events.HappenedRecord.{HappenedRecord}
use Rattle.fibs_c.specs.declared.records.listener.Listener.{Listener}

-- what a handle holds has heard so much of the login, and the same lines
abbrev pub with_login : Listener → Asking → Listener
with_login l asking = record { lines = l.lines; login = asking }

-- events were made that know no board and no opponent, or they were refused: some are held already, or memory ran out
abbrev pub IsNewEvents : Option Listener → Option Listener → ℕ → Type 0
IsNewEvents (Some l) new status = (status ≡ 502) × (new ≡ Some l)
IsNewEvents None None status = status ≡ 401
IsNewEvents None (Some l) status =
    (status ≡ 0) × (l.login ≡ not_asked) × (known_of l.lines ≡ None) × (opponent_of l.lines ≡ [])

-- what `Events::hear` does with a line, and that C gets what has happened by it; the login is as it was
pub record Hears (old new : Listener) (reading : ReadingValue) (told : HappenedRecord) : Type 0 where
  pub happened : Happened
  pub events : AreEvents (events_in told) (events_of happened)
  pub played : IfSome happened.played (λ turned. IsHeard (known_of old.lines) reading turned.who (hops_of turned.play))
  pub said : IfSome happened.said (λ event. IsSaid reading event)
  pub known : (b : BoardFields) → reading ≡ board_line b → good b ≡ true → known_of new.lines ≡ Some b
  pub login : new.login ≡ old.login

-- a line is heard, or memory ran out, and nothing is written
abbrev pub HearsOrNot : Listener → Listener → ReadingValue → HappenedRecord → HappenedRecord → ℕ → Type 0
HearsOrNot old new reading told told' status =
    ((status ≡ 401) × (told' ≡ told)) ⊎ ((status ≡ 0) × Hears old new reading told')

-- a line is heard, if the handle has events
abbrev pub IsLineHeard
    : Option Listener → Option Listener → ReadingValue → HappenedRecord → HappenedRecord → ℕ → Type 0
IsLineHeard None new reading told told' status = (status ≡ 501) × (new ≡ None) × (told' ≡ told)
IsLineHeard (Some l) None reading told told' status = ⊥
IsLineHeard (Some l) (Some m) reading told told' status = HearsOrNot l m reading told told' status

-- bytes are heard: C gets the refusal of the login that they tell, if they tell one, and the lines are as they were
pub record HearsBytes (old new : Listener) (bytes : List ℕ) (told : HappenedRecord) (status : ℕ) : Type 0 where
  pub done : status ≡ 0
  pub lines : new.lines ≡ old.lines
  pub event : Option Event
  pub login : HearsMore old.login new.login bytes event
  pub events : AreEvents (events_in told) (listed event)

-- bytes are heard, if the handle has events
abbrev pub AreBytesHeard
    : Option Listener → Option Listener → List ℕ → HappenedRecord → HappenedRecord → ℕ → Type 0
AreBytesHeard None new bytes told told' status = (status ≡ 501) × (new ≡ None) × (told' ≡ told)
AreBytesHeard (Some l) None bytes told told' status = ⊥
AreBytesHeard (Some l) (Some m) bytes told told' status = HearsBytes l m bytes told' status

-- a connection is opened, on which nothing was asked; the lines are as they were
abbrev pub IsOpened : Option Listener → Option Listener → ℕ → Type 0
IsOpened None new status = (status ≡ 501) × (new ≡ None)
IsOpened (Some l) new status = (status ≡ 0) × (new ≡ Some (with_login l not_asked))

-- the name of the opponent, or nothing, is handed out, and the events are as they were
abbrev pub IsOpponentTold : Option Listener → Option Listener → List ℕ → List ℕ → ℕ → ℕ → ℕ → Type 0
IsOpponentTold None new text text' len len' status = (status ≡ 501) × (new ≡ None) × (text' ≡ text) × (len' ≡ len)
IsOpponentTold (Some l) new text text' len len' status =
    (new ≡ Some l) × HandsOut (opponent_of l.lines) text text' len' status
