-- Who hears what is reported to a terminal, and what is noted of it (the project's own). No public contract rests on
-- this file.
use Rattle.std.specs.Duration.{as_nanos}
use Rattle.std.specs.Prelude.{◌≡◌, ◌||◌, ◌-◌, Some, None, true}
use Rattle.std.specs.declared.time.Duration.{Duration}
use Rattle.fibs_commands.specs.TextOf.{text_of}
use Rattle.fibs_connect.specs.declared.said.Said.{Said}
use Rattle.fibs_connect.specs.declared.said.Said.TheVariants as S
use Rattle.fibs_messages.specs.declared.line.Reading.{Reading}
use Rattle.fibs_messages.specs.declared.message.Message.{Message}
use Rattle.fibs_messages.specs.declared.line.Reading.TheVariants as R
use Rattle.fibs_session.specs.declared.histories.refusal.PlainRefusal.{PlainRefusal}
use Rattle.fibs_advice.specs.Standings.{after_confirmed}
use Rattle.fibs_advice.specs.declared.situation.Waiting.TheVariants as W
use Rattle.fibs_terminal.specs.Again.{after_failed, after_lost}
use Rattle.fibs_terminal.specs.Fixing.{after_end}
use Rattle.fibs_terminal.specs.Greetings.{IsHeard}
use Rattle.fibs_terminal.specs.HeardMessages.{NotesRated, NotesUser, with_seen}
use Rattle.fibs_terminal.specs.HeardTexts.{settled, with_told, with_watched}
use Rattle.fibs_terminal.specs.Noted.{Loses, NotesGame, NotesPassed, NotesSent, Opens, has_lasted}
use Rattle.fibs_terminal.specs.Reasons.{asks_advice}
use Rattle.fibs_terminal.specs.declared.listening.greeting.Greeting.{Greeting}
use Rattle.fibs_terminal.specs.declared.memory.Memory.{Memory}

-- no connection could be made: when the next try comes, as specs/Again says, and nothing else changes
abbrev pub with_failed_try : Memory → Memory
with_failed_try m = record m { program = record m.program { reconnecting = after_failed m.program.reconnecting } }

-- what the user waits for is noted, and nothing else
abbrev pub with_situation : Memory → Memory → Memory
with_situation m new = record m { here = record m.here { situation = new.here.situation } }

-- a board confirms the decision that waited
pub record NotesConfirmed (old new : Memory) : Type 0 where
  pub standing : new.here.situation.standing ≡ after_confirmed old.here.situation.standing
  pub waiting : new.here.situation.waiting ≡ W.Nothing
  pub inviter : new.here.situation.inviter ≡ old.here.situation.inviter
  pub left : new.here.situation.opponent.left ≡ old.here.situation.opponent.left
  pub kept : new ≡ with_situation old new

-- a standing order has rolled: that roll waits
pub record NotesRoll (old new : Memory) : Type 0 where
  pub waiting : new.here.situation.waiting ≡ W.Other
  pub kept : new ≡ with_situation old new

-- a decision was refused: what is advised is said again
abbrev pub refused : Memory → Memory
refused m = record m {
  here = record m.here { advising = record m.here.advising { inquired = true } };
}

-- a connection has ended: what outlives it is kept, and whether it is opened again follows from how long it has lasted
pub record NotesEnd (old : Memory) (at : Duration) (new : Memory) : Type 0 where
  pub loses : Loses old new
  pub again : new.program.reconnecting
      ≡ after_lost (has_lasted (as_nanos at - as_nanos old.here.opened)) old.program.reconnecting
  pub fixing : new.program.fixing.step ≡ after_end old.program.fixing.step new.program.reconnecting.tries

-- a plain command was refused: what is advised is asked for if the reason is one that asks for it
abbrev pub not_sent : PlainRefusal → Memory → Memory
not_sent why m = record m {
  here = record m.here {
    advising = record m.here.advising { inquired = asks_advice why || m.here.advising.inquired };
  };
}

-- a board of a game in which the user does not play is heard by what he watches
pub record NotesWatched (old new : Memory) : Type 0 where
  pub here : new.here ≡ with_watched old.here new.here
  pub program : new.program ≡ record old.program { above = new.program.above }

-- of a message it is noted what it says of the user and of his rating; and of nothing else but players, their list, the
-- settings, the row that ends a login, and talk
pub record NotesMessage (message : Message) (old new : Memory) : Type 0 where
  pub user : NotesUser message old.program.account new.program.account
  pub rated : NotesRated message old.program.account old.program.results new.program.results
  pub kept : new ≡ with_seen old new

-- of a text it is noted what it says of a login; and of the program nothing but saved matches and results
pub record NotesText (old new : Memory) : Type 0 where
  pub heard : Greeting
  pub login : IsHeard old.here.greeting heard
  pub greeting : new.here.greeting ≡ settled heard
  pub program : new.program ≡ (with_told old new).program

-- a line of the server is heard by what it is; nothing is noted of one that can't be read
abbrev pub NotesLine : Reading → Memory → Memory → Type 0
NotesLine (R.Board board) old new = NotesWatched old new
NotesLine (R.Numbered message) old new = NotesMessage message old new
NotesLine (R.Text text) old new = NotesText old new
NotesLine (R.Malformed number field fault) old new = new ≡ old

-- what a terminal takes note of when this is reported at a time. Of a line that is a board of the user's game nothing
-- is noted: its board is reported next. Nothing is noted of words that are only said
abbrev pub Notes : Said → Duration → Memory → Memory → Type 0
Notes S.Opened at old new = Opens old at new
Notes (S.NoConnection why) at old new = new ≡ with_failed_try old
Notes (S.Heard line reading (Some game)) at old new = new ≡ old
Notes (S.Heard line reading None) at old new = NotesLine reading.now old new
Notes (S.Game game) at old new = NotesGame old game.now new
Notes (S.Confirmed asked) at old new = NotesConfirmed old new
Notes (S.Sent command) at old new = NotesSent old (text_of command.now) new
Notes S.Rolled at old new = NotesRoll old new
Notes (S.Passed line) at old new = NotesPassed old line.now new
Notes S.Ordered at old new = new ≡ old
Notes S.Withdrawn at old new = new ≡ old
Notes (S.Refused why) at old new = new ≡ refused old
Notes (S.NotSent why) at old new = new ≡ not_sent why old
Notes S.Unknown at old new = new ≡ old
Notes (S.Lost waited) at old new = NotesEnd old at new
Notes (S.Unnoted why) at old new = new ≡ old
Notes (S.Player player) at old new = new ≡ old

-- so of each report, and then nothing else changes but the title
pub record Hears (said : Said) (at : Duration) (old new : Memory) : Type 0 where
  pub noted : Memory
  pub notes : Notes said at old noted
  pub titled : new ≡ record noted { program = record noted.program { title = new.program.title } }
