-- What a terminal takes note of when a text of the server comes, and which texts it leaves out (the project's own).
use Rattle.std.specs.Prelude.{◌≡◌, ◌≢◌, ◌↔◌, ℕ, true, IsTrue, List, [], Option, Some, None, IfSome, if◌then◌else◌}
use Rattle.fibs_fields.specs.Board.{BoardFields}
use Rattle.fibs_fields.specs.Spaces.{without_spaces}
use Rattle.fibs_position.specs.declared.phase.Phase.TheVariants.{Passing}
use Rattle.fibs_events.specs.declared.told.Told.{Told}
use Rattle.fibs_events.specs.declared.told.Told.TheVariants as T
use Rattle.fibs_wording.specs.SavedLists.{HearsList}
use Rattle.fibs_wording.specs.declared.saved.SavedMatch.{SavedMatch}
use Rattle.fibs_advice.specs.declared.situation.BoardAsked.TheVariants as B
use Rattle.fibs_advice.specs.declared.standing.Standing.TheVariants as S
use Rattle.fibs_terminal.specs.BoardsKept.{phase_heard}
use Rattle.fibs_terminal.specs.Boxes.{nothing_watched}
use Rattle.fibs_terminal.specs.Greetings.{is_answered, is_due}
use Rattle.fibs_terminal.specs.Saved.{AfterTold}
use Rattle.fibs_terminal.specs.Tables.{IsNewStory, none_drawn}
use Rattle.fibs_terminal.specs.Tellings.{has_told}
use Rattle.fibs_terminal.specs.Toggles.{after_text}
use Rattle.fibs_terminal.specs.declared.listening.greeting.Greeting.{Greeting}
use Rattle.fibs_terminal.specs.declared.listening.left_out.Known.{Known}
use Rattle.fibs_terminal.specs.declared.memory.Connection.{Connection}
use Rattle.fibs_terminal.specs.declared.memory.Memory.{Memory}
use Rattle.fibs_terminal.specs.declared.table.Table.{Table}

-- of all that is remembered nothing but this of the connection changes
abbrev pub with_here : Memory → Connection → Memory
with_here m here = record m { here = here }

-- ---- the row that ends a login

-- the row is said if it is due, and once
abbrev pub settled : Greeting → Greeting
settled g = if is_due g then record g { is_said = true } else g

-- ---- saved matches

-- the title tells no game any more, and the user was not asked whether he leaves one; the boards that have come are
-- still remembered
abbrev pub IsCleared : Table → Table → Type 0
IsCleared old new = (new.title.items ≡ []) × (new ≡ record old { title = new.title; leave = None })

-- no game is on the table after a text that tells that a match was left or is over, or that the user plays with nobody
abbrev pub LeavesTable : Option Told → Table → Table → Type 0
LeavesTable (Some T.Saved) old new = IsCleared old new
LeavesTable (Some T.MatchOver) old new = IsCleared old new
LeavesTable (Some T.NotPlaying) old new = IsCleared old new
LeavesTable told old new = new ≡ old

-- what a text has told of the match with the opponent is taken note of, by the last board of that match, then what it
-- lists of saved matches; and what it says of the settings of the server
pub record NotesMatch (old : Memory) (said : List ℕ) (told : Option Told) (new : Memory) : Type 0 where
  pub board : Option BoardFields
  pub between : List SavedMatch
  pub his : IfSome board (λ b. b.opponent ≡ old.here.situation.opponent.name.items)
  pub match_told : AfterTold told said old.here.situation.opponent.name.items board
      old.program.account.saved.matches.items between
  pub listed : HearsList (without_spaces said) old.here.company.lists between
      new.here.company.lists new.program.account.saved.matches.items
  pub toggles : new.here.toggles ≡ after_text (without_spaces said) old.here.toggles
  pub table : LeavesTable told old.here.table new.here.table

-- nothing else of what is remembered changes by that
abbrev pub with_match : Memory → Memory → Memory
with_match old new = record {
  program = record old.program {
    account = record old.program.account { saved = new.program.account.saved };
  };
  here = record old.here {
    toggles = new.here.toggles;
    company = record old.here.company { lists = new.here.company.lists };
    table = new.here.table;
  };
}

-- ---- what a text tells of the match

-- the server has answered `board` by something else: the user has asked what is advised, if that was asked after his
-- last decision
pub record HearsNoBoard (old new : Connection) : Type 0 where
  pub asked : old.situation.asked ≡ B.Now → new.advising ≡ record old.advising { inquired = true }
  pub unasked : old.situation.asked ≢ B.Now → new.advising ≡ old.advising
  pub answered : new.situation.asked ≢ B.Now
  pub kept : new ≡ record old {
    situation = record old.situation { asked = new.situation.asked };
    advising = new.advising;
  }

-- a game is on the table of which no board was drawn, and no other one is watched
pub record IsBegun (c : Connection) : Type 0 where
  pub drawn : c.table.boards.drawn ≡ none_drawn
  pub watching : c.watching ≡ nothing_watched
  pub leave : c.table.leave ≡ None

-- a game begins or is resumed, and one that begins has no turns; or the user is in no game, so no board answers; or
-- nobody has invited him, which is said again; a text that tells nothing leaves the table as it is
abbrev pub AfterText : Option Told → Connection → Connection → Type 0
AfterText (Some T.Begins) old new = IsBegun new × IsNewStory new.table.story
AfterText (Some T.Resumes) old new = IsBegun new
AfterText (Some T.NotPlaying) old new = new.situation.asked ≡ B.Nothing
AfterText (Some T.NextGame) old new = new.situation.asked ≢ B.Now
AfterText (Some T.NotInvited) old new = new.advising.says_again ≡ true
AfterText None old new = (new.table ≡ old.table) × (new.advising ≡ old.advising) × (new.watching ≡ old.watching)
AfterText told old new = (new.advising ≡ old.advising) × (new.watching ≡ old.watching)

-- of all that is remembered no text that tells of the match changes more than this
abbrev pub with_told : Memory → Memory → Memory
with_told old new = record {
  program = record old.program {
    account = record old.program.account { saved = new.program.account.saved };
    results = new.program.results;
  };
  here = record old.here {
    situation = new.here.situation;
    advising = new.here.advising;
    table = new.here.table;
    watching = new.here.watching;
    company = record old.here.company { lists = new.here.company.lists };
    toggles = new.here.toggles;
    rematch = new.here.rematch;
  };
}

-- ---- texts that are left out

-- what is known when a text comes that has told this: nothing is left out for what was said already, unless that was
-- said
pub record IsKnown (here : Connection) (said : List ℕ) (told : Option Told) (known : Known) : Type 0 where
  pub passes : IsTrue known.passes ↔ (phase_heard here.table.boards.heard ≡ Some Passing)
  pub ended : IsTrue known.is_ended → has_told here.table.boards said
  pub next : IsTrue known.is_next ↔ ((told ≡ Some T.NextGame) × (here.situation.standing ≡ S.Next))
  pub invited : IsTrue known.is_invited → (told ≡ Some T.Invited) × (here.situation.inviter.is_told ≡ true)
  pub answer : known.is_answer ≡ is_answered here.greeting said

-- ---- texts that are shown

-- of all that is remembered no text that is shown changes more than this
abbrev pub with_shown : Memory → Memory → Memory
with_shown old new = record old {
  here = record old.here {
    situation = record old.here.situation {
      inviter = record old.here.situation.inviter { is_told = new.here.situation.inviter.is_told };
    };
    advising = new.here.advising;
    said = new.here.said;
    watching = new.here.watching;
  };
}

-- of what is remembered of a connection no board of a game that is watched changes more than this: the user's own match
-- is as it was
abbrev pub with_watched : Connection → Connection → Connection
with_watched old new = record old {
  situation = record old.situation { asked = new.situation.asked };
  advising = new.advising;
  watching = new.watching;
  greeting = new.greeting;
  said = new.said;
}
