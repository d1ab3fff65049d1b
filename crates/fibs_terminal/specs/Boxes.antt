-- What a terminal remembers of a connection, and what outlives it (the project's own).
use Rattle.std.specs.Prelude.{◌≡◌, [], false, None}
use Rattle.std.specs.declared.time.Duration.{Duration}
use Rattle.fibs_messages.specs.Directory.{IsDirectory}
use Rattle.fibs_advice.specs.declared.passing.Passing.TheVariants.{Asks}
use Rattle.fibs_advice.specs.Listings.{all_plays}
use Rattle.fibs_advice.specs.Situations.{opened_with}
use Rattle.fibs_advice.specs.Situations as Situations
use Rattle.fibs_terminal.specs.Greetings.{new_greeting}
use Rattle.fibs_terminal.specs.Tables.{IsNewTable, kept_table}
use Rattle.fibs_terminal.specs.Toggles.{new_toggles}
use Rattle.fibs_terminal.specs.declared.company.Company.{Company}
use Rattle.fibs_terminal.specs.declared.drawing.watching.Watching.{Watching}
use Rattle.fibs_terminal.specs.declared.drawing.watching.Wanted.{Wanted}
use Rattle.fibs_terminal.specs.declared.drawing.watching.Wanted.TheVariants as W
use Rattle.fibs_terminal.specs.declared.looking.Looking.{Looking}
use Rattle.fibs_terminal.specs.declared.memory.Connection.{Connection}
use Rattle.fibs_terminal.specs.declared.memory.Kept.{Kept}
use Rattle.fibs_terminal.specs.declared.people.List.{List as PlayerList}
use Rattle.fibs_terminal.specs.declared.people.ListAsked.TheVariants as A
use Rattle.fibs_terminal.specs.declared.resting.Advising.{Advising}

-- nothing was advised
pub record IsQuiet (a : Advising) : Type 0 where
  pub again : a.says_again ≡ false
  pub inquired : a.inquired ≡ false
  pub told : a.is_told ≡ false
  pub last : a.said_last.items ≡ []

-- nobody is listed, nobody has talked with the user, and no list of saved matches is coming
pub record IsEmptyCompany (c : Company) : Type 0 where
  pub listed : IsDirectory [] c.listed
  pub lists : c.lists ≡ false
  pub spoken : c.spoken.items ≡ []

-- no list of players is coming
pub record IsEmptyList (l : PlayerList) : Type 0 where
  pub asked : l.asked ≡ A.Nothing
  pub count : l.count ≡ 0
  pub last : l.last.items ≡ []
  pub name : l.name.items ≡ []
  pub wanted : l.wanted ≡ None

-- of a game that begins to be watched a board is wanted if, and only if, the user has asked to watch one
abbrev pub wanted_at_begin : Wanted → Wanted
wanted_at_begin W.Nothing = W.Nothing
wanted_at_begin W.IfWatched = W.Board
wanted_at_begin W.Board = W.Board

-- no game is watched
abbrev pub nothing_watched : Watching
nothing_watched = record { heard = None; drawn = None; told = None; is_ending = false; wanted = W.Nothing }

-- a game that the server says the user watches: a board of it is to be asked for only if he has asked to watch
abbrev pub begun_watching : Watching → Watching
begun_watching w = record nothing_watched { wanted = wanted_at_begin w.wanted }

-- nothing was shown on a connection
pub record IsFresh (c : Connection) : Type 0 where
  pub advising : IsQuiet c.advising
  pub watching : c.watching ≡ nothing_watched
  pub company : IsEmptyCompany c.company
  pub list : IsEmptyList c.list
  pub greeting : c.greeting ≡ new_greeting
  pub toggles : c.toggles ≡ new_toggles
  pub warned : c.is_warned ≡ false
  pub said : c.said.items ≡ []
  pub rule : c.rule.items ≡ []
  pub passing : c.passing ≡ Asks
  pub direction : c.direction ≡ None
  pub moves : c.lists_moves ≡ false
  pub rematch : c.rematch ≡ None

-- of what the user looks at, the move that was tried: it is sent only on the board on which that was done
abbrev pub kept_looking : Looking → Looking
kept_looking l = record { plays = all_plays; trial = l.trial }

-- what outlives a connection: the opponent, and the offer that was open; the game so far; the move that was tried
abbrev pub kept_of : Connection → Kept
kept_of c = record {
  situation = Situations.kept_of c.situation;
  table = kept_table c.table;
  looking = kept_looking c.looking;
}

-- a connection that was made at a time, after one of which this is kept: all else of it is as if nothing had been shown
-- before, so what is said on it depends on this alone, and on what is remembered as long as the program runs
pub record IsNewConnection (kept : Kept) (at : Duration) (c : Connection) : Type 0 where
  pub situation : c.situation ≡ opened_with kept.situation
  pub table : IsNewTable kept.table c.table
  pub looking : c.looking ≡ kept.looking
  pub opened : c.opened ≡ at
  pub fresh : IsFresh c
