-- The match that is on the table, as its boards show it (the project's own).
use Rattle.std.specs.Prelude.{◌≡◌, [], None}
use Rattle.fibs_terminal.specs.declared.drawing.boards.Boards.{Boards}
use Rattle.fibs_terminal.specs.declared.drawing.boards.Drawn.{Drawn}
use Rattle.fibs_terminal.specs.declared.story.Story.{Story}
use Rattle.fibs_terminal.specs.declared.table.KeptTable.{KeptTable}
use Rattle.fibs_terminal.specs.declared.table.Table.{Table}

-- no board of a game was drawn
abbrev pub none_drawn : Drawn
none_drawn = record { last = None; before = None; told = None }

-- no board of a match has come
abbrev pub no_boards : Boards
no_boards = record { drawn = none_drawn; heard = None; ahead = None; ending = None }

-- nothing of a game was shown
pub record IsNewStory (s : Story) : Type 0 where
  pub turns : s.turns.items ≡ []
  pub forgotten : s.forgotten ≡ 0
  pub last : s.last ≡ None

-- what outlives a connection: with whom the match is, and the game so far
abbrev pub kept_table : Table → KeptTable
kept_table t = record { opponent = t.opponent; story = t.story }

-- no board has come, no title tells a game, and the user was not asked whether he leaves it: of what was before nothing
-- is left but this
pub record IsNewTable (kept : KeptTable) (t : Table) : Type 0 where
  pub opponent : t.opponent ≡ kept.opponent
  pub story : t.story ≡ kept.story
  pub boards : t.boards ≡ no_boards
  pub title : t.title.items ≡ []
  pub leave : t.leave ≡ None

-- another match: nothing is left of the one before
pub record IsAnotherTable (t : Table) : Type 0 where
  pub kept : IsNewTable (kept_table t) t
  pub story : IsNewStory t.story
