-- What a terminal remembers of the boards of a game, and when it draws one (the project's own).
use Rattle.std.specs.Prelude.{◌≡◌, ◌≤◌, ◌&&◌, ◌||◌, ℕ, Bool, true, false, slice_index, Option, Some, None, IfSome, if◌then◌else◌}
use Rattle.fibs_fields.specs.Board.{BoardFields, field_of}
use Rattle.fibs_position.specs.GameOf.{game_of}
use Rattle.fibs_position.specs.Phases.{phase_of}
use Rattle.fibs_position.specs.PositionValue.{position_of}
use Rattle.fibs_position.specs.declared.game_board.GameBoard.{GameBoard}
use Rattle.fibs_position.specs.declared.phase.Phase.{Phase}
use Rattle.fibs_position.specs.declared.phase.Phase.TheVariants as P
use Rattle.fibs_picture.specs.declared.in_words.told.Told.{Told}
use Rattle.fibs_picture.specs.declared.in_words.told.Told.TheVariants as T
use Rattle.fibs_wording.specs.declared.environment.settings.Settings.{Settings}
use Rattle.fibs_terminal.specs.declared.drawing.boards.Drawn.{Drawn}

-- on two boards all checkers are on the same places or off, of a game with one opponent
pub record SameCheckers (a b : BoardFields) : Type 0 where
  pub own : (place : ℕ) → 1 ≤ place → place ≤ 24
      → slice_index (position_of a).standing.checkers.own place
      ≡ slice_index (position_of b).standing.checkers.own place
  pub other : (place : ℕ) → 1 ≤ place → place ≤ 24
      → slice_index (position_of a).standing.checkers.other place
      ≡ slice_index (position_of b).standing.checkers.other place
  pub own_off : field_of a 46 ≡ field_of b 46
  pub other_off : field_of a 47 ≡ field_of b 47
  pub opponent : a.opponent ≡ b.opponent

-- the user decides in a phase
abbrev pub is_deciding : Phase → Bool
is_deciding P.AnswerDouble = true
is_deciding P.RollOrDouble = true
is_deciding P.Move = true
is_deciding P.Passing = false
is_deciding P.OpponentActs = false
is_deciding P.Over = false

-- the phase of the board that came last
abbrev pub phase_heard : Option GameBoard → Option Phase
phase_heard None = None
phase_heard (Some board) = Some (phase_of (game_of board))

-- the opponent is to act
abbrev pub is_his : Phase → Bool
is_his P.OpponentActs = true
is_his P.AnswerDouble = false
is_his P.RollOrDouble = false
is_his P.Move = false
is_his P.Passing = false
is_his P.Over = false

-- the user is to move
abbrev pub is_to_move : Option Phase → Bool
is_to_move (Some P.Move) = true
is_to_move phase = false

-- a board of this phase shows the user's own move: he was to move, and the opponent is to act
abbrev pub has_moved : Option GameBoard → Phase → Bool
has_moved heard phase = is_his phase && is_to_move (phase_heard heard)

-- the game is over
abbrev pub is_over : Phase → Bool
is_over P.Over = true
is_over P.AnswerDouble = false
is_over P.RollOrDouble = false
is_over P.Move = false
is_over P.OpponentActs = false
is_over P.Passing = false

-- a board calls for a drawing if a checker has moved: the user decides, or has moved it himself, or the game is over
abbrev pub calls_for_drawing : Phase → Bool → Bool
calls_for_drawing phase moved = is_deciding phase || (moved || is_over phase)

-- a board is drawn though the user has not asked for it: none was drawn before it, or a checker is elsewhere than on
-- the last one, and it calls for that
abbrev pub IsDrawnWhole : Option GameBoard → BoardFields → Bool → Type 0
IsDrawnWhole None b moved = Unit {0}
IsDrawnWhole (Some last) b moved = (calls_for_drawing (phase_of b) moved ≡ true) × ¬ SameCheckers (game_of last) b

-- the board with which another one is compared: the one drawn last, or the one before it if no checker is elsewhere
pub record IsBefore (d : Drawn) (b : BoardFields) (before : Option GameBoard) : Type 0 where
  pub first : d.last ≡ None → before ≡ d.before
  pub same : IfSome d.last (λ last. SameCheckers (game_of last) b → before ≡ d.before)
  pub moved : IfSome d.last (λ last. ¬ SameCheckers (game_of last) b → before ≡ Some last)

-- a board was drawn, or told in these words
pub record IsDrawn (old new : Drawn) (game : GameBoard) (told : Option Told) : Type 0 where
  pub last : new.last ≡ Some game
  pub before : IsBefore old (game_of game) new.before
  pub words : new.told ≡ told

-- what was told of a board that is told in words, to a user who wants that
abbrev pub told_of : Settings → GameBoard → Option Told
told_of s game = if s.words then Some (T.Game game s.numbers) else None

-- a board was drawn or was not
abbrev pub DrawnOrNot : Bool → Drawn → Drawn → GameBoard → Option Told → Type 0
DrawnOrNot true old new game told = IsDrawn old new game told
DrawnOrNot false old new game told = new ≡ old
