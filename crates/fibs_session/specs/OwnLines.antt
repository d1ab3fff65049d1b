-- Which lines decide in the game, as a server may read them (the project's own): by their first word, whole or short.
use Rattle.std.specs.Prelude.{ℕ, Bool, true, false, ◌&&◌, ◌||◌, List, [], ◌∷◌, Option, Some, None, length, take, nat_le, codes}
use Rattle.std.specs.Str.{str_eq_ignore_ascii_case}
use Rattle.fibs_fields.specs.Board.{BoardFields}
use Rattle.fibs_fields.specs.Split.{before}
use Rattle.fibs_position.specs.Phases.{phase_of}
use Rattle.fibs_position.specs.declared.phase.Phase.{Phase}
use Rattle.fibs_position.specs.declared.phase.Phase.TheVariants.{Over, AnswerDouble, OpponentActs, RollOrDouble, Move, Passing}

-- a word is one of the server's or its beginning, in small or capital letters; the empty word is the beginning of each
abbrev pub is_short_for : List ℕ → List ℕ → Bool
is_short_for word whole =
    nat_le (length word) (length whole) && str_eq_ignore_ascii_case word (take (length word) whole)

-- the word rolls, moves, doubles or resigns
unfoldable pub is_turn : List ℕ → Bool
is_turn word =
    is_short_for word (codes "roll") || is_short_for word (codes "move") || is_short_for word (codes "double")
    || is_short_for word (codes "redouble") || is_short_for word (codes "resign")

-- the word answers a double, or an offer to resign
unfoldable pub is_answer : List ℕ → Bool
is_answer word = is_short_for word (codes "accept") || is_short_for word (codes "reject")

-- a double is to be answered
abbrev pub is_doubled : Phase → Bool
is_doubled Over = false
is_doubled AnswerDouble = true
is_doubled OpponentActs = false
is_doubled RollOrDouble = false
is_doubled Move = false
is_doubled Passing = false

-- on the board that is shown, if one is
abbrev pub asks : Option BoardFields → Bool
asks None = false
asks (Some b) = is_doubled (phase_of b)

-- a line decides in the game: it rolls, moves, doubles or resigns, or answers the double of the board that is shown
-- (else it answers an offer to resign, of which no board tells). A server may skip spaces, so one at the start may hide
-- such a word
abbrev pub decides : Option BoardFields → List ℕ → Bool
decides shown [] = false
decides shown (b ∷ line) =
    is_turn (before 32 (b ∷ line)) || (asks shown && is_answer (before 32 (b ∷ line)))
