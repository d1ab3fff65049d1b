-- A turn, as two boards of a game show it (the project's own).
use Rattle.std.specs.Prelude.{◌&&◌, ◌||◌, not, true, false, Bool}
use Rattle.std.specs.Ordering.{int_eq}
use Rattle.std.specs.Str.{bytes_eq}
use Rattle.fibs_fields.specs.Board.{BoardFields, field_of}
use Rattle.fibs_position.specs.Phases.{phase_of}
use Rattle.fibs_position.specs.declared.phase.Phase.{Phase}
use Rattle.fibs_position.specs.declared.phase.Phase.TheVariants as phase
use Rattle.fibs_advice.specs.declared.hits.Roller.{Roller}
use Rattle.fibs_advice.specs.declared.hits.Roller.TheVariants.{Own, Other}
use Rattle.fibs_events.specs.Mirrored.{mirrored}

-- a board as he sees it who has rolled
abbrev pub seen_by : Roller → BoardFields → BoardFields
seen_by Own b = b
seen_by Other b = mirrored b

-- two boards have the same scores
abbrev pub same_scores : BoardFields → BoardFields → Bool
same_scores a b = int_eq (field_of a 5) (field_of b 5) && int_eq (field_of a 6) (field_of b 6)

-- two boards are of one opponent and one length of the match
abbrev pub same_match : BoardFields → BoardFields → Bool
same_match a b = bytes_eq a.opponent b.opponent && int_eq (field_of a 4) (field_of b 4)

-- a game is over
abbrev pub is_over : Phase → Bool
is_over phase.Over = true
is_over phase.AnswerDouble = false
is_over phase.OpponentActs = false
is_over phase.RollOrDouble = false
is_over phase.Move = false
is_over phase.Passing = false

-- a board is of another game than the one before it: the match is another one, or a game goes on after one that was
-- over, or at another score. On the last board of a game the score may be that of its end
abbrev pub begins_anew : BoardFields → BoardFields → Bool
begins_anew before b =
    not (same_match before b)
    || (not (is_over (phase_of b)) && (is_over (phase_of before) || not (same_scores before b)))
