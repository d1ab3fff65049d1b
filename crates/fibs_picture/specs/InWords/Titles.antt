-- What the title of a terminal's window says of a board (the project's own).
use Rattle.std.specs.Prelude.{◌++◌, ℕ, ℤ, pos, List, codes, take, if◌then◌else◌}
use Rattle.std.specs.Fmt.{signed_decimal}
use Rattle.std.specs.Ordering.{int_eq}
use Rattle.fibs_fields.specs.Board.{BoardFields, field_of}
use Rattle.fibs_position.specs.Phases.{phase_of}
use Rattle.fibs_position.specs.declared.phase.Phase.{Phase}
use Rattle.fibs_position.specs.declared.phase.Phase.TheVariants as phase

-- who decides, or has the turn; a name is told by its first 30 bytes
abbrev pub turn_title : Phase → List ℕ → List ℕ
turn_title phase.Over name = codes "game over"
turn_title phase.AnswerDouble name = codes "your turn"
turn_title phase.OpponentActs name = name ++ codes "'s turn"
turn_title phase.RollOrDouble name = codes "your turn"
turn_title phase.Move name = codes "your turn"
turn_title phase.Passing name = codes "your turn"

-- the length of the match, if it has one
abbrev pub length_title : ℤ → List ℕ
length_title match = if int_eq match (pos 9999) then codes "" else codes " of " ++ signed_decimal match

-- the score: the player's points, the opponent's, and the length of the match
unfoldable pub score_title : ℤ → ℤ → ℤ → List ℕ
score_title own other match =
    codes ", " ++ (signed_decimal own ++ (codes "-" ++ (signed_decimal other ++ length_title match)))

-- the title
unfoldable pub title : BoardFields → List ℕ
title b =
    codes "fibs: " ++ (turn_title (phase_of b) (take 30 b.opponent)
    ++ score_title (field_of b 5) (field_of b 6) (field_of b 4))
