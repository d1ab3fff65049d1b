-- A board that the user watches, in words (the project's own): rows as those of his own board, with the names of both
-- players. Of a name the first 30 bytes are told.
use Rattle.std.specs.Prelude.{◌++◌, ◌==◌, ◌&&◌, not, ℕ, Bool, true, false, List, codes, if◌then◌else◌}
use Rattle.std.specs.Fmt.{signed_decimal}
use Rattle.std.specs.Ordering.{int_eq}
use Rattle.fibs_fields.specs.Board.{BoardFields, field_of}
use Rattle.fibs_fields.specs.FieldReading.{natural}
use Rattle.fibs_rules.specs.Checkers.{Checkers}
use Rattle.fibs_position.specs.OwnView.{turn, colour}
use Rattle.fibs_position.specs.Phases.{phase_in}
use Rattle.fibs_position.specs.PositionValue.{PositionValue}
use Rattle.fibs_position.specs.declared.direction.Direction.{Direction}
use Rattle.fibs_position.specs.declared.direction.Direction.TheVariants.{Down, Up}
use Rattle.fibs_position.specs.declared.phase.Phase.{Phase}
use Rattle.fibs_position.specs.declared.phase.Phase.TheVariants as phase
use Rattle.fibs_picture.specs.Picture.{own_pips, other_pips, is_one}
use Rattle.fibs_picture.specs.InWords.Words.{pair, score_row, side_row, count_on, numbers_of, blots_of, both_blots}
use Rattle.fibs_picture.specs.declared.in_words.fact.Fact.{Fact}
use Rattle.fibs_picture.specs.declared.in_words.fact.Fact.TheVariants as F
use Rattle.fibs_picture.specs.declared.in_words.listed.Listed.TheVariants as L
use Rattle.fibs_picture.specs.declared.in_words.side.Side.TheVariants as side

-- who plays
unfoldable pub against_row : List ℕ → List ℕ → List ℕ
against_row player opponent = player ++ (codes " against " ++ (opponent ++ codes "."))

-- the turn is not the player's
abbrev pub is_others : BoardFields → Bool
is_others b = not (int_eq (turn b) (colour b))

-- a double is offered to the player; the turn may be shown as the opponent's
unfoldable pub offered_said : Bool → List ℕ → List ℕ → List ℕ
offered_said true player opponent =
    opponent ++ (codes "'s turn, and " ++ (player ++ codes " is offered a double."))
offered_said false player opponent = player ++ codes " is offered a double."

-- whose turn it is, and what the player is to do
unfoldable pub turn_named : Bool → Phase → List ℕ → List ℕ → List ℕ
turn_named others phase.Over player opponent = codes "The game is over."
turn_named others phase.AnswerDouble player opponent = offered_said others player opponent
turn_named others phase.OpponentActs player opponent = opponent ++ codes "'s turn."
turn_named others phase.RollOrDouble player opponent = player ++ codes " to roll."
turn_named others phase.Move player opponent = player ++ codes " to move."
turn_named others phase.Passing player opponent = player ++ codes " can't move."

-- two dice, or that there are none
unfoldable pub dice_said : ℕ → ℕ → List ℕ
dice_said first second = if (first == 0) && (second == 0) then codes "none" else pair first second

-- the player's dice and the opponent's
unfoldable pub dice_named : List ℕ → List ℕ → List ℕ → List ℕ → List ℕ
dice_named player own opponent other =
    player ++ (codes "'s dice " ++ (own ++ (codes ", " ++ (opponent ++ (codes "'s " ++ (other ++ codes "."))))))

-- who may double next
unfoldable pub owner_said : Bool → Bool → List ℕ → List ℕ → List ℕ
owner_said true true player opponent = codes ", in the middle."
owner_said true false player opponent = codes ", " ++ (player ++ codes "'s.")
owner_said false true player opponent = codes ", " ++ (opponent ++ (codes "'s, not " ++ (player ++ codes "'s.")))
owner_said false false player opponent = codes ", no doubling."

-- what the cube shows, and who may double next
unfoldable pub cube_named : BoardFields → List ℕ → List ℕ → List ℕ
cube_named b player opponent =
    codes "Cube " ++ (signed_decimal (field_of b 38) ++ owner_said (is_one b 39) (is_one b 40) player opponent)

-- which way the player goes by the numbers
abbrev pub way_said : Direction → List ℕ
way_said Down = codes " goes down, from 24 to 1."
way_said Up = codes " goes up, from 1 to 24."

-- on which places the player can't come
unfoldable pub held_named : Direction → Checkers → List ℕ → List ℕ
held_named d c player =
    codes "Held against " ++ (player ++ (codes ": " ++ (numbers_of d c L.Held ++ codes ".")))

-- the blots of both
unfoldable pub blots_named : Direction → Checkers → List ℕ → List ℕ → List ℕ
blots_named d c player opponent =
    both_blots (blots_of d c L.OwnBlots player (codes "'s ")) (blots_of d c L.OtherBlots opponent (codes "'s "))

-- ---- the board

-- a fact in a row, by the numbers by which the player goes this way, with the names of the two
unfoldable pub named_row : Direction → BoardFields → PositionValue → List ℕ → List ℕ → Fact → List ℕ
named_row d b p player opponent F.Turn = turn_named (is_others b) (phase_in p) player opponent
named_row d b p player opponent F.Dice =
    dice_named player (dice_said (natural (field_of b 34)) (natural (field_of b 35)))
    opponent (dice_said (natural (field_of b 36)) (natural (field_of b 37)))
named_row d b p player opponent F.Score = score_row (field_of b 5) (field_of b 6) (field_of b 4)
named_row d b p player opponent F.Cube = cube_named b player opponent
named_row d b p player opponent F.Way = player ++ way_said d
named_row d b p player opponent F.Own =
    let c = p.standing.checkers in side_row player (own_pips c) d side.Own (count_on c side.Own)
named_row d b p player opponent F.Other =
    let c = p.standing.checkers in side_row opponent (other_pips c) d side.Other (count_on c side.Other)
named_row d b p player opponent F.Held = held_named d p.standing.checkers player
named_row d b p player opponent F.Blots = blots_named d p.standing.checkers player opponent
