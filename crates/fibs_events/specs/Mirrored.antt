-- A board as the opponent sees it (FIBS board style 3).
use Rattle.std.specs.Prelude.{ℤ, pos, negsuc, if◌then◌else◌}
use Rattle.std.specs.Ordering.{int_eq}
use Rattle.fibs_fields.specs.Board.{BoardFields, field_of}
use Rattle.fibs_position.specs.BoardEffect.{set_field}

-- the other colour, or the other direction
abbrev pub opposite : ℤ → ℤ
opposite side = if int_eq side (pos 1) then negsuc 0 else pos 1

-- the player has the other colour, and goes the other way
unfoldable pub turned : BoardFields → BoardFields
turned b = set_field (set_field b 42 (opposite (field_of b 42))) 43 (opposite (field_of b 43))

-- the player's dice are the opponent's of another board
unfoldable pub own_dice : BoardFields → BoardFields → BoardFields
own_dice of b = set_field (set_field b 34 (field_of of 36)) 35 (field_of of 37)

-- the opponent's dice are the player's of another board
unfoldable pub other_dice : BoardFields → BoardFields → BoardFields
other_dice of b = set_field (set_field b 36 (field_of of 34)) 37 (field_of of 35)

-- the checkers borne off are those of another board, of the other side each
unfoldable pub borne_off : BoardFields → BoardFields → BoardFields
borne_off of b = set_field (set_field b 46 (field_of of 47)) 47 (field_of of 46)

-- colours, directions, dice and checkers borne off change sides; the places keep the numbers of the line
abbrev pub mirrored : BoardFields → BoardFields
mirrored b = borne_off b (other_dice b (own_dice b (turned b)))
