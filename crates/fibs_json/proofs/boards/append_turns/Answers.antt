use Rattle.std.proofs.Common.{[], ◌∷◌, codes}
use Rattle.fibs_fields.specs.Board.{field_of}
use Rattle.fibs_fields.specs.StoredBoard.{fields_of}
use Rattle.fibs_engine.proofs.OkLemmas.{on_ok_weaker}
use Rattle.fibs_position.specs.OwnView.{turn, colour}
use Rattle.fibs_json.specs.Boards.{colour_json, dice_of, number_field, turn_json}
use Rattle.fibs_json.specs.Json.{Member, member}
use Rattle.fibs_json.proofs.ObjectLemmas.{first_member, next_member}
use Rattle.fibs_json.proofs.boards.append_turns.Goals as goal

pub returns : goal.returns
returns c =
    let b = fields_of c.args.board.now in
    let old = c.args.text.now.items in
    let one = c.append_colour.new.text.items in
    let two = c.append_field.new.text.items in
    let three = c.append_turn.new.text.items in
    let four = c.append_dice.new.text.items in
    let letter : Member = member (codes "colour") (colour_json (colour b)) in
    let way : Member = number_field (codes "direction") (field_of b 43) in
    let whose : Member = member (codes "turn") (turn_json (turn b) (colour b)) in
    let dice : Member = member (codes "dice") (dice_of b 34 35) in
    let others : Member = member (codes "opponent_dice") (dice_of b 36 37) in
    let first = first_member old one letter c.in_ok-append_colour.ensures in
    let second = next_member old one two (letter ∷ []) way first c.in_ok-append_field.ensures in
    let third = next_member old two three (letter ∷ way ∷ []) whose second c.in_ok-append_turn.ensures in
    let fourth = next_member old three four (letter ∷ way ∷ whose ∷ []) dice third c.in_ok-append_dice.ensures in
    on_ok_weaker c.append_dice-2.result
    (next_member old four c.append_dice-2.new.text.items (letter ∷ way ∷ whose ∷ dice ∷ []) others fourth)
    c.append_dice-2.ensures
