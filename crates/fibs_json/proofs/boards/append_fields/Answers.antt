use Rattle.std.proofs.Common.{◌++◌}
use Rattle.fibs_fields.specs.StoredBoard.{fields_of}
use Rattle.fibs_engine.proofs.OkLemmas.{on_ok_weaker}
use Rattle.fibs_json.specs.Boards.{match_members, turn_members, cube_members, off_members, count_members}
use Rattle.fibs_json.proofs.ObjectLemmas.{next_members}
use Rattle.fibs_json.proofs.boards.append_fields.Goals as goal

pub returns : goal.returns
returns c =
    let b = fields_of c.args.board.now in
    let old = c.args.text.now.items in
    let one = c.append_match.new.text.items in
    let two = c.append_turns.new.text.items in
    let three = c.append_cube.new.text.items in
    let four = c.append_off.new.text.items in
    let turns = next_members old one two (match_members b) (turn_members b) c.in_ok-append_match.ensures
    c.in_ok-append_turns.ensures in
    let cube = next_members old two three (match_members b ++ turn_members b) (cube_members b) turns
    c.in_ok-append_cube.ensures in
    let offs = next_members old three four ((match_members b ++ turn_members b) ++ cube_members b) (off_members b) cube
    c.in_ok-append_off.ensures in
    on_ok_weaker c.append_counts.result
    (next_members old four c.append_counts.new.text.items
    (((match_members b ++ turn_members b) ++ cube_members b) ++ off_members b) (count_members b) offs)
    c.append_counts.ensures
