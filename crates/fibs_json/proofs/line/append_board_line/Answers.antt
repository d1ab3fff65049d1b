use Rattle.std.proofs.Common.{◌++◌, codes, refl}
use Rattle.fibs_json.proofs.ObjectLemmas.{gained}
use Rattle.fibs_fields.specs.StoredBoard.{fields_of}
use Rattle.fibs_json.specs.Boards.{board_members}
use Rattle.fibs_json.specs.Lines.{line_object}
use Rattle.fibs_json.proofs.line.append_board_line.Goals as goal

pub returns : goal.returns
returns c =
    let h = c.in_ok-append_board.ensures in
    let bytes = c.args.bytes.now in
    let members = board_members (fields_of c.args.board.now) ++ h.0 in (
      line_object (codes "board") bytes members,
      (h.0, h.1, refl),
      gained c.args.text.now.items (codes "board") bytes c.append_front.new.text.items c.append_board.new.text.items
          c.push.new.self.items members c.in_ok-append_front.ensures h.2 c.in_ok-push.ensures.items,
    )
