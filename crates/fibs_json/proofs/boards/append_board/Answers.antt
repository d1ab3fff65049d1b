use Rattle.fibs_fields.specs.StoredBoard.{fields_of}
use Rattle.fibs_engine.proofs.OkLemmas.{on_ok_weaker}
use Rattle.fibs_json.specs.Boards.{board_members}
use Rattle.fibs_json.proofs.ObjectLemmas.{next_members}
use Rattle.fibs_json.proofs.boards.append_board.Goals as goal

pub returns : goal.returns
returns c =
    let b = fields_of c.args.board.now in
    on_ok_weaker c.append_place.result
    (λ h. (
      h.0,
      h.1,
      next_members c.args.text.now.items c.append_fields.new.text.items c.append_place.new.text.items
          (board_members b) h.0 c.in_ok-append_fields.ensures h.2,
    ))
    c.append_place.ensures
