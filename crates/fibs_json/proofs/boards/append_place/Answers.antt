use Rattle.std.proofs.Common.{refl, inr}
use Rattle.fibs_fields.specs.StoredBoard.{fields_of}
use Rattle.fibs_engine.proofs.OkLemmas.{on_ok_weaker}
use Rattle.fibs_position.specs.PositionValue.{position_value}
use Rattle.fibs_json.specs.Boards.{fault_members}
use Rattle.fibs_json.proofs.ObjectLemmas.{placed}
use Rattle.fibs_json.proofs.boards.append_place.Goals as goal

pub returns-in-Ok : goal.returns-in-Ok
returns-in-Ok c =
    on_ok_weaker c.append_position.result
    (placed (fields_of c.args.board.now) (position_value c.in-Ok.position) c.args.text.now.items
    c.append_position.new.text.items (c.in-Ok.ensures.good.0 refl) c.in-Ok.ensures.same)
    c.append_position.ensures

pub returns-in-Err : goal.returns-in-Err
returns-in-Err c =
    let fault = c.in-Err.fault in
    on_ok_weaker c.append_fault.result
    (λ e. (fault_members fault, inr (fault, (c.in-Err.ensures.fault fault).0 refl, refl), e))
    c.append_fault.ensures
