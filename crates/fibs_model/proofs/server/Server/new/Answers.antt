use Rattle.std.proofs.Common.{◌≡◌, ◌↔◌, Some, subst}
use Rattle.std.specs.Result.{result_err}
use Rattle.fibs_fields.specs.StoredBoard.{fields_of}
use Rattle.fibs_position.specs.First.{IsFirst}
use Rattle.fibs_position.specs.GoodBoard.{HasFault, faults}
use Rattle.fibs_model.proofs.Outcomes.{error_is}
use Rattle.fibs_model.proofs.server.Server.new.Goals as goal

pub returns-in-Err-clause-fault : goal.returns-in-Err-clause-fault
returns-in-Err-clause-fault c = λ f.
    subst (λ r. (result_err r ≡ Some f) ↔ IsFirst (HasFault (fields_of c.args.board)) faults f) c.in-Err.is
    (error_is _ (IsFirst (HasFault (fields_of c.args.board)) faults) c.of.ensures.fault f)
