use Rattle.std.proofs.Common.{◌≡◌, true, Result, Ok, Err, is_none, pos, refl, ap, ◌∙◌, rules}
use Rattle.std.specs.Ordering.{int_eq}
use Rattle.std.specs.Result.{is_ok, result_err}
use Rattle.fibs_fields.specs.Board.{field_of}
use Rattle.fibs_fields.specs.StoredBoard.{fields_of}
use Rattle.fibs_position.specs.Phases.{phase_of}
use Rattle.fibs_session.specs.History.Orders.{is_to_roll}
use Rattle.fibs_session.specs.Calls.FieldSteps.{due_of}
use Rattle.fibs_session.proofs.session.Session.is_due.Goals as goal

-- what is no error is none
no_error : {A E : Type 0} (r : Result A E) → is_ok r ≡ is_none (result_err r)
no_error (Ok a) = refl
no_error (Err e) = refl

pub returns-in-RollOrDouble : goal.returns-in-RollOrDouble
unfolding due_of
returns-in-RollOrDouble c =
    let b = fields_of c.args.shown.now.board in
    let may_not_double : int_eq (field_of b 39) (pos 0) ≡ true = search rules in
    let is_time : is_to_roll (phase_of b) ≡ true = search rules in
    rw c.if-not-self.false (rw may_not_double (rw is_time
    (c.is_ok.ensures.value ∙ no_error c.board_for.result ∙ ap is_none c.board_for.ensures.refusal)))
