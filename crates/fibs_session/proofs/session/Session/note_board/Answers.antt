use Rattle.std.proofs.Common.{◌≡◌, sym, ap, ◌∙◌, rules}
use Rattle.fibs_fields.specs.StoredBoard.{fields_of}
use Rattle.fibs_position.specs.DecisionValue.{roll}
use Rattle.fibs_position.specs.DirectionOf.{direction_of}
use Rattle.fibs_commands.specs.Commands.{command_of}
use Rattle.fibs_session.specs.History.Words.{one_if}
use Rattle.fibs_session.specs.Calls.FieldSteps.{with_roll}
use Rattle.fibs_session.specs.Calls.SessionOf.{session_of, texts_of}
use Rattle.fibs_session.proofs.Calls.ShownBoards as B
use Rattle.fibs_session.proofs.session.Session.note_board.Goals as goal
use Rattle.fibs_session.proofs.session.Session.note_board.Goals.{then-rolled, else-rolled}

pub returns-clause-fields : goal.returns-clause-fields
returns-clause-fields c =
    let is =
    B.is_shown (session_of c.args.self.now) (session_of c.show.new.self) (session_of c.settle-confirmed.new.self)
    (fields_of c.args.board.now) c.in-Some.differs c.in-Some.ensures.differs c.in-Some.ensures.fields
    c.settle-confirmed.ensures.fields in
    let v = session_of c.args.self.now in
    let after = session_of c.settle-confirmed.new.self in
    let b = fields_of c.args.board.now in
    let r = c.is_due_now-rolled.result in
    let due = c.is_due_now-rolled.ensures in
    elim c.if-rolled.branch [
      | then-rolled w ↦
          rw w.self-is (B.rolled_on v after _ b r is.0 is.1 due
          (w.roll_on.ensures.fields ∙ ap (with_roll after b) (sym w.if-rolled.true)))
      | else-rolled w ↦
          rw w.self-is (B.rolled_on v after _ b r is.0 is.1 due
          (ap (with_roll after b) (sym w.if-rolled.false)))
    ]

pub returns-clause-send : goal.returns-clause-send
returns-clause-send c =
    let is =
    B.is_shown (session_of c.args.self.now) (session_of c.show.new.self) (session_of c.settle-confirmed.new.self)
    (fields_of c.args.board.now) c.in-Some.differs c.in-Some.ensures.differs c.in-Some.ensures.fields
    c.settle-confirmed.ensures.fields in
    let r = c.is_due_now-rolled.result in
    let b = fields_of c.args.board.now in
    let sent : texts_of c.if-rolled.send.items ≡ one_if r (command_of (direction_of b) roll) = search rules in
    B.sends (session_of c.args.self.now) (session_of c.settle-confirmed.new.self) b r _ is.0 is.1
    c.is_due_now-rolled.ensures sent

pub returns-clause-confirmed : goal.returns-clause-confirmed
returns-clause-confirmed c =
    B.confirms (session_of c.args.self.now) (session_of c.show.new.self) (fields_of c.args.board.now)
    c.in-Some.differs _ c.in-Some.ensures.differs c.in-Some.ensures.fields c.settle-confirmed.ensures.result

pub returns-clause-rolled : goal.returns-clause-rolled
returns-clause-rolled c =
    let is =
    B.is_shown (session_of c.args.self.now) (session_of c.show.new.self) (session_of c.settle-confirmed.new.self)
    (fields_of c.args.board.now) c.in-Some.differs c.in-Some.ensures.differs c.in-Some.ensures.fields
    c.settle-confirmed.ensures.fields in
    B.rolls (session_of c.args.self.now) (session_of c.settle-confirmed.new.self) (fields_of c.args.board.now)
    c.is_due_now-rolled.result is.0 is.1 c.is_due_now-rolled.ensures
