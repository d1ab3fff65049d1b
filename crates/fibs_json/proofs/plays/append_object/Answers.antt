use Rattle.std.proofs.Common.{◌≡◌, ap, subst, refl, inl, inr}
use Rattle.fibs_fields.specs.StoredBoard.{fields_of}
use Rattle.fibs_engine.proofs.OkLemmas.{if_ok_weaker}
use Rattle.fibs_engine.specs.Status.{code_of}
use Rattle.fibs_messages.specs.Line.{board_line}
use Rattle.fibs_position.specs.GoodBoard.{IsGood}
use Rattle.fibs_json.specs.Plays.{SaysNoGood}
use Rattle.fibs_json.proofs.ObjectLemmas.{says_no_board}
use Rattle.fibs_json.proofs.plays.append_object.Goals as goal

pub returns-in_ok-append_board_with_plays-in-Ok : goal.returns-in_ok-append_board_with_plays-in-Ok
returns-in_ok-append_board_with_plays-in-Ok c =
    let h = c.in_ok-append_board_with_plays-in-Ok.ensures in (
      h.0,
      inl (fields_of c.in-Board.board, c.in-Board.ensures.found, c.in-Ok.ensures.good.0 refl, h.1, refl),
      h.2,
    )

pub returns-in-Err : goal.returns-in-Err
returns-in-Err c =
    let none : SaysNoGood c.args.line.now = λ b is good.
    let line : board_line (fields_of c.in-Board.board) ≡ board_line b = c.in-Board.ensures.only (board_line b) is in
    let same : b ≡ fields_of c.in-Board.board = cc in
    let ok = c.in-Err.ensures.good.1 (subst IsGood same good) in
    absurd (cc) in
    if_ok_weaker c.append_refused.result
    (λ status h. (h.1.1, inr (none, (h.1.0, h.1.2, h.1.3), ap code_of h.0), h.1.4))
    c.append_refused.ensures

pub returns-in_default : goal.returns-in_default
returns-in_default c =
    let none : SaysNoGood c.args.line.now = λ b is good.
    says_no_board c.read.result b c.in_default.not-Board (c.read.ensures.only (board_line b) is) in
    if_ok_weaker c.append_refused-in_default.result
    (λ status h. (h.1.1, inr (none, (h.1.0, h.1.2, h.1.3), ap code_of h.0), h.1.4))
    c.append_refused-in_default.ensures
