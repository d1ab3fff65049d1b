-- The board that is shown is told, if one is.
use Rattle.std.proofs.Common.{sym, subst}
use Rattle.std.specs.Prelude.{Option}
use Rattle.fibs_fields.specs.Board.{BoardFields}
use Rattle.fibs_fields.specs.StoredBoard.{fields_of}
use Rattle.fibs_session.specs.Calls.Standing.{ClientValue, StandsAfter}
use Rattle.fibs_c.specs.Records.BoardOf.{IsBoardAs}
use Rattle.fibs_c.specs.declared.records.boards.BoardRecord.{BoardRecord}
use Rattle.fibs_c.specs.ClientDoor.{IsShown, IsShownBoard}
use Rattle.fibs_c.proofs.client.fibs_client_shown.Goals.{in-None-shown, in-Some-shown}
use Rattle.fibs_c.proofs.client.fibs_client_shown.Goals as goal

pub returns-after-shown : goal.returns-after-shown
returns-after-shown c =
    let out = c.match-shown.board in let status = c.match-shown.status in
    subst (λ (o : Option ClientValue). IsShown o c.of.result.value c.args.board.now out status)
    c.in-Some.ensures.value (
      c.of.ensures,
      λ t stands.
          let lent = subst (λ (v : ClientValue). StandsAfter v t) (sym c.deref.ensures) stands in
          elim c.match-shown.branch [
            | in-None-shown w ↦ subst (λ (b : Option BoardFields). IsShownBoard b c.args.board.now out status)
                (w.in-None-shown.ensures t lent) (w.status-is, w.board-is)
            | in-Some-shown w ↦ subst (λ (b : Option BoardFields). IsShownBoard b c.args.board.now out status)
                (w.in-Some-shown.ensures t lent) (
                  w.status-is,
                  subst (λ (r : BoardRecord). IsBoardAs c.args.board.now r (fields_of w.in-Some-shown.shown.now))
                      (sym w.board-is) w.put_board.ensures,
                )
          ],
    )
