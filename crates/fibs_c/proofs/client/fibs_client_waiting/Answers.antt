-- The decision that waits is told, if one does.
use Rattle.std.proofs.Common.{sym, subst}
use Rattle.std.specs.Prelude.{Option}
use Rattle.fibs_session.specs.Calls.Standing.{ClientValue, StandsAfter}
use Rattle.fibs_session.specs.Calls.SessionOf.{ask_of}
use Rattle.fibs_session.specs.History.Words.{Ask}
use Rattle.fibs_c.specs.Records.Asks.{IsAskAs}
use Rattle.fibs_c.specs.declared.records.outstanding.OutstandingRecord.{OutstandingRecord}
use Rattle.fibs_c.specs.ClientDoor.{IsWaiting, IsWaitingAsk}
use Rattle.fibs_c.proofs.client.fibs_client_waiting.Goals.{in-None-waiting, in-Some-waiting}
use Rattle.fibs_c.proofs.client.fibs_client_waiting.Goals as goal

pub returns-after-waiting : goal.returns-after-waiting
returns-after-waiting c =
    let out = c.match-waiting.waiting in let status = c.match-waiting.status in
    subst (λ (o : Option ClientValue). IsWaiting o c.of.result.value c.args.waiting.now out status)
    c.in-Some.ensures.value (
      c.of.ensures,
      λ t stands.
          let lent = subst (λ (v : ClientValue). StandsAfter v t) (sym c.deref.ensures) stands in
          elim c.match-waiting.branch [
            | in-None-waiting w ↦ subst (λ (a : Option Ask). IsWaitingAsk a c.args.waiting.now out status)
                (w.in-None-waiting.ensures t lent) (w.status-is, w.waiting-is)
            | in-Some-waiting w ↦ subst (λ (a : Option Ask). IsWaitingAsk a c.args.waiting.now out status)
                (w.in-Some-waiting.ensures t lent) (
                  w.status-is,
                  subst (λ (o : OutstandingRecord). IsAskAs c.args.waiting.now o (ask_of w.in-Some-waiting.waits.now))
                      (sym w.waiting-is) w.put_outstanding.ensures,
                )
          ],
    )
