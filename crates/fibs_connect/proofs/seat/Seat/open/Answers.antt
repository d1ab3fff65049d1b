use Rattle.std.proofs.Common.{◌∷◌, [], refl, inr}
use Rattle.fibs_connect.specs.Told.{opened_said, no_connection_said}
use Rattle.fibs_engine.proofs.OkLemmas.{on_ok_weaker}
use Rattle.fibs_connect.proofs.ConverseLemmas.Seats.{on_ok_three, seat_connects, loses_since}
use Rattle.fibs_connect.proofs.seat.Seat.open.Goals as goal

pub returns-in-Err-clause-connects : goal.returns-in-Err-clause-connects
returns-in-Err-clause-connects g c = λ off. rw c.in-None.is (on_ok_weaker c.tell-in-Err.result
    (λ told. (
      λ e. absurd cc,
      λ e. inr (
        refl,
        (
          c.in-Err.why,
          g.met.F.Front.joins.joined _ _ _ [] (no_connection_said c.in-Err.why ∷ []) c.in_ok-flush-in-None.ensures told,
        ),
      ),
    )) c.tell-in-Err.ensures)

pub returns-in-Ok-clause-connects : goal.returns-in-Ok-clause-connects
returns-in-Ok-clause-connects g c = λ off. on_ok_three c.log_in.result
    (λ none opens loses. seat_connects g.F.Front.tells g.S.Read.remaining g.S.Write.contents c.args.self.now.client _
    c.args.self.now.directory _ c.args.self.now.stream c.log_in.new.self.stream _ _ none
    (λ some. let o = opens some in (
      g.met.F.Front.joins.joined _ _ _ [] (opened_said ∷ []) c.in_ok-flush-in-None.ensures o.0,
      o.1,
    ))
    (λ away. loses_since g.met.F.Front.joins _ _ _ _ _ c.in_ok-flush-in-None.ensures (loses away)))
    c.log_in.ensures.players c.log_in.ensures.opens c.log_in.ensures.loses
