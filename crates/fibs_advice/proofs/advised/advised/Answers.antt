use Rattle.fibs_position.specs.Phases.{phase_of}
use Rattle.fibs_advice.specs.Advised.{MaySay}
use Rattle.fibs_advice.specs.RowStates.{may_double}
use Rattle.fibs_advice.proofs.AdvisedLemmas.{kept_row, sends_ways}
use Rattle.fibs_advice.proofs.advised.advised.Goals as goal

pub returns-clause-own : goal.returns-clause-own
returns-clause-own c = λ t stands plays logs row own may. kept_row
    (λ r. MaySay t c.args.situation.now.standing c.in_ok-offers.offers c.sendable-send.result c.sendable-other.result r)
    c.row_of-row.result row c.true_row.result (c.row_of-row.ensures.own t stands plays logs row own)
    (c.true_row.ensures.kept t stands) may

pub returns-clause-sent : goal.returns-clause-sent
returns-clause-sent c = λ t stands b shown ask waits asks. sends_ways t c.args.situation.now.standing (phase_of b)
    (may_double c.args.situation.now) c.in_ok-first.first c.in_ok-first.second c.sendable-send.result
    c.sendable-other.result (c.in_ok-first.ensures.ways t stands b shown ask waits asks)
    (c.sendable-send.ensures.only t stands) (c.sendable-other.ensures.only t stands)
