use Rattle.std.proofs.Common.{rules, false, true}
use Rattle.fibs_engine.proofs.OkLemmas.{if_ok_weaker}
use Rattle.fibs_connect.proofs.TurnLemmas.Turns.{next_fits}
use Rattle.fibs_connect.proofs.TurnLemmas.Seen.{turn_accounted}
use Rattle.fibs_connect.proofs.turns.exchange.Goals as goal

pub returns-in-None-clause-next : goal.returns-in-None-clause-next
returns-in-None-clause-next g c =
    let fits = rw c.in-None.is at c.requires in
    rw c.in-None.is (if_ok_weaker c.talk_offline.result
    (λ e h. next_fits e fits.0 _ _ _ _ _ _ false fits.2
    (h fits.0 fits.1 fits.2 c.args.directory.now)) c.talk_offline.ensures.turned)

pub returns-in-None-clause-turned : goal.returns-in-None-clause-turned
returns-in-None-clause-turned g c =
    rw c.in-None.is (if_ok_weaker c.talk_offline.result
    (λ e h t at off. turn_accounted (λ p. p.out) g.W.Write.contents t _ _ _ _ _ _ _ _ _ _ e _ (λ same. search rules)
    (h t at off c.args.directory.now)) c.talk_offline.ensures.turned)

pub returns-in-Some-clause-next : goal.returns-in-Some-clause-next
returns-in-Some-clause-next g c =
    let fits = rw c.in-Some.is at c.requires in
    rw c.in-Some.is (if_ok_weaker c.talk.result
    (λ e h. next_fits e fits.0 _ _ _ _ _ _ true fits.2 (h fits.0 fits.1 fits.2)) c.talk.ensures.turned)

pub returns-in-Some-clause-turned : goal.returns-in-Some-clause-turned
returns-in-Some-clause-turned g c =
    rw c.in-Some.is (if_ok_weaker c.talk.result
    (λ e h t at on. turn_accounted (λ p. p.out) g.W.Write.contents t _ _ _ _ _ _ _ _ _ _ e _ (λ same. search rules)
    (h t at on)) c.talk.ensures.turned)

pub returns-in-None-clause-stopped : goal.returns-in-None-clause-stopped
returns-in-None-clause-stopped g c = rw c.in-None.is c.talk_offline.ensures.stopped

pub returns-in-Some-clause-stopped : goal.returns-in-Some-clause-stopped
returns-in-Some-clause-stopped g c = rw c.in-Some.is c.talk.ensures.stopped

pub returns-in-Some-clause-few : goal.returns-in-Some-clause-few
returns-in-Some-clause-few g c = rw c.in-Some.is c.talk.ensures.few
