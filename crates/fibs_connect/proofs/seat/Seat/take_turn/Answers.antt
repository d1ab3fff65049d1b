use Rattle.std.proofs.Common.{false, true, sym, ◌∙◌}
use Rattle.fibs_connect.proofs.TurnLemmas.Turns.{next_fits}
use Rattle.fibs_connect.proofs.ConverseLemmas.Seats.{seat_away, turn_away, turn_given_up, turn_kept}
use Rattle.fibs_connect.proofs.seat.Seat.take_turn.Goals as goal

pub returns-in_ok-_quiet-in-None-clause-fits : goal.returns-in_ok-_quiet-in-None-clause-fits
returns-in_ok-_quiet-in-None-clause-fits g c =
    let fits = rw (sym c.take.ensures.value ∙ c.in-None.is) at c.requires in
    let ending = c.in_ok-_quiet-in-None._quiet in
    rw c.take.ensures.after (seat_away ending _ (next_fits ending fits.0 _ _ _ _ _ _ false fits.2
    (c.in_ok-_quiet-in-None.ensures.turned fits.0 fits.1 fits.2 c.args.self.now.directory)))

pub returns-in_ok-_quiet-in-None-clause-turned : goal.returns-in_ok-_quiet-in-None-clause-turned
returns-in_ok-_quiet-in-None-clause-turned g c =
    turn_away g.S.Read.remaining g.S.Write.contents _ _ _ _ _ c.in_ok-_quiet-in-None._quiet _ _ _
    (sym c.take.ensures.value ∙ c.in-None.is) c.take.ensures.after c.in_ok-_quiet-in-None.ensures.turned

pub returns-in-Quiet-clause-fits : goal.returns-in-Quiet-clause-fits
returns-in-Quiet-clause-fits g c =
    let fits = rw (sym c.take.ensures.value ∙ c.in-Some.is) at c.requires in
    rw c.in-Quiet.is at (next_fits c.in_ok-ending-in-Some.ending fits.0 _ _ _ _ _ _ true fits.2
    (c.in_ok-ending-in-Some.ensures.turned fits.0 fits.1 fits.2))

pub returns-in_default-clause-fits : goal.returns-in_default-clause-fits
returns-in_default-clause-fits g c =
    let fits = rw (sym c.take.ensures.value ∙ c.in-Some.is) at c.requires in
    rw c.take.ensures.after (rw c.in_default.is at (next_fits c.in_ok-ending-in-Some.ending fits.0 _ _ _ _ _ _ true
    fits.2 (c.in_ok-ending-in-Some.ensures.turned fits.0 fits.1 fits.2)))

pub returns-in-Quiet-clause-turned : goal.returns-in-Quiet-clause-turned
returns-in-Quiet-clause-turned g c =
    turn_kept g.S.Read.remaining g.S.Write.contents _ _ _ _ c.in-Some.stream _ _ c.in_ok-ending-in-Some.ending _ _ _
    (sym c.take.ensures.value ∙ c.in-Some.is) c.in-Quiet.is c.in_ok-ending-in-Some.ensures.turned

pub returns-in_default-clause-turned : goal.returns-in_default-clause-turned
returns-in_default-clause-turned g c =
    turn_given_up g.S.Read.remaining g.S.Write.contents _ _ _ _ c.in-Some.stream _ _ _ c.in_default.field-0
    c.in_ok-ending-in-Some.ending _ _ _ (sym c.take.ensures.value ∙ c.in-Some.is) c.take.ensures.after
    c.in_default.is c.in_ok-ending-in-Some.ensures.turned
