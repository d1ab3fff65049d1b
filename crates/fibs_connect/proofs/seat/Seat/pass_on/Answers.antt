use Rattle.std.proofs.Common.{None, [], refl, inr}
use Rattle.fibs_engine.specs.Writing.{Broken}
use Rattle.fibs_connect.proofs.ConverseLemmas.Seats.{seat_lost}
use Rattle.fibs_connect.proofs.seat.Seat.pass_on.Goals as goal

pub returns-in_ok-_lost-in-Err-clause-fits : goal.returns-in_ok-_lost-in-Err-clause-fits
returns-in_ok-_lost-in-Err-clause-fits g c =
    let t = c.requires.fits.0 in
    let ended = c.in_ok-_lost-in-Err.ensures.ended Broken t c.requires.fits.1 None [] in
    seat_lost c.in_ok-_lost-in-Err._lost t _ ended.leaves

pub returns-in_ok-_lost-in-Err-clause-passed : goal.returns-in_ok-_lost-in-Err-clause-passed
returns-in_ok-_lost-in-Err-clause-passed g c = inr (record {
  wrote = g.S.Write.contents c.send_as_it_is.new.stream;
  writes = c.in-Err.ensures.wrote;
  ending = c.in_ok-_lost-in-Err._lost;
  ended = λ t at. c.in_ok-_lost-in-Err.ensures.ended Broken t at (g.S.Write.contents c.send_as_it_is.new.stream)
      c.args.self.now.directory;
  over = refl;
})
