use Rattle.std.proofs.Common.{None, []}
use Rattle.fibs_session.specs.Calls.SessionOf.{handed}
use Rattle.fibs_session.specs.History.Machine.{Open, step}
use Rattle.fibs_engine.specs.Writing.{Broken}
use Rattle.fibs_connect.proofs.ConverseLemmas.Seats.{seat_opens, seat_lost}
use Rattle.fibs_connect.proofs.seat.Seat.log_in.Goals as goal

pub returns-in-Ok-send_command-clause-fits : goal.returns-in-Ok-send_command-clause-fits
returns-in-Ok-send_command-clause-fits g c = seat_opens _ _ (handed c.open.result) c.requires c.open.ensures.does

pub returns-in_ok-_lost-in-Err-send_command-clause-fits : goal.returns-in_ok-_lost-in-Err-send_command-clause-fits
returns-in_ok-_lost-in-Err-send_command-clause-fits g c =
    let t = (step c.requires.0 Open).talk in
    let ended = c.in_ok-_lost-in-Err-send_command.ensures.ended Broken t
    (c.open.ensures.does.stands c.requires.0 c.requires.1) None [] in
    seat_lost c.in_ok-_lost-in-Err-send_command._lost t _ ended.leaves

pub returns-in_ok-_lost-in-Err-send_command-clause-loses : goal.returns-in_ok-_lost-in-Err-send_command-clause-loses
returns-in_ok-_lost-in-Err-send_command-clause-loses g c = λ away. record {
  mid = _;
  ending = c.in_ok-_lost-in-Err-send_command._lost;
  told = c.in_ok-tell.ensures;
  ended = λ t at. c.in_ok-_lost-in-Err-send_command.ensures.ended Broken (step t Open).talk
      (c.open.ensures.does.stands t at);
}
