use Rattle.std.proofs.Common.{refl}
use Rattle.fibs_session.specs.History.Machine.{Open, start, step}
use Rattle.fibs_commands.specs.LoginOf.{login_of}
use Rattle.fibs_tests.proofs.turns.connected.opened.Goals as goal

pub returns : goal.returns
returns g c =
    let t = start (login_of c.expect-login.result) in
    ((step t Open).talk, c.open-command.ensures.does.stands t c.new-client.ensures, refl)
