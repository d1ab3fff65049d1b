use Rattle.fibs_commands.specs.Logins.{login_fault}
use Rattle.fibs_replay.proofs.run.script_login.Goals as goal

pub unreachable-requires : goal.unreachable-requires
unfolding login_fault
unreachable-requires c = let fault = c.in-Err.ensures.fault in absurd cc
