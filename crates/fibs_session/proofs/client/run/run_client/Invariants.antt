use Rattle.std.proofs.Common.{drop, map}
use Rattle.fibs_session.specs.History.Machine.{Out}
use Rattle.fibs_commands.specs.LoginOf.{login_of}
use Rattle.fibs_session.specs.Calls.InputOf.{input_of}
use Rattle.fibs_session.proofs.Calls.Runs.{Going}
use Rattle.fibs_session.proofs.client.run.run_client.Given as goal

-- the inputs that are left give the bytes that are left
abbrev pub invariant-loop-input : goal.invariant-loop-input
invariant-loop-input l = Going l.client
    l.out.items (map input_of (drop l.input-index l.inputs)) (Out (login_of l.fn.login) (map input_of l.inputs))
