use Rattle.std.proofs.Common.{◌++◌, ap, subst, map}
use Rattle.fibs_session.specs.History.Machine.{start, run, wire_of, Out}
use Rattle.fibs_commands.specs.LoginOf.{login_of}
use Rattle.fibs_session.specs.Calls.InputOf.{input_of}
use Rattle.fibs_session.proofs.Calls.Runs.{Going, goes_on, ends, next, none_left}
use Rattle.fibs_session.proofs.client.run.run_client.Goals as goal

pub loop-input-init : goal.loop-input-init
loop-input-init c =
    let first = start (login_of c.args.login) in
    record {
      talk = first;
      stands = c.new-client.ensures;
      whole = ap (λ bytes. bytes ++ wire_of (run first (map input_of c.args.inputs.now)).send) c.new-out.ensures.items;
    }

pub loop-input-preserved : goal.loop-input-preserved
loop-input-preserved c =
    let xs = c.args.inputs.now in
    let i = c.loop-input.input-index in
    let all = Out (login_of c.args.login) (map input_of xs) in
    goes_on _ _ _ _ (input_of c.input-item.result) _ all
    (subst (λ later. Going c.loop-input.client c.loop-input.out.items later all)
    (next input_of xs i c.input-item.result c.input-item.is c.loop-input-test.true) c.loop-input.invariant)
    c.in_ok-take_input.ensures

pub returns : goal.returns
returns c =
    let xs = c.args.inputs.now in
    let all = Out (login_of c.args.login) (map input_of xs) in
    ends _ _ all (subst (λ later. Going c.loop-input.client c.loop-input.out.items later all)
    (none_left input_of xs c.loop-input.input-index c.loop-input-test.false) c.loop-input.invariant)
