use Rattle.std.proofs.Common.{◌≤◌, length, arith}
use Rattle.fibs_replay.specs.Scripts.{script_limit}
use Rattle.fibs_replay.proofs.ScriptLemmas.Reads.{few_more}
use Rattle.fibs_replay.proofs.input.read_script.Goals as goal

pub returns-in_err-extend_from_slice-in-Ok-clause-few : goal.returns-in_err-extend_from_slice-in-Ok-clause-few
returns-in_err-extend_from_slice-in-Ok-clause-few g c =
    let own = c.loop-reader.script.ok.0 in
    let few : length c.loop-reader.script.items ≤ script_limit =
    omega (arith, own, c.len.ensures, c.loop-reader-test.true) in
    few_more script_limit (length c.args.portion.now) (g.R.Read.remaining c.args.reader.now)
    (g.R.Read.remaining c.loop-reader.reader)
    (g.R.Read.remaining c.read.new.self) c.loop-reader.script.items c.in-Ok.count c.read.new.buf
    c.loop-reader.invariant.0 few
    (omega (arith, c.loop-reader.invariant.1, c.read.auto.buf)) c.in-Ok.ensures.bytes.0
