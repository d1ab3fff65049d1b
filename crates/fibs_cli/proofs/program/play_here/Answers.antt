use Rattle.fibs_cli.proofs.ProgramLemmas.{played_script, not_begun}
use Rattle.fibs_cli.proofs.program.play_here.Goals as goal

pub returns-in-Ok : goal.returns-in-Ok
returns-in-Ok g c =
    let told = c.play_loop.ensures in
    let input = g.R.Read.remaining in
    let out = g.W.Write.contents in
    played_script c.play_loop.result (input c.args.input.now) (input c.play_loop.new.reader)
    (out c.args.out.now) (out c.play_loop.new.writer) told.done told.device told.memory

pub returns-in-Err : goal.returns-in-Err
returns-in-Err g c = not_begun (g.R.Read.remaining c.args.input.now) (g.W.Write.contents c.args.out.now)
