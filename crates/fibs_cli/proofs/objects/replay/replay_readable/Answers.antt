use Rattle.std.proofs.Common.{◌∙◌, [], ap, sym, subst, codes, map}
use Rattle.fibs_fields.specs.StoredBoard.{fields_of}
use Rattle.fibs_commands.specs.LoginOf.{name_of}
use Rattle.fibs_model.specs.EntryOf.{entry_of}
use Rattle.fibs_model.specs.WorldCalls.{WorldStandsAfter}
use Rattle.fibs_replay.specs.Output.{ReplayText, bad_board, refused_text}
use Rattle.fibs_replay.specs.Scripts.{script_lines}
use Rattle.fibs_replay.proofs.ReplayLemmas.Runs.{first_read, bad_first, good_first}
use Rattle.fibs_cli.specs.declared.objects.endings.Last.TheVariants as L
use Rattle.fibs_cli.proofs.ReplayLemmas.{printed_objects, run_for}
use Rattle.fibs_cli.proofs.objects.replay.replay_readable.Goals as goal

pub returns-in-Err : goal.returns-in-Err
returns-in-Err g c =
    let script = c.args.script.now in
    let first = fields_of c.in-Some.board in
    let taken = c.in-Some.ensures.some in
    let read = first_read (script_lines script) c.first_board.new.lines taken.0 c.requires.readable.0 first
    c.requires.readable.1
    (sym c.script_lines-lines.ensures.value ∙ taken.1) c.requires.readable.2 taken.2 in
    let bad = bad_first c.good_is_exact.ensures first c.in-Err.why c.in-Err.ensures.refusal in
    printed_objects script 3 [] (L.Refused 0 c.in-Err.why) c.print_log.result
    (g.W.Write.contents c.args.writer.now) (g.W.Write.contents c.print_log.new.writer)
    (subst (λ t. ReplayText script t 3) (sym (ap (refused_text 0) bad.1))
    (bad_board first c.requires.readable.1 c.requires.short read.says bad.0))
    c.print_log.ensures

pub returns-in-Ok : goal.returns-in-Ok
returns-in-Ok g c =
    let script = c.args.script.now in
    let first = fields_of c.in-Some.board in
    let events = c.requires.readable.1 in
    let taken = c.in-Some.ensures.some in
    let read = first_read (script_lines script) c.first_board.new.lines taken.0 c.requires.readable.0 first events
    (sym c.script_lines-lines.ensures.value ∙ taken.1) c.requires.readable.2 taken.2 in
    let login = c.script_login.result in
    let begins =
    subst (λ n. WorldStandsAfter c.in-Ok.world n (codes "secret") first []) c.script_login.ensures.name
    (subst (λ p. WorldStandsAfter c.in-Ok.world (name_of login) p first []) c.script_login.ensures.password
    c.in-Ok.ensures.stands) in
    run_for script first events c.run_lines-end.new.world (map entry_of c.log.result.now)
    c.run_lines-end.result.done
    (record {
      short = c.requires.short;
      says = read.says;
      is_good = good_first c.good_is_exact.ensures first c.in-Ok.ensures.refusal;
    })
    (λ es h. c.log.ensures.log (codes "ann") (codes "secret") first es h)
    (g.W.Write.contents c.args.writer.now) (g.W.Write.contents c.print_run.new.writer) c.print_run.result
    c.run_lines-end.result.stop (c.run_lines-end.ensures.ran first events begins read.others) c.print_run.ensures
