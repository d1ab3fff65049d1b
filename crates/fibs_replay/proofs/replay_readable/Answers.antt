use Rattle.std.proofs.Common.{◌∙◌, [], ap, sym, subst, codes, map}
use Rattle.fibs_fields.specs.StoredBoard.{fields_of}
use Rattle.fibs_commands.specs.LoginOf.{name_of}
use Rattle.fibs_model.specs.EntryOf.{entry_of}
use Rattle.fibs_model.specs.WorldCalls.{WorldStandsAfter}
use Rattle.fibs_replay.specs.Output.{bad_board, refused_text}
use Rattle.fibs_replay.specs.Scripts.{script_lines}
use Rattle.fibs_replay.proofs.ReplayLemmas.Carrying.{run_carried, none_carried}
use Rattle.fibs_replay.proofs.ReplayLemmas.Runs.{first_read, bad_first, good_first, printed_for, printed_run}
use Rattle.fibs_replay.proofs.replay_readable.Goals as goal

pub returns-in-Err-clause-printed : goal.returns-in-Err-clause-printed
returns-in-Err-clause-printed g c =
    let script = c.args.script.now in
    let first = fields_of c.in-Some.board in
    let taken = c.in-Some.ensures.some in
    let read = first_read (script_lines script) c.first_board.new.lines taken.0 c.requires.readable.0 first
    c.requires.readable.1
    (sym c.script_lines-lines.ensures.value ∙ taken.1) c.requires.readable.2 taken.2 in
    let bad = bad_first c.good_is_exact.ensures first c.in-Err.why c.in-Err.ensures.refusal in
    printed_for g.C.Carrier.may_break c.print_unrun.result script c.refused_line.result.items _ 3
    (g.W.Write.contents c.args.writer.now) (g.W.Write.contents c.print_unrun.new.writer)
    (bad_board first c.requires.readable.1 c.requires.short read.says bad.0)
    (c.refused_line.ensures ∙ ap (refused_text 0) bad.1) c.print_unrun.ensures

pub returns-in-Ok-clause-printed : goal.returns-in-Ok-clause-printed
returns-in-Ok-clause-printed g c =
    let script = c.args.script.now in
    let first = fields_of c.in-Some.board in
    let events = c.requires.readable.1 in
    let taken = c.in-Some.ensures.some in
    let read = first_read (script_lines script) c.first_board.new.lines taken.0 c.requires.readable.0 first events
    (sym c.script_lines-lines.ensures.value ∙ taken.1) c.requires.readable.2 taken.2 in
    let login = c.script_login.result in
    let begins =
    subst (λ n. WorldStandsAfter c.in-Ok.world n (codes "secret") first []) c.script_login.ensures.name
    (subst (λ p. WorldStandsAfter c.in-Ok.world (name_of login) p first []) c.script_login.ensures.password
    c.in-Ok.ensures.stands) in
    printed_run g.C.Carrier.may_break script first events c.run_lines-end.new.world (map entry_of c.log.result.now)
    c.run_lines-end.result.done c.run_lines-end.result.stop
    (g.W.Write.contents c.args.writer.now) (g.W.Write.contents c.print_run.new.writer) c.print_run.result
    (record {
      short = c.requires.short;
      says = read.says;
      is_good = good_first c.good_is_exact.ensures first c.in-Ok.ensures.refusal;
    })
    (c.run_lines-end.ensures.ran first events begins read.others) c.run_lines-end.ensures.unbroken
    (λ es h. c.log.ensures.log (codes "ann") (codes "secret") first es h) c.print_run.ensures

pub returns-in-Err-clause-carries : goal.returns-in-Err-clause-carries
returns-in-Err-clause-carries g c = λ fine.
    none_carried g.C.Carrier.carries g.met.C.Carrier.joins c.crossings_join.ensures c.args.carrier.now
    c.args.script.now c.requires.readable.0 c.requires.readable.1 3 c.in-Err.why c.refused_line.result.items
    (g.W.Write.contents c.args.writer.now) (g.W.Write.contents c.print_unrun.new.writer) c.print_unrun.result
    c.print_unrun.ensures c.refused_line.ensures c.requires.readable.2 fine

pub returns-in-Ok-clause-carries : goal.returns-in-Ok-clause-carries
returns-in-Ok-clause-carries g c = λ fine.
    let script = c.args.script.now in
    let first = fields_of c.in-Some.board in
    let events = c.requires.readable.1 in
    let taken = c.in-Some.ensures.some in
    let read = first_read (script_lines script) c.first_board.new.lines taken.0 c.requires.readable.0 first events
    (sym c.script_lines-lines.ensures.value ∙ taken.1) c.requires.readable.2 taken.2 in
    let login = c.script_login.result in
    let begins =
    subst (λ n. WorldStandsAfter c.in-Ok.world n (codes "secret") first []) c.script_login.ensures.name
    (subst (λ p. WorldStandsAfter c.in-Ok.world (name_of login) p first []) c.script_login.ensures.password
    c.in-Ok.ensures.stands) in
    run_carried g.C.Carrier.carries c.args.carrier.now c.run_lines-end.new.carrier script first events
    c.run_lines-end.new.world c.run_lines-end.result.done c.run_lines-end.result.stop
    (map entry_of c.log.result.now)
    (g.W.Write.contents c.args.writer.now) (g.W.Write.contents c.print_run.new.writer) c.print_run.result
    read.says (c.run_lines-end.ensures.ran first events begins read.others)
    (λ es h. c.log.ensures.log (codes "ann") (codes "secret") first es h) c.print_run.ensures
    (c.run_lines-end.ensures.carries first events begins read.others) fine
