use Rattle.std.proofs.Common.{subst}
use Rattle.fibs_replay.specs.Scripts.{script_lines, FirstUnreadable}
use Rattle.fibs_replay.proofs.ScriptLemmas.Reads.{unread_long, unread_at}
use Rattle.fibs_replay.proofs.input.read_lines.Goals as goal

pub returns-in-None-clause-ok : goal.returns-in-None-clause-ok
returns-in-None-clause-ok g c =
    unread_long (g.R.Read.remaining c.args.reader.now) (g.R.Read.remaining c.read_script.new.reader)
    (rw c.in-None.is at c.in_ok-read_script.ensures.whole)

pub returns-in-Some-first_unreadable-clause-ok : goal.returns-in-Some-first_unreadable-clause-ok
returns-in-Some-first_unreadable-clause-ok g c =
    let number = c.in-Some-first_unreadable.number in
    unread_at c.in-Some.script.items number (g.R.Read.remaining c.args.reader.now)
    (g.R.Read.remaining c.read_script.new.reader) (rw c.in-Some.is at c.in_ok-read_script.ensures.whole)
    (subst (λ s. FirstUnreadable (script_lines s) number) c.as_slice.ensures.value c.in-Some-first_unreadable.ensures)
