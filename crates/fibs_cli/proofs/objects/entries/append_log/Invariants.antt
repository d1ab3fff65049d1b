use Rattle.fibs_cli.proofs.LogLemmas.{ShownTo}
use Rattle.fibs_cli.proofs.objects.entries.append_log.Given as goal

abbrev pub invariant-loop-entry : goal.invariant-loop-entry
invariant-loop-entry l = ShownTo l.log l.entry-index l.initial.text.items l.text.items
