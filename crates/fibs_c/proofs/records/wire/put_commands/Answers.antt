-- What follows the commands is as it was before the first.
use Rattle.std.proofs.Common.{rules, arith}
use Rattle.std.proofs.lemmas.Grind.{common_steps}
use Rattle.fibs_c.proofs.WireLemmas.{rest_joined}
use Rattle.fibs_c.proofs.records.wire.put_commands.Goals as goal

pub loop-command-preserved : goal.loop-command-preserved
loop-command-preserved c = (
  grind (arith, common_steps),
  grind (arith, common_steps),
  search rules,
  rest_joined c.args.wire.now c.loop-command.wire c.append_command.new.wire (search rules) c.loop-command.invariant.3
      c.append_command.ensures.rest,
)
