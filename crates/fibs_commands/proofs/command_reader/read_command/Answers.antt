use Rattle.std.proofs.Common.{sym, ◌∙◌}
use Rattle.fibs_commands.proofs.command_reader.read_command.Goals as goal

pub returns-clause-exact : goal.returns-clause-exact
returns-clause-exact c = λ d. (
  λ h. (c.read_command_is_exact.ensures c.args.direction c.args.text.now d).0 (sym c.read_words.ensures ∙ h),
  λ h. c.read_words.ensures ∙ (c.read_command_is_exact.ensures c.args.direction c.args.text.now d).1 h,
)
