use Rattle.std.proofs.Common.{ap, sym, ◌∙◌}
use Rattle.fibs_fields.specs.Split.{before, seen}
use Rattle.fibs_commands.specs.PlainReading.{plain_in, read_plain}
use Rattle.fibs_commands.proofs.plain_reader.read_plain.Goals as goal

pub returns-clause-value : goal.returns-clause-value
unfolding read_plain
returns-clause-value c =
    c.read_fields.ensures ∙ ap (λ w. plain_in w (seen c.split.result.1)) c.split.ensures.before
    ∙ ap (plain_in (before 32 c.args.text.now)) c.split.ensures.after

pub returns-clause-exact : goal.returns-clause-exact
unfolding read_plain
returns-clause-exact c =
    let is =
    c.read_fields.ensures ∙ ap (λ w. plain_in w (seen c.split.result.1)) c.split.ensures.before
    ∙ ap (plain_in (before 32 c.args.text.now)) c.split.ensures.after in
    λ plain. (
      λ h. (c.read_plain_is_exact.ensures c.args.text.now plain).0 (sym is ∙ h),
      λ h. is ∙ (c.read_plain_is_exact.ensures c.args.text.now plain).1 h,
    )
