use Rattle.fibs_commands.proofs.PrintedLemmas.{printed_is_text, utf8_is_read}
use Rattle.fibs_commands.proofs.text.printed.Goals as goal

pub unwrap-requires : goal.unwrap-requires
unwrap-requires c =
    utf8_is_read _ _ c.args.bytes.now c.from_utf8.result (printed_is_text c.args.bytes.now c.requires)
    c.from_utf8.ensures.cases
