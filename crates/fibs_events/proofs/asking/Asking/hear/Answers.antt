-- What has come says what is told.
use Rattle.std.proofs.Common.{refl}
use Rattle.fibs_events.proofs.AskingLemmas.{hears_more}
use Rattle.fibs_events.proofs.asking.Asking.hear.Goals as goal

pub returns : goal.returns
returns c =
    hears_more c.args.self.now _ c.args.bytes.now _ c.was_told-was_told.result c.is_again-is_again.result
    c.was_told-was_told.ensures c.hear.ensures c.is_again-is_again.ensures c.refusal.ensures refl
