use Rattle.std.proofs.Common.{refl}
use Rattle.fibs_messages.proofs.laws.flags_are_the_fields.Goals as goal

pub returns : goal.returns
returns c = λ info. record { autoboard_is = refl; automove_is = refl; greedy_is = refl; moreboards_is = refl }
