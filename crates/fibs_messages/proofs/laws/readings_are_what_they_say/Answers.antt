use Rattle.std.proofs.lemmas.Bool.Decides.{Decides-at}
use Rattle.fibs_messages.specs.contracts.line.ReadingPartialEq.TheImpl.{eq-value}
use Rattle.fibs_messages.proofs.LineLemmas.ReadingEquality.{readings_decide}
use Rattle.fibs_messages.proofs.laws.readings_are_what_they_say.Goals as goal

pub returns : goal.returns
returns c =
    let a = c.args.a.now in
    let b = c.args.b.now in
    Decides-at c.eq.result (eq-value.it a b) c.eq.ensures (readings_decide a b)
