use Rattle.std.proofs.Common.{◌≡◌, ◌++◌, ◌∷◌, [], subst, ◌∙◌}
use Rattle.std.proofs.KnownBytes.{Keeps-refl}
use Rattle.std.proofs.lemmas.Result.{IfOk-weaker}
use Rattle.fibs_position.specs.PositionValue.{position_of, position_value}
use Rattle.fibs_show.specs.Plays.{PositionText}
use Rattle.fibs_show.proofs.PlaysLemmas.{device_alone}
use Rattle.fibs_show.proofs.plays.plays.Goals as goal

pub returns-in-Ok-clause-good : goal.returns-in-Ok-clause-good
returns-in-Ok-clause-good g c = λ b is good.
    let same : position_value c.in-Ok.position ≡ position_of b = c.in-Ok.ensures.good b is in
    IfOk-weaker c.print_plays.result _ _ (λ status done. (
      done.0,
      (done.1.0, subst (λ p. PositionText p done.1.0) same done.1.1, done.1.2),
    )) c.print_plays.ensures.ok

pub returns-in-Ok-clause-good_device : goal.returns-in-Ok-clause-good_device
returns-in-Ok-clause-good_device g c = λ b is good failed.
    let same : position_value c.in-Ok.position ≡ position_of b = c.in-Ok.ensures.good b is in
    let done = c.print_plays.ensures.device failed in
    (done.0, subst (λ p. PositionText p done.0) same done.1, done.2)

pub returns-in-Ok-clause-good_silent : goal.returns-in-Ok-clause-good_silent
returns-in-Ok-clause-good_silent g c = λ b is good. Keeps-refl (g.E.Write.contents c.args.err.now)

pub returns-in-Ok-clause-memory : goal.returns-in-Ok-clause-memory
returns-in-Ok-clause-memory g c = λ failed.
    (c.print_plays.ensures.memory failed, Keeps-refl (g.E.Write.contents c.args.err.now))

pub returns-in-Ok-clause-refused : goal.returns-in-Ok-clause-refused
returns-in-Ok-clause-refused g c = λ reading why is refusal.
    absurd (c.in-Ok.ensures.kept reading why is refusal)

pub returns-in-Ok-clause-refused_silent : goal.returns-in-Ok-clause-refused_silent
returns-in-Ok-clause-refused_silent g c = λ reading why is refusal.
    absurd (c.in-Ok.ensures.kept reading why is refusal)

pub returns-in-Err-clause-good : goal.returns-in-Err-clause-good
returns-in-Err-clause-good g c = λ b is good. absurd (c.in-Err.ensures.bad b is good)

pub returns-in-Err-clause-good_device : goal.returns-in-Err-clause-good_device
returns-in-Err-clause-good_device g c = λ b is good failed. absurd (c.in-Err.ensures.bad b is good)

pub returns-in-Err-clause-good_silent : goal.returns-in-Err-clause-good_silent
returns-in-Err-clause-good_silent g c = λ b is good. absurd (c.in-Err.ensures.bad b is good)

pub returns-in-Err-clause-refused : goal.returns-in-Err-clause-refused
returns-in-Err-clause-refused g c = λ reading why is refusal.
    let text : c.as_slice.result.now ≡ why ++ 10 ∷ [] = c.as_slice.ensures.value
    ∙ c.in-Err.ensures.refused reading why is refusal in
    rw (← text) c.print_refusal.ensures

pub returns-in-Err-clause-refused_silent : goal.returns-in-Err-clause-refused_silent
returns-in-Err-clause-refused_silent g c = λ reading why is refusal. Keeps-refl (g.W.Write.contents c.args.out.now)

pub returns-in-Err-clause-memory : goal.returns-in-Err-clause-memory
returns-in-Err-clause-memory g c = λ failed. absurd
    (device_alone c.print_refusal.result _ _ c.print_refusal.ensures failed)
