use Rattle.std.proofs.Common.{◌∙◌, ◌≤◌, arith, refl}
use Rattle.fibs_events.proofs.AnswerLemmas.{fits_narrow}
use Rattle.fibs_events.proofs.details.number.Goals as goal

pub returns : goal.returns
returns c =
    let number = c.in_ok-number.number in
    let few : number ≤ 99999999 = ((c.in_ok-number.ensures.exact number).0 refl).1 in
    c.ok.ensures.value
    ∙ fits_narrow c.try_from.result _ _ number c.try_from.ensures (omega (arith, few)) refl
    ∙ c.in_ok-number.ensures.value
