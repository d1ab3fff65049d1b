use Rattle.std.proofs.Common.{◌∙◌, ap, sym, length, nat_eq}
use Rattle.std.proofs.lemmas.List.{length-map}
use Rattle.fibs_rules.specs.Hop.{hop_of}
use Rattle.fibs_events.proofs.happened.is_empty.Goals as goal

pub returns : goal.returns
returns c =
    c.is_empty.ensures
    ∙ ap (λ n. nat_eq n 0) (sym (length-map c.steps.result.now hop_of) ∙ ap length c.steps.ensures.value)
