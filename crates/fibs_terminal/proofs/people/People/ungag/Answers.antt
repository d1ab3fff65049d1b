use Rattle.std.proofs.Common.{rules, inr}
use Rattle.std.proofs.lemmas.Fn.{filter_same}
use Rattle.fibs_terminal.proofs.people.People.ungag.Goals as goal

pub returns-then-len-before-clause-heard : goal.returns-then-len-before-clause-heard
returns-then-len-before-clause-heard c =
    inr (filter_same _ _ _ (λ x b f' k. search rules) _ _ c.retain.ensures.filtered)

pub returns-clause-heard : goal.returns-clause-heard
returns-clause-heard c = inr (filter_same _ _ _ (λ x b f' k. search rules) _ _ c.retain.ensures.filtered)
