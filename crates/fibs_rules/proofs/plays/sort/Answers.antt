use Rattle.std.proofs.Common.{rules}
use Rattle.std.specs.Ordering.{is_lt}
use Rattle.std.proofs.lemmas.List.Sorted.{answers_always, IsPermutation-trans}
use Rattle.fibs_rules.specs.PlayValue.{hops_of}
use Rattle.fibs_rules.specs.LegalPlays.{play_cmp}
use Rattle.fibs_rules.specs.declared.play.Play.{Play}
use Rattle.fibs_rules.proofs.PlayListLemmas.PlayOrder.{descending_order}
use Rattle.fibs_rules.proofs.plays.sort.Goals as goal

pub returns-clause-same : goal.returns-clause-same
returns-clause-same c =
    IsPermutation-trans _ _ _ c.reverse.ensures.permutation c.sort_unstable_by.ensures.permutation

pub returns-clause-sorted : goal.returns-clause-sorted
returns-clause-sorted c =
    c.sort_unstable_by.ensures.sorted (λ (a b : Play). is_lt (play_cmp (hops_of b) (hops_of a)))
    descending_order (answers_always _ _ _ (λ f a r g k. search rules))
