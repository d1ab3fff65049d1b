use Rattle.std.proofs.Common.{arith, rules, ◌≡◌, sum}
use Rattle.std.proofs.lemmas.Grind.{get_or_default_zero}
use Rattle.std.proofs.lemmas.List.Sums.{sum_by-le}
use Rattle.fibs_rules.proofs.arrangement.total.Goals as goal

pub returns-clause-small : goal.returns-clause-small
returns-clause-small c =
    let counts = c.args.counts.now in
    let small =
    sum_by-le (λ x. x) 255 counts
    (λ k d within. let e = get_or_default_zero counts k d within in let f = c.type_inv.counts k in omega arith) in
    let is : c.sum.result ≡ sum counts = search rules in
    omega arith
