use Rattle.std.proofs.Common.{rules}
use Rattle.fibs_rules.proofs.PlayListLemmas.NotedMap.{kept_none}
use Rattle.fibs_rules.proofs.PlayListLemmas.BothOrders.{Free, kept_one, kept_both}
use Rattle.fibs_rules.proofs.turn.Turn.collected.Goals as goal
use Rattle.fibs_rules.proofs.turn.Turn.collected.Goals.{then-are_two+in_ok-visit_order-2, else-are_two}

pub returns-clause-kept : goal.returns-clause-kept
returns-clause-kept c =
    let p = c.args.self.now in
    let a = c.self.inside.first in
    let b = c.self.inside.second in
    let free : Free p = search rules in
    let none = kept_none c.in_ok-kept.kept c.in_ok-kept.ensures.empty in
    elim c.if-are_two.branch [
      | then-are_two+in_ok-visit_order-2 w ↦
          rw w.kept-is
          (kept_both p a b _ _ _ free (search rules) (search rules) (search rules) none c.in_ok-visit_order.ensures.ok
          w.in_ok-visit_order-2.ensures.ok)
      | else-are_two w ↦
          rw w.kept-is
          (kept_one p a b _ _ free (search rules) (search rules) (search rules) none c.in_ok-visit_order.ensures.ok)
    ]
