use Rattle.std.proofs.Common.{rules, ◌≡◌, Some, None, sym, ap, ◌∙◌}
use Rattle.std.specs.Prelude.{option_map}
use Rattle.std.specs.HashMap.{get}
use Rattle.fibs_rules.specs.PlayValue.{hops_of}
use Rattle.fibs_rules.specs.ReachedValue.{reached_eq}
use Rattle.fibs_rules.specs.Search.{greater}
use Rattle.fibs_rules.proofs.PlayListLemmas.NotedMap.{written}
use Rattle.fibs_rules.proofs.plays.note.Goals as goal

pub returns-in-Occupied : goal.returns-in-Occupied
returns-in-Occupied c =
    let was : get reached_eq c.args.kept.now (record { at = c.args.leads.now }) ≡ Some c.into_mut-best.result.now =
    cc (c.in_ok-spot.ensures.value, c.in-Occupied.is, c.into_mut-best.ensures.value) in
    record {
      ok = written c.args.kept.now _ c.args.leads.now c.greater.result c.args.found
          (c.greater.ensures ∙ ap (λ o. greater (option_map hops_of o) (hops_of c.args.found)) (sym was))
          (λ q. search (rules, (c.in_ok-spot.ensures.update.0 c.greater.result).0 (record { at = q })));
    }

pub returns-in-Vacant : goal.returns-in-Vacant
returns-in-Vacant c =
    let was : get reached_eq c.args.kept.now (record { at = c.args.leads.now }) ≡ None =
    rw c.in-Vacant.is at c.in_ok-spot.ensures.found in
    record {
      ok = written c.args.kept.now _ c.args.leads.now c.insert-best.result.now c.args.found
          (ap hops_of c.insert-best.ensures.value
          ∙ ap (λ o. greater (option_map hops_of o) (hops_of c.args.found)) (sym was))
          (λ q. search (rules, (c.in_ok-spot.ensures.update.0 c.insert-best.result.now).0 (record { at = q })));
    }
