use Rattle.std.proofs.Common.{inr, refl}
use Rattle.fibs_terminal.proofs.people.People.hide.Goals as goal

pub returns-in_ok-push-clause-hidden : goal.returns-in_ok-push-clause-hidden
returns-in_ok-push-clause-hidden c so = inr (
  c.if-not-is_gagged.ensures.heard refl,
  record {
    kept = c.in_ok-from_slice.field-0;
    same = c.in_ok-from_slice.ensures.items;
    last = c.in_ok-push.ensures.items;
  },
)
