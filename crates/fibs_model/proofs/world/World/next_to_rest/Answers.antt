use Rattle.std.proofs.Common.{sym, ap, ◌∙◌, slice_index}
use Rattle.fibs_model.specs.WorldOf.{WorldValue}
use Rattle.fibs_model.proofs.Likeness.Settling.{closed_next}
use Rattle.fibs_model.proofs.world.World.next_to_rest.Goals as goal

pub returns-then-self-eq0 : goal.returns-then-self-eq0
returns-then-self-eq0 c = λ login w stands.
    sym (closed_next (slice_index c.args.dice 0) (slice_index c.args.dice 1) c.args.self.now login w stands
    (sym (ap (λ (v : WorldValue). v.current) c.self.view_is) ∙ c.if-self-eq0.true))
