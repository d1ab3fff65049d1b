use Rattle.std.proofs.Common.{◌+◌, ◌++◌, ◌∙◌, sym, ap, arith, Bool, List, ℕ}
use Rattle.fibs_position.specs.PositionValue.{position_value}
use Rattle.fibs_advice.specs.Changes.{blots, is_blot}
use Rattle.fibs_advice.specs.Hits.{kept_if}
use Rattle.fibs_advice.proofs.PlacesLemmas.{kept-more}
use Rattle.fibs_advice.proofs.changes.blots.Goals as goal

pub loop-nearer-init : goal.loop-nearer-init
unfolding blots
loop-nearer-init c = c.new-places.ensures.items

pub loop-nearer-preserved : goal.loop-nearer-preserved
unfolding blots
loop-nearer-preserved c =
    let n = c.loop-nearer.nearer in
    let p : ℕ → Bool = is_blot (position_value c.args.position.now).standing.checkers in
    c.in_ok-push_blot.ensures ∙ ap (λ (xs : List ℕ). xs ++ kept_if (p (n + 1)) (n + 1)) c.loop-nearer.invariant
    ∙ sym (kept-more p 1 n (n + 1) (omega arith))
