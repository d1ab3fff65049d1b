use Rattle.std.proofs.Common.{◌++◌, ◌∙◌, sym, ap, arith, Bool, List, ℕ}
use Rattle.fibs_position.specs.PositionValue.{position_value}
use Rattle.fibs_advice.specs.Changes.{changed, is_changed}
use Rattle.fibs_advice.specs.Hits.{kept_if}
use Rattle.fibs_advice.proofs.PlacesLemmas.{kept-more}
use Rattle.fibs_advice.proofs.changes.changed_places.Goals as goal

pub loop-far-init : goal.loop-far-init
unfolding changed
loop-far-init c = c.new-places.ensures.items

pub loop-far-preserved : goal.loop-far-preserved
unfolding changed
loop-far-preserved c =
    let n = c.loop-far.far in
    let p : ℕ → Bool = is_changed (position_value c.args.before.now).standing.checkers
    (position_value c.args.after.now).standing.checkers in
    c.in_ok-push_changed.ensures ∙ ap (λ (xs : List ℕ). xs ++ kept_if (p n) n) c.loop-far.invariant
    ∙ sym (kept-more p 0 n n (omega arith))
