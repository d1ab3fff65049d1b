use Rattle.std.proofs.Common.{◌+◌, ◌++◌, ◌∙◌, sym, ap, arith, Bool, List, ℕ}
use Rattle.fibs_position.specs.PositionValue.{position_value}
use Rattle.fibs_rules.specs.PlayValue.{hops_of}
use Rattle.fibs_advice.specs.Hits.{hit_on, is_hit, kept_if}
use Rattle.fibs_advice.proofs.PlacesLemmas.{kept-more}
use Rattle.fibs_advice.proofs.hits.hit_places.Goals as goal

pub loop-nearer-init : goal.loop-nearer-init
unfolding hit_on
loop-nearer-init c = c.new-places.ensures.items

pub loop-nearer-preserved : goal.loop-nearer-preserved
unfolding hit_on
loop-nearer-preserved c =
    let n = c.loop-nearer.nearer in
    let p : ℕ → Bool =
    is_hit c.args.roller (position_value c.args.before.now).standing.checkers (hops_of c.args.play.now) in
    c.in_ok-push_hit.ensures ∙ ap (λ (xs : List ℕ). xs ++ kept_if (p (n + 1)) (n + 1)) c.loop-nearer.invariant
    ∙ sym (kept-more p 1 n (n + 1) (omega arith))
