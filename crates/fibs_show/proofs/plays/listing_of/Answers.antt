use Rattle.std.proofs.Common.{◌≡◌, ap, ◌∙◌, map}
use Rattle.std.proofs.lemmas.Result.{IfOk-weaker}
use Rattle.fibs_rules.specs.PlayValue.{hops_of}
use Rattle.fibs_position.specs.PositionValue.{position_value}
use Rattle.fibs_show.specs.Plays.{listing}
use Rattle.fibs_show.proofs.plays.listing_of.Goals as goal

pub returns : goal.returns
returns c =
    let plays = c.in_ok-plays.plays.items in
    let direction = (position_value c.args.position.now).direction in
    let same : listing c.phase.result c.direction.result
    (map hops_of c.as_slice.result.now) ≡ listing c.phase.result direction (map hops_of plays) =
    ap (λ d. listing c.phase.result d (map hops_of c.as_slice.result.now)) c.direction.ensures
    ∙ ap (λ l. listing c.phase.result direction (map hops_of l)) c.as_slice.ensures.value in
    IfOk-weaker c.listing.result _ _ (λ text is.
    (c.phase.result, map hops_of plays, c.phase.ensures.first, c.in_ok-plays.ensures, is ∙ same)) c.listing.ensures
