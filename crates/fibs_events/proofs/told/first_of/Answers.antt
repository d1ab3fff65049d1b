use Rattle.std.proofs.Common.{arith, subst, take_all}
use Rattle.std.proofs.lemmas.List.Elements.{All-more}
use Rattle.fibs_events.specs.Told.{HasNone, IsShaped, Shape}
use Rattle.fibs_events.proofs.ShapeLemmas.{has_first}
use Rattle.fibs_events.proofs.told.first_of.Goals as goal

pub loop-shape-preserved : goal.loop-shape-preserved
loop-shape-preserved c =
    All-more (λ (shape : Shape). ¬ IsShaped c.args.text.now shape) c.args.shapes.now c.loop-shape.shape-index _
    c.loop-shape-test.true c.loop-shape.invariant (λ shaped. c.in_default.ensures shaped.0 shaped.1)

pub returns-in-Some : goal.returns-in-Some
returns-in-Some c =
    has_first c.args.text.now c.args.shapes.now c.loop-shape.shape-index _ c.in-Some.rest.now c.loop-shape.invariant
    c.loop-shape-test.true c.in-Some.ensures

pub returns : goal.returns
returns c =
    subst (λ shapes. HasNone c.args.text.now shapes)
    (take_all c.loop-shape.shape-index c.args.shapes.now (omega (arith, c.loop-shape-test.false)))
    c.loop-shape.invariant
