use Rattle.std.proofs.Common.{take_all, subst, arith}
use Rattle.std.specs.List.{All}
use Rattle.std.proofs.lemmas.List.Elements.{All-more}
use Rattle.fibs_fields.specs.StoredBoard.{fields_of}
use Rattle.fibs_position.specs.GameOf.{game_of}
use Rattle.fibs_rules.specs.PlayValue.{hops_of}
use Rattle.fibs_rules.specs.declared.play.Play.{Play}
use Rattle.fibs_c.specs.TurnDoor.{LeadsTo}
use Rattle.fibs_c.proofs.turn.leading.Goals as goal

pub loop-play-preserved : goal.loop-play-preserved
loop-play-preserved c =
    let before = game_of c.args.game.now in
    let after = fields_of c.args.after.now in
    All-more (λ (play : Play). ¬ LeadsTo before (hops_of play) after) c.args.plays.now c.loop-play.play-index
    c.play-item.result c.loop-play-test.true c.loop-play.invariant
    (subst (λ (play : Play). ¬ LeadsTo before (hops_of play) after) c.play-item.is
    (λ leads. let is = c.leads_to.ensures.1 leads in let is_not = c.if-leads_to.false in absurd cc))

pub returns-clause-none : goal.returns-clause-none
returns-clause-none c =
    let before = game_of c.args.game.now in
    let after = fields_of c.args.after.now in
    subst (λ plays. All (λ (play : Play). ¬ LeadsTo before (hops_of play) after) plays)
    (take_all c.loop-play.play-index c.args.plays.now (omega (arith, c.loop-play-test.false)))
    c.loop-play.invariant
