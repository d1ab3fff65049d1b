-- What holds of any game that keeps its laws.
use Rattle.fibs_game.specs.Acts.{acts_after}
use Rattle.fibs_game.specs.Game.{Game}
use Rattle.fibs_game.specs.Lawful.{Lawful}
use Rattle.fibs_game.specs.Laws.{HeadlineHolds, NothingServedIsStale, JointStatement, AgreesHolds, OnlyLoginHolds, CanRestHolds, ThisWayLeadsToRest}
use Rattle.fibs_game.specs.Runs.{MayBe, world_after}
use Rattle.fibs_game.proofs.Final.{headline_holds, never_stale}
use Rattle.fibs_game.proofs.joint.Stated.{joint_holds}
use Rattle.fibs_game.proofs.rest.Agreeing.{agrees_holds}
use Rattle.fibs_game.proofs.rest.Resting.{can_rest_holds, leads_to_rest}
use Rattle.fibs_game.proofs.rest.Saying.{only_login_holds}

module _ (G : Game) (law : Lawful G) where
  -- the headline
  pub headline : HeadlineHolds G
  unfolding MayBe world_after
  headline login b es quiet good = headline_holds G law login quiet b es good

  -- no accepted line is stale
  pub stale : NothingServedIsStale G
  unfolding MayBe world_after
  stale login b es quiet good = never_stale G law login quiet b es good

  -- the joint statement
  pub joint_statement : JointStatement G
  unfolding MayBe world_after acts_after
  joint_statement login b es quiet good = joint_holds G law login quiet b es good

  -- client and server agree
  pub agrees : AgreesHolds G
  unfolding MayBe world_after acts_after
  agrees login b es quiet good = agrees_holds G law login quiet b es good

  -- what the client sent at rest before a board is shown
  pub only_login : OnlyLoginHolds G
  unfolding MayBe world_after
  only_login login b es quiet good = only_login_holds G law login quiet b es good

  -- a world can come to rest
  pub can_rest : CanRestHolds G
  can_rest login b before quiet good = can_rest_holds G law login quiet b before good

  -- and what comes next leads it there
  pub way : ThisWayLeadsToRest G
  way login b before quiet good = leads_to_rest G law login quiet b before good
