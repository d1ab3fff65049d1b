use Rattle.std.proofs.Common.{◌≡◌, ◌∙◌, List, map, subst, ap, true}
use denote.Enum.Bare.{sameb}
use Rattle.std.specs.List.{All}
use Rattle.fibs_fields.specs.StoredBoard.{fields_of}
use Rattle.fibs_position.specs.GameOf.{game_of}
use Rattle.fibs_position.specs.Phases.{InPhase}
use Rattle.fibs_position.specs.PlaysOf.{PlaysIn}
use Rattle.fibs_position.specs.PositionValue.{PositionValue, position_of}
use Rattle.fibs_position.specs.contracts.phase.Phase.{the_type}
use Rattle.fibs_position.specs.declared.phase.Phase.{Phase}
use Rattle.fibs_position.specs.declared.phase.Phase.TheVariants.{Passing}
use Rattle.fibs_rules.specs.Hop.{Hop}
use Rattle.fibs_rules.specs.PlayValue.{hops_of}
use Rattle.fibs_rules.specs.declared.play.Play.{Play}
use Rattle.fibs_events.specs.Played.{IsPlayed, NoneIsPlayed}
use Rattle.fibs_events.proofs.FindingLemmas.{of_each_greatest, if_none_then}
use Rattle.fibs_events.proofs.finding.played.Goals as goal

pub returns-clause-none : goal.returns-clause-none
returns-clause-none c =
    let before = game_of c.args.before.now in
    let after = fields_of c.args.after.now in
    let plays = c.in_ok-plays.plays.items in
    let listed = subst (λ (p : PositionValue). PlaysIn p (map hops_of plays)) c.position.ensures
    c.in_ok-plays.ensures in
    if_none_then c.first_played.result
    (All (λ (play : Play). ¬ IsPlayed before (hops_of play) after) c.deref.result.now) (NoneIsPlayed before after)
    (λ all. (
      λ moving. of_each_greatest (position_of before) plays c.deref.result.now
          (λ (steps : List Hop). ¬ IsPlayed before steps after) listed
          (subst (λ (phase : Phase). InPhase (position_of before) phase) (c.phase.ensures.value ∙ moving)
          c.phase.ensures.first) c.deref.ensures.value all,
      λ passing played.
          let is : c.eq.result ≡ true =
          c.eq.ensures ∙ ap (λ (phase : Phase). sameb the_type phase Passing) (c.phase.ensures.value ∙ passing) in
          let is_not = c.if-eq.false in absurd cc,
    )) c.first_played.ensures.none
