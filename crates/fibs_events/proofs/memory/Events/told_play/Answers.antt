use Rattle.std.proofs.Common.{◌≡◌, ◌∙◌, ap, option_map, sym, true}
use denote.Enum.Bare.{sameb}
use Rattle.fibs_position.specs.GameOf.{game_of}
use Rattle.fibs_events.specs.contracts.told.Deed.{the_type}
use Rattle.fibs_events.specs.declared.told.Deed.{Deed}
use Rattle.fibs_events.specs.declared.told.Deed.TheVariants.{CannotMove}
use Rattle.fibs_events.proofs.AnswerLemmas.{if_none}
use Rattle.fibs_events.proofs.FindingLemmas.{something_is_it}
use Rattle.fibs_events.proofs.PlayTextLemmas.{no_play_of}
use Rattle.fibs_events.proofs.memory.Events.told_play.Goals as goal

pub returns-in_err-play_in-clause-none : goal.returns-in_err-play_in-clause-none
returns-in_err-play_in-clause-none c =
    if_none c.from_residual-in_err-play_in.result _ c.from_residual-in_err-play_in.ensures (λ who side. (
      λ same.
          let is : c.eq.result ≡ true =
          c.eq.ensures ∙ ap (λ (deed : Deed). sameb the_type deed CannotMove) same in
          let is_not = c.if-eq.false in absurd cc,
      no_play_of (option_map game_of c.args.self.now.known) (game_of c.in_ok-game.game) c.in_ok-who.who who
          c.direction_of.result c.args.report.now.rest.now (ap (option_map game_of) c.in_ok-game.was)
          (something_is_it (sym c.in_ok-who.ensures) side) c.direction_of.ensures c.in_err-play_in.ensures,
    ))
