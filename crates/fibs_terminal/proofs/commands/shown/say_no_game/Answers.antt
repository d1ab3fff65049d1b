use Rattle.std.proofs.Common.{ap, refl, sym, ◌∙◌}
use Rattle.fibs_position.specs.DecisionValue.{roll}
use Rattle.fibs_session.specs.History.Machine.{answer_now}
use Rattle.fibs_terminal.specs.Again.{lacks_connection}
use Rattle.fibs_terminal.specs.Reasons.{no_game_words}
use Rattle.fibs_terminal.proofs.FittingLemmas.{said_then}
use Rattle.fibs_terminal.proofs.commands.shown.say_no_game.Goals as goal

pub returns-then-is_offline : goal.returns-then-is_offline
returns-then-is_offline c =
    said_then c.say_rows.result c.args.client.now _ _ _ _ (λ t. no_game_words (lacks_connection (answer_now t roll)))
    (λ t stands. c.refusal_words.ensures.offline refl
    ∙ ap no_game_words (sym c.if-is_offline.true ∙ c.is_offline.ensures t stands)) c.say_rows.ensures.said

pub returns : goal.returns
returns c =
    said_then c.say_rows-2.result c.args.client.now _ _ _ _ (λ t. no_game_words (lacks_connection (answer_now t roll)))
    (λ t stands. c.refusal_words-2.ensures.no_board refl
    ∙ ap no_game_words (sym c.if-is_offline.false ∙ c.is_offline.ensures t stands)) c.say_rows-2.ensures.said
