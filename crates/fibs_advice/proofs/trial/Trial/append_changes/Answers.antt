use Rattle.std.proofs.Common.{◌∙◌, ap}
use Rattle.fibs_fields.specs.Board.{BoardFields}
use Rattle.fibs_position.specs.GameOf.{game_of}
use Rattle.fibs_position.specs.NumbersOf.{counted}
use Rattle.fibs_advice.proofs.TrialLemmas.{changes_told}
use Rattle.fibs_advice.proofs.trial.Trial.append_changes.Goals as goal

pub returns : goal.returns
returns c =
    changes_told c.append_changes.result c.args.self.now c.args.numbers c.way-way.result c.bytes-name.result.now _ _
    (game_of c.after-led.result.now) c.args.text.now.items c.append_changes.new.text.items c.append_changes.ensures
    (c.way-way.ensures ∙ ap (counted c.args.numbers) c.direction.ensures)
    (c.bytes-name.ensures.value ∙ c.opponent.ensures.value
    ∙ ap (λ (b : BoardFields). b.opponent) c.board.ensures.value)
    c.position-before.ensures c.position-after.ensures c.after-led.ensures
