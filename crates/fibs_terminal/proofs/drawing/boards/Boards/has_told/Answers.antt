use Rattle.std.proofs.Common.{◌∙◌, ap}
use Rattle.fibs_fields.specs.Board.{BoardFields}
use Rattle.fibs_terminal.proofs.TellingLemmas.{some_told}
use Rattle.fibs_terminal.proofs.drawing.boards.Boards.has_told.Goals as goal

pub returns-in-Some-Some : goal.returns-in-Some-Some
returns-in-Some-Some c =
    some_told c.tells.result c.args.self.now c.args.said.now c.bytes.result.now c.in-Some-Some.ending
    c.in-Some-Some.heard c.in-Some-Some.is-0 c.in-Some-Some.is-1
    (c.bytes.ensures.value ∙ c.opponent.ensures.value
    ∙ ap (λ (b : BoardFields). b.opponent) c.board.ensures.value)
    c.tells.ensures
