use Rattle.std.proofs.Common.{None, Ok, ap, refl, sym, ◌∙◌, append-nil}
use Rattle.fibs_fields.specs.Board.{field_of}
use Rattle.fibs_fields.specs.FieldReading.{natural}
use Rattle.fibs_position.specs.DirectionOf.{direction_of}
use Rattle.fibs_position.specs.GameOf.{game_of}
use Rattle.fibs_position.specs.NumbersOf.{counted}
use Rattle.fibs_position.specs.PositionValue.{PositionValue}
use Rattle.fibs_rules.specs.PlayValue.{hops_of}
use Rattle.fibs_advice.proofs.BrokenRuleLemmas.{says_named}
use Rattle.fibs_advice.proofs.rules.append_rule.Goals as goal

pub returns-in-Some : goal.returns-in-Some
returns-in-Some c =
    says_named c.append_broken.result c.args.numbers (game_of c.args.game.now) (hops_of c.args.play.now)
    c.args.text.now.items c.append_broken.new.text.items _ _ _ c.way.result _
    (ap (λ (p : PositionValue). p.standing) c.position.ensures)
    (c.die.ensures.value ∙ ap (λ b. natural (field_of b 34)) c.board-board.ensures.value)
    (c.die-2.ensures.value ∙ ap (λ b. natural (field_of b 35)) c.board-board.ensures.value)
    (c.way.ensures ∙ ap (counted c.args.numbers) c.direction.ensures) c.in-Some.ensures
    c.append_broken.ensures

pub returns-in-None : goal.returns-in-None
returns-in-None c =
    let b = game_of c.args.game.now in
    says_named {E = Unit {0}} (Ok tt) c.args.numbers b (hops_of c.args.play.now) c.args.text.now.items
    c.args.text.now.items _ _ _ (counted c.args.numbers (direction_of b)) None
    (ap (λ (p : PositionValue). p.standing) c.position.ensures)
    (c.die.ensures.value ∙ ap (λ b. natural (field_of b 34)) c.board-board.ensures.value)
    (c.die-2.ensures.value ∙ ap (λ b. natural (field_of b 35)) c.board-board.ensures.value)
    refl c.in-None.ensures (sym (append-nil c.args.text.now.items))
