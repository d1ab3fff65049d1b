use Rattle.std.proofs.Common.{sym, ap, ◌∙◌}
use Rattle.std.proofs.lemmas.Bool.Decides.{same_from_decides}
use Rattle.fibs_position.specs.PositionValue.{position_value}
use Rattle.fibs_position.proofs.DecidingLemmas.PhaseTable.{SmallDice}
use Rattle.fibs_rules.specs.PlayValue.{hops_of}
use Rattle.fibs_position.specs.DecisionValue.{move, decision_of}
use Rattle.fibs_position.specs.Allowed.{is_legal}
use Rattle.fibs_position.proofs.DecidingLemmas.AllowedTable.{legal_decides}
use Rattle.fibs_position.proofs.position.Position.is_legal_move.Goals as goal

pub returns-in-Move : goal.returns-in-Move
unfolding position_value
returns-in-Move c =
    let p = position_value c.args.self.now in
    let small : SmallDice (position_value c.args.self.now).standing =
    record { first = c.args.self.now.first; second = c.args.self.now.second } in
    let steps = hops_of c.in-Move.play in
    same_from_decides c.is_legal.result (is_legal p (move steps)) c.is_legal.ensures
    (legal_decides p (move steps) small)
    ∙ ap (λ d. is_legal p (decision_of d)) (sym c.in-Move.is)
