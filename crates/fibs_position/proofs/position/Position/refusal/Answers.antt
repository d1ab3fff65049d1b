use Rattle.std.proofs.Common.{◌≡◌, sym, ap, ◌∙◌}
use Rattle.std.specs.Prelude.{◌&&◌}
use Rattle.fibs_position.specs.PositionValue.{position_value}
use Rattle.fibs_position.specs.DecisionValue.{decision_of}
use Rattle.fibs_position.specs.Phases.{decides, phase_in}
use Rattle.fibs_position.specs.Allowed.{is_for, cube_allows}
use Rattle.fibs_position.proofs.DecidingLemmas.AllowedTable.{refuses_other, refuses_kind, refuses_move, refuses_none}
use Rattle.fibs_position.proofs.position.Position.refusal.Goals as goal
use Rattle.fibs_position.proofs.position.Position.refusal.Goals.{After-is_deciding, After-is_right_kind}

-- what the two tests say of the board's phase
deciding : (c : After-is_deciding) → decides (phase_in (position_value c.args.self.now)) ≡ c.is_deciding.result
deciding c = ap decides (sym c.phase-phase.ensures.value) ∙ sym c.is_deciding.ensures

kind : (c : After-is_right_kind)
    → (is_for (decision_of c.args.decision.now) (phase_in (position_value c.args.self.now))
    && cube_allows (position_value c.args.self.now) (decision_of c.args.decision.now)) ≡ c.is_right_kind.result
kind c =
    let d = decision_of c.args.decision.now in
    ap (λ phase. is_for d phase && cube_allows (position_value c.args.self.now) d) (sym c.phase-phase.ensures.value)
    ∙ sym c.is_right_kind.ensures

pub returns-then-not-is_deciding : goal.returns-then-not-is_deciding
returns-then-not-is_deciding c =
    sym (refuses_other (position_value c.args.self.now) (decision_of c.args.decision.now)
    (deciding (goal.at.returns-then-not-is_deciding c).After-is_deciding ∙ c.if-not-is_deciding.true))

pub returns-then-not-is_right_kind : goal.returns-then-not-is_right_kind
returns-then-not-is_right_kind c =
    sym (refuses_kind (position_value c.args.self.now) (decision_of c.args.decision.now)
    (deciding (goal.at.returns-then-not-is_right_kind c).After-is_deciding ∙ c.if-not-is_deciding.false)
    (kind (goal.at.returns-then-not-is_right_kind c).After-is_right_kind ∙ c.if-not-is_right_kind.true))

pub returns-then-not-is_legal_move : goal.returns-then-not-is_legal_move
returns-then-not-is_legal_move c =
    sym (refuses_move (position_value c.args.self.now) (decision_of c.args.decision.now)
    (deciding (goal.at.returns-then-not-is_legal_move c).After-is_deciding ∙ c.if-not-is_deciding.false)
    (kind (goal.at.returns-then-not-is_legal_move c).After-is_right_kind ∙ c.if-not-is_right_kind.false)
    (sym c.is_legal_move.ensures ∙ c.if-not-is_legal_move.true))

pub returns : goal.returns
returns c =
    sym (refuses_none (position_value c.args.self.now) (decision_of c.args.decision.now)
    (deciding (goal.at.returns c).After-is_deciding ∙ c.if-not-is_deciding.false)
    (kind (goal.at.returns c).After-is_right_kind ∙ c.if-not-is_right_kind.false)
    (sym c.is_legal_move.ensures ∙ c.if-not-is_legal_move.false))
