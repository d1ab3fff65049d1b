use Rattle.std.proofs.Common.{◌≡◌, refl, sym, ap, ◌∙◌}
use Rattle.std.specs.Prelude.{Err, Some}
use Rattle.fibs_position.specs.PositionValue.{position_value}
use Rattle.fibs_position.specs.DecisionValue.{decision_of}
use Rattle.fibs_position.proofs.DecidingLemmas.AllowedTable.{allowed_exact, disallowed_exact}
use Rattle.fibs_position.proofs.DecidingLemmas.PhaseTable.{SmallDice}
use Rattle.fibs_position.specs.declared.position.Position.{Position}
use Rattle.fibs_position.proofs.position.Position.allows.Goals as goal

-- no die of a position is above 6
small : (p : Position) → SmallDice (position_value p).standing
unfolding position_value
small p = record { first = p.first; second = p.second }

pub returns-in-None-clause-allowed : goal.returns-in-None-clause-allowed
returns-in-None-clause-allowed c = (
  λ _. (allowed_exact (position_value c.args.self.now) (decision_of c.args.decision.now) (small c.args.self.now)).0
      (sym c.in-None.ensures),
  λ _. refl,
)

pub returns-in-None-clause-refused : goal.returns-in-None-clause-refused
returns-in-None-clause-refused c = λ why. (
  λ e. absurd cc,
  λ h. let some =
      (disallowed_exact (position_value c.args.self.now) (decision_of c.args.decision.now) why
      (small c.args.self.now)).1 h in let none = c.in-None.ensures in absurd cc,
)

pub returns-in-Some-clause-allowed : goal.returns-in-Some-clause-allowed
returns-in-Some-clause-allowed c = (
  λ e. absurd cc,
  λ h. let none =
      (allowed_exact (position_value c.args.self.now) (decision_of c.args.decision.now) (small c.args.self.now)).1 h in
      let some = c.in-Some.ensures in absurd cc,
)

pub returns-in-Some-clause-refused : goal.returns-in-Some-clause-refused
returns-in-Some-clause-refused c = λ why.
    let exact =
    disallowed_exact (position_value c.args.self.now) (decision_of c.args.decision.now) why
    (small c.args.self.now) in (
      λ e. let same : c.in-Some.why ≡ why = cc in exact.0 (sym c.in-Some.ensures ∙ ap Some same),
      λ h. let here = exact.1 h in let is = c.in-Some.ensures in let same : c.in-Some.why ≡ why = cc in ap Err same,
    )
