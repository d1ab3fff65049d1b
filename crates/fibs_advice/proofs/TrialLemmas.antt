-- What a trial tells of the move that is tried.
use Rattle.std.proofs.Common.{◌≡◌, ◌++◌, ◌∙◌, ℕ, List, Result, Ok, Err, ap}
use Rattle.std.specs.Prelude.{OnOk}
use Rattle.fibs_fields.specs.Board.{BoardFields}
use Rattle.fibs_rules.specs.PlayValue.{hops_of}
use Rattle.fibs_position.specs.DirectionOf.{direction_of}
use Rattle.fibs_position.specs.NumbersOf.{counted}
use Rattle.fibs_position.specs.PositionValue.{PositionValue, position_of}
use Rattle.fibs_position.specs.declared.direction.Direction.{Direction}
use Rattle.fibs_position.specs.declared.numbers.Numbers.{Numbers}
use Rattle.fibs_advice.specs.Changes.{changes_text}
use Rattle.fibs_advice.specs.Leads.{LeadsTo}
use Rattle.fibs_advice.specs.Trials.{changes_of, tried, tried_on}
use Rattle.fibs_advice.specs.declared.trial.Trial.{Trial}

-- what is told of the positions of both boards is told of the board to which the move leads
pub changes_told : {E : Type 0} (r : Result (Unit {0}) E) (x : Trial) (numbers : Numbers) (way : Direction)
    (name : List ℕ) (p q : PositionValue) (z : BoardFields) (old new : List ℕ)
    → OnOk r (new ≡ old ++ changes_text way name p.standing.checkers (hops_of x.play) q.standing.checkers)
    → way ≡ counted numbers (direction_of (tried_on x)) → name ≡ (tried_on x).opponent
    → p ≡ position_of (tried_on x) → q ≡ position_of z → LeadsTo (tried_on x) (tried x) z
    → OnOk r ((b : BoardFields) × LeadsTo (tried_on x) (tried x) b × (new ≡ old ++ changes_of numbers x b))
changes_told (Err e) x numbers way name p q z old new told w n a b leads = tt
changes_told (Ok u) x numbers way name p q z old new told w n a b leads =
    let steps = hops_of x.play in
    let way_now = counted numbers (direction_of (tried_on x)) in
    let name_now = (tried_on x).opponent in
    let p_now = position_of (tried_on x) in
    let same = ap (λ (d : Direction). changes_text d name p.standing.checkers steps q.standing.checkers) w
    ∙ ap (λ (m : List ℕ). changes_text way_now m p.standing.checkers steps q.standing.checkers) n
    ∙ ap (λ (v : PositionValue). changes_text way_now name_now v.standing.checkers steps q.standing.checkers) a
    ∙ ap (λ (v : PositionValue). changes_text way_now name_now p_now.standing.checkers steps v.standing.checkers) b in
    (z, leads, told ∙ ap (λ (t : List ℕ). old ++ t) same)
