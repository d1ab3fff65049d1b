-- Where a decision leads (the project's own).
use Rattle.std.specs.Prelude.{◌≡◌, [], ◌∷◌, Some}
use Rattle.fibs_fields.specs.Board.{BoardFields}
use Rattle.fibs_position.specs.BoardEffect.{effect_of}
use Rattle.fibs_position.specs.DecisionValue.{DecisionValue}

-- the server carries a decision out on a board, and that gives the other board: a move takes no dice
abbrev pub LeadsTo : BoardFields → DecisionValue → BoardFields → Type 0
LeadsTo before d after = effect_of before d (0 ∷ 0 ∷ []) ≡ Some after
