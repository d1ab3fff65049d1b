use Rattle.std.proofs.Common.{◌≡◌, nat_eq, rules, of_z}
use Rattle.std.specs.Prelude.{ℤ, FitsSigned}
use Rattle.std.specs.Int.{w32}
use Rattle.fibs_fields.specs.Board.{BoardFields, field_of}
use Rattle.fibs_fields.specs.StoredBoard.{fields_of}
use Rattle.fibs_position.specs.BoardEffect.{is_doubled}
use Rattle.fibs_position.proofs.board_effect.is_doubled.Goals as goal

-- the test of the flag is that of the definition, if the turn is not 0
flag_tells : (turn flag : ℤ) (b : BoardFields) → turn ≡ field_of b 33 → flag ≡ field_of b 41 → FitsSigned w32 turn
    → FitsSigned w32 flag → (of_z w32 turn ≡ 0 → ⊥) → nat_eq (of_z w32 flag) 1 ≡ is_doubled b
flag_tells turn flag b is_turn is_flag fits_turn fits_flag is_not = search rules

pub returns-then-field-ne0 : goal.returns-then-field-ne0
returns-then-field-ne0 c =
    let fits_turn : FitsSigned w32 c.field.result = search rules in
    let fits_flag : FitsSigned w32 c.field-then-field-ne0.result = search rules in
    flag_tells c.field.result c.field-then-field-ne0.result (fields_of c.args.board.now) c.field.ensures.value
    c.field-then-field-ne0.ensures.value fits_turn fits_flag c.if-field-ne0.true
