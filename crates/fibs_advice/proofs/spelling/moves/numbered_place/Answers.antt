use Rattle.std.proofs.Common.{◌≤◌, arith}
use Rattle.fibs_commands.proofs.PlaceLemmas.{line_place_low}
use Rattle.fibs_advice.proofs.spelling.moves.numbered_place.Goals as goal

pub overflow_cast-number : goal.overflow_cast-number
overflow_cast-number c =
    let le : c.in_ok-number.number ≤ 24 =
    ((c.read_decimal.ensures.exact c.in_ok-number.number).0 c.in_ok-number.was).1 in
    record { fits = omega arith }

pub line_place-requires : goal.line_place-requires
line_place-requires c =
    let le : c.in_ok-number.number ≤ 24 =
    ((c.read_decimal.ensures.exact c.in_ok-number.number).0 c.in_ok-number.was).1 in
    omega arith

pub returns-clause-place : goal.returns-clause-place
returns-clause-place c =
    let le : c.in_ok-number.number ≤ 24 =
    ((c.read_decimal.ensures.exact c.in_ok-number.number).0 c.in_ok-number.was).1 in
    omega (arith, line_place_low c.args.direction c.in_ok-number.number (omega arith), c.line_place.ensures)
