use Rattle.std.proofs.Common.{◌≡◌, ◌+◌, ◌≤◌, arith, drop, length, length-drop, subst, take, take_all}
use Rattle.std.proofs.lemmas.Bool.Decides.{nat_tests}
use Rattle.std.proofs.lemmas.List.{length-take-le}
use Rattle.fibs_fields.specs.Board.{count}
use Rattle.fibs_show.proofs.LineLemmas.RightNumbers.{IsNumber, digits_number, last_right}
use Rattle.fibs_show.proofs.copied_lines.quick.is_last.Goals as goal

pub returns-then-len-gt0 : goal.returns-then-len-gt0
returns-then-len-gt0 c found =
    let rest = drop c.args.at c.args.text.now in
    let len = c.long_run-len.result in
    let run = c.long_run-len.ensures in
    let ends : c.args.at + len ≡ length c.args.text.now = grind (arith, nat_tests) in
    let all : length rest ≤ len = omega (arith, length-drop c.args.at c.args.text.now) in
    let number =
    digits_number 0 9999 4 (take len rest) (run.number (omega arith))
    (omega (arith, run.short, length-take-le len rest (omega (arith, length-drop c.args.at c.args.text.now))))
    (omega arith) (omega arith) (omega arith) in
    last_right count rest (subst (IsNumber count) (take_all len rest all) number)
