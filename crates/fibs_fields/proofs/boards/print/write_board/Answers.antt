use Rattle.std.proofs.Common.{drop}
use Rattle.fibs_fields.specs.Board.{BoardFields}
use Rattle.fibs_fields.specs.StoredNumbers.{numbers_of}
use Rattle.fibs_fields.proofs.BoardLemmas.Backward.{written_backward}
use Rattle.fibs_fields.proofs.boards.print.write_board.Goals as goal

pub returns-clause-written : goal.returns-clause-written
returns-clause-written c =
    let b : BoardFields =
    record { player = c.args.player.now; opponent = c.args.opponent.now; numbers = numbers_of c.args.numbers.now } in
    written_backward b
    (drop c.write_numbers-start.result c.write_numbers-start.new.text)
    (drop c.write_before-start.result c.write_before-start.new.text)
    (drop c.write_before-start-2.result c.write_before-start-2.new.text)
    (drop c.write_before-start-3.result c.write_before-start-3.new.text)
    (drop c.write_before.result c.write_before.new.text)
    c.write_numbers-start.ensures.written c.write_before-start.ensures.written c.write_before-start-2.ensures.written
    c.write_before-start-3.ensures.written c.write_before.ensures.written
