use Rattle.std.proofs.Common.{sym, subst}
use Rattle.fibs_fields.specs.Board.{BoardText}
use Rattle.fibs_fields.specs.StoredBoard.{fields_of}
use Rattle.fibs_fields.proofs.boards.laws.print_reads_back.Goals as goal

pub returns : goal.returns
returns c =
    c.read.ensures.only (fields_of c.args.board.now)
    (subst (λ l. BoardText (fields_of c.args.board.now) l) (sym c.as_slice.ensures.value) c.print.ensures.says)
