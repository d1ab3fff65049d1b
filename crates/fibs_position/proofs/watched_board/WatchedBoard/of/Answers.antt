use Rattle.std.proofs.Common.{refl, sym}
use Rattle.std.proofs.lemmas.Bool.{false≢true}
use Rattle.fibs_fields.specs.StoredBoard.{fields_of}
use Rattle.fibs_position.proofs.BoardLemmas.SeenBoards.{watched-if-few, unwatched-if-many, unwatched-if-yours}
use Rattle.fibs_position.proofs.watched_board.WatchedBoard.of.Goals as goal

pub returns-then-is_you-clause-test : goal.returns-then-is_you-clause-test
returns-then-is_you-clause-test c = sym (unwatched-if-yours c.is_board_is_exact.ensures (fields_of c.args.board.now)
    (c.is_you.ensures.0 c.if-is_you.true))

pub invariant_of-result : goal.invariant_of-result
invariant_of-result c = record {
  is_watched = watched-if-few c.is_board_is_exact.ensures (fields_of c.args.board.now) c.args.board.now.valid
      (λ e. let yours = c.is_you.ensures.1 e in absurd cc) (c.in-Ok.ensures.few.0 refl);
  is_its_position = c.in-Ok.ensures.same;
}

pub returns-in-Err-clause-test : goal.returns-in-Err-clause-test
returns-in-Err-clause-test c = sym (unwatched-if-many c.is_board_is_exact.ensures (fields_of c.args.board.now)
    (λ few. false≢true (c.in-Err.ensures.few.1 few)))
