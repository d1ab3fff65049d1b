use Rattle.std.proofs.Common.{sym}
use Rattle.fibs_fields.specs.StoredBoard.{fields_of}
use Rattle.fibs_position.proofs.BoardLemmas.GoodTest.{good_fails}
use Rattle.fibs_position.proofs.BoardLemmas.SeenBoards.{good-if-few, test-if-few, fault-if-yours}
use Rattle.fibs_position.proofs.position.Position.of.Goals as goal

pub returns-then-not-is_you-clause-test : goal.returns-then-not-is_you-clause-test
returns-then-not-is_you-clause-test c =
    sym (good_fails c.is_board_is_exact.ensures (fields_of c.args.board.now)
    (λ g. let e = c.is_you.ensures.1 g.plays in absurd cc))

pub returns-clause-good : goal.returns-clause-good
returns-clause-good c = good-if-few (fields_of c.args.board.now) c.seen.result c.args.board.now.valid
    (c.is_you.ensures.0 c.if-not-is_you.false) c.seen.ensures.few

pub returns-clause-test : goal.returns-clause-test
returns-clause-test c = test-if-few c.is_board_is_exact.ensures (fields_of c.args.board.now) c.seen.result
    c.args.board.now.valid (c.is_you.ensures.0 c.if-not-is_you.false) c.seen.ensures.few

pub returns-clause-fault : goal.returns-clause-fault
returns-clause-fault c = λ f.
    let other = c.seen.ensures.fault f in
    let all = fault-if-yours (fields_of c.args.board.now) f (c.is_you.ensures.0 c.if-not-is_you.false) in
    (λ e. all.0 (other.0 e), λ first. other.1 (all.1 first))
