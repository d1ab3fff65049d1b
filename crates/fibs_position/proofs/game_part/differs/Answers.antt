use Rattle.std.proofs.Common.{ap, not}
use Rattle.fibs_fields.specs.StoredBoard.{fields_of}
use Rattle.fibs_position.proofs.BoardLemmas.SameGameTest.{same_as_test}
use Rattle.fibs_position.proofs.game_part.differs.Goals as goal

pub returns-clause-test : goal.returns-clause-test
returns-clause-test c =
    let a = fields_of c.args.a.now in
    let b = fields_of c.args.b.now in
    ap not (same_as_test c.is_same_game.result a b c.is_same_game.ensures)
