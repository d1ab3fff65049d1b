use Rattle.std.proofs.lemmas.Bool.Decides.{Decides-at}
use Rattle.fibs_fields.specs.contracts.boards.board.BoardPartialEq.TheImpl.{eq-value}
use Rattle.fibs_fields.proofs.BoardLemmas.BoardEquality.{boards_decide}
use Rattle.fibs_fields.proofs.boards.laws.fields_tell_boards.Goals as goal

pub returns : goal.returns
returns c =
    let a = c.args.a.now in
    let b = c.args.b.now in
    Decides-at c.eq.result (eq-value.it a b) c.eq.ensures (boards_decide a b)
