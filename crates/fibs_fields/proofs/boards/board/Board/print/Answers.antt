use Rattle.std.proofs.Common.{◌≡◌, ◌++◌, ◌-◌, arith, sym, ap, ◌∙◌, subst, take, drop, take_all, length-drop}
use Rattle.fibs_fields.specs.Board.{BoardText, spelling}
use Rattle.fibs_fields.specs.StoredBoard.{fields_of}
use Rattle.fibs_fields.proofs.BoardLemmas.BoardTexts.{spelling_says}
use Rattle.fibs_fields.proofs.boards.board.Board.print.Goals as goal

printed : (c : goal.After-append) → c.append.new.text.items ≡ spelling (fields_of c.args.self.now)
printed c =
    let line = drop c.write_line-start.result c.write_line-start.new.text in
    let all : take (329 - c.write_line-start.result) line ≡ line =
    take_all _ _ (omega (arith, length-drop c.write_line-start.result c.write_line-start.new.text)) in
    c.append.ensures ∙ ap (λ l. l ++ take (329 - c.write_line-start.result) line) c.new-out.ensures ∙ all
    ∙ c.write_line-start.ensures.written

pub returns-clause-says : goal.returns-clause-says
returns-clause-says c =
    subst (λ l. BoardText (fields_of c.args.self.now) l) (sym (printed c))
    (spelling_says (fields_of c.args.self.now) c.args.self.now.valid)
