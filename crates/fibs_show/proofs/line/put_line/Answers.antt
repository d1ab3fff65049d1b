use Rattle.std.proofs.Common.{◌++◌, [], codes, ap, refl, sym, ◌∙◌}
use Rattle.fibs_lines.specs.Lines.{value_of}
use Rattle.fibs_messages.specs.Line.{board_line, numbered_line, text_line}
use Rattle.fibs_messages.specs.Message.{canonical}
use Rattle.fibs_show.proofs.LiteralMessages.{literal_message}
use Rattle.fibs_show.proofs.ShowLemmas.{line_put, literal_escaped, no_board, no_number}
use Rattle.fibs_show.proofs.line.put_line.Goals as goal

pub returns-in-Ok-clause-put : goal.returns-in-Ok-clause-put
returns-in-Ok-clause-put c = λ put.
    let says = c.in-Ok.ensures.found in
    line_put (value_of c.args.line.now) (board_line says.0) c.args.page.now c.put.new.self [] c.in-Ok.board.now
    c.if-line.false (sym c.is_board_line.ensures ∙ c.if-is_board_line.true, says.1) (sym says.2) (c.put.ensures.put put)

pub returns-then-is_none-clause-put : goal.returns-then-is_none-clause-put
returns-then-is_none-clause-put c = λ put.
    let bytes = c.args.line.now.bytes.now in
    line_put (value_of c.args.line.now) (text_line bytes) c.args.page.now c.put-then-is_none.new.self (codes "text ")
    bytes c.if-line.false (
      (
        no_board bytes _ c.is_board_line.result c.is_board_line.ensures c.if-is_board_line.false,
        no_number bytes c.message_number.result c.is_none.result c.is_none.ensures c.if-is_none.true
            c.message_number.ensures.number,
      ),
      refl,
    )
    (ap (λ l. codes "text " ++ l) (literal_escaped bytes c.requires)) (c.put-then-is_none.ensures.put put)

pub returns-in-Some-clause-put : goal.returns-in-Some-clause-put
returns-in-Some-clause-put c = λ put.
    let says = c.in-Some.ensures in
    let literal = literal_message says.0 c.args.line.now.bytes.now says.1 c.requires in
    line_put (value_of c.args.line.now) (numbered_line says.0) c.args.page.now c.put-in-Some.new.self
    (codes "message ") c.in-Some.canonical.now c.if-line.false says.1
    (ap (λ l. codes "message " ++ l) (literal_escaped (canonical says.0) literal ∙ sym says.2))
    (c.put-in-Some.ensures.put put)
