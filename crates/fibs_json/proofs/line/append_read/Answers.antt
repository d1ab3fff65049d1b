use Rattle.std.proofs.Common.{◌≡◌, ◌++◌, ◌∙◌, List, ℕ, ap, sym, subst, codes, refl}
use Rattle.fibs_engine.proofs.OkLemmas.{on_ok_weaker}
use Rattle.fibs_messages.specs.Message.{message_of}
use Rattle.fibs_messages.specs.Line.{ReadingValue, numbered_line, board_line, malformed_line, reading_of}
use Rattle.fibs_fields.specs.StoredBoard.{fields_of}
use Rattle.fibs_json.specs.Columns.{message_members}
use Rattle.fibs_json.specs.Lines.{ReadObject, line_object, malformed_members}
use Rattle.fibs_json.proofs.line.append_read.Goals as goal

pub returns-in-Numbered : goal.returns-in-Numbered
returns-in-Numbered c =
    let m = message_of c.in-Numbered.message in
    let text : List ℕ = line_object (codes "message") c.args.bytes.now (message_members m) in
    let is : numbered_line m ≡ reading_of c.args.reading.now = sym (ap reading_of c.in-Numbered.is) in
    on_ok_weaker c.append_message_line.result
    (λ e. (text, subst (λ (r : ReadingValue). ReadObject c.args.bytes.now r text) is refl, e))
    c.append_message_line.ensures

pub returns-in-Board : goal.returns-in-Board
returns-in-Board c =
    let is : board_line (fields_of c.in-Board.board) ≡ reading_of c.args.reading.now =
    sym (ap reading_of c.in-Board.is) in
    on_ok_weaker c.append_board_line.result
    (λ h. (h.0, subst (λ (r : ReadingValue). ReadObject c.args.bytes.now r h.0) is h.1, h.2))
    c.append_board_line.ensures

pub returns-in-Malformed : goal.returns-in-Malformed
returns-in-Malformed c =
    let number = c.in-Malformed.number in
    let field = c.in-Malformed.field in
    let fault = c.in-Malformed.fault in
    let bytes = c.args.bytes.now in
    let old = c.args.text.now.items in
    let text : List ℕ = line_object (codes "malformed") bytes (malformed_members number field fault) in
    let same : c.from.result ≡ number = cc in
    let is : malformed_line number field fault ≡ reading_of c.args.reading.now =
    sym (ap reading_of c.in-Malformed.is) in
    on_ok_weaker c.append_malformed.result
    (λ e. (
      text,
      subst (λ (r : ReadingValue). ReadObject bytes r text) is refl,
      e ∙ ap (λ n. old ++ line_object (codes "malformed") bytes (malformed_members n field fault)) same,
    ))
    c.append_malformed.ensures
