use Rattle.std.proofs.Common.{◌≡◌, ◌++◌, ◌∷◌, ◌∙◌, List, ℕ, ap, subst, append_assoc}
use Rattle.fibs_fields.specs.Board.{spelling}
use Rattle.fibs_fields.specs.StoredBoard.{fields_of}
use Rattle.fibs_engine.proofs.OkLemmas.{on_ok_weaker}
use Rattle.fibs_messages.specs.Line.{board_line}
use Rattle.fibs_json.specs.Json.{key}
use Rattle.fibs_json.specs.Lines.{ReadObject}
use Rattle.fibs_json.proofs.values.append_board_member.Goals as goal

pub returns : goal.returns
returns c =
    let b = fields_of c.args.board.now in
    let old = c.args.text.now.items in
    let front : List ℕ = 44 ∷ key c.args.name.now in
    let bytes : c.as_slice.result.now ≡ spelling b = c.as_slice.ensures.value ∙ c.print.ensures.text in
    on_ok_weaker c.append_board_line.result
    (λ h. (
      h.0,
      subst (λ (l : List ℕ). ReadObject l (board_line b) h.0) bytes h.1,
      h.2 ∙ ap (λ (l : List ℕ). l ++ h.0) c.in_ok-append_key.ensures ∙ append_assoc old front h.0,
    ))
    c.append_board_line.ensures
