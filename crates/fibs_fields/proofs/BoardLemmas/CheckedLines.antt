-- A line whose fields have no fault says a board, and is its spelling but for the spaces at its end.
use Rattle.std.proofs.Common.{◌≡◌, List, [], ℕ, Result, Ok, Err, ap, sym, ◌∙◌}
use Rattle.std.specs.Prelude.{IfOk, IfErr}
use Rattle.std.specs.Result.{result_err}
use Rattle.fibs_fields.specs.Board.{BoardFields, BoardText, Wrong, kinds, pieces, spelling}
use Rattle.fibs_fields.specs.BoardReading.{first_fault, pieces_left}
use Rattle.fibs_fields.specs.FieldReading.{Left, Gives, end_at}
use Rattle.fibs_fields.specs.Spaces.{without_spaces}
use Rattle.fibs_fields.specs.declared.fault.FieldFault.{FieldFault}
use Rattle.fibs_fields.proofs.FieldLemmas.Options.{option_same, some_none}
use Rattle.fibs_fields.proofs.FieldLemmas.Spaces.{spaces_after}
use Rattle.fibs_fields.proofs.BoardLemmas.BoardTexts.{board_from_pieces, pieces_of_board, texts_right, without_spaces-spelling, wrong_from_first, first_from_wrong}
use Rattle.fibs_fields.proofs.BoardLemmas.EachLine.{fields_from}
use Rattle.fibs_fields.proofs.BoardLemmas.NextFields.{end_right, end_wrong}

-- a line that says a board is its spelling, but for the spaces at its end
pub spelling_of_line : (line : List ℕ) (b : BoardFields) → BoardText b line → without_spaces line ≡ spelling b
spelling_of_line line b h = ap without_spaces h.1.1 ∙ without_spaces-spelling b h.1.0 h.0

-- what checking gave, against what the line says
pub record IsChecked (line : List ℕ) (r : Result (List ℕ) FieldFault) : Type 0 where
  pub kept : IfOk r (λ text. text ≡ without_spaces line)
  pub fault : first_fault 1 kinds (pieces (without_spaces line)) ≡ result_err r

-- what is given is printed for the board that the line says
pub checked_found : (line : List ℕ) (r : Result (List ℕ) FieldFault) → IsChecked line r
    → IfOk r (λ text. (b : BoardFields) × BoardText b line × (text ≡ spelling b))
checked_found line (Ok text) h =
    let fields = fields_from (pieces (without_spaces line)) h.fault in
    let spaces = spaces_after line in
    let says : BoardText fields.board line =
    board_from_pieces fields.board line spaces.0 fields.is_board spaces.1 fields.spelled in
    (fields.board, says, h.kept ∙ spelling_of_line line fields.board says)
checked_found line (Err e) h = tt

-- of each line that says a board it is given
pub checked_only : (line : List ℕ) (r : Result (List ℕ) FieldFault) → IsChecked line r → (b : BoardFields)
    → BoardText b line → r ≡ Ok (spelling b)
checked_only line (Ok text) h b says = ap Ok (h.kept ∙ spelling_of_line line b says)
checked_only line (Err e) h b says =
    absurd (some_none e (sym h.fault ∙ ap (first_fault 1 kinds) (pieces_of_board b line says) ∙ texts_right b says.0))

-- the fault is the first
pub checked_wrong : (line : List ℕ) (r : Result (List ℕ) FieldFault) → IsChecked line r
    → IfErr r (λ e. Wrong line e.field e.fault)
checked_wrong line (Ok text) h = tt
checked_wrong line (Err e) h = wrong_from_first line e h.fault

-- a line with a wrong field is not given
pub checked_least : (line : List ℕ) (r : Result (List ℕ) FieldFault) → IsChecked line r → (e : FieldFault)
    → Wrong line e.field e.fault → r ≡ Err e
checked_least line (Ok text) h e wrong = absurd (some_none e (sym (first_from_wrong line e wrong) ∙ h.fault))
checked_least line (Err d) h e wrong = ap Err (option_same d e (sym h.fault ∙ first_from_wrong line e wrong))

-- nothing is left after the last field, or that is the first fault
pub end_checked : {T : Type 0} (i : ℕ) (l : Left) (r : Result T FieldFault) → Gives (λ _. []) r (end_at i l)
    → first_fault i [] (pieces_left l) ≡ result_err r
end_checked i l (Ok x) h = ap (first_fault i []) (end_right i l [] h)
end_checked i l (Err e) h = end_wrong i l e h
