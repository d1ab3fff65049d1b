use Rattle.std.proofs.Common.{◌≡◌, List, ℕ, Bool, true, sym, ap, ◌∙◌}
use Rattle.std.specs.Prelude.{◌↔◌}
use Rattle.std.specs.Str.{bytes_eq}
use Rattle.std.proofs.lemmas.Slice.Eq.{bytes_eq-Decides}
use Rattle.fibs_fields.specs.Board.{BoardFields, IsBoard, spelling}
use Rattle.fibs_fields.specs.StoredBoard.{fields_of}
use Rattle.fibs_fields.proofs.BoardLemmas.BoardTexts.{spelling_same}
use Rattle.fibs_fields.proofs.boards.laws.prints_tell_boards.Goals as goal

-- a comparison of two spellings
tells : (a b : BoardFields) (p q : List ℕ) (r : Bool) → IsBoard a → IsBoard b → p ≡ spelling a → q ≡ spelling b
    → r ≡ bytes_eq p q → (r ≡ true) ↔ (a ≡ b)
tells a b p q r g h x y e =
    let decides = bytes_eq-Decides p q in (
      (λ yes. spelling_same a b g h (sym x ∙ decides.0 (sym e ∙ yes) ∙ y)),
      (λ same. e ∙ decides.1 (x ∙ ap spelling same ∙ sym y)),
    )

pub returns : goal.returns
returns c =
    tells (fields_of c.args.a.now) (fields_of c.args.b.now) c.as_slice.result.now c.as_slice-2.result.now c.eq.result
    c.args.a.now.valid c.args.b.now.valid
    (c.as_slice.ensures.value ∙ c.print.ensures.text) (c.as_slice-2.ensures.value ∙ c.print-2.ensures.text) c.eq.ensures
