use Rattle.std.proofs.Common.{◌≡◌, refl, ◌++◌, ◌∷◌, [], ap, sym, subst, ◌∙◌}
use Rattle.std.specs.Prelude.{codes}
use Rattle.fibs_messages.specs.Line.{board_line}
use Rattle.fibs_fields.specs.StoredBoard.{fields_of}
use Rattle.fibs_position.specs.PositionValue.{position_of}
use Rattle.fibs_show.proofs.PlaysLemmas.{good_not_refused}
use Rattle.fibs_position.specs.Names.{position_fault_name}
use Rattle.fibs_show.specs.Plays.{Refusal}
use Rattle.fibs_show.proofs.plays.position_of.Goals as goal

pub returns-in-Ok-clause-good : goal.returns-in-Ok-clause-good
returns-in-Ok-clause-good c = λ b is.
    let line : board_line (fields_of c.in-Board.board) ≡ board_line b = c.in-Board.ensures.only (board_line b) is in
    let same : fields_of c.in-Board.board ≡ b = cc in
    c.in-Ok.ensures.same ∙ ap position_of same

pub returns-in-Ok-clause-kept : goal.returns-in-Ok-clause-kept
returns-in-Ok-clause-kept c = λ reading why is refusal.
    let line = c.in-Board.ensures.only reading is in
    good_not_refused (fields_of c.in-Board.board) reading why (sym line) (c.in-Ok.ensures.good.0 refl) refusal

pub returns-in-Err-clause-refused : goal.returns-in-Err-clause-refused
returns-in-Err-clause-refused c = λ reading why is refusal.
    let board : board_line (fields_of c.in-Board.board) ≡ reading = c.in-Board.ensures.only reading is in
    let told = subst (λ r. Refusal r why) (sym board) refusal in
    let first = (c.in-Err.ensures.fault told.0).1 told.1 in
    let same : c.in-Err.fault ≡ told.0 = cc in
    c.no_position.ensures ∙ ap (λ f. (codes "position " ++ position_fault_name f) ++ 10 ∷ []) same
    ∙ ap (λ l. l ++ 10 ∷ []) (sym told.2)
