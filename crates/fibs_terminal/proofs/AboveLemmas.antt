-- A picture that is placed above stands there.
use Rattle.std.proofs.Common.{◌≡◌, ◌≤◌, ◌++◌, ◌+◌, ◌==◌, ◌∙◌, ℕ, Bool, List, [], count_by, max, ap, subst}
use Rattle.fibs_lines.specs.Lines.{is_line_end}
use Rattle.fibs_fields.specs.Board.{BoardFields}
use Rattle.fibs_wording.specs.declared.environment.settings.Settings.{Settings}
use Rattle.fibs_terminal.specs.Above.{Stands, placed}
use Rattle.fibs_terminal.specs.Drawings.{Draws}
use Rattle.fibs_terminal.specs.declared.drawing.above.Above.{Above}

-- it was drawn into an empty text, has no more rows than are kept, and was placed
pub it_stands : (s : Settings) (watched wanted : Bool) (b : BoardFields) (old : Above) (rows : ℕ)
    (before after start picture counted last : List ℕ) → start ≡ []
    → (t : List ℕ) × Draws s watched wanted b t × (picture ≡ start ++ t)
    → counted ≡ picture → (count_by is_line_end counted ≤ rows) × (rows ≤ 99) × (rows + 9 ≤ s.rows)
    × (rows ≡ max (count_by is_line_end counted) old.held)
    → last ≡ picture → after ≡ before ++ placed (old.held == 0) rows last
    → Stands s watched wanted b old (record { held = rows }) before after
it_stands s watched wanted b old rows before after start picture counted last none drawn same bounds whole text =
    let is_t = drawn.2 ∙ ap (λ x. x ++ drawn.0) none in record {
      picture = drawn.0;
      drawn = drawn.1;
      fits = subst (λ x. count_by is_line_end x ≤ rows) (same ∙ is_t) bounds.0;
      kept = subst (λ x. rows ≡ max (count_by is_line_end x) old.held) (same ∙ is_t) bounds.3;
      most = bounds.1;
      room = bounds.2;
      text_is = text ∙ ap (λ x. before ++ placed (old.held == 0) rows x) (whole ∙ is_t);
    }
