-- A text that is a run has nothing that breaks it.
use Rattle.std.proofs.Common.{◌≡◌, ◌≢◌, ℕ, false, List, [], ◌∷◌, sym, ap, ◌∙◌, true≢false}
use Rattle.std.proofs.lemmas.List.Elements.{All-nil, All-cons}
use Rattle.fibs_lines.specs.StreamLaws.{IsUnbroken}
use Rattle.fibs_lines.specs.Progress.{IsRun, ends_run}

-- neither a line end nor the first byte of a command
abbrev GoesOn : ℕ → Type 0
GoesOn b = (b ≢ 10) × (b ≢ 255)

-- a byte that ends no run is neither
goes_on : (b : ℕ) → ends_run b ≡ false → GoesOn b
goes_on b h = (λ e. true≢false (sym (ap ends_run e) ∙ h), λ e. true≢false (sym (ap ends_run e) ∙ h))

-- a run is unbroken
pub run_unbroken : (text : List ℕ) → IsRun text → IsUnbroken text
run_unbroken [] h = All-nil GoesOn
run_unbroken (b ∷ text) h = All-cons GoesOn b text (goes_on b h.0) (run_unbroken text h.1)
