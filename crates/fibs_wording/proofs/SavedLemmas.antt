-- A row of a list of saved matches was heard.
use Rattle.std.proofs.Common.{◌≡◌, ℕ, Bool, true, false, List, inr, sym}
use Rattle.std.proofs.lemmas.Bool.{false≢true}
use Rattle.fibs_wording.specs.SavedLists.{HearsList, IsRow, Keeps, KnownMatch}
use Rattle.fibs_wording.specs.declared.saved.SavedMatch.{SavedMatch}

-- its match is known then
pub hears_row : (text : List ℕ) (lists : Bool) (m : KnownMatch) (old new : List SavedMatch) → lists ≡ true
    → IsRow text m → Keeps m old new → HearsList text lists old lists new
hears_row text true m old new is row kept = record {
  outside = λ no. absurd (false≢true (sym no));
  begins = λ no so. absurd (false≢true (sym no));
  ends = λ so no. absurd (false≢true (sym no));
  goes_on = λ so too. inr (m, row, kept);
}
hears_row text false m old new is row kept = absurd (false≢true is)
