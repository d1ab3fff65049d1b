-- The players that are reported, one more at each step.
use Rattle.std.proofs.Common.{◌≡◌, ℕ, zero, suc, ◌+◌, List, [], ◌∷◌, ◌++◌, take, slice_get, Some, ap, ◌∙◌, add-one}
use Rattle.fibs_messages.specs.Message.{MessageValue}
use Rattle.fibs_connect.specs.Told.{SaidValue, player_said}
use Rattle.fibs_connect.specs.Converse.Players.{players_told}

-- the first n
abbrev pub listed : ℕ → List MessageValue → List SaidValue
listed n entries = players_told (take n entries)

-- the next player is listed after those before
one_more : (n : ℕ) (entries : List MessageValue) (m : MessageValue) → slice_get entries n ≡ Some m
    → listed (suc n) entries ≡ listed n entries ++ player_said m ∷ []
one_more n [] m e = absurd (cc)
one_more zero (x ∷ entries) m e =
    let same : x ≡ m = cc in ap (λ (y : MessageValue). player_said y ∷ []) same
one_more (suc n) (x ∷ entries) m e = ap (λ (l : List SaidValue). player_said x ∷ l) (one_more n entries m e)

-- the same of a number that is counted up
pub listed-more : (n : ℕ) (entries : List MessageValue) (m : MessageValue) → slice_get entries n ≡ Some m
    → listed (n + 1) entries ≡ listed n entries ++ player_said m ∷ []
listed-more n entries m e = ap (λ (k : ℕ). listed k entries) (add-one n) ∙ one_more n entries m e
