-- The wires of the machine, which keep all bytes.
use Rattle.std.proofs.Common.{◌≡◌, ℕ, Bool, true, false, List, [], ◌∷◌, ◌++◌, if◌then◌else◌, refl}
use Rattle.fibs_session.specs.History.Words.{is_empty}
use Rattle.fibs_session.specs.History.Machine.{on_wire}
use Rattle.fibs_model.specs.LinksOf.{kept_of}
use Rattle.fibs_model.specs.Wires.{Link}

-- wires by their bytes
pub whole_path : {h h' c c' s s' a a' : List ℕ} → h ≡ h' → c ≡ c' → s ≡ s' → a ≡ a'
    → ◌≡◌ {A = Link} (record { heard = h; coming = c; served = s; asked = a })
    (record { heard = h'; coming = c'; served = s'; asked = a' })
whole_path h c s a = cc

-- what is kept of one of two
pub kept_if : (b : Bool) (l m : Link) → kept_of (if b then l else m) ≡ (if b then kept_of l else kept_of m)
kept_if true l m = refl
kept_if false l m = refl

-- if the server took a line, it took something
pub some_taken : (served text : List ℕ) → is_empty (served ++ on_wire text) ≡ false
some_taken [] [] = refl
some_taken [] (b ∷ text) = refl
some_taken (b ∷ served) text = refl
