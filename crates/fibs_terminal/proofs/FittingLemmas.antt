-- What is written from a place on is said in rows that have room.
use Rattle.std.proofs.Common.{◌≡◌, ◌≤◌, ◌-◌, ℕ, zero, suc, List, [], ◌∷◌, length, refl, ◌∙◌, arith, subst}
use Rattle.std.specs.Prelude.{Result, Ok, Err, OnOk, drop, take}
use Rattle.fibs_session.specs.History.Machine.{Talk}
use Rattle.fibs_session.specs.Calls.Standing.{ClientValue, StandsAfter}
use Rattle.fibs_picture.specs.InWords.Rows.{Says}
use Rattle.fibs_picture.proofs.WordsLemmas.Breaking.{take-whole, from-place}
use Rattle.fibs_picture.proofs.WordsLemmas.Saying.{says-none}

-- nothing follows the end
drop-all : (n : ℕ) (xs : List ℕ) → length xs ≤ n → drop n xs ≡ []
drop-all zero [] h = refl
drop-all (suc n) [] h = refl
drop-all zero (x ∷ xs) h = absurd (omega (arith, h))
drop-all (suc n) (x ∷ xs) h = drop-all n xs (omega (arith, h))

-- nothing is written from there on
pub fits_none : (columns start : ℕ) (text : List ℕ) → length text ≤ start
    → Says columns (drop start text) (take start text) text
fits_none columns start text low = subst (λ t. Says columns (drop start text) (take start text) t)
    (take-whole start text low) (says-none columns (drop start text) (take start text) (drop-all start text low))

-- something is
pub fits_some : {E : Type 0} (r : Result (Unit {0}) E) (columns start : ℕ) (text said kept after : List ℕ)
    → start ≤ length text → said ≡ take (length text - start) (drop start text) → kept ≡ take start text
    → OnOk r (Says columns said kept after) → OnOk r (Says columns (drop start text) (take start text) after)
fits_some r columns start text said kept after low is rest p =
    subst (λ k. OnOk r (Says columns (drop start text) k after)) rest
    (subst (λ t. OnOk r (Says columns t kept after)) (is ∙ from-place start text low) p)

-- a row is said as the text that it is
pub said_as : {E : Type 0} (r : Result (Unit {0}) E) (columns : ℕ) (row text before after : List ℕ) → row ≡ text
    → OnOk r (Says columns row before after) → OnOk r (Says columns text before after)
said_as r columns row text before after is p = subst (λ t. OnOk r (Says columns t before after)) is p

-- words are said that what has happened asks for
pub said_then : {E : Type 0} (r : Result (Unit {0}) E) (client : ClientValue) (columns : ℕ)
    (said before after : List ℕ) (words : Talk → List ℕ) → ((t : Talk) → StandsAfter client t → said ≡ words t)
    → OnOk r (Says columns said before after)
    → OnOk r ((t : Talk) → StandsAfter client t → Says columns (words t) before after)
said_then (Err e) client columns said before after words same p = tt
said_then (Ok u) client columns said before after words same p =
    λ t stands. subst (λ s. Says columns s before after) (same t stands) p
