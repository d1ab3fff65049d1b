-- How rows of words are written.
use Rattle.std.proofs.Common.{◌≡◌, ◌+◌, ◌-◌, ◌==◌, ◌&&◌, ◌++◌, ℕ, Bool, true, false, cond, codes, List, [], ◌∷◌, refl, ◌∙◌, ap, append_assoc}
use Rattle.fibs_fields.specs.Board.{BoardFields}
use Rattle.fibs_picture.specs.Notes.{says_long_words, spaced, labelled, two_dice, die_word, doublers}
use Rattle.fibs_picture.specs.declared.look.Look.{Look}
use Rattle.fibs_picture.specs.declared.mark.Mark.{Mark}

-- a row has a word
abbrev some : List (List ℕ) → Bool
some [] = false
some (w ∷ ws) = true

-- a word before a row
pub before-row : (w : List ℕ) (ws : List (List ℕ)) → some ws ≡ true → spaced (w ∷ ws) ≡ w ++ (32 ∷ spaced ws)
before-row w [] h = cc
before-row w (x ∷ ws) h = refl

-- so has one of two rows that have
some-cond : (b : Bool) (xs ys : List (List ℕ)) → some xs ≡ true → some ys ≡ true → some (cond b xs ys) ≡ true
some-cond true xs ys h k = h
some-cond false xs ys h k = k

-- a word before two dice
pub dice_spaced : (w : List ℕ) (mark : Mark) (m n : ℕ)
    → spaced (w ∷ two_dice mark m n) ≡ w ++ (32 ∷ spaced (two_dice mark m n))
dice_spaced w mark m n = before-row w (two_dice mark m n)
    (some-cond ((m == 0) && (n == 0)) ((45 ∷ []) ∷ []) (die_word mark m ∷ die_word mark n ∷ []) refl refl)

-- a label and a number before two words
pub race_spaced : (below : Bool) (w x y : List ℕ) → spaced (labelled below (codes "pips") ([] ∷ []) (w ∷ x ∷ y ∷ []))
    ≡ spaced (labelled below (codes "pips") ([] ∷ []) (w ∷ [])) ++ (32 ∷ (x ++ (32 ∷ y)))
race_spaced true w x y = refl
race_spaced false w x y = refl

-- there are words on who may double
pub doublers-some : (look : Look) (watched : Bool) (b : BoardFields) (left : ℕ) (own other : Bool)
    → some (doublers look watched b left own other) ≡ true
unfolding doublers
doublers-some look watched b left true true = some-cond (says_long_words look) _ _ refl refl
doublers-some look watched b left true false = some-cond watched _ _ refl refl
doublers-some look watched b left false true =
    some-cond watched _ _ refl (some-cond (says_long_words look) _ _ refl refl)
doublers-some look watched b left false false = refl

-- a cube before who may double
pub cube_spaced : (look : Look) (watched : Bool) (b : BoardFields) (left : ℕ) (digits : List ℕ) (own other : Bool)
    → spaced (codes "cube" ∷ (digits ++ codes ",") ∷ doublers look watched b left own other)
    ≡ codes "cube " ++ (digits ++ (codes ", " ++ spaced (doublers look watched b left own other)))
cube_spaced look watched b left digits own other =
    let ws = doublers look watched b left own other in
    ap (λ t. codes "cube " ++ t) (before-row (digits ++ codes ",") ws (doublers-some look watched b left own other)
    ∙ append_assoc digits (codes ",") (32 ∷ spaced ws))
