-- The texts of steps.
use Rattle.std.proofs.Common.{◌≡◌, ◌≢◌, ◌≤◌, ℕ, List, [], ◌∷◌, ◌++◌, length, refl, ap, sym, ◌∙◌, arith, append_assoc, length-append}
use Rattle.std.specs.Prelude.{All}
use Rattle.std.proofs.lemmas.List.{append_cancel_right}
use Rattle.std.proofs.lemmas.List.Elements.{All-weaker, All-append, All-cons, All-nil, All-head, All-tail}
use Rattle.fibs_rules.specs.Hop.{Hop, IsStep}
use Rattle.fibs_position.specs.declared.direction.Direction.{Direction}
use Rattle.fibs_commands.specs.Commands.{place_text, step_text, steps_text}
use Rattle.fibs_commands.proofs.CutLemmas.{cut_at}
use Rattle.fibs_commands.proofs.PlaceLemmas.{IsPlaceByte, place_bytes, place_short, place_injective}

-- a byte of a step's text: that of a place, or the dash
abbrev pub IsStepByte : ℕ → Type 0
IsStepByte byte = (45 ≤ byte) × (byte ≤ 122)

-- steps of the same places are one
step_same : (a b : Hop) → a.source ≡ b.source → a.target ≡ b.target → a ≡ b
step_same a b source target =
    let from : ℕ → Hop = λ n. record { source = n; target = a.target } in
    let to : ℕ → Hop = λ n. record { source = b.source; target = n } in
    ap from source ∙ ap to target

-- no dash is in a place's text
pub place_no_dash : (direction : Direction) (place : ℕ) → place ≤ 25 → All (λ b. b ≢ 45) (place_text direction place)
place_no_dash direction place le =
    All-weaker IsPlaceByte (λ b. b ≢ 45) (λ b is. λ e. omega arith) (place_text direction place)
    (place_bytes direction place le)

-- a step is written in bytes of places and a dash
pub step_bytes : (direction : Direction) (step : Hop) → IsStep step → All IsStepByte (step_text direction step)
step_bytes direction step is =
    let wider : (b : ℕ) → IsPlaceByte b → IsStepByte b = λ b byte. (omega arith, byte.1) in
    let source : All IsStepByte (place_text direction step.source) =
    All-weaker IsPlaceByte IsStepByte wider _ (place_bytes direction step.source is.1) in
    let target : All IsStepByte (place_text direction step.target) =
    All-weaker IsPlaceByte IsStepByte wider _ (place_bytes direction step.target (omega arith)) in
    All-append IsStepByte _ _ (All-append IsStepByte _ (45 ∷ []) source
    (All-cons IsStepByte 45 [] (omega arith, omega arith) (All-nil IsStepByte))) target

-- a step is written in seven bytes at most
pub step_short : (direction : Direction) (step : Hop) → IsStep step → length (step_text direction step) ≤ 7
step_short direction step is =
    omega (
      arith,
      place_short direction step.source is.1,
      place_short direction step.target (omega arith),
      length-append (place_text direction step.source ++ 45 ∷ []) (place_text direction step.target),
      length-append (place_text direction step.source) (45 ∷ []),
    )

-- in one direction, steps with one text are one
pub step_injective : (direction : Direction) (a b : Hop) → IsStep a → IsStep b
    → step_text direction a ≡ step_text direction b → a ≡ b
step_injective direction a b ia ib e =
    let parted =
    cut_at 45 (place_text direction a.source) (place_text direction b.source) (place_text direction a.target)
    (place_text direction b.target)
    (place_no_dash direction a.source ia.1) (place_no_dash direction b.source ib.1)
    (sym (append_assoc (place_text direction a.source) (45 ∷ []) (place_text direction a.target)) ∙ e
    ∙ append_assoc (place_text direction b.source) (45 ∷ []) (place_text direction b.target)) in
    step_same a b (place_injective direction a.source b.source ia.1 ib.1 parted.0)
    (place_injective direction a.target b.target (omega arith) (omega arith) parted.1)

-- no space is in a step's text
pub step_no_space : (direction : Direction) (step : Hop) → IsStep step → All (λ b. b ≢ 32) (step_text direction step)
step_no_space direction step is =
    All-weaker IsStepByte (λ b. b ≢ 32) (λ b byte. λ e. omega arith) (step_text direction step)
    (step_bytes direction step is)

-- the steps' text with a space at its end begins with a space
space_before : (direction : Direction) (steps : List Hop) → List ℕ
space_before direction [] = []
space_before direction (step ∷ steps) = step_text direction step ++ (steps_text direction steps ++ 32 ∷ [])

-- a space moves from the end of the steps' text to its front
spaced : (direction : Direction) (steps : List Hop)
    → steps_text direction steps ++ 32 ∷ [] ≡ 32 ∷ space_before direction steps
unfolding space_before
spaced direction [] = refl
spaced direction (step ∷ steps) =
    ap (λ l. 32 ∷ l) (append_assoc (step_text direction step) (steps_text direction steps) (32 ∷ []))

-- in one direction, plays with one text are one
pub steps_injective : (direction : Direction) (xs ys : List Hop) → All IsStep xs → All IsStep ys
    → steps_text direction xs ≡ steps_text direction ys → xs ≡ ys
steps_injective direction [] [] ha hb e = refl
steps_injective direction [] (b ∷ ys) ha hb e =
    absurd (let no : [] ≡ 32 ∷ (step_text direction b ++ steps_text direction ys) = e in cc)
steps_injective direction (a ∷ xs) [] ha hb e =
    absurd (let no : 32 ∷ (step_text direction a ++ steps_text direction xs) ≡ [] = e in cc)
steps_injective direction (a ∷ xs) (b ∷ ys) ha hb e =
    let tails : step_text direction a ++ steps_text direction xs ≡ step_text direction b ++ steps_text direction ys =
    cc in
    let ia : IsStep a = All-head IsStep a xs ha in
    let ib : IsStep b = All-head IsStep b ys hb in
    let with_space =
    λ (s : Hop) (ss : List Hop). append_assoc (step_text direction s) (steps_text direction ss) (32 ∷ [])
    ∙ ap (λ l. step_text direction s ++ l) (spaced direction ss) in
    let parted =
    cut_at 32 (step_text direction a) (step_text direction b) (space_before direction xs)
    (space_before direction ys)
    (step_no_space direction a ia) (step_no_space direction b ib)
    (sym (with_space a xs) ∙ ap (λ l. l ++ 32 ∷ []) tails ∙ with_space b ys) in
    let first : a ≡ b = step_injective direction a b ia ib parted.0 in
    let texts : steps_text direction xs ≡ steps_text direction ys =
    append_cancel_right (steps_text direction xs) (steps_text direction ys) (32 ∷ [])
    (spaced direction xs ∙ ap (λ l. 32 ∷ l) parted.1 ∙ sym (spaced direction ys)) in
    let rest : xs ≡ ys = steps_injective direction xs ys (All-tail IsStep a xs ha) (All-tail IsStep b ys hb) texts in
    cc
