-- The row of a side determines where its checkers are.
use Rattle.std.proofs.Common.{◌≡◌, ◌⊎◌, ◌<◌, ◌≤◌, ◌+◌, ◌-◌, ◌%◌, ◌^◌, ◌==◌, ◌++◌, ℕ, zero, suc, Bool, true, false, not, cond, List, [], ◌∷◌, codes, refl, sym, ◌∙◌, ap, subst, arith, inl, inr, lit<, append_assoc}
use Rattle.std.specs.Prelude.{decimal, slice_index_or}
use Rattle.std.specs.List.{flat_map, range_with_len}
use Rattle.std.proofs.lemmas.Bool.{false≢true}
use Rattle.std.proofs.lemmas.Bool.Decides.{nat_tests}
use Rattle.std.proofs.lemmas.Fmt.{decimal_by_steps, decimal_injective}
use Rattle.std.proofs.lemmas.List.{append_cancel_left, append_cancel_right}
use Rattle.std.proofs.Math.Nat.{eq-or-lt_of_le}
use Rattle.fibs_position.specs.DirectionOf.{line_place}
use Rattle.fibs_position.specs.declared.direction.Direction.{Direction}
use Rattle.fibs_position.specs.declared.direction.Direction.TheVariants.{Down, Up}
use Rattle.fibs_picture.proofs.PictureLemmas.Parts.{lacks, lacks-append, decimal-lacks, ends-tell}
use Rattle.fibs_picture.specs.InWords.Words.{place_of, place_name, stack, stacks, off_said, side_row}
use Rattle.fibs_picture.specs.declared.in_words.side.Side.{Side}
use Rattle.fibs_picture.specs.declared.in_words.side.Side.TheVariants as side
use Rattle.fibs_picture.proofs.PictureLemmas.Notes.{is-zero}

-- ---- numbers

-- a digit is no byte above the digits
digit-no-letter : (c n : ℕ) → 57 < c → n < 10 → not ((48 + n) == c) ≡ true
digit-no-letter c n h k = grind (arith, nat_tests)

-- a decimal has no letter
pub decimal-no-letter : (c n : ℕ) → 57 < c → n < 2 ^ 64 → lacks c (decimal n) ≡ true
decimal-no-letter c n high h =
    decimal_by_steps (λ n ds. lacks c ds ≡ true)
    (λ n k. rw (digit-no-letter c n high k) refl)
    (λ n ds k e. lacks-append c ds ((48 + n % 10) ∷ []) e (rw (digit-no-letter c (n % 10) high (omega arith)) refl))
    n h

-- a text that lacks a byte is none that has it
lacks-differ : (c : ℕ) (a b : List ℕ) → lacks c a ≡ true → lacks c b ≡ false → a ≡ b → ⊥
lacks-differ c a b h k e = absurd (false≢true (sym k ∙ ap (lacks c) (sym e) ∙ h))

-- a count is small
abbrev pub Few : (ℕ → ℕ) → Type 0
Few count = (k : ℕ) → count k < 2 ^ 64

-- ---- names of places

-- the number of a place has 64 bits
pub line-small : (d : Direction) (place : ℕ) → place ≤ 25 → line_place d place < 2 ^ 64
line-small Down place h = omega (arith, h)
line-small Up place h = omega arith

-- a place is at most 25, whichever side counts it
pub place-small : (s : Side) (steps : ℕ) → steps ≤ 25 → place_of s steps ≤ 25
place-small side.Own steps h = omega arith
place-small side.Other steps h = h

-- places with the same number are the same
line-same : (d : Direction) (p q : ℕ) → p ≤ 25 → q ≤ 25 → line_place d p ≡ line_place d q → p ≡ q
line-same Down p q h k e = e
line-same Up p q h k e = omega (arith, h, k, e)

-- places that a side counts alike are the same
place-same : (s : Side) (p q : ℕ) → p ≤ 25 → q ≤ 25 → place_of s p ≡ place_of s q → p ≡ q
place-same side.Own p q h k e = omega (arith, h, k, e)
place-same side.Other p q h k e = e

-- the name by whether the place is the bar
abbrev name_text : Bool → ℕ → List ℕ
name_text bar number = cond bar (codes "the bar") (decimal number)

-- the name of a place has no comma, whether it is the bar or a number
name_text-lacks : (bar : Bool) (number : ℕ) → number < 2 ^ 64 → lacks 44 (name_text bar number) ≡ true
name_text-lacks true number h = refl
name_text-lacks false number h = decimal-lacks 44 number (lit< tt) h

-- the name of a place has no comma
place_name-lacks : (d : Direction) (s : Side) (steps : ℕ) → steps ≤ 25 → lacks 44 (place_name d s steps) ≡ true
place_name-lacks d s steps h = name_text-lacks (steps == 0) (line_place d (place_of s steps))
    (line-small d (place_of s steps) (place-small s steps h))

-- names that are the same are both the bar, or have the same number
names-tell : (a b : Bool) (m n : ℕ) → m < 2 ^ 64 → n < 2 ^ 64 → name_text a m ≡ name_text b n
    → ((a ≡ true) × (b ≡ true)) ⊎ (m ≡ n)
names-tell true true m n h k e = inl (refl, refl)
names-tell true false m n h k e =
    absurd (lacks-differ 32 (decimal n) (codes "the bar") (decimal-lacks 32 n (lit< tt) k) refl (sym e))
names-tell false true m n h k e =
    absurd (lacks-differ 32 (decimal m) (codes "the bar") (decimal-lacks 32 m (lit< tt) h) refl e)
names-tell false false m n h k e = inr (decimal_injective m n h k e)

-- places with the same name are the same
place_name-tells : (d : Direction) (s : Side) (p q : ℕ) → p ≤ 25 → q ≤ 25 → place_name d s p ≡ place_name d s q → p ≡ q
place_name-tells d s p q h k e =
    let low = place-small s p h in
    let high = place-small s q k in
    elim (names-tell (p == 0) (q == 0) (line_place d (place_of s p)) (line_place d (place_of s q))
    (line-small d (place_of s p) low) (line-small d (place_of s q) high) e) [
      | inl bars ↦ is-zero p bars.0 ∙ sym (is-zero q bars.1)
      | inr same ↦ place-same s p q h k (line-same d (place_of s p) (place_of s q) low high same)
    ]

-- ---- how many are off

-- a number, or that there are none
abbrev count_text : Bool → ℕ → List ℕ
count_text none n = cond none (codes "none") (decimal n)

-- these words have no space
count_text-lacks : (none : Bool) (n : ℕ) → n < 2 ^ 64 → lacks 32 (count_text none n) ≡ true
count_text-lacks true n h = refl
count_text-lacks false n h = decimal-lacks 32 n (lit< tt) h

-- equal words are of the same number
count_text-tells : (a b : Bool) (m n : ℕ) → a ≡ (m == 0) → b ≡ (n == 0) → m < 2 ^ 64 → n < 2 ^ 64
    → count_text a m ≡ count_text b n → m ≡ n
count_text-tells true true m n x y h k e = is-zero m (sym x) ∙ sym (is-zero n (sym y))
count_text-tells true false m n x y h k e =
    absurd (lacks-differ 110 (decimal n) (codes "none") (decimal-no-letter 110 n (lit< tt) k) refl (sym e))
count_text-tells false true m n x y h k e =
    absurd (lacks-differ 110 (decimal m) (codes "none") (decimal-no-letter 110 m (lit< tt) h) refl e)
count_text-tells false false m n x y h k e = decimal_injective m n h k e

-- how many are off is told up to the space, and then what follows
off-parts : (n : ℕ) (u : List ℕ) → off_said n ++ u ≡ count_text (n == 0) n ++ (32 ∷ (codes "off." ++ u))
off-parts n u = append_assoc (count_text (n == 0) n) (codes " off.") u

-- equal words are of as many checkers off, and the same follows
off-tells : (m n : ℕ) (u v : List ℕ) → m < 2 ^ 64 → n < 2 ^ 64 → off_said m ++ u ≡ off_said n ++ v
    → (m ≡ n) × (u ≡ v)
off-tells m n u v h k e =
    let parts = ends-tell 32 (count_text (m == 0) m) (count_text (n == 0) n) _ _
    (count_text-lacks (m == 0) m h) (count_text-lacks (n == 0) n k) (sym (off-parts m u) ∙ e ∙ off-parts n v) in
    (count_text-tells (m == 0) (n == 0) m n refl refl h k parts.0, append_cancel_left (codes "off.") u v parts.1)

-- ---- stacks

-- a stack and what follows, in its parts
abbrev stacked : Direction → Side → ℕ → ℕ → List ℕ → List ℕ
stacked d s n steps rest = decimal n ++ (32 ∷ (codes "on " ++ (place_name d s steps ++ (44 ∷ 32 ∷ rest))))

-- of a place without checkers nothing is told
stack-none : (d : Direction) (s : Side) (f : ℕ → ℕ) (steps : ℕ) → (f steps == 0) ≡ true → stack d s f steps ≡ []
unfolding stack
stack-none d s f steps h = rw h refl

-- the parts of a stack's text with what follows, in a row
joined-parts : (a b c rest : List ℕ)
    → (a ++ (codes " on " ++ (b ++ c))) ++ rest ≡ a ++ (codes " on " ++ (b ++ (c ++ rest)))
joined-parts a b c rest =
    append_assoc a (codes " on " ++ (b ++ c)) rest
    ∙ ap (λ t. a ++ t) (append_assoc (codes " on ") (b ++ c) rest ∙ ap (λ t. codes " on " ++ t) (append_assoc b c rest))

-- of a place with checkers their number and its name are told, and then what follows
stack-some : (d : Direction) (s : Side) (f : ℕ → ℕ) (steps : ℕ) (rest : List ℕ) → (f steps == 0) ≡ false
    → stack d s f steps ++ rest ≡ stacked d s (f steps) steps rest
unfolding stack
stack-some d s f steps rest h =
    rw h (joined-parts (decimal (f steps)) (place_name d s steps) (codes ", ") rest)

-- what is left after the stack of a place
first-parts : (d : Direction) (s : Side) (f : ℕ → ℕ) (a n : ℕ) (u : List ℕ)
    → flat_map (stack d s f) (range_with_len a (suc n)) ++ u
    ≡ stack d s f a ++ (flat_map (stack d s f) (range_with_len (a + 1) n) ++ u)
first-parts d s f a n u = append_assoc (stack d s f a) (flat_map (stack d s f) (range_with_len (a + 1) n)) u

-- a place without checkers is skipped
skipped : (d : Direction) (s : Side) (f : ℕ → ℕ) (a n : ℕ) (u : List ℕ) → (f a == 0) ≡ true
    → flat_map (stack d s f) (range_with_len a (suc n)) ++ u
    ≡ flat_map (stack d s f) (range_with_len (a + 1) n) ++ u
skipped d s f a n u h =
    first-parts d s f a n u
    ∙ ap (λ t. t ++ (flat_map (stack d s f) (range_with_len (a + 1) n) ++ u)) (stack-none d s f a h)

-- a place with checkers is told before the places after it
taken : (d : Direction) (s : Side) (f : ℕ → ℕ) (a n : ℕ) (u : List ℕ) → (f a == 0) ≡ false
    → flat_map (stack d s f) (range_with_len a (suc n)) ++ u
    ≡ stacked d s (f a) a (flat_map (stack d s f) (range_with_len (a + 1) n) ++ u)
taken d s f a n u h =
    first-parts d s f a n u ∙ stack-some d s f a (flat_map (stack d s f) (range_with_len (a + 1) n) ++ u) h

-- two stacks in the same words are of the same place, with as many checkers
stacked-tells : (d : Direction) (s : Side) (m n p q : ℕ) (x y : List ℕ) → m < 2 ^ 64 → n < 2 ^ 64 → p ≤ 25 → q ≤ 25
    → stacked d s m p x ≡ stacked d s n q y → (m ≡ n) × (p ≡ q) × (x ≡ y)
stacked-tells d s m n p q x y h k low high e =
    let counts = ends-tell 32 (decimal m) (decimal n) _ _ (decimal-lacks 32 m (lit< tt) h)
    (decimal-lacks 32 n (lit< tt) k) e in
    let names = ends-tell 44 (place_name d s p) (place_name d s q) _ _ (place_name-lacks d s p low)
    (place_name-lacks d s q high) (append_cancel_left (codes "on ") _ _ counts.1) in (
      decimal_injective m n h k counts.0,
      place_name-tells d s p q low high names.0,
      append_cancel_left (codes " ") _ _ names.1,
    )

-- a stack is not in the words of those that are off
off-no-stack : (d : Direction) (s : Side) (m n p : ℕ) (u x : List ℕ) → m < 2 ^ 64 → n < 2 ^ 64
    → off_said m ++ u ≡ stacked d s n p x → ⊥
off-no-stack d s m n p u x h k e =
    let parts = ends-tell 32 (count_text (m == 0) m) (decimal n) _ _ (count_text-lacks (m == 0) m h)
    (decimal-lacks 32 n (lit< tt) k) (sym (off-parts m u) ∙ e) in
    absurd (omega (arith, ap (λ t. slice_index_or t 1 0) parts.1))

-- a test holds or fails
either : (b : Bool) → (b ≡ true) ⊎ (b ≡ false)
either true = inl refl
either false = inr refl

-- a number is found to be 0 or not
is-none : (n : ℕ) → ((n == 0) ≡ true) ⊎ ((n == 0) ≡ false)
is-none n = either (n == 0)

-- no stack of a place is in the words of places after it
no-stack : (d : Direction) (s : Side) (f : ℕ → ℕ) → Few f → (p a n : ℕ) (m count : ℕ) (u x : List ℕ)
    → p < a → a + n ≤ 25 → m < 2 ^ 64 → count < 2 ^ 64
    → flat_map (stack d s f) (range_with_len a n) ++ (off_said m ++ u) ≡ stacked d s count p x → ⊥
no-stack d s f few p a zero m count u x before last h k e = off-no-stack d s m count p u x h k e
no-stack d s f few p a (suc n) m count u x before last h k e = elim (is-none (f a)) [
  | inl none ↦ no-stack d s f few p (a + 1) n m count u x (omega (arith, before)) (omega (arith, last)) h k
      (sym (skipped d s f a n (off_said m ++ u) none) ∙ e)
  | inr some ↦
      let parts = stacked-tells d s (f a) count a p _ x (few a) k (omega (arith, last)) (omega (arith, before, last))
      (sym (taken d s f a n (off_said m ++ u) some) ∙ e) in
      absurd (omega (arith, before, parts.1))
]

-- the counts of some places, and what follows
abbrev SameFrom : (ℕ → ℕ) → (ℕ → ℕ) → ℕ → ℕ → Type 0
SameFrom f g a n = (k : ℕ) → a ≤ k → k < a + n → f k ≡ g k

-- counts that agree at a place and at those after it agree from that place on
and-more : (f g : ℕ → ℕ) (a n : ℕ) → f a ≡ g a → SameFrom f g (a + 1) n → SameFrom f g a (suc n)
and-more f g a n here there k low high = elim (eq-or-lt_of_le low) [
  | inl same ↦ subst (λ j. f j ≡ g j) same here
  | inr less ↦ there k (omega (arith, less)) (omega (arith, high))
]

-- equal stacks, and what is off, are of the same counts, and the same follows
stacks-tell : (d : Direction) (s : Side) (f g : ℕ → ℕ) → Few f → Few g → (a n : ℕ) (m m' : ℕ) (u v : List ℕ)
    → a + n ≤ 25 → m < 2 ^ 64 → m' < 2 ^ 64
    → flat_map (stack d s f) (range_with_len a n) ++ (off_said m ++ u)
    ≡ flat_map (stack d s g) (range_with_len a n) ++ (off_said m' ++ v)
    → SameFrom f g a n × (off_said m ++ u ≡ off_said m' ++ v)
stacks-tell d s f g few few' a zero m m' u v last h k e = ((λ k low high. absurd (omega (arith, low, high))), e)
stacks-tell d s f g few few' a (suc n) m m' u v last h k e = elim (is-none (f a)) [
  | inl none ↦ elim (is-none (g a)) [
    | inl none' ↦
        let rest = stacks-tell d s f g few few' (a + 1) n m m' u v (omega (arith, last)) h k
        (sym (skipped d s f a n (off_said m ++ u) none) ∙ e ∙ skipped d s g a n (off_said m' ++ v) none') in
        (and-more f g a n (is-zero (f a) none ∙ sym (is-zero (g a) none')) rest.0, rest.1)
    | inr some' ↦
        absurd (no-stack d s f few a (a + 1) n m (g a) u _ (omega arith) (omega (arith, last)) h (few' a)
        (sym (skipped d s f a n (off_said m ++ u) none) ∙ e ∙ taken d s g a n (off_said m' ++ v) some'))
  ]
  | inr some ↦ elim (is-none (g a)) [
    | inl none' ↦
        absurd (no-stack d s g few' a (a + 1) n m' (f a) v _ (omega arith) (omega (arith, last)) k (few a)
        (sym (skipped d s g a n (off_said m' ++ v) none') ∙ sym e ∙ taken d s f a n (off_said m ++ u) some))
    | inr some' ↦
        let parts = stacked-tells d s (f a) (g a) a a _ _ (few a) (few' a) (omega (arith, last)) (omega (arith, last))
        (sym (taken d s f a n (off_said m ++ u) some) ∙ e ∙ taken d s g a n (off_said m' ++ v) some') in
        let rest = stacks-tell d s f g few few' (a + 1) n m m' u v (omega (arith, last)) h k parts.2 in
        (and-more f g a n parts.0 rest.0, rest.1)
  ]
]

-- ---- the row

-- the parts of a side's row with what follows, in a row
row-parts : (name pips on_places off u : List ℕ)
    → (name ++ (codes ", " ++ (pips ++ (codes " pips: " ++ (on_places ++ off))))) ++ u
    ≡ (name ++ codes ",") ++ (32 ∷ (pips ++ (32 ∷ (codes "pips: " ++ (on_places ++ (off ++ u))))))
row-parts name pips on_places off u =
    append_assoc name (codes ", " ++ (pips ++ (codes " pips: " ++ (on_places ++ off)))) u
    ∙ ap (λ t. name ++ (44 ∷ 32 ∷ t)) (append_assoc pips (codes " pips: " ++ (on_places ++ off)) u
    ∙ ap (λ t. pips ++ (codes " pips: " ++ t)) (append_assoc on_places off u))
    ∙ sym (append_assoc name (codes ",")
    (32 ∷ (pips ++ (32 ∷ (codes "pips: " ++ (on_places ++ (off ++ u)))))))

-- a name without a space has none with a comma either
comma-lacks : (name : List ℕ) → lacks 32 name ≡ true → lacks 32 (name ++ codes ",") ≡ true
comma-lacks name h = lacks-append 32 name (codes ",") h refl

-- equal rows of a side are of the same checkers, and the same follows
pub side-tells : (d : Direction) (s : Side) (name name' : List ℕ) (pips pips' : ℕ) (f g : ℕ → ℕ) (u v : List ℕ)
    → lacks 32 name ≡ true → lacks 32 name' ≡ true → pips < 2 ^ 64 → pips' < 2 ^ 64 → Few f → Few g
    → side_row name pips d s f ++ u ≡ side_row name' pips' d s g ++ v
    → (name ≡ name') × ((k : ℕ) → k ≤ 25 → f k ≡ g k) × (u ≡ v)
unfolding side_row stacks
side-tells d s name name' pips pips' f g u v h h' low low' few few' e =
    let on_f = stacks d s f 25 in
    let on_g = stacks d s g 25 in
    let left = row-parts name (decimal pips) on_f (off_said (f 25)) u in
    let right = row-parts name' (decimal pips') on_g (off_said (g 25)) v in
    let names = ends-tell 32 (name ++ codes ",") (name' ++ codes ",") _ _ (comma-lacks name h) (comma-lacks name' h')
    (sym left ∙ e ∙ right) in
    let counts = ends-tell 32 (decimal pips) (decimal pips') _ _ (decimal-lacks 32 pips (lit< tt) low)
    (decimal-lacks 32 pips' (lit< tt) low') names.1 in
    let places = stacks-tell d s f g few few' 0 25 (f 25) (g 25) u v (omega arith) (few 25) (few' 25)
    (append_cancel_left (codes "pips: ") _ _ counts.1) in
    let off = off-tells (f 25) (g 25) u v (few 25) (few' 25) places.1 in (
      append_cancel_right name name' (codes ",") names.0,
      λ k most. elim (eq-or-lt_of_le most) [
        | inl same ↦ subst (λ j. f j ≡ g j) (sym same) off.0
        | inr less ↦ places.0 k (omega arith) (omega (arith, less))
      ],
      off.1,
    )
