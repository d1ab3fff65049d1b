-- What the words of a text say first, as a loop over them finds it.
use Rattle.std.proofs.Common.{◌≡◌, ◌∙◌, ℕ, ◌+◌, Bool, true, false, List, [], ◌∷◌, ◌++◌, map, length, drop, Option, Some, None, Bor, slice_get, filter_map, if◌then◌else◌, refl, sym, ap, append-nil, take-append-drop}
use Rattle.std.specs.Iterator.{Yields}
use Rattle.std.specs.List.{cons_option}
use Rattle.std.proofs.lemmas.Iterator.{YieldsList}
use Rattle.std.proofs.lemmas.Iterator.Consumers.{YieldsList-so_far, YieldsList-turn}
use Rattle.std.proofs.lemmas.List.{drop_more}
use Rattle.fibs_events.specs.Texts.{behind, first_said}

-- the words at which a loop looks: the first one if `looks` says so, and each behind one of a kind
abbrev pub looked_at : (List ℕ → Bool) → Bool → List (List ℕ) → List (List ℕ)
looked_at is looks [] = []
looked_at is looks (word ∷ others) =
    if looks then word ∷ looked_at is (is word) others else looked_at is (is word) others

-- those are the words behind one of the kind
pub looked_behind : (is : List ℕ → Bool) (word : List ℕ) (others : List (List ℕ))
    → looked_at is (is word) others ≡ behind is (word ∷ others)
looked_behind is word [] = refl
looked_behind is word (next ∷ others) =
    ap (λ later. if is word then next ∷ later else later) (looked_behind is next others)

-- at each word a loop looks if each is of the kind
pub each_looked_at : (some : List (List ℕ)) → looked_at (λ word. true) true some ≡ some
each_looked_at [] = refl
each_looked_at (word ∷ others) = ap (λ later. word ∷ later) (each_looked_at others)

-- words that were lent
abbrev pub lent : List (Bor (List ℕ)) → List (List ℕ)
lent some = map (λ (word : Bor (List ℕ)). word.now) some

-- whatever words are left, they say what all say
abbrev pub SaysSame : {X : Type 0} → (List ℕ → Option X) → (List ℕ → Bool) → Bool → Bool → List (Bor (List ℕ))
    → Type 0
SaysSame said is first looks so_far =
    (left : List (List ℕ))
    → first_said said (looked_at is looks left) ≡ first_said said (looked_at is first (lent so_far ++ left))

-- a word that says nothing, or at which the loop does not look, is passed
passed : {X : Type 0} (said : List ℕ → Option X) (is : List ℕ → Bool) (looks : Bool) (word : List ℕ)
    (left : List (List ℕ)) → (looks ≡ true → said word ≡ None)
    → first_said said (looked_at is looks (word ∷ left)) ≡ first_said said (looked_at is (is word) left)
passed said is false word left nothing = refl
passed said is true word left nothing =
    ap (λ o. slice_get (cons_option o (filter_map said (looked_at is (is word) left))) 0) (nothing refl)

-- a word more was lent
one_more : (so_far : List (Bor (List ℕ))) (word : Bor (List ℕ)) (left : List (List ℕ))
    → lent (so_far ++ word ∷ []) ++ left ≡ lent so_far ++ word.now ∷ left
one_more [] word left = refl
one_more (w ∷ ws) word left = ap (λ l. w.now ∷ l) (one_more ws word left)

-- the loop goes on with the words that are left
pub goes_on : {X : Type 0} (said : List ℕ → Option X) (is : List ℕ → Bool) (first looks next : Bool)
    (so_far : List (Bor (List ℕ))) (word : Bor (List ℕ)) → (looks ≡ true → said word.now ≡ None)
    → next ≡ is word.now → SaysSame said is first looks so_far → SaysSame said is first next (so_far ++ word ∷ [])
goes_on said is first looks next so_far word nothing kind same left =
    ap (λ b. first_said said (looked_at is b left)) kind
    ∙ sym (passed said is looks word.now left nothing)
    ∙ same (word.now ∷ left)
    ∙ ap (λ ws. first_said said (looked_at is first ws)) (sym (one_more so_far word left))

-- a word that says something at which the loop looks
pub found_there : {X : Type 0} (said : List ℕ → Option X) (is : List ℕ → Bool) (first looks : Bool)
    (so_far : List (Bor (List ℕ))) (word : List ℕ) (left all : List (List ℕ)) (x : X) → looks ≡ true
    → said word ≡ Some x → all ≡ lent so_far ++ word ∷ left → SaysSame said is first looks so_far
    → first_said said (looked_at is first all) ≡ Some x
found_there said is first looks so_far word left all x looking says is_all same =
    ap (λ ws. first_said said (looked_at is first ws)) is_all
    ∙ sym (same (word ∷ left))
    ∙ ap (λ b. first_said said (looked_at is b (word ∷ left))) looking
    ∙ ap (λ o. slice_get (cons_option o (filter_map said (looked_at is (is word) left))) 0) says

-- no word is left
pub found_nowhere : {X : Type 0} (said : List ℕ → Option X) (is : List ℕ → Bool) (first looks : Bool)
    (so_far : List (Bor (List ℕ))) (all : List (List ℕ)) → lent so_far ≡ all → SaysSame said is first looks so_far
    → first_said said (looked_at is first all) ≡ None
found_nowhere said is first looks so_far all is_all same =
    ap (λ ws. first_said said (looked_at is first ws)) (sym is_all ∙ sym (append-nil (lent so_far)))
    ∙ sym (same [])

-- a list of words that a loop goes through
module _ {S : Type 0} {steps : S → Option (Bor (List ℕ)) → S → Type 0} {s : S} {all : List (List ℕ)} where
  -- the words so far, the next one, and those that are left are all
  pub parted : YieldsList steps (λ (w : Bor (List ℕ)). w.now) s all → (so_far : List (Bor (List ℕ))) (t : S)
      → Yields steps s so_far t → (r : Option (Bor (List ℕ))) (u : S) (word : Bor (List ℕ)) → r ≡ Some word
      → steps t r u → all ≡ lent so_far ++ word.now ∷ drop (length so_far + 1) all
  parted road so_far t yielded r u word is step =
      let n = length so_far in
      let front = YieldsList-so_far road so_far t yielded in
      let turn = YieldsList-turn road so_far t yielded r u word is step in
      sym (take-append-drop n all)
      ∙ ap (λ l. l ++ drop n all) (sym front)
      ∙ ap (λ l. lent so_far ++ l) (drop_more all n word.now turn.0)
      ∙ ap (λ w. lent so_far ++ w ∷ drop (n + 1) all) (sym turn.1)

-- the same where the loop does not look at the first word
pub looked_later : (is : List ℕ → Bool) (some : List (List ℕ)) → looked_at is false some ≡ behind is some
looked_later is [] = refl
looked_later is (word ∷ others) = looked_behind is word others
