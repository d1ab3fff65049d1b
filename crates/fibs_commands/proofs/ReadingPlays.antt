-- How a play is read, word by word.
use Rattle.std.proofs.Common.{◌≡◌, ℕ, suc, ◌+◌, ◌<◌, ◌≤◌, Bool, true, false, cond, nat_le, nat_lt, IsTrue, true≢false, List, [], ◌∷◌, ◌++◌, length, Option, Some, None, option_map, refl, ap, sym, ◌∙◌, arith, append_assoc, append-nil, length-append}
use Rattle.std.proofs.lemmas.Bool.Decides.{nat_tests}
use Rattle.fibs_fields.specs.Split.{before, after}
use Rattle.fibs_rules.specs.Hop.{Hop}
use Rattle.fibs_position.specs.declared.direction.Direction.{Direction}
use Rattle.fibs_commands.specs.CommandReading.{step_in, steps_in, play_from, words_after}
use Rattle.fibs_commands.proofs.SplitLemmas.{words_of, left_len, after_shorter}

-- a word that is no step ends the reading
stops : (direction : Direction) (played : List Hop) (word : List ℕ) (words : List (List ℕ))
    → step_in direction word ≡ None → play_from direction played (word ∷ words) ≡ None
unfolding play_from
stops direction played word words e = rw e (neither (nat_le (length played + length (word ∷ words)) 4) None)
  where
    neither : (b : Bool) (steps : Option (List Hop)) → cond b steps steps ≡ steps
    neither true steps = refl
    neither false steps = refl

-- so does a fifth step
full : (direction : Direction) (played : List Hop) (word : List ℕ) (words : List (List ℕ))
    → 4 ≤ length played → play_from direction played (word ∷ words) ≡ None
unfolding play_from
full direction played word words many =
    let over : nat_le (length played + length (word ∷ words)) 4 ≡ false = grind (arith, nat_tests) in
    ap (λ b. cond b (option_map (λ later. played ++ later) (steps_in direction (word ∷ words))) None) over

-- each step goes after those before
later_steps : (played : List Hop) (step : Hop) (steps : Option (List Hop))
    → option_map (λ later. played ++ later) (option_map (λ later. step ∷ later) steps)
    ≡ option_map (λ later. (played ++ step ∷ []) ++ later) steps
later_steps played step None = refl
later_steps played step (Some steps) = ap Some (sym (append_assoc played (step ∷ []) steps))

-- a step goes after the steps before
goes_on : (direction : Direction) (played : List Hop) (step : Hop) (word : List ℕ) (words : List (List ℕ))
    → step_in direction word ≡ Some step
    → play_from direction played (word ∷ words) ≡ play_from direction (played ++ step ∷ []) words
unfolding play_from
goes_on direction played step word words e =
    let many : length played + suc (length words) ≡ length (played ++ step ∷ []) + length words =
    omega (arith, length-append played (step ∷ [])) in
    rw (e, many) (ap (λ r. cond (nat_le (length (played ++ step ∷ []) + length words) 4) r None)
    (later_steps played step (steps_in direction words)))

-- if no word is left, the play is read
ended : (direction : Direction) (played : List Hop) → length played ≤ 4 → play_from direction played [] ≡ Some played
unfolding play_from
ended direction played few =
    let within : nat_le (length played + 0) 4 ≡ true = grind (arith, nat_tests) in
    ap (λ b. cond b (Some (played ++ [])) None) within ∙ ap Some (append-nil played)

-- the four ends of the loop

-- the loop ends at a word that is no step
pub no_step : (direction : Direction) (played : List Hop) (all : Option (List Hop)) (o : Option (List ℕ))
    (text word : List ℕ)
    → o ≡ Some text → word ≡ before 32 text → step_in direction word ≡ None
    → all ≡ play_from direction played (words_after o) → all ≡ None
no_step direction played all o text word is w e h =
    h ∙ ap (λ x. play_from direction played (words_after x)) is ∙ ap (play_from direction played) (words_of text)
    ∙ stops direction played (before 32 text) (words_after (after 32 text)) (ap (step_in direction) (sym w) ∙ e)

-- it ends at a fifth step
pub no_room : (direction : Direction) (played : List Hop) (all : Option (List Hop)) (o : Option (List ℕ))
    (text : List ℕ)
    → o ≡ Some text → 4 ≤ length played
    → all ≡ play_from direction played (words_after o) → all ≡ None
no_room direction played all o text is many h =
    h ∙ ap (λ x. play_from direction played (words_after x)) is ∙ ap (play_from direction played) (words_of text)
    ∙ full direction played (before 32 text) (words_after (after 32 text)) many

-- it goes on by one more step
pub one_more : (direction : Direction) (played later : List Hop) (step : Hop) (all : Option (List Hop))
    (o p : Option (List ℕ)) (text word : List ℕ)
    → o ≡ Some text → word ≡ before 32 text → p ≡ after 32 text → step_in direction word ≡ Some step
    → later ≡ played ++ step ∷ []
    → all ≡ play_from direction played (words_after o) → all ≡ play_from direction later (words_after p)
one_more direction played later step all o p text word is w a e l h =
    h ∙ ap (λ x. play_from direction played (words_after x)) is ∙ ap (play_from direction played) (words_of text)
    ∙ goes_on direction played step (before 32 text) (words_after (after 32 text)) (ap (step_in direction) (sym w) ∙ e)
    ∙ ap (λ x. play_from direction x (words_after (after 32 text))) (sym l)
    ∙ ap (λ x. play_from direction later (words_after x)) (sym a)

-- it ends with the play if no word is left
pub none_left : (direction : Direction) (played : List Hop) (all : Option (List Hop)) (o : Option (List ℕ))
    → o ≡ None → length played ≤ 4
    → all ≡ play_from direction played (words_after o) → all ≡ Some played
none_left direction played all o is few h =
    h ∙ ap (λ x. play_from direction played (words_after x)) is ∙ ended direction played few

-- less is left after a word
pub less_left : (o p : Option (List ℕ)) (text : List ℕ) → o ≡ Some text → p ≡ after 32 text → left_len p < left_len o
less_left o p text is a = omega (arith, ap left_len is, ap left_len a, after_shorter 32 text)

-- a play that takes no step has four
pub was_full : (taken : Bool) (n : ℕ) → (n < 4 → IsTrue taken) → taken ≡ false → 4 ≤ n
was_full taken n room e = go (nat_lt n 4) refl
  where
    go : (t : Bool) → nat_lt n 4 ≡ t → 4 ≤ n
    go true t = absurd (true≢false (sym (room (grind (arith, nat_tests))) ∙ e))
    go false t = grind (arith, nat_tests)
