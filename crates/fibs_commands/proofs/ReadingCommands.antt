-- A text is read as a decision exactly if it is the command of that one.
use Rattle.std.proofs.Common.{◌≡◌, ◌≢◌, ℕ, ◌+◌, ◌^◌, ◌<◌, ◌≤◌, ◌==◌, ◌&&◌, ◌↔◌, Bool, true, false, cond, nat_le, nat_lt, List, [], ◌∷◌, ◌++◌, length, map, codes, decimal, Option, Some, None, option_map, refl, ap, sym, ◌∙◌, subst, arith, append_assoc, append-nil}
use Rattle.std.specs.Prelude.{All}
use Rattle.std.specs.List.{flat_map, join_with_byte}
use Rattle.std.specs.Str.{bytes_eq}
use Rattle.std.proofs.lemmas.Bool.{and_parts}
use Rattle.std.proofs.lemmas.Bool.Decides.{nat_tests}
use Rattle.std.proofs.lemmas.List.{length-map}
use Rattle.std.proofs.lemmas.List.Elements.{All-head, All-tail, All-nil, All-cons, All-from_recursion}
use Rattle.std.proofs.lemmas.List.Splits.{join_with_byte-slice_split}
use Rattle.std.proofs.lemmas.Slice.Eq.{bytes_eq-Decides}
use Rattle.fibs_fields.specs.Decimal.{decimal_up_to}
use Rattle.fibs_fields.specs.Split.{before, after}
use Rattle.fibs_rules.specs.Hop.{Hop, IsStep}
use Rattle.fibs_position.specs.DirectionOf.{line_place}
use Rattle.fibs_position.specs.DecisionValue.{DecisionValue, roll, double, accept, reject, move, resign, IsDecision}
use Rattle.fibs_position.specs.declared.direction.Direction.{Direction}
use Rattle.fibs_position.specs.declared.direction.Direction.TheVariants.{Down, Up}
use Rattle.fibs_position.specs.declared.stake.Stake.{Stake}
use Rattle.fibs_position.specs.declared.stake.Stake.TheVariants.{Normal, Gammon, Backgammon}
use Rattle.fibs_commands.specs.Commands.{place_text, step_text, steps_text, stake_text, command_of}
use Rattle.fibs_commands.specs.CommandReading.{ReadCommand, numbered_place, place_in, place_after, step_between, step_in, step_then, steps_in, play_from, words_after, stake_in, stake_after, turn_in, turn_alone, decision_in, read_command}
use Rattle.fibs_commands.specs.CommandLaws.{ReadCommandIsExact}
use Rattle.fibs_commands.proofs.PlaceLemmas.{place_cases, on_bar, borne_off, numbered, place_number, word_differs}
use Rattle.fibs_commands.proofs.StepLemmas.{place_no_dash, step_no_space}
use Rattle.fibs_commands.proofs.SplitLemmas.{from, before_and_from, split_there, words_of}

-- what fibs_fields says of the numbers up to a limit
abbrev pub DecimalsAreExact : Type 0
DecimalsAreExact =
    (limit n : ℕ) → (text : List ℕ) → limit < 2 ^ 64
    → (decimal_up_to limit text ≡ Some n) ↔ ((text ≡ decimal n) × (n ≤ limit))

-- places

-- a place's number has it as its number
line_place_back : (direction : Direction) (n : ℕ) → n ≤ 25 → line_place direction (line_place direction n) ≡ n
line_place_back Down n le = refl
line_place_back Up n le = omega arith

-- a place inside has a number inside
line_place_inside : (direction : Direction) (n : ℕ) → 0 < n → n ≤ 24
    → (0 < line_place direction n) × (line_place direction n ≤ 24)
line_place_inside Down n low high = (low, high)
line_place_inside Up n low high = (omega arith, omega arith)

-- the text is the name of the place
abbrev Named : Direction → List ℕ → ℕ → Type 0
Named direction name p = (p ≤ 25) × (name ≡ place_text direction p)

-- a number is the name of a place
named_number : (direction : Direction) (name : List ℕ) (n p : ℕ) → name ≡ decimal n → 0 < n → n ≤ 24
    → line_place direction n ≡ p → Named direction name p
named_number direction name n p is low high e =
    let inside = line_place_inside direction n low high in
    let first : 0 < line_place direction n = inside.0 in
    let last : line_place direction n ≤ 24 = inside.1 in
    let text : place_text direction p ≡ decimal (line_place direction p) =
    place_number direction p (λ h. omega arith) (λ h. omega arith) in
    let back : line_place direction p ≡ n =
    ap (line_place direction) (sym e) ∙ line_place_back direction n (omega arith) in
    (omega arith, is ∙ ap decimal (sym back) ∙ sym text)

-- a number that names a place
number_reads : DecimalsAreExact → (direction : Direction) (name : List ℕ) (p : ℕ) (o : Option ℕ)
    → decimal_up_to 24 name ≡ o → numbered_place direction o ≡ Some p → Named direction name p
number_reads decimals direction name p None e h = absurd cc
number_reads decimals direction name p (Some n) e h = go (n == 0) refl h
  where
    is : (name ≡ decimal n) × (n ≤ 24)
    is = (decimals 24 n name (omega arith)).0 e

    go : (b : Bool) → (n == 0) ≡ b → cond b None (Some (line_place direction n)) ≡ Some p → Named direction name p
    go true t f = absurd cc
    go false t f = named_number direction name n p is.0 (grind (arith, nat_tests)) is.1 (cc)

-- what is read as a place is its name
place_reads : DecimalsAreExact → (direction : Direction) (name : List ℕ) (p : ℕ) → place_in direction name ≡ Some p
    → Named direction name p
unfolding place_in
place_reads decimals direction name p h = first (bytes_eq name (codes "bar")) refl h
  where
    second : (b : Bool) → bytes_eq name (codes "off") ≡ b
        → cond b (Some 0) (numbered_place direction (decimal_up_to 24 name)) ≡ Some p → Named direction name p
    second true t f =
        let e : 0 ≡ p = cc in (omega arith, (bytes_eq-Decides name (codes "off")).0 t ∙ ap (place_text direction) e)
    second false t f = number_reads decimals direction name p (decimal_up_to 24 name) refl f

    first : (b : Bool) → bytes_eq name (codes "bar") ≡ b
        → cond b (Some 25) (cond (bytes_eq name (codes "off")) (Some 0)
        (numbered_place direction (decimal_up_to 24 name))) ≡ Some p → Named direction name p
    first true t f =
        let e : 25 ≡ p = cc in (omega arith, (bytes_eq-Decides name (codes "bar")).0 t ∙ ap (place_text direction) e)
    first false t f = second (bytes_eq name (codes "off")) refl f

-- texts that differ are tested so
differs : (a b : List ℕ) → a ≢ b → bytes_eq a b ≡ false
differs a b n = go (bytes_eq a b) refl
  where
    go : (t : Bool) → bytes_eq a b ≡ t → bytes_eq a b ≡ false
    go true e = absurd (n ((bytes_eq-Decides a b).0 e))
    go false e = e

-- the number of a place is read as that place
numbered_named : DecimalsAreExact → (direction : Direction) (k : ℕ) → 0 < k → k ≤ 24
    → place_in direction (decimal k) ≡ Some (line_place direction k)
unfolding place_in
numbered_named decimals direction k low high =
    let bar : bytes_eq (decimal k) (codes "bar") ≡ false =
    differs (decimal k) (codes "bar") (λ e. word_differs 98 _ k (omega arith) (omega arith) (sym e)) in
    let off : bytes_eq (decimal k) (codes "off") ≡ false =
    differs (decimal k) (codes "off") (λ e. word_differs 111 _ k (omega arith) (omega arith) (sym e)) in
    let some : (k == 0) ≡ false = grind (arith, nat_tests) in
    let is : decimal_up_to 24 (decimal k) ≡ Some k = (decimals 24 k (decimal k) (omega arith)).1 (refl, high) in
    rw (bar, off, is, some) refl

-- each place is read by its name
place_named : DecimalsAreExact → (direction : Direction) (p : ℕ) → p ≤ 25
    → place_in direction (place_text direction p) ≡ Some p
unfolding place_in
place_named decimals direction p le = elim (place_cases direction p le) [
  | on_bar is text ↦ ap (place_in direction) text ∙ ap Some (sym is)
  | borne_off is text ↦ ap (place_in direction) text ∙ ap Some (sym is)
  | numbered low high text ↦
      let inside = line_place_inside direction p low (omega arith) in
      ap (place_in direction) text ∙ numbered_named decimals direction (line_place direction p) inside.0 inside.1
      ∙ ap Some (line_place_back direction p le)
]

-- steps

-- the word is the text of the step
abbrev IsStepOf : Direction → List ℕ → Hop → Type 0
IsStepOf direction word step = IsStep step × (word ≡ step_text direction step)

-- two names around a dash
around_dash : (word first last a b : List ℕ) → word ≡ first ++ 45 ∷ last → first ≡ a → last ≡ b
    → word ≡ (a ++ 45 ∷ []) ++ b
around_dash word first last a b w f l =
    w ∙ ap (λ x. x ++ 45 ∷ last) f ∙ ap (λ x. a ++ 45 ∷ x) l ∙ sym (append_assoc a (45 ∷ []) b)

-- what is read as a step is its text
step_reads : DecimalsAreExact → (direction : Direction) (word : List ℕ) (step : Hop)
    → step_in direction word ≡ Some step → IsStepOf direction word step
unfolding step_in
step_reads decimals direction word step h = go (place_in direction (before 45 word)) refl (after 45 word) refl h
  where
    tested : (a b : ℕ) (last : List ℕ) → place_in direction (before 45 word) ≡ Some a → after 45 word ≡ Some last
        → place_in direction last ≡ Some b
        → (t : Bool) → (nat_lt 0 a && nat_le b 24) ≡ t
        → cond t (Some (record { source = a; target = b })) None ≡ Some step → IsStepOf direction word step
    tested a b last s o e true t f =
        let source = place_reads decimals direction (before 45 word) a s in
        let target = place_reads decimals direction last b e in
        let tests = and_parts (nat_lt 0 a) (nat_le b 24) t in
        let some = tests.0 in
        let few = tests.1 in
        let made : Hop = record { source = a; target = b } in
        let same : made ≡ step = cc in
        let valid : IsStep made = (grind (arith, nat_tests), source.0, grind (arith, nat_tests)) in
        subst (IsStepOf direction word) same (
          valid,
          around_dash word (before 45 word) last (place_text direction a) (place_text direction b)
              (before_and_from 45 word ∙ ap (λ x. before 45 word ++ from 45 x) o) source.1 target.1,
        )
    tested a b last s o e false t f = absurd cc

    ends : (a : ℕ) (last : List ℕ) → place_in direction (before 45 word) ≡ Some a → after 45 word ≡ Some last
        → (t : Option ℕ) → place_in direction last ≡ t → step_between (Some a) t ≡ Some step
        → IsStepOf direction word step
    ends a last s o None e f = absurd cc
    ends a last s o (Some b) e f = tested a b last s o e (nat_lt 0 a && nat_le b 24) refl f

    go : (s : Option ℕ) → place_in direction (before 45 word) ≡ s → (o : Option (List ℕ)) → after 45 word ≡ o
        → step_between s (place_after direction o) ≡ Some step → IsStepOf direction word step
    go None e o k f = absurd cc
    go (Some a) e None k f = absurd cc
    go (Some a) e (Some last) k f = ends a last e k (place_in direction last) refl f

-- each step is read by its text
step_named : DecimalsAreExact → (direction : Direction) (step : Hop) → IsStep step
    → step_in direction (step_text direction step) ≡ Some step
unfolding step_in
step_named decimals direction step is =
    let a : List ℕ = place_text direction step.source in
    let b : List ℕ = place_text direction step.target in
    let apart = split_there 45 a (Some b) (place_no_dash direction step.source is.1) in
    let whole : (a ++ 45 ∷ []) ++ b ≡ a ++ 45 ∷ b = append_assoc a (45 ∷ []) b in
    let tests : (nat_lt 0 step.source && nat_le step.target 24) ≡ true = both step.source step.target is.0 is.2 in
    ap (step_in direction) whole
    ∙ ap (λ x. step_between (place_in direction x) (place_after direction (after 45 (a ++ 45 ∷ b)))) apart.0
    ∙ ap (λ x. step_between (place_in direction a) (place_after direction x)) apart.1
    ∙ ap (λ x. step_between x (place_in direction b)) (place_named decimals direction step.source is.1)
    ∙ ap (λ x. step_between (Some step.source) x) (place_named decimals direction step.target (omega arith))
    ∙ ap (λ t. cond t (Some step) None) tests
  where
    both : (s t : ℕ) → 0 < s → t ≤ 24 → (nat_lt 0 s && nat_le t 24) ≡ true
    both s t low high = grind (arith, nat_tests)

-- the steps of words

-- the words are the texts of the steps
abbrev AreSteps : Direction → List (List ℕ) → List Hop → Type 0
AreSteps direction words steps = All IsStep steps × (words ≡ map (step_text direction) steps)

-- what is read as steps is their texts
steps_read : DecimalsAreExact → (direction : Direction) (words : List (List ℕ)) (steps : List Hop)
    → steps_in direction words ≡ Some steps → AreSteps direction words steps
steps_read decimals direction [] steps h =
    let none : [] ≡ steps = cc in
    subst (AreSteps direction []) none (All-nil IsStep, refl)
steps_read decimals direction (word ∷ words) steps h =
    go (λ later e. steps_read decimals direction words later e) (step_in direction word) refl (steps_in direction words)
    refl h
  where
    go : ((later : List Hop) → steps_in direction words ≡ Some later → AreSteps direction words later)
        → (s : Option Hop) → step_in direction word ≡ s → (r : Option (List Hop)) → steps_in direction words ≡ r
        → step_then s r ≡ Some steps → AreSteps direction (word ∷ words) steps
    go more None e r k f = absurd cc
    go more (Some step) e None k f = absurd cc
    go more (Some step) e (Some later) k f =
        let first = step_reads decimals direction word step e in
        let rest = more later k in
        let all : step ∷ later ≡ steps = cc in
        let word_is : word ≡ step_text direction step = first.1 in
        let words_are : words ≡ map (step_text direction) later = rest.1 in
        subst (AreSteps direction (word ∷ words)) all (All-cons IsStep step later first.0 rest.0, cc)

-- steps are read by their texts
steps_named : DecimalsAreExact → (direction : Direction) (steps : List Hop) → All IsStep steps
    → steps_in direction (map (step_text direction) steps) ≡ Some steps
steps_named decimals direction [] is = refl
steps_named decimals direction (step ∷ steps) is =
    rw (
      step_named decimals direction step (All-head IsStep step steps is),
      steps_named decimals direction steps (All-tail IsStep step steps is),
    ) refl

-- words and their text

-- some words, each after a space
abbrev spaced : List (List ℕ) → List ℕ
spaced = flat_map (λ word. 32 ∷ word)

-- words after spaces are words joined by spaces
joined : (word : List ℕ) (words : List (List ℕ)) → 32 ∷ join_with_byte 32 (word ∷ words) ≡ spaced (word ∷ words)
joined word [] = ap (λ x. 32 ∷ x) (sym (append-nil word))
joined word (next ∷ words) = ap (λ x. 32 ∷ (word ++ x)) (joined next words)

-- what follows a text's first word is its other words, each after a space
from_words : (o : Option (List ℕ)) → from 32 o ≡ spaced (words_after o)
from_words None = refl
from_words (Some s) =
    let words = words_of s in
    ap (λ x. 32 ∷ x) (sym (join_with_byte-slice_split 32 s)) ∙ ap (λ x. 32 ∷ join_with_byte 32 x) words
    ∙ joined (before 32 s) (words_after (after 32 s)) ∙ ap spaced (sym words)

-- steps as words
spaced_steps : (direction : Direction) (steps : List Hop)
    → spaced (map (step_text direction) steps) ≡ steps_text direction steps
spaced_steps direction [] = refl
spaced_steps direction (step ∷ steps) = ap (λ x. 32 ∷ (step_text direction step ++ x)) (spaced_steps direction steps)

-- a text whose other words are the steps
record Behind (direction : Direction) (steps : List Hop) : Type 0 where
  rest : Option (List ℕ)
  text : from 32 rest ≡ steps_text direction steps
  words : words_after rest ≡ map (step_text direction) steps

-- the words of steps
behind : (direction : Direction) (steps : List Hop) → All IsStep steps → Behind direction steps
behind direction [] is = record { rest = None; text = refl; words = refl }
behind direction (step ∷ steps) is =
    let later = behind direction steps (All-tail IsStep step steps is) in
    let word : List ℕ = step_text direction step in
    let apart = split_there 32 word later.rest (step_no_space direction step (All-head IsStep step steps is)) in
    record {
      rest = Some (word ++ from 32 later.rest);
      text = ap (λ x. 32 ∷ (word ++ x)) later.text;
      words =
          words_of (word ++ from 32 later.rest)
          ∙ ap (λ x. x ∷ words_after (after 32 (word ++ from 32 later.rest))) apart.0
          ∙ ap (λ x. word ∷ words_after x) apart.1 ∙ ap (λ x. word ∷ x) later.words;
    }

-- decisions

-- what is read as a word is that word
turn_reads : (direction : Direction) (word : List ℕ) (d : DecisionValue) → turn_in word ≡ Some d
    → IsDecision d × (word ≡ command_of direction d)
unfolding turn_in command_of
turn_reads direction word d h = one (bytes_eq word (codes "roll")) refl h
  where
    is : (text : List ℕ) (e : DecisionValue) → bytes_eq word text ≡ true → IsDecision e → text ≡ command_of direction e
        → e ≡ d → IsDecision d × (word ≡ command_of direction d)
    is text e t valid command same =
        subst (λ x. IsDecision x × (word ≡ command_of direction x)) same
        (valid, (bytes_eq-Decides word text).0 t ∙ command)

    four : (t : Bool) → bytes_eq word (codes "reject") ≡ t → cond t (Some reject) None ≡ Some d
        → IsDecision d × (word ≡ command_of direction d)
    four true t f = is (codes "reject") reject t tt refl (cc)
    four false t f = absurd cc

    three : (t : Bool) → bytes_eq word (codes "accept") ≡ t
        → cond t (Some accept) (cond (bytes_eq word (codes "reject")) (Some reject) None) ≡ Some d
        → IsDecision d × (word ≡ command_of direction d)
    three true t f = is (codes "accept") accept t tt refl (cc)
    three false t f = four (bytes_eq word (codes "reject")) refl f

    two : (t : Bool) → bytes_eq word (codes "double") ≡ t
        → cond t (Some double) (cond (bytes_eq word (codes "accept")) (Some accept)
        (cond (bytes_eq word (codes "reject")) (Some reject) None)) ≡ Some d
        → IsDecision d × (word ≡ command_of direction d)
    two true t f = is (codes "double") double t tt refl (cc)
    two false t f = three (bytes_eq word (codes "accept")) refl f

    one : (t : Bool) → bytes_eq word (codes "roll") ≡ t
        → cond t (Some roll) (cond (bytes_eq word (codes "double")) (Some double)
        (cond (bytes_eq word (codes "accept")) (Some accept)
        (cond (bytes_eq word (codes "reject")) (Some reject) None))) ≡ Some d
        → IsDecision d × (word ≡ command_of direction d)
    one true t f = is (codes "roll") roll t tt refl (cc)
    one false t f = two (bytes_eq word (codes "double")) refl f

-- what is read as a stake is its letter
stake_reads : (letter : List ℕ) (stake : Stake) → stake_in letter ≡ Some stake → letter ≡ stake_text stake
unfolding stake_in
stake_reads letter stake h = one (bytes_eq letter (codes "n")) refl h
  where
    is : (text : List ℕ) (s : Stake) → bytes_eq letter text ≡ true → text ≡ stake_text s → s ≡ stake
        → letter ≡ stake_text stake
    is text s t of_it same = (bytes_eq-Decides letter text).0 t ∙ of_it ∙ ap stake_text same

    three : (t : Bool) → bytes_eq letter (codes "b") ≡ t → cond t (Some Backgammon) None ≡ Some stake
        → letter ≡ stake_text stake
    three true t f = is (codes "b") Backgammon t refl (cc)
    three false t f = absurd cc

    two : (t : Bool) → bytes_eq letter (codes "g") ≡ t
        → cond t (Some Gammon) (cond (bytes_eq letter (codes "b")) (Some Backgammon) None) ≡ Some stake
        → letter ≡ stake_text stake
    two true t f = is (codes "g") Gammon t refl (cc)
    two false t f = three (bytes_eq letter (codes "b")) refl f

    one : (t : Bool) → bytes_eq letter (codes "n") ≡ t
        → cond t (Some Normal) (cond (bytes_eq letter (codes "g")) (Some Gammon)
        (cond (bytes_eq letter (codes "b")) (Some Backgammon) None)) ≡ Some stake
        → letter ≡ stake_text stake
    one true t f = is (codes "n") Normal t refl (cc)
    one false t f = two (bytes_eq letter (codes "g")) refl f

-- the text of a resignation by its letter
resign_text : (direction : Direction) (text word : List ℕ) (o : Option (List ℕ)) (stake : Stake)
    → text ≡ word ++ from 32 o → word ≡ codes "resign" → stake_after o ≡ Some stake
    → text ≡ command_of direction (resign stake)
unfolding command_of
resign_text direction text word None stake t w e = absurd cc
resign_text direction text word (Some letter) stake t w e =
    t ∙ ap (λ x. x ++ 32 ∷ letter) w ∙ ap (λ x. codes "resign " ++ x) (stake_reads letter stake e)

-- the text of a play by its words
play_text : (direction : Direction) (text word : List ℕ) (o : Option (List ℕ)) (steps : List Hop)
    → text ≡ word ++ from 32 o → word ≡ codes "move" → words_after o ≡ map (step_text direction) steps
    → text ≡ command_of direction (move steps)
unfolding command_of
play_text direction text word o steps t w e =
    t ∙ ap (λ x. x ++ from 32 o) w
    ∙ ap (λ x. codes "move" ++ x) (from_words o ∙ ap spaced e ∙ spaced_steps direction steps)

-- what is read as a play is its words
play_reads : DecimalsAreExact → (direction : Direction) (words : List (List ℕ)) (d : DecisionValue)
    → option_map (λ steps. move steps) (play_from direction [] words) ≡ Some d
    → (steps : List Hop) × (move steps ≡ d) × (length words ≤ 4) × AreSteps direction words steps
unfolding play_from
play_reads decimals direction words d h = go (nat_le (0 + length words) 4) refl (steps_in direction words) refl h
  where
    go : (t : Bool) → nat_le (0 + length words) 4 ≡ t → (r : Option (List Hop)) → steps_in direction words ≡ r
        → option_map (λ steps. move steps) (cond t (option_map (λ later. [] ++ later) r) None) ≡ Some d
        → (steps : List Hop) × (move steps ≡ d) × (length words ≤ 4) × AreSteps direction words steps
    go true t None e f = absurd cc
    go true t (Some steps) e f = (steps, cc, grind (arith, nat_tests), steps_read decimals direction words steps e)
    go false t r e f = absurd cc

-- what is read as a decision is its command
command_reads : DecimalsAreExact → (direction : Direction) (text : List ℕ) (d : DecisionValue)
    → read_command direction text ≡ Some d → ReadCommand text direction d
unfolding read_command decision_in
command_reads decimals direction text d h = go (bytes_eq (before 32 text) (codes "move")) refl h
  where
    word : List ℕ
    word = before 32 text

    alone : (o : Option (List ℕ)) → after 32 text ≡ o → turn_alone (before 32 text) o ≡ Some d
        → ReadCommand text direction d
    alone None nothing f =
        let turn = turn_reads direction (before 32 text) d f in
        record {
          valid =
              turn.0;
          text_is =
              before_and_from 32 text ∙ ap (λ x. before 32 text ++ from 32 x) nothing ∙ append-nil (before 32 text)
              ∙ turn.1;
        }
    alone (Some rest) some f = absurd cc

    resigns : (o : Option Stake) → stake_after (after 32 text) ≡ o → bytes_eq (before 32 text) (codes "resign") ≡ true
        → option_map (λ stake. resign stake) o ≡ Some d → ReadCommand text direction d
    resigns None e t f = absurd cc
    resigns (Some stake) e t f =
        let same : resign stake ≡ d = cc in
        let is : ReadCommand text direction (resign stake) = record {
          valid = tt;
          text_is =
              resign_text direction text (before 32 text) (after 32 text) stake (before_and_from 32 text)
              ((bytes_eq-Decides (before 32 text) (codes "resign")).0 t) e;
        } in
        subst (ReadCommand text direction) same is

    other : (t : Bool) → bytes_eq (before 32 text) (codes "resign") ≡ t
        → cond t (option_map (λ stake. resign stake) (stake_after (after 32 text)))
        (turn_alone (before 32 text) (after 32 text)) ≡ Some d
        → ReadCommand text direction d
    other true t f = resigns (stake_after (after 32 text)) refl t f
    other false t f = alone (after 32 text) refl f

    go : (t : Bool) → bytes_eq (before 32 text) (codes "move") ≡ t
        → cond t (option_map (λ steps. move steps) (play_from direction [] (words_after (after 32 text))))
        (cond (bytes_eq (before 32 text) (codes "resign")) (option_map (λ stake. resign stake)
        (stake_after (after 32 text))) (turn_alone (before 32 text) (after 32 text))) ≡ Some d
        → ReadCommand text direction d
    go true t f =
        let play = play_reads decimals direction (words_after (after 32 text)) d f in
        let steps : List Hop = play.0 in
        let same : move steps ≡ d = play.1 in
        let few : length (words_after (after 32 text)) ≤ 4 = play.2 in
        let are = play.3 in
        let count : length steps ≤ 4 = omega (arith, ap length are.1, length-map steps (step_text direction)) in
        let is : ReadCommand text direction (move steps) = record {
          valid = (are.0, count);
          text_is =
              play_text direction text (before 32 text) (after 32 text) steps (before_and_from 32 text)
              ((bytes_eq-Decides (before 32 text) (codes "move")).0 t) are.1;
        } in
        subst (ReadCommand text direction) same is
    go false t f = other (bytes_eq (before 32 text) (codes "resign")) refl f

-- a play is read by its command
move_finds : DecimalsAreExact → (direction : Direction) (steps : List Hop) → All IsStep steps → length steps ≤ 4
    → read_command direction (codes "move" ++ steps_text direction steps) ≡ Some (move steps)
unfolding read_command decision_in play_from
move_finds decimals direction steps is few =
    let rest = behind direction steps is in
    let text : codes "move" ++ steps_text direction steps ≡ codes "move" ++ from 32 rest.rest =
    ap (λ x. codes "move" ++ x) (sym rest.text) in
    let apart =
    split_there 32 (codes "move") rest.rest
    (All-from_recursion (λ b. b ≢ 32) (codes "move")
    ((λ e. omega arith), ((λ e. omega arith), ((λ e. omega arith), ((λ e. omega arith), tt))))) in
    let words : List (List ℕ) = map (step_text direction) steps in
    let count : nat_le (0 + length words) 4 ≡ true =
    within (length words) (omega (arith, length-map steps (step_text direction))) in
    ap (read_command direction) text
    ∙ ap (λ x. decision_in direction x (after 32 (codes "move" ++ from 32 rest.rest))) apart.0
    ∙ ap (λ x. decision_in direction (codes "move") x) apart.1
    ∙ ap (λ x. option_map (λ s. move s) (play_from direction [] x)) rest.words
    ∙ ap (λ t. option_map (λ s. move s) (cond t (option_map (λ later. [] ++ later) (steps_in direction words)) None))
    count
    ∙ ap (λ r. option_map (λ s. move s) (option_map (λ later. [] ++ later) r)) (steps_named decimals direction steps is)
  where
    within : (n : ℕ) → n ≤ 4 → nat_le (0 + n) 4 ≡ true
    within n le = grind (arith, nat_tests)

-- each decision is read by its command
command_finds : DecimalsAreExact → (direction : Direction) (d : DecisionValue) → IsDecision d
    → read_command direction (command_of direction d) ≡ Some d
unfolding read_command decision_in stake_in turn_in command_of
command_finds decimals direction roll is = refl
command_finds decimals direction double is = refl
command_finds decimals direction accept is = refl
command_finds decimals direction reject is = refl
command_finds decimals direction (move steps) is = move_finds decimals direction steps is.0 is.1
command_finds decimals direction (resign Normal) is = refl
command_finds decimals direction (resign Gammon) is = refl
command_finds decimals direction (resign Backgammon) is = refl

-- the function and the relation say the same
pub read_command_is_exact : DecimalsAreExact → ReadCommandIsExact
read_command_is_exact decimals direction text d = (
  command_reads decimals direction text d,
  λ h. ap (read_command direction) h.text_is ∙ command_finds decimals direction d h.valid,
)
