-- How the steps that a line shows are read, one after the other.
use Rattle.std.proofs.Common.{◌≡◌, ◌≢◌, ◌<◌, ◌≤◌, ◌+◌, ℕ, suc, Bool, true, false, cond, nat_le, nat_lt, true≢false, List, map, ◌==◌, [], ◌∷◌, ◌++◌, length, replicate, Option, Some, None, refl, sym, ap, subst, ◌∙◌, ◌&&◌, ◌-◌, arith, append_assoc, append-nil, length-append, inl, inr}
use Rattle.std.specs.List.{onto_first}
use Rattle.std.proofs.lemmas.Bool.{cases_eq, eq-eqb, ne_eqb}
use Rattle.std.proofs.lemmas.Bool.Decides.{nat_tests}
use Rattle.fibs_fields.specs.Split.{before, after}
use Rattle.fibs_rules.specs.Hop.{Hop, hop_of}
use Rattle.fibs_rules.specs.declared.step.Step.{Step}
use Rattle.fibs_position.specs.declared.direction.Direction.{Direction}
use Rattle.fibs_commands.specs.CommandReading.{step_between}
use Rattle.std.specs.Str.{bytes_eq}
use Rattle.fibs_advice.specs.Spelling.{along, between, cut_of, is_filler, is_move_word, joined, one_to_four, place_typed, repeated, steps_of_line, steps_of_names, steps_of_word, steps_of_words, steps_shown, times_in}
use Rattle.fibs_commands.proofs.SplitLemmas.{after_shorter, left_len}
use Rattle.fibs_advice.specs.SpellingSteps.{onto}

-- what follows a byte c, cut there
abbrev pub between_after : ℕ → Option (List ℕ) → List (List ℕ)
between_after c None = []
between_after c (Some text) = between c text

-- what is before the first c, and what is after it, is the first part and the others
pub parts_of : (c : ℕ) (s : List ℕ) → between c s ≡ before c s ∷ between_after c (after c s)
parts_of c [] = refl
parts_of c (b ∷ s) = elim (cases_eq b c) [
  | inl e ↦ rw (eq-eqb b c e) refl
  | inr n ↦ rw (ne_eqb b c n) (ap (onto_first b) (parts_of c s))
]

-- steps after those that are read, if they are
abbrev pub then_onto : Option (List Hop) → Option (List Hop) → Option (List Hop)
then_onto None later = None
then_onto (Some played) later = onto played later

-- steps, unless there are none
abbrev pub some_of : Option (List Hop) → Option (List Hop)
some_of None = None
some_of (Some []) = None
some_of (Some (step ∷ steps)) = Some (step ∷ steps)

-- steps and those that follow them are read one after the other
joined_some : (played : List Hop) (a : Hop) (os : List Hop) (b : Hop) (bs : List Hop)
    → onto played (Some ((a ∷ os) ++ (b ∷ bs))) ≡ then_onto (onto played (Some (a ∷ os))) (Some (b ∷ bs))
unfolding onto
joined_some played a os b bs = go (nat_le (length played + length (a ∷ os)) 4) refl
  where
    go : (few : Bool) → nat_le (length played + length (a ∷ os)) 4 ≡ few
        → onto played (Some ((a ∷ os) ++ (b ∷ bs)))
        ≡ then_onto (cond few (Some (played ++ (a ∷ os))) None) (Some (b ∷ bs))
    go true e =
        let same : length played + length ((a ∷ os) ++ (b ∷ bs))
        ≡ length (played ++ (a ∷ os)) + length (b ∷ bs) =
        omega (arith, length-append played (a ∷ os), length-append (a ∷ os) (b ∷ bs)) in
        rw (same, append_assoc played (a ∷ os) (b ∷ bs)) refl
    go false e =
        let over : nat_le (length played + length ((a ∷ os) ++ (b ∷ bs))) 4 ≡ false =
        grind (arith, nat_tests, length-append (a ∷ os) (b ∷ bs)) in
        ap (λ few. cond few (Some (played ++ ((a ∷ os) ++ (b ∷ bs)))) None) over

-- so are all that are joined
pub onto_joined : (played : List Hop) (steps later : Option (List Hop))
    → onto played (joined steps later) ≡ then_onto (onto played steps) later
unfolding onto
onto_joined played None later = refl
onto_joined played (Some []) None = refl
onto_joined played (Some []) (Some later) = refl
onto_joined played (Some (a ∷ os)) None = sym (go (nat_le (length played + length (a ∷ os)) 4))
  where
    go : (few : Bool) → then_onto (cond few (Some (played ++ (a ∷ os))) None) None ≡ None
    go true = refl
    go false = refl
onto_joined played (Some (a ∷ os)) (Some []) =
    ap (λ steps. onto played (Some steps)) (append-nil (a ∷ os))
    ∙ go (nat_le (length played + length (a ∷ os)) 4)
  where
    go : (few : Bool) → cond few (Some (played ++ (a ∷ os))) None
        ≡ then_onto (cond few (Some (played ++ (a ∷ os))) None) (Some [])
    go true = refl
    go false = refl
onto_joined played (Some (a ∷ os)) (Some (b ∷ bs)) = joined_some played a os b bs

-- a step, so often

-- never: the play stays
pub never_made : (played : List Hop) (times : ℕ) (step : Hop) → times ≡ 0
    → Some played ≡ onto played (Some (replicate times step))
unfolding onto
never_made played times step none = rw none refl

-- one step, if there is room
one_made : (played : List Hop) (step : Hop) → length played < 4
    → onto played (Some (step ∷ [])) ≡ Some (played ++ step ∷ [])
unfolding onto
one_made played step room =
    let few : nat_le (length played + 1) 4 ≡ true = grind (arith, nat_tests) in
    ap (λ b. cond b (Some (played ++ step ∷ [])) None) few

-- once and then the other times
pub made_once : (played later : List Hop) (all : Option (List Hop)) (times others : ℕ) (step : Hop)
    → length played < 4 → later ≡ played ++ step ∷ [] → times ≡ suc others
    → all ≡ onto later (Some (replicate others step)) → all ≡ onto played (Some (replicate times step))
made_once played later all times others step room same count rest =
    rest ∙ ap (λ p. onto p (Some (replicate others step))) same
    ∙ sym (ap (λ o. then_onto o (Some (replicate others step))) (one_made played step room))
    ∙ sym (onto_joined played (Some (step ∷ [])) (Some (replicate others step)))
    ∙ ap (λ n. onto played (Some (replicate n step))) (sym count)

-- there is no room for it
pub no_room : (played : List Hop) (times others : ℕ) (step : Hop) → 4 ≤ length played → times ≡ suc others
    → None ≡ onto played (Some (replicate times step))
unfolding onto
no_room played times others step full count =
    let over : nat_le (length played + suc (length (replicate others step))) 4 ≡ false = grind (arith, nat_tests) in
    rw count (ap (λ b. cond b (Some (played ++ step ∷ replicate others step)) None) (sym over))

-- names, one after the other

-- the first one that makes no step ends it
pub names_stop : (way : Direction) (times source cut : ℕ) (text name : List ℕ) (played : List Hop)
    → name ≡ before cut text → None ≡ step_between (Some source) (place_typed way name)
    → onto played (along way times (Some source) (between cut text)) ≡ None
unfolding onto
names_stop way times source cut text name played first none =
    ap (λ names. onto played (along way times (Some source) names)) (parts_of cut text)
    ∙ ap (λ o. onto played (joined (repeated times o) (along way times (place_typed way (before cut text))
    (between_after cut (after cut text)))))
    (ap (λ n. step_between (Some source) (place_typed way n)) (sym first) ∙ sym none)

-- so does one step too many
pub names_full : (way : Direction) (times source cut : ℕ) (text name : List ℕ) (played : List Hop) (step : Hop)
    → name ≡ before cut text → Some step ≡ step_between (Some source) (place_typed way name)
    → None ≡ onto played (Some (replicate times step))
    → onto played (along way times (Some source) (between cut text)) ≡ None
names_full way times source cut text name played step first some none =
    ap (λ names. onto played (along way times (Some source) names)) (parts_of cut text)
    ∙ ap (λ o. onto played (joined (repeated times o) (along way times (place_typed way (before cut text))
    (between_after cut (after cut text)))))
    (ap (λ n. step_between (Some source) (place_typed way n)) (sym first) ∙ sym some)
    ∙ onto_joined played (Some (replicate times step)) (along way times (place_typed way (before cut text))
    (between_after cut (after cut text)))
    ∙ ap (λ o. then_onto o (along way times (place_typed way (before cut text))
    (between_after cut (after cut text)))) (sym none)

-- a step leads to the place of its name
leads_to : (source : ℕ) (target : Option ℕ) (step : Hop) → Some step ≡ step_between (Some source) target
    → target ≡ Some step.target
leads_to source None step same = absurd cc
leads_to source (Some target) step same = go (nat_lt 0 source && nat_le target 24) same
  where
    go : (b : Bool) → Some step ≡ cond b (Some (record { source = source; target = target })) None
        → Some target ≡ Some step.target
    go true e = cc
    go false e = absurd cc

-- after the steps to the first name come those to the others
pub names_go_on : (way : Direction) (times source cut : ℕ) (text name : List ℕ) (played later : List Hop) (step : Hop)
    → name ≡ before cut text → Some step ≡ step_between (Some source) (place_typed way name)
    → Some later ≡ onto played (Some (replicate times step))
    → onto played (along way times (Some source) (between cut text))
    ≡ onto later (along way times (Some step.target) (between_after cut (after cut text)))
names_go_on way times source cut text name played later step first some made =
    ap (λ names. onto played (along way times (Some source) names)) (parts_of cut text)
    ∙ ap (λ o. onto played (joined (repeated times o) (along way times (place_typed way (before cut text))
    (between_after cut (after cut text)))))
    (ap (λ n. step_between (Some source) (place_typed way n)) (sym first) ∙ sym some)
    ∙ onto_joined played (Some (replicate times step)) (along way times (place_typed way (before cut text))
    (between_after cut (after cut text)))
    ∙ ap (λ o. then_onto o (along way times (place_typed way (before cut text))
    (between_after cut (after cut text)))) (sym made)
    ∙ ap (λ place. onto later (along way times place (between_after cut (after cut text))))
    (ap (place_typed way) (sym first) ∙ leads_to source (place_typed way name) step some)

-- the last name
pub names_end : (way : Direction) (times source cut : ℕ) (text name : List ℕ) (played later : List Hop) (step : Hop)
    → name ≡ before cut text → after cut text ≡ None → Some step ≡ step_between (Some source) (place_typed way name)
    → Some later ≡ onto played (Some (replicate times step))
    → Some later ≡ onto played (along way times (Some source) (between cut text))
unfolding onto
names_end way times source cut text name played later step first none some made = sym
    (names_go_on way times source cut text name played later step first some made
    ∙ ap (λ o. onto later (along way times (Some step.target) (between_after cut o))) none)

-- and one before others
pub names_more : (way : Direction) (times source cut target : ℕ) (text name rest : List ℕ) (played later : List Hop)
    (all : Option (List Hop)) (step : Hop)
    → name ≡ before cut text → after cut text ≡ Some rest
    → Some step ≡ step_between (Some source) (place_typed way name)
    → Some later ≡ onto played (Some (replicate times step)) → target ≡ step.target
    → all ≡ onto later (along way times (Some target) (between cut rest))
    → all ≡ onto played (along way times (Some source) (between cut text))
names_more way times source cut target text name rest played later all step first others some made same is =
    is ∙ ap (λ t. onto later (along way times (Some t) (between cut rest))) same
    ∙ ap (λ o. onto later (along way times (Some step.target) (between_after cut o))) (sym others)
    ∙ sym (names_go_on way times source cut text name played later step first some made)

-- what is after a byte is shorter
pub rest_shorter : (c : ℕ) (text rest : List ℕ) → after c text ≡ Some rest → length rest < length text
rest_shorter c text rest is = omega (arith, ap left_len is, after_shorter c text)

-- a word that says nothing adds nothing
pub filler_plays : (way : Direction) (word : List ℕ) (played : List Hop) → true ≡ is_filler word
    → Some played ≡ onto played (steps_of_word way word)
unfolding onto steps_of_word
filler_plays way word played filler = rw (sym filler) refl

-- any other one shows the steps of its names
word_names : (way : Direction) (word names : List ℕ) (cut : ℕ) (times : Option ℕ) → false ≡ is_filler word
    → names ≡ before 40 word → cut ≡ cut_of names → times ≡ times_in (after 40 word)
    → steps_of_word way word ≡ steps_of_names way times (between cut names)
unfolding steps_of_word
word_names way word names cut times other same by count = rw (sym other, count, by, same) refl

-- it shows none if `(2)` says no times
pub word_unread : (way : Direction) (word : List ℕ) (played : List Hop) → false ≡ is_filler word
    → None ≡ times_in (after 40 word) → onto played (steps_of_word way word) ≡ None
unfolding onto steps_of_word
word_unread way word played other none = rw (sym other, sym none) refl

-- nor if it names one place alone
pub word_alone : (way : Direction) (word names : List ℕ) (cut times : ℕ) (played : List Hop) → false ≡ is_filler word
    → names ≡ before 40 word → cut ≡ cut_of names → Some times ≡ times_in (after 40 word) → after cut names ≡ None
    → onto played (steps_of_word way word) ≡ None
unfolding onto
word_alone way word names cut times played other same by count alone =
    ap (onto played) (word_names way word names cut (Some times) other same by count
    ∙ ap (steps_of_names way (Some times)) (parts_of cut names
    ∙ ap (λ o. before cut names ∷ between_after cut o) alone))

-- the names of a word, of which there is a second one
word_along : (way : Direction) (word names first rest : List ℕ) (cut times : ℕ) → false ≡ is_filler word
    → names ≡ before 40 word → cut ≡ cut_of names → Some times ≡ times_in (after 40 word) → first ≡ before cut names
    → after cut names ≡ Some rest
    → steps_of_word way word ≡ along way times (place_typed way first) (between cut rest)
word_along way word names first rest cut times other same by count begins more =
    word_names way word names cut (Some times) other same by count
    ∙ ap (steps_of_names way (Some times)) (parts_of cut names
    ∙ ap (λ o. before cut names ∷ between_after cut o) more
    ∙ ap (λ parts. before cut names ∷ parts) (parts_of cut rest))
    ∙ ap (λ n. along way times (place_typed way n) (before cut rest ∷ between_after cut (after cut rest))) (sym begins)
    ∙ ap (along way times (place_typed way first)) (sym (parts_of cut rest))

-- nor if the first name is that of no place
pub word_nowhere : (way : Direction) (word names first rest : List ℕ) (cut times : ℕ) (played : List Hop)
    → false ≡ is_filler word → names ≡ before 40 word → cut ≡ cut_of names → Some times ≡ times_in (after 40 word)
    → first ≡ before cut names → after cut names ≡ Some rest → None ≡ place_typed way first
    → onto played (steps_of_word way word) ≡ None
unfolding onto
word_nowhere way word names first rest cut times played other same by count begins more none =
    ap (onto played) (word_along way word names first rest cut times other same by count begins more
    ∙ ap (λ place. along way times place (between cut rest)) (sym none)
    ∙ ap (along way times None) (parts_of cut rest))

-- else it shows the steps along its names
pub word_goes : (way : Direction) (word names first rest : List ℕ) (cut times source : ℕ) (played : List Hop)
    (all : Option (List Hop)) → false ≡ is_filler word → names ≡ before 40 word → cut ≡ cut_of names
    → Some times ≡ times_in (after 40 word) → first ≡ before cut names → after cut names ≡ Some rest
    → Some source ≡ place_typed way first
    → all ≡ onto played (along way times (Some source) (between cut rest))
    → all ≡ onto played (steps_of_word way word)
word_goes way word names first rest cut times source played all other same by count begins more some is =
    is ∙ ap (λ place. onto played (along way times place (between cut rest))) some
    ∙ ap (onto played) (sym (word_along way word names first rest cut times other same by count begins more))

-- after the steps of a word come those of the other words
words_go_on : (way : Direction) (text word : List ℕ) (played : List Hop) → word ≡ before 32 text
    → onto played (steps_of_words way (between 32 text)) ≡ then_onto (onto played (steps_of_word way word))
    (steps_of_words way (between_after 32 (after 32 text)))
words_go_on way text word played first =
    ap (λ words. onto played (steps_of_words way words)) (parts_of 32 text)
    ∙ ap (λ w. onto played (steps_of_words way (w ∷ between_after 32 (after 32 text)))) (sym first)
    ∙ onto_joined played (steps_of_word way word) (steps_of_words way (between_after 32 (after 32 text)))

-- a word that is not read ends it
pub words_stop : (way : Direction) (text word : List ℕ) (played : List Hop) → word ≡ before 32 text
    → None ≡ onto played (steps_of_word way word) → onto played (steps_of_words way (between 32 text)) ≡ None
words_stop way text word played first none = words_go_on way text word played first
    ∙ ap (λ o. then_onto o (steps_of_words way (between_after 32 (after 32 text)))) (sym none)

-- the last word
pub words_end : (way : Direction) (text word : List ℕ) (played later : List Hop) → word ≡ before 32 text
    → after 32 text ≡ None → Some later ≡ onto played (steps_of_word way word)
    → Some later ≡ onto played (steps_of_words way (between 32 text))
unfolding onto
words_end way text word played later first none some = sym (words_go_on way text word played first
    ∙ ap (λ o. then_onto o (steps_of_words way (between_after 32 (after 32 text)))) (sym some)
    ∙ ap (λ o. onto later (steps_of_words way (between_after 32 o))) none)

-- a word before others
pub words_more : (way : Direction) (text word rest : List ℕ) (played later : List Hop) (all : Option (List Hop))
    → word ≡ before 32 text → after 32 text ≡ Some rest → Some later ≡ onto played (steps_of_word way word)
    → all ≡ onto later (steps_of_words way (between 32 rest))
    → all ≡ onto played (steps_of_words way (between 32 text))
words_more way text word rest played later all first more some is =
    is ∙ ap (λ o. onto later (steps_of_words way (between_after 32 o))) (sym more)
    ∙ sym (words_go_on way text word played first
    ∙ ap (λ o. then_onto o (steps_of_words way (between_after 32 (after 32 text)))) (sym some))

-- the words of a line are the first one and the others
line_of : (way : Direction) (text word : List ℕ) → word ≡ before 32 text
    → steps_of_line way (between 32 text) ≡ steps_of_line way (word ∷ between_after 32 (after 32 text))
line_of way text word first = ap (steps_of_line way) (parts_of 32 text)
    ∙ ap (λ w. steps_of_line way (w ∷ between_after 32 (after 32 text))) (sym first)

-- after an empty word the line goes on
pub line_skips : (way : Direction) (text word : List ℕ) (o : Option (List ℕ)) (all : Option (List Hop))
    → word ≡ before 32 text → after 32 text ≡ o → bytes_eq word [] ≡ true
    → all ≡ onto [] (steps_of_line way (between_after 32 o)) → all ≡ onto [] (steps_of_line way (between 32 text))
line_skips way text word o all first more empty is =
    is ∙ ap (λ x. onto [] (steps_of_line way (between_after 32 x))) (sym more)
    ∙ ap (λ b. onto [] (cond b (steps_of_line way (between_after 32 (after 32 text))) (cond (is_move_word word)
    (steps_of_words way (between_after 32 (after 32 text)))
    (steps_of_words way (word ∷ between_after 32 (after 32 text)))))) (sym empty)
    ∙ ap (onto []) (sym (line_of way text word first))

-- after `move` come its words
pub line_moves : (way : Direction) (text word : List ℕ) (o : Option (List ℕ)) (all : Option (List Hop))
    → word ≡ before 32 text → after 32 text ≡ o → bytes_eq word [] ≡ false → true ≡ is_move_word word
    → all ≡ onto [] (steps_of_words way (between_after 32 o)) → all ≡ onto [] (steps_of_line way (between 32 text))
line_moves way text word o all first more some moves is =
    is ∙ ap (λ x. onto [] (steps_of_words way (between_after 32 x))) (sym more)
    ∙ ap (onto []) (by_words (between_after 32 (after 32 text)))
    ∙ ap (onto []) (sym (line_of way text word first))
  where
    by_words : (words : List (List ℕ)) → steps_of_words way words ≡ steps_of_line way (word ∷ words)
    by_words words = rw (some, sym moves) refl

-- any other word is one of these itself
pub line_begins : (way : Direction) (text word : List ℕ) (all : Option (List Hop))
    → word ≡ before 32 text → bytes_eq word [] ≡ false → false ≡ is_move_word word
    → all ≡ onto [] (steps_of_words way (between 32 text)) → all ≡ onto [] (steps_of_line way (between 32 text))
line_begins way text word all first some other is =
    is ∙ ap (λ words. onto [] (steps_of_words way words)) (parts_of 32 text)
    ∙ ap (λ w. onto [] (steps_of_words way (w ∷ between_after 32 (after 32 text)))) (sym first)
    ∙ ap (onto []) (by_words (between_after 32 (after 32 text)))
    ∙ ap (onto []) (sym (line_of way text word first))
  where
    by_words : (words : List (List ℕ)) → steps_of_words way (word ∷ words) ≡ steps_of_line way (word ∷ words)
    by_words words = rw (some, sym other) refl

-- no step at all
pub played_none : {played : List Hop} → played ≡ [] → Some played ≡ onto [] (Some [])
unfolding onto
played_none {played} none = ap (λ p. Some p) none

-- what is read after none
pub after_none : {played : List Hop} (steps all : Option (List Hop)) → played ≡ [] → all ≡ onto played steps
    → all ≡ onto [] steps
after_none {played} steps all none is = is ∙ ap (λ p. onto p steps) none

-- one to four of them

-- steps after none are at most four
few_onto : (steps : Option (List Hop)) → one_to_four steps ≡ some_of (onto [] steps)
unfolding onto
few_onto None = refl
few_onto (Some []) = refl
few_onto (Some (step ∷ steps)) =
    let same : 0 + length (step ∷ steps) ≡ length (step ∷ steps) = omega arith in
    go (nat_le (length (step ∷ steps)) 4)
    ∙ ap (λ n. some_of (cond (nat_le n 4) (Some (step ∷ steps)) None)) (sym same)
  where
    go : (few : Bool) → cond few (Some (step ∷ steps)) None ≡ some_of (cond few (Some (step ∷ steps)) None)
    go true = refl
    go false = refl

-- the steps of a play that has none
pub no_steps : (steps : List Step) (hops : List Hop) → map hop_of steps ≡ hops → true ≡ (length steps == 0) → hops ≡ []
no_steps [] hops same none = sym same
no_steps (step ∷ steps) hops same none =
    absurd (true≢false (none ∙ ne_eqb (suc (length steps)) 0 (λ e. omega (arith, e))))

-- and of one that has some
pub with_steps : (steps : List Step) (hops : List Hop) → map hop_of steps ≡ hops → false ≡ (length steps == 0)
    → 0 < length hops
with_steps [] hops same some = absurd (true≢false (sym (some ∙ eq-eqb 0 0 refl)))
with_steps (step ∷ steps) hops same some = subst (λ h. 0 < length h) same (omega arith)

-- a line of which no steps are read shows none
pub none_typed : (way : Direction) (text : List ℕ) → None ≡ onto [] (steps_of_line way (between 32 text))
    → steps_shown way text ≡ None
unfolding steps_shown
none_typed way text none = few_onto (steps_of_line way (between 32 text)) ∙ ap some_of (sym none)

-- nor does one of which an empty play is read
pub empty_typed : (way : Direction) (text : List ℕ) (play : List Hop)
    → Some play ≡ onto [] (steps_of_line way (between 32 text)) → play ≡ [] → None ≡ steps_shown way text
unfolding steps_shown
empty_typed way text play some empty = sym (few_onto (steps_of_line way (between 32 text)) ∙ ap some_of (sym some)
    ∙ ap (λ p. some_of (Some p)) empty)

-- it shows those that are read
pub play_typed : (way : Direction) (text : List ℕ) (play : List Hop)
    → Some play ≡ onto [] (steps_of_line way (between 32 text)) → 0 < length play → Some play ≡ steps_shown way text
unfolding steps_shown
play_typed way text play some long = sym (few_onto (steps_of_line way (between 32 text)) ∙ ap some_of (sym some)
    ∙ by_play play long)
  where
    by_play : (p : List Hop) → 0 < length p → some_of (Some p) ≡ Some p
    by_play [] none = absurd (omega (arith, none))
    by_play (step ∷ steps) none = refl

-- what holds of the place 0 holds of each up to that
pub first_alone : (P : ℕ → Type 0) (place : ℕ) → place ≡ 0 → P place → (p : ℕ) → p ≤ place → P p
first_alone P place none here p low = subst P (omega (arith, none, low)) here

-- and of one more place
pub one_further : (P : ℕ → Type 0) (place : ℕ) → P place → ((p : ℕ) → p ≤ place - 1 → P p) → (p : ℕ) → p ≤ place → P p
one_further P place here below p low = elim (cases_eq p place) [
  | inl e ↦ subst P (sym e) here
  | inr n ↦ below p (omega (arith, n, low))
]

-- a line whose first word neither shows a step nor says that a move follows shows none
pub none_shown : (way : Direction) (line word : List ℕ) → before 32 line ≡ word → bytes_eq word [] ≡ false
    → is_move_word word ≡ false → steps_of_word way word ≡ None → steps_shown way line ≡ None
unfolding steps_shown
none_shown way line word first some other stepless =
    ap (λ words. one_to_four (steps_of_line way words)) (parts_of 32 line)
    ∙ ap (λ w. one_to_four (steps_of_line way (w ∷ between_after 32 (after 32 line)))) first
    ∙ ap one_to_four (by_word (between_after 32 (after 32 line)))
  where
    by_word : (words : List (List ℕ)) → steps_of_line way (word ∷ words) ≡ None
    by_word words = rw (some, other, stepless) refl
