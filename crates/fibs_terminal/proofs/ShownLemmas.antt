-- A line that shows steps is taken as the play that is meant by them.
use Rattle.std.proofs.Common.{◌≡◌, ◌==◌, ◌∷◌, ℕ, suc, arith, true, false, List, [], codes, length, Option, Some, None, Result, Ok, Err, IfOk, refl, sym, ap, ◌∙◌, subst}
use Rattle.std.proofs.lemmas.Bool.{false≢true, true≢false, ne_eqb}
use Rattle.fibs_fields.specs.Split.{before}
use Rattle.fibs_rules.specs.Hop.{Hop}
use Rattle.fibs_position.specs.DecisionValue.{move}
use Rattle.fibs_position.specs.declared.direction.Direction.{Direction}
use Rattle.fibs_position.specs.declared.numbers.Numbers.{Numbers}
use Rattle.fibs_session.specs.History.Machine.{Talk}
use Rattle.fibs_session.specs.Calls.Standing.{ClientValue, StandsAfter}
use Rattle.fibs_session.specs.Typing.{decided, is_command, typed_by, typed_decision, way_now}
use Rattle.fibs_connect.specs.declared.wish.Wish.{Wish}
use Rattle.fibs_advice.specs.Spelling.{IsReadAs, is_move_word, steps_of_word, steps_shown, is_filler, cut_of, times_in}
use Rattle.fibs_advice.specs.declared.standing.Standing.{Standing}
use Rattle.fibs_advice.proofs.SpellingLemmas.{none_shown}
use Rattle.fibs_terminal.specs.Asking.{IsTakenAs, ShownGoesOn, TakesPlay}
use Rattle.fibs_terminal.specs.Sending.{DecidesIf}

-- something is not nothing
some_is_none : {X : Type 0} {x : X} → Some x ≡ None → ⊥
some_is_none {X} {x} same = absurd cc

-- an empty line shows no step
empty_shows : (way : Direction) → steps_shown way [] ≡ None
unfolding steps_shown
empty_shows way = refl

-- nor does `go`, `quit`, or a line whose first word is `try`
try_is_none : (way : Direction) → steps_of_word way (codes "try") ≡ None
unfolding steps_of_word is_filler cut_of times_in
try_is_none way = refl

go_is_none : (way : Direction) → steps_of_word way (codes "go") ≡ None
unfolding steps_of_word is_filler cut_of times_in
go_is_none way = refl

quit_is_none : (way : Direction) → steps_of_word way (codes "quit") ≡ None
unfolding steps_of_word is_filler cut_of times_in
quit_is_none way = refl

no_move_try : is_move_word (codes "try") ≡ false
unfolding is_move_word
no_move_try = refl

no_move_go : is_move_word (codes "go") ≡ false
unfolding is_move_word
no_move_go = refl

no_move_quit : is_move_word (codes "quit") ≡ false
unfolding is_move_word
no_move_quit = refl

-- what shows none is not read
unread : (t : Talk) (shown read : Option (List Hop)) (play : List Hop) → IsReadAs t shown read → shown ≡ None
    → read ≡ Some play → ⊥
unread t None read play is none some = some_is_none (sym some ∙ is)
unread t (Some steps) read play is none some = some_is_none none

-- so no play is read of a line whose first word is `try`
pub never_try : (numbers : Numbers) (t : Talk) (text line : List ℕ) (read : Option (List Hop)) (play : List Hop)
    → text ≡ line → IsReadAs t (steps_shown (way_now numbers t) text) read → read ≡ Some play
    → before 32 line ≡ codes "try" → ⊥
never_try numbers t text line read play same is some first = unread t _ read play is
    (none_shown (way_now numbers t) text (codes "try") (ap (before 32) same ∙ first) refl no_move_try
    (try_is_none (way_now numbers t))) some

-- of `go`
pub never_shown_go : (numbers : Numbers) (t : Talk) (text line : List ℕ) (read : Option (List Hop)) (play : List Hop)
    → text ≡ line → IsReadAs t (steps_shown (way_now numbers t) text) read → read ≡ Some play
    → line ≡ codes "go" → ⊥
never_shown_go numbers t text line read play same is some go = unread t _ read play is
    (none_shown (way_now numbers t) text (codes "go") (ap (before 32) (same ∙ go)) refl no_move_go
    (go_is_none (way_now numbers t))) some

-- and of `quit`
pub never_shown_quit : (numbers : Numbers) (t : Talk) (text line : List ℕ) (read : Option (List Hop)) (play : List Hop)
    → text ≡ line → IsReadAs t (steps_shown (way_now numbers t) text) read → read ≡ Some play
    → line ≡ codes "quit" → ⊥
never_shown_quit numbers t text line read play same is some quit = unread t _ read play is
    (none_shown (way_now numbers t) text (codes "quit") (ap (before 32) (same ∙ quit)) refl no_move_quit
    (quit_is_none (way_now numbers t))) some

-- of an empty line nothing is to be shown
pub empty_goes_on : (client : ClientValue) (numbers : Numbers) (standing : Standing) (before after : List ℕ)
    (wish : Wish) → before ≡ [] → ShownGoesOn {E = Unit {0}} client numbers standing before after (Ok wish)
empty_goes_on client numbers standing before after wish empty t stands short unknown steps shown =
    absurd (some_is_none (sym shown ∙ ap (steps_shown (way_now numbers t)) empty ∙ empty_shows (way_now numbers t)))

-- a line without bytes is empty
pub empty_line : (line : List ℕ) → true ≡ (length line == 0) → line ≡ []
empty_line [] none = refl
empty_line (b ∷ line) none = absurd (true≢false (none ∙ ne_eqb (suc (length line)) 0 (λ e. omega (arith, e))))

-- nor of a command
pub known_shows : {E : Type 0} (client : ClientValue) (numbers : Numbers) (standing : Standing)
    (text before after : List ℕ) (result : Result Wish E) → text ≡ before
    → ((t : Talk) → StandsAfter client t → true ≡ is_command (typed_by numbers t text))
    → ShownGoesOn client numbers standing before after result
known_shows client numbers standing text before after (Err why) same known = tt
known_shows client numbers standing text before after (Ok wish) same known =
    λ t stands short unknown steps shown. absurd (false≢true
    (sym unknown ∙ ap (λ x. is_command (typed_by numbers t x)) (sym same) ∙ sym (known t stands)))

-- a line of which none is read shows no step
pub other_shows : {E : Type 0} (client : ClientValue) (numbers : Numbers) (standing : Standing)
    (text before after : List ℕ) (read : Option (List Hop)) (result : Result Wish E) → text ≡ before
    → ((t : Talk) → StandsAfter client t → IsReadAs t (steps_shown (way_now numbers t) text) read)
    → read ≡ None → ShownGoesOn client numbers standing before after result
other_shows client numbers standing text before after read (Err why) same is none = tt
other_shows client numbers standing text before after read (Ok wish) same is none =
    λ t stands short unknown steps shown. absurd (never t steps (is t stands)
    (ap (steps_shown (way_now numbers t)) same ∙ shown))
  where
    by_shown : (t : Talk) (o : Option (List Hop)) (steps : List Hop) → IsReadAs t o read → o ≡ Some steps → ⊥
    by_shown t None steps is some = some_is_none (sym some)
    by_shown t (Some others) steps is some = some_is_none (sym is.1 ∙ none)

    never : (t : Talk) (steps : List Hop) → IsReadAs t (steps_shown (way_now numbers t) text) read
        → steps_shown (way_now numbers t) text ≡ Some steps → ⊥
    never t steps is some = by_shown t (steps_shown (way_now numbers t) text) steps is some

-- what a command of a play asks for takes that play
pub command_takes : {E : Type 0} (client : ClientValue) (numbers : Numbers) (standing : Standing) (play : List Hop)
    (command after : List ℕ) (result : Result Wish E)
    → ((t : Talk) → StandsAfter client t → typed_by numbers t command ≡ typed_decision (move play))
    → IfOk result (λ wish. (t : Talk) → StandsAfter client t → is_command (typed_by numbers t command) ≡ true
    → IsTakenAs numbers t standing command after wish)
    → IfOk result (λ wish. (t : Talk) → StandsAfter client t → TakesPlay t standing play after wish)
command_takes client numbers standing play command after (Err why) is taken = tt
command_takes client numbers standing play command after (Ok wish) is taken = λ t stands.
    let it = taken t stands (ap is_command (is t stands)) in
    record {
      reads = it.0 ∙ is t stands;
      decides = subst (λ d. DecidesIf t standing (decided d) wish) (is t stands) it.1;
    }

-- it is a command
pub play_is_command : (client : ClientValue) (numbers : Numbers) (play : List Hop) (command : List ℕ)
    → ((t : Talk) → StandsAfter client t → typed_by numbers t command ≡ typed_decision (move play))
    → (t : Talk) → StandsAfter client t → is_command (typed_by numbers t command) ≡ true
play_is_command client numbers play command is t stands = ap is_command (is t stands)
