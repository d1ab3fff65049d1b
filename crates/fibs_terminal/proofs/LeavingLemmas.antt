-- Why the first line that takes leave of a match is only answered, and what it is answered breaks no other promise.
use Rattle.std.proofs.Common.{◌≡◌, ◌⊎◌, ◌&&◌, ℕ, suc, Bool, not, true, false, nat_lt, List, [], ◌∷◌, length, Option, Some, None, Ok, cond, codes, arith, refl, sym, ap, ◌∙◌, inl, inr}
use Rattle.std.specs.Str.{bytes_eq}
use Rattle.std.proofs.lemmas.Bool.{false≢true}
use Rattle.std.proofs.lemmas.Slice.Eq.{bytes_eq-Decides}
use Rattle.fibs_rules.specs.Hop.{Hop}
use Rattle.fibs_position.specs.DecisionValue.{DecisionValue, move}
use Rattle.fibs_position.specs.declared.direction.Direction.{Direction}
use Rattle.fibs_position.specs.declared.numbers.Numbers.{Numbers}
use Rattle.fibs_commands.specs.CommandReading.{read_command, decision_in, turn_in}
use Rattle.fibs_commands.specs.PlainCommands.{bye}
use Rattle.fibs_commands.specs.PlainReading.{read_plain, plain_in, alone_in, saying_in, letter_in}
use Rattle.fibs_session.specs.History.Machine.{Talk, shown_now}
use Rattle.fibs_session.specs.Calls.Standing.{ClientValue, StandsAfter}
use Rattle.fibs_session.specs.Typing.{decided, is_command, shown_direction, typed_by, typed_decision, typed_in, typed_now, typed_plain, way_now}
use Rattle.fibs_connect.specs.Wishes.{ends, is_too_long, takes_turn, wish_value, typed_limit}
use Rattle.fibs_connect.specs.declared.wish.Wish.{Wish}
use Rattle.fibs_connect.specs.declared.wish.Wish.TheVariants as W
use Rattle.fibs_advice.specs.Trials.{tried}
use Rattle.fibs_advice.specs.declared.standing.Standing.{Standing}
use Rattle.fibs_advice.specs.declared.trial.Trial.{Trial}
use Rattle.fibs_terminal.specs.Asking.{AsksInBounds, GoesOnAs, GoesOut, ShownGoesOn, TakesPlay}
use Rattle.fibs_terminal.specs.Leaving.{asked_first, is_again, is_bye, leave_of}
use Rattle.fibs_terminal.specs.Sending.{DecidesIf}
use Rattle.fibs_terminal.specs.Trying.{SendsTried}
use Rattle.fibs_terminal.specs.declared.leaving.Leave.{Leave}
use Rattle.fibs_terminal.specs.declared.leaving.Leave.TheVariants as L

-- of what a line asks for, no two are the same
quit_is_send : W.Quit ≡ W.Send → ⊥
quit_is_send same = absurd cc

quit_is_say : W.Quit ≡ W.Say → ⊥
quit_is_say same = absurd cc

quit_is_answered : W.Quit ≡ W.Answered → ⊥
quit_is_answered same = absurd cc

-- a line that takes leave by a word ends the program, or is the `bye` that the client is asked to answer
abbrev Leaves : Wish → List ℕ → Leave → Type 0
Leaves wish line word = ((wish ≡ W.Quit) × (word ≡ L.Quit))
    ⊎ ((wish ≡ W.Say) × (line ≡ codes "bye") × (word ≡ L.Bye))

-- so does what the client is asked to answer
bye_leaves : (line : List ℕ) (word : Leave) (same : Bool) → bytes_eq line (codes "bye") ≡ same
    → cond same (Some L.Bye) None ≡ Some word → Leaves W.Say line word
bye_leaves line word true same is = inr (refl, (bytes_eq-Decides line (codes "bye")).0 same, cc)
bye_leaves line word false same is = absurd cc

-- and each line
leaves_by : (wish : Wish) (line : List ℕ) (word : Leave) → leave_of wish line ≡ Some word → Leaves wish line word
leaves_by W.Quit line word is = inl (refl, cc)
leaves_by W.Say line word is = bye_leaves line word (bytes_eq line (codes "bye")) refl is
leaves_by W.Open line word is = absurd cc
leaves_by W.Players line word is = absurd cc
leaves_by W.TooLong line word is = absurd cc
leaves_by W.Listen line word is = absurd cc
leaves_by W.Send line word is = absurd cc
leaves_by W.Answered line word is = absurd cc

-- what is asked about is by what the line takes leave
asked_now : (is_on : Bool) (before now : Option Leave) (word : Leave) → Some word ≡ asked_first is_on before now
    → now ≡ Some word
asked_now false before now word is = absurd cc
asked_now true before now word is = by_answer (is_again before now) is
  where
    by_answer : (b : Bool) → Some word ≡ cond (true && not b) now None → now ≡ Some word
    by_answer true i = absurd cc
    by_answer false i = sym i

-- so the line takes leave by it
pub asked_leaves : (is_on : Bool) (before now : Option Leave) (text line : List ℕ) (wish : Wish) (word : Leave)
    → now ≡ leave_of wish text → text ≡ line → Some word ≡ asked_first is_on before now → Leaves wish line word
asked_leaves is_on before now text line wish word by same is = leaves_by wish line word
    (sym (by ∙ ap (leave_of wish) same) ∙ asked_now is_on before now word is)

-- the end of the program is no turn, and no line that is too long
ends_turn : ends ≡ takes_turn None → ⊥
ends_turn same = absurd cc

ends_long : ends ≡ is_too_long → ⊥
ends_long same = absurd cc

-- no decision of a command ends it
decides_no_end : (t : Talk) (standing : Standing) (o : Option DecisionValue) (wish : Wish)
    → DecidesIf t standing o wish → wish ≡ W.Quit → ⊥
decides_no_end t standing None wish is quits = quit_is_say (sym quits ∙ is)
decides_no_end t standing (Some d) wish is quits = by_wish is.either
  where
    by_wish : (wish ≡ W.Say) ⊎ ((wish ≡ W.Send) ⊎ (wish ≡ W.Answered)) → ⊥
    by_wish (inl says) = quit_is_say (sym quits ∙ says)
    by_wish (inr (inl sends)) = quit_is_send (sym quits ∙ sends)
    by_wish (inr (inr answers)) = quit_is_answered (sym quits ∙ answers)

-- what is not empty has a length
some_long : (n : ℕ) → nat_lt 0 (suc n) ≡ true
some_long n = grind arith

-- nor does a command
goes_no_end : (numbers : Numbers) (t : Talk) (standing : Standing) (before after : List ℕ) (wish : Wish)
    → GoesOnAs numbers t standing before after wish → AsksInBounds before (wish_value wish after) → wish ≡ W.Quit → ⊥
goes_no_end numbers t standing [] after wish on bounds quits =
    ends_turn (sym (ap (λ w. wish_value w after) quits) ∙ bounds.0 refl)
goes_no_end numbers t standing (b ∷ rest) after wish on bounds quits =
    by_length (nat_lt typed_limit (length (b ∷ rest))) refl
  where
    by_length : (long : Bool) → nat_lt typed_limit (length (b ∷ rest)) ≡ long → ⊥
    by_length true e = ends_long (sym (ap (λ w. wish_value w after) quits) ∙ bounds.1 e)
    by_length false e = decides_no_end t standing (decided (typed_by numbers t (b ∷ rest))) wish
        (on.means (some_long (length rest)) e).1 quits

-- so a command that is asked about is `bye`
command_asked : (numbers : Numbers) (t : Talk) (standing : Standing) (before after : List ℕ) (wish : Wish)
    (word : Leave) → Leaves wish after word → AsksInBounds before (wish_value wish after)
    → GoesOnAs numbers t standing before after wish ⊎ GoesOut t before after wish → Some word ≡ Some L.Bye
command_asked numbers t standing before after wish word (inr b) bounds goes = ap (λ w. Some w) b.2
command_asked numbers t standing before after wish word (inl q) bounds (inl on) =
    absurd (goes_no_end numbers t standing before after wish on bounds q.0)
command_asked numbers t standing before after wish word (inl q) bounds (inr out) =
    absurd (quit_is_send (sym q.0 ∙ out.sends))

-- and goes on so
pub known_asked : (client : ClientValue) (numbers : Numbers) (standing : Standing) (before after : List ℕ)
    (wish : Wish) (word : Leave) → Leaves wish after word → AsksInBounds before (wish_value wish after)
    → ((t : Talk) → StandsAfter client t → is_command (typed_by numbers t before) ≡ true
    → GoesOnAs numbers t standing before after wish ⊎ GoesOut t before after wish)
    → (t : Talk) → StandsAfter client t → is_command (typed_by numbers t before) ≡ true
    → GoesOnAs numbers t standing before after W.Answered
    ⊎ (GoesOut t before after W.Answered ⊎ (Some word ≡ Some L.Bye))
known_asked client numbers standing before after wish word leaves bounds goes t stands known =
    inr (inr (command_asked numbers t standing before after wish word leaves bounds (goes t stands known)))

-- `bye` is no decision, by whatever numbers
bye_is : (way : Direction) → typed_in way (codes "bye") ≡ typed_plain bye
unfolding read_command decision_in turn_in read_plain plain_in alone_in saying_in letter_in
bye_is way = refl

-- a plain command decides nothing
plain_is_decision : (d : DecisionValue) → typed_plain bye ≡ typed_decision d → ⊥
plain_is_decision d same = absurd cc

-- so `bye` is not
bye_decides : (t : Talk) (d : DecisionValue) (line : List ℕ) → line ≡ codes "bye" → typed_now t line ≡ typed_decision d
    → ⊥
bye_decides t d line same is =
    plain_is_decision d (sym (bye_is (shown_direction (shown_now t))) ∙ sym (ap (typed_now t) same) ∙ is)

-- after `go` nobody takes leave
go_stays : (t : Talk) (kept : Option Trial) (line : List ℕ) (wish : Wish) (word : Leave) → Leaves wish line word
    → SendsTried t kept wish line → ⊥
go_stays t kept line wish word (inl q) sends = by_wish sends.either
  where
    by_wish : (wish ≡ W.Say) ⊎ (wish ≡ W.Answered) → ⊥
    by_wish (inl says) = quit_is_say (sym q.0 ∙ says)
    by_wish (inr answers) = quit_is_answered (sym q.0 ∙ answers)
go_stays t kept line wish word (inr b) sends =
    let said = sends.says b.0 in bye_decides t (tried said.0) line b.1 said.2.is_read

-- so nothing is to be shown of it
pub went_asked : (client : ClientValue) (kept : Option Trial) (before after : List ℕ) (wish : Wish) (word : Leave)
    → Leaves wish after word
    → (before ≡ codes "go" → (t : Talk) → StandsAfter client t → SendsTried t kept wish after)
    → before ≡ codes "go" → (t : Talk) → StandsAfter client t → SendsTried t kept W.Answered after
went_asked client kept before after wish word leaves sends go t stands =
    absurd (go_stays t kept after wish word leaves (sends go t stands))

-- nor by the command of a play that a line shows
play_stays : (t : Talk) (standing : Standing) (play : List Hop) (line : List ℕ) (wish : Wish) (word : Leave)
    → Leaves wish line word → TakesPlay t standing play line wish → ⊥
play_stays t standing play line wish word (inl q) takes =
    decides_no_end t standing (Some (move play)) wish takes.decides q.0
play_stays t standing play line wish word (inr b) takes = bye_decides t (move play) line b.1 takes.reads

-- so nothing is to be shown of that
pub shown_asked : (client : ClientValue) (numbers : Numbers) (standing : Standing) (before after : List ℕ)
    (wish : Wish) (word : Leave) → Leaves wish after word
    → ShownGoesOn {E = Unit {0}} client numbers standing before after (Ok wish)
    → ShownGoesOn {E = Unit {0}} client numbers standing before after (Ok W.Answered)
shown_asked client numbers standing before after wish word leaves goes t stands short unknown steps shown =
    let it = goes t stands short unknown steps shown in
    absurd (play_stays t standing it.0 after wish word leaves it.2)

-- `quit` is no command, by whatever numbers
quit_is_none : (way : Direction) → is_command (typed_in way (codes "quit")) ≡ false
unfolding read_command decision_in turn_in read_plain plain_in alone_in saying_in letter_in
quit_is_none way = refl

-- a line that is a command is not `quit`
pub never_quit : (numbers : Numbers) (t : Talk) (line : List ℕ) → line ≡ codes "quit"
    → true ≡ is_command (typed_by numbers t line) → ⊥
never_quit numbers t line same known = false≢true
    (sym (known ∙ ap (λ text. is_command (typed_by numbers t text)) same ∙ quit_is_none (way_now numbers t)))

-- who is asked about a word has typed it
typed_it : (b : Bool) (now : Option Leave) (word : Leave) → cond b now None ≡ Some word → now ≡ Some word
typed_it true now word e = e
typed_it false now word e = absurd cc

-- of a word that is not `bye` the question of `fix` is over
pub asked_bye : (is_on : Bool) (before now : Option Leave) (word : Leave) (x : Bool)
    → asked_first is_on before now ≡ Some word → (is_bye now ≡ false → x ≡ false) → x ≡ true
    → Some word ≡ Some L.Bye
asked_bye is_on before now L.Bye x e over is = refl
asked_bye is_on before now L.Quit x e over is =
    let same : now ≡ Some L.Quit = typed_it (is_on && not (is_again before now)) now L.Quit e in
    let shut : x ≡ false = over (ap is_bye same) in absurd (false≢true (sym shut ∙ is))
