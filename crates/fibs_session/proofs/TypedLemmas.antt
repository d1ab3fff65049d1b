-- What a line is by the numbers that the user reads, and by those of the server.
use Rattle.std.proofs.Common.{◌≡◌, ◌∙◌, ℕ, Bool, true, false, List, [], ◌∷◌, Option, Some, None, refl, sym, ap, cond, codes}
use Rattle.std.proofs.lemmas.Bool.{false≢true}
use Rattle.std.specs.Str.{bytes_eq}
use Rattle.fibs_position.specs.DecisionValue.{DecisionValue, roll, double, accept, reject, move, resign, IsDecision}
use Rattle.fibs_position.specs.declared.direction.Direction.{Direction}
use Rattle.fibs_position.specs.declared.numbers.Numbers.{Numbers}
use Rattle.fibs_position.specs.declared.stake.Stake.TheVariants.{Normal, Gammon, Backgammon}
use Rattle.fibs_commands.specs.CommandLaws.{ReadCommandIsExact}
use Rattle.fibs_commands.specs.CommandReading.{read_command}
use Rattle.fibs_commands.specs.Commands.{command_of}
use Rattle.fibs_commands.specs.PlainCommands.{PlainValue}
use Rattle.fibs_commands.specs.PlainReading.{read_plain, plain_in, alone_in, saying_in, letter_in}
use Rattle.fibs_session.specs.History.Machine.{Talk, shown_now}
use Rattle.fibs_session.specs.Typing.{IsMeant, ShownIsRead, decided, typed_decision, typed_order, typed_withdrawal, typed_none, is_command, order_in, shown_direction, typed_as, typed_by, typed_in, way_now}

-- something is not nothing
something : {d : DecisionValue} → None ≡ Some d → ⊥
something e = absurd cc

-- a standing order is no decision
order_is_none : (text : List ℕ) → decided (order_in text) ≡ None
order_is_none text = go (bytes_eq text (codes "order roll")) (bytes_eq text (codes "withdraw roll"))
  where
    go : (a b : Bool) → decided (cond a typed_order (cond b typed_withdrawal typed_none)) ≡ None
    go true b = refl
    go false true = refl
    go false false = refl

-- a line that is a decision is its command
read_of : (direction : Direction) (text : List ℕ) (d : DecisionValue) → decided (typed_in direction text) ≡ Some d
    → read_command direction text ≡ Some d
read_of direction text d is = go (read_command direction text) (read_plain text) is
  where
    go : (o : Option DecisionValue) (p : Option PlainValue) → decided (typed_as o p (order_in text)) ≡ Some d
        → o ≡ Some d
    go (Some e) p same = same
    go None (Some q) same = absurd (something same)
    go None None same = absurd (something (sym (order_is_none text) ∙ same))

-- the command of a decision is that decision
decision_typed : ReadCommandIsExact → (direction : Direction) (text : List ℕ) (d : DecisionValue) → IsDecision d
    → text ≡ command_of direction d → typed_in direction text ≡ typed_decision d
decision_typed exact direction text d valid is =
    ap (λ o. typed_as o (read_plain text) (order_in text))
    ((exact direction text d).1 (record { valid = valid; text_is = is }))

-- it is no plain command and no order
is_no_word : (direction : Direction) (d : DecisionValue)
    → is_command (typed_as None (read_plain (command_of direction d)) (order_in (command_of direction d))) ≡ false
unfolding command_of read_plain plain_in alone_in saying_in letter_in
is_no_word direction roll = refl
is_no_word direction double = refl
is_no_word direction accept = refl
is_no_word direction reject = refl
is_no_word direction (move []) = refl
is_no_word direction (move (step ∷ steps)) = refl
is_no_word direction (resign Normal) = refl
is_no_word direction (resign Gammon) = refl
is_no_word direction (resign Backgammon) = refl

-- what is a command by one kind of numbers, and no decision, is the same by the other kind
same_by_both : ReadCommandIsExact → (a b : Direction) (text : List ℕ) → decided (typed_in a text) ≡ None
    → is_command (typed_in a text) ≡ true → typed_in b text ≡ typed_in a text
same_by_both exact a b text none known = go (read_command a text) (read_command b text) refl refl
  where
    go : (o r : Option DecisionValue) → read_command a text ≡ o → read_command b text ≡ r
        → typed_in b text ≡ typed_in a text
    go (Some d) r e f =
        absurd (something (sym none ∙ ap (λ x. decided (typed_as x (read_plain text) (order_in text))) e))
    go None None e f = ap (λ x. typed_as x (read_plain text) (order_in text)) (f ∙ sym e)
    go None (Some d) e f =
        absurd (false≢true (sym (is_no_word b d)
        ∙ ap (λ x. is_command (typed_as None (read_plain x) (order_in x))) (sym ((exact b text d).0 f).text_is)
        ∙ ap (λ x. is_command (typed_as x (read_plain text) (order_in text))) (sym e) ∙ known))

-- in place of a decision in the numbers that the user reads comes its command in those of the server
pub decision_is_meant : ReadCommandIsExact → (numbers : Numbers) (t : Talk) (text line : List ℕ) (d : DecisionValue)
    → Some d ≡ decided (typed_by numbers t text) → line ≡ command_of (shown_direction (shown_now t)) d
    → IsMeant numbers t text line
decision_is_meant exact numbers t text line d is same =
    let way = way_now numbers t in
    let direction = shown_direction (shown_now t) in
    let read = (exact way text d).0 (read_of way text d (sym is)) in
    record {
      means = λ known. decision_typed exact direction line d read.valid same
          ∙ sym (decision_typed exact way text d read.valid read.text_is);
      stays = λ e. same
          ∙ sym ((exact direction text d).0 (read_of direction text d (ap decided e ∙ sym is))).text_is;
    }

-- any other line stays
pub other_is_meant : ReadCommandIsExact → (numbers : Numbers) (t : Talk) (text : List ℕ)
    → None ≡ decided (typed_by numbers t text) → IsMeant numbers t text text
other_is_meant exact numbers t text none = record {
  means = λ known. same_by_both exact (way_now numbers t) (shown_direction (shown_now t)) text (sym none) known;
  stays = λ e. refl;
}

-- what is shown is read
pub shown_is_read : ReadCommandIsExact → ShownIsRead
shown_is_read exact numbers t d valid =
    decision_typed exact (way_now numbers t) (command_of (way_now numbers t) d) d valid refl
