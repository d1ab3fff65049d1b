-- Why the first line that begins a match for which the server plays is only answered, and what it is answered breaks no
-- other promise.
use Rattle.std.proofs.Common.{◌≡◌, ◌&&◌, ℕ, Bool, not, true, false, List, Option, Ok, refl, sym, ap, ◌∙◌}
use Rattle.std.proofs.lemmas.Bool.{false≢true}
use Rattle.fibs_position.specs.DecisionValue.{DecisionValue, move}
use Rattle.fibs_position.specs.declared.numbers.Numbers.{Numbers}
use Rattle.fibs_session.specs.History.Machine.{Talk}
use Rattle.fibs_session.specs.Calls.Standing.{ClientValue, StandsAfter}
use Rattle.fibs_session.specs.Typing.{typed_decision, typed_now}
use Rattle.fibs_connect.specs.declared.wish.Wish.{Wish}
use Rattle.fibs_connect.specs.declared.wish.Wish.TheVariants as W
use Rattle.fibs_advice.specs.declared.standing.Standing.{Standing}
use Rattle.fibs_terminal.specs.Asking.{ShownGoesOn}
use Rattle.fibs_terminal.specs.Leaving.{TakesLeave}
use Rattle.fibs_terminal.specs.declared.leaving.Leave.{Leave}
use Rattle.fibs_terminal.specs.Beginning.{begins_in, is_asked_now}

-- the user is asked now, and why
pub record IsAskedNow (plays before : Bool) (wish : Wish) (begins : Bool) : Type 0 where
  pub says : wish ≡ W.Say
  pub plays_now : plays ≡ true
  pub first : before ≡ false
  pub begins_now : begins ≡ true

-- the answer to a line by three facts
asked_by : (plays before begins : Bool) → (plays && (not before && begins)) ≡ true
    → IsAskedNow plays before W.Say begins
asked_by true false true all = record { says = refl; plays_now = refl; first = refl; begins_now = refl }
asked_by true false false all = absurd (false≢true all)
asked_by true true begins all = absurd (false≢true all)
asked_by false before begins all = absurd (false≢true all)

-- he is asked about such a line alone
pub asked_now : (plays before : Bool) (wish : Wish) (begins : Bool) → is_asked_now plays before wish begins ≡ true
    → IsAskedNow plays before wish begins
asked_now plays before W.Say begins all = asked_by plays before begins all
asked_now plays before W.Quit begins all = absurd (false≢true all)
asked_now plays before W.Open begins all = absurd (false≢true all)
asked_now plays before W.Players begins all = absurd (false≢true all)
asked_now plays before W.TooLong begins all = absurd (false≢true all)
asked_now plays before W.Listen begins all = absurd (false≢true all)
asked_now plays before W.Send begins all = absurd (false≢true all)
asked_now plays before W.Answered begins all = absurd (false≢true all)

-- no decision begins a match
decides_none : (d : DecisionValue) → begins_in (typed_decision d) ≡ true → ⊥
decides_none d is = false≢true is

-- a line that does is none
no_decision : (client : ClientValue) (t : Talk) (line : List ℕ) (begins : Bool) (d : DecisionValue)
    → ((t : Talk) → StandsAfter client t → begins ≡ begins_in (typed_now t line)) → StandsAfter client t
    → begins ≡ true → typed_now t line ≡ typed_decision d → ⊥
no_decision client t line begins d is stands now reads =
    decides_none d (sym (ap begins_in reads) ∙ sym (is t stands) ∙ now)

-- a line that is only answered takes no leave, and asks about none
answered_is_say : W.Say ≡ W.Answered → ⊥
answered_is_say same = absurd cc

-- so whatever is said of leave is so of it
pub leave_warned : (is_on : Bool) (before after : Option Leave) (line : List ℕ) (wish : Wish) → wish ≡ W.Say
    → TakesLeave is_on before after line wish → TakesLeave is_on before after line W.Answered
leave_warned is_on before after line wish says takes = record {
  again = λ word on is. absurd cc;
  asked = λ word is. absurd (answered_is_say (sym says ∙ (takes.asked word is).answered));
}

-- it shows no play
pub shown_warned : (client : ClientValue) (numbers : Numbers) (standing : Standing) (before text after : List ℕ)
    (wish : Wish) (begins : Bool)
    → ((t : Talk) → StandsAfter client t → begins ≡ begins_in (typed_now t text)) → text ≡ after → begins ≡ true
    → ShownGoesOn {E = Unit {0}} client numbers standing before after (Ok wish)
    → ShownGoesOn {E = Unit {0}} client numbers standing before after (Ok W.Answered)
shown_warned client numbers standing before text after wish begins is same now goes t stands short unknown steps shown
    =
    let it = goes t stands short unknown steps shown in
    absurd (no_decision client t text begins (move it.0) is stands now (ap (typed_now t) same ∙ it.2.reads))
