-- Why what goes past the client is what it would not take, and a decision only on the server's word.
use Rattle.std.proofs.Common.{◌≡◌, ◌⊎◌, ◌++◌, ◌&&◌, Bool, not, true, false, ℕ, List, Option, Some, None, Result, Ok, Err, IfOk, is_none, append_assoc, codes, refl, sym, ap, ◌∙◌, subst, inl, inr}
use Rattle.std.specs.Prelude.{option_map, unwrap_or}
use Rattle.std.specs.Str.{str_eq_ignore_ascii_case}
use Rattle.std.proofs.lemmas.Bool.{true≢false}
use Rattle.fibs_fields.specs.Split.{before}
use Rattle.fibs_game.specs.declared.refusal.Refusal.{Refusal}
use Rattle.fibs_commands.specs.Commands.{command_of}
use Rattle.fibs_position.specs.DecisionValue.{DecisionValue, IsDecision, decision_of, roll, double, accept, reject, move, resign}
use Rattle.fibs_position.specs.Laws.{DecisionsAreValid}
use Rattle.fibs_position.specs.declared.decision.Decision.{Decision}
use Rattle.fibs_position.specs.declared.direction.Direction.{Direction}
use Rattle.fibs_position.specs.declared.numbers.Numbers.{Numbers}
use Rattle.fibs_session.specs.History.Machine.{Talk, answer_now, unconfirmed_now}
use Rattle.fibs_session.specs.Calls.Standing.{ClientValue, StandsAfter}
use Rattle.fibs_session.specs.Typing.{ShownIsRead, TypedValue, typed_decision, typed_plain, typed_order, typed_withdrawal, typed_none, decided, is_command, typed_by, typed_now, way_now, would_take}
use Rattle.fibs_connect.specs.declared.wish.Wish.{Wish}
use Rattle.fibs_connect.specs.declared.wish.Wish.TheVariants.{Say, Send}
use Rattle.fibs_advice.specs.Moved.{spelled_in}
use Rattle.fibs_advice.specs.Offers.{is_taken}
use Rattle.fibs_advice.specs.Passing.{GoesPast, is_answer, is_behind, is_greeted, is_open_in, may_answer}
use Rattle.fibs_advice.specs.Standings.{owes_answer}
use Rattle.fibs_advice.specs.declared.standing.Standing.{Standing}
use Rattle.fibs_terminal.specs.Asking.{GoesOnAs, GoesOut, IsTakenAs, IsTakenOrGoes, KnownGoesOn, SendsUntaken}
use Rattle.fibs_terminal.specs.Talking.{GoesAsTyped}
use Rattle.fibs_terminal.specs.Sending.{DecidesIf, SaysWithout, SendsNoDecision, WentOnWord, from_word, says_send}

-- an option is not both empty and full
none_is_some : {X : Type 0} {x : X} → None ≡ Some x → ⊥
none_is_some {X} {x} same = absurd cc

-- what is asked of the client does not go past it
say_is_send : Say ≡ Send → ⊥
say_is_send same = absurd cc

-- of two tests that hold the first does
first_of : (a b : Bool) → (a && b) ≡ true → a ≡ true
first_of true b both = refl
first_of false b both = absurd (true≢false (sym both))

-- and the second
second_of : (a b : Bool) → (a && b) ≡ true → b ≡ true
second_of true b both = both
second_of false b both = absurd (true≢false (sym both))

-- what is not true is false
not_true : (b : Bool) → not b ≡ true → b ≡ false
not_true true is = absurd (true≢false (sym is))
not_true false is = refl

-- what is behind another decision is refused
behind_untaken : (why : Option Refusal) → is_behind why ≡ true → is_none why ≡ false
behind_untaken None is = absurd (true≢false (sym is))
behind_untaken (Some why) is = refl

-- an offer of which texts alone tell is answered if the client refuses both answers
refuses_both : (t : Talk) (standing : Standing) → may_answer t standing ≡ true
    → (not (is_taken t accept) && not (is_taken t reject)) ≡ true
refuses_both t standing may = second_of (is_greeted (answer_now t accept)) _ (second_of (owes_answer standing) _ may)

-- so an answer is refused
answer_untaken : (t : Talk) (standing : Standing) (d : DecisionValue) → is_answer d ≡ true
    → may_answer t standing ≡ true → is_taken t d ≡ false
answer_untaken t standing roll is may = absurd (true≢false (sym is))
answer_untaken t standing double is may = absurd (true≢false (sym is))
answer_untaken t standing accept is may = not_true _ (first_of _ _ (refuses_both t standing may))
answer_untaken t standing reject is may = not_true _ (second_of _ _ (refuses_both t standing may))
answer_untaken t standing (move steps) is may = absurd (true≢false (sym is))
answer_untaken t standing (resign stake) is may = absurd (true≢false (sym is))

-- a decision that goes past the client is one that it refuses
past_untaken : (t : Talk) (standing : Standing) (d : DecisionValue) → GoesPast t standing d → is_taken t d ≡ false
past_untaken t standing d (inl a) = answer_untaken t standing d a.is_one a.may
past_untaken t standing d (inr r) = behind_untaken (answer_now t d)
    (first_of (is_behind (answer_now t d)) (is_open_in standing (unconfirmed_now t)) r.opened)

-- a decision that goes out goes past the client on the server's word
sent_decision : (t : Talk) (standing : Standing) (o : Option DecisionValue) (wish : Wish) → DecidesIf t standing o wish
    → wish ≡ Send → (d : DecisionValue) → o ≡ Some d → GoesPast t standing d
sent_decision t standing None wish is sends d same = absurd (none_is_some same)
sent_decision t standing (Some e) wish is sends d same =
    subst (λ x. GoesPast t standing x) (ap (λ o. unwrap_or o e) same) (is.sent sends)

-- what goes out of a command is what the client would not take
sent_untaken : (t : Talk) (standing : Standing) (v : TypedValue) (wish : Wish) → DecidesIf t standing (decided v) wish
    → wish ≡ Send → would_take t v ≡ false
sent_untaken t standing (typed_decision d) wish is sends = past_untaken t standing d (is.sent sends)
sent_untaken t standing (typed_plain p) wish is sends = absurd (say_is_send (sym is ∙ sends))
sent_untaken t standing typed_order wish is sends = absurd (say_is_send (sym is ∙ sends))
sent_untaken t standing typed_withdrawal wish is sends = absurd (say_is_send (sym is ∙ sends))
sent_untaken t standing typed_none wish is sends = absurd (say_is_send (sym is ∙ sends))

-- a command that is taken as another line
abbrev Taken : {E : Type 0} → ClientValue → Numbers → Standing → List ℕ → List ℕ → Result Wish E → Type 0
Taken client numbers standing before after result = IfOk result (λ wish. (t : Talk) → StandsAfter client t
    → is_command (typed_by numbers t before) ≡ true → IsTakenOrGoes numbers t standing before after wish)

-- talk that goes out as it was typed is no decision
talk_is_none : (t : Talk) (before after : List ℕ) (wish : Wish) → GoesOut t before after wish
    → decided (typed_now t after) ≡ None
talk_is_none t before after wish out =
    ap (λ x. decided (typed_now t x)) out.same ∙ ap decided out.talk.talk.is_typed

-- and the client would not take it
talk_is_untaken : (t : Talk) (before after : List ℕ) (wish : Wish) → GoesOut t before after wish
    → would_take t (typed_now t after) ≡ false
talk_is_untaken t before after wish out = ap (λ x. would_take t (typed_now t x)) out.same
    ∙ ap (would_take t) out.talk.talk.is_typed ∙ ap is_none out.talk.talk.refused

-- a command goes on so
goes_on : (numbers : Numbers) (t : Talk) (standing : Standing) (before after : List ℕ) (wish : Wish)
    → (typed_now t before ≡ typed_by numbers t before → after ≡ before)
    → IsTakenOrGoes numbers t standing before after wish
    → GoesOnAs numbers t standing before after wish ⊎ GoesOut t before after wish
goes_on numbers t standing before after wish stays (inl taken) =
    inl (record { stays = stays; means = λ some short. taken })
goes_on numbers t standing before after wish stays (inr out) = inr out

-- what it sends is a decision for which the server has asked, or none
goes_on_word : (numbers : Numbers) (t : Talk) (standing : Standing) (before after : List ℕ) (wish : Wish)
    → IsTakenOrGoes numbers t standing before after wish → wish ≡ Send → (d : DecisionValue)
    → decided (typed_now t after) ≡ Some d → GoesPast t standing d
goes_on_word numbers t standing before after wish (inl taken) sends d is =
    sent_decision t standing (decided (typed_by numbers t before)) wish taken.1 sends d (sym (ap decided taken.0) ∙ is)
goes_on_word numbers t standing before after wish (inr out) sends d is =
    absurd (none_is_some (sym (talk_is_none t before after wish out) ∙ is))

-- the client would not take it
goes_untaken : (numbers : Numbers) (t : Talk) (standing : Standing) (before after : List ℕ) (wish : Wish)
    → IsTakenOrGoes numbers t standing before after wish → wish ≡ Send → would_take t (typed_now t after) ≡ false
goes_untaken numbers t standing before after wish (inl taken) sends =
    ap (would_take t) taken.0 ∙ sent_untaken t standing (typed_by numbers t before) wish taken.1 sends
goes_untaken numbers t standing before after wish (inr out) sends = talk_is_untaken t before after wish out

-- what is a command is one if it is read again
pub is_command_too : (numbers : Numbers) (t : Talk) (text line : List ℕ) → text ≡ line
    → true ≡ is_command (typed_by numbers t text) → is_command (typed_by numbers t line) ≡ true
is_command_too numbers t text line same known =
    ap (λ x. is_command (typed_by numbers t x)) (sym same) ∙ sym known

-- goes on so
pub known_goes_on : {E : Type 0} (client : ClientValue) (numbers : Numbers) (standing : Standing)
    (before after : List ℕ) (result : Result Wish E)
    → ((t : Talk) → StandsAfter client t → typed_now t before ≡ typed_by numbers t before → after ≡ before)
    → Taken client numbers standing before after result → KnownGoesOn client numbers standing before after result
known_goes_on client numbers standing before after (Ok wish) stays taken = λ t stands known.
    goes_on numbers t standing before after wish (stays t stands) (taken t stands known)
known_goes_on client numbers standing before after (Err why) stays taken = tt

-- a decision of it goes past the client on the server's word
pub command_on_word : {E : Type 0} (client : ClientValue) (numbers : Numbers) (standing : Standing)
    (before after : List ℕ) (result : Result Wish E)
    → ((t : Talk) → StandsAfter client t → is_command (typed_by numbers t before) ≡ true)
    → Taken client numbers standing before after result → WentOnWord client standing after result
command_on_word client numbers standing before after (Ok wish) known taken = λ sends t stands d is.
    goes_on_word numbers t standing before after wish (taken t stands (known t stands)) sends d is
command_on_word client numbers standing before after (Err why) known taken = tt

-- what goes out of it the client would not take
pub command_untaken : {E : Type 0} (client : ClientValue) (numbers : Numbers) (standing : Standing)
    (before after : List ℕ) (result : Result Wish E)
    → ((t : Talk) → StandsAfter client t → is_command (typed_by numbers t before) ≡ true)
    → Taken client numbers standing before after result → SendsUntaken client after result
command_untaken client numbers standing before after (Ok wish) known taken = λ sends t stands.
    goes_untaken numbers t standing before after wish (taken t stands (known t stands)) sends
command_untaken client numbers standing before after (Err why) known taken = tt

-- if what goes out is no decision, nothing is to be shown
pub nothing_went : {E : Type 0} (client : ClientValue) (standing : Standing) (line : List ℕ) (result : Result Wish E)
    → SendsNoDecision client line result → WentOnWord client standing line result
nothing_went client standing line (Ok wish) none = λ sends t stands d is.
    absurd (none_is_some (sym (none sends t stands) ∙ is))
nothing_went client standing line (Err why) none = tt

-- a line's first word is `send`
pub says : (line trimmed word : List ℕ) (answer : Bool) → trimmed ≡ from_word line → word ≡ before 32 trimmed
    → answer ≡ str_eq_ignore_ascii_case word (codes "send") → answer ≡ says_send line
says line trimmed word answer trim first same =
    same ∙ ap (λ w. str_eq_ignore_ascii_case w (codes "send")) (first ∙ ap (before 32) trim)

-- talk that is sent as it was typed
pub talk_goes : (numbers : Numbers) (t : Talk) (standing : Standing) (before after : List ℕ) → after ≡ before
    → GoesAsTyped t before → IsTakenOrGoes numbers t standing before after Send
talk_goes numbers t standing before after same talk = inr (record { same = same; sends = refl; talk = talk })

-- what is taken is taken or goes
pub taken_goes : {E : Type 0} (client : ClientValue) (numbers : Numbers) (standing : Standing) (before after : List ℕ)
    (result : Result Wish E)
    → IfOk result (λ wish. (t : Talk) → StandsAfter client t → is_command (typed_by numbers t before) ≡ true
    → IsTakenAs numbers t standing before after wish)
    → Taken client numbers standing before after result
taken_goes client numbers standing before after (Ok wish) taken = λ t stands known. inl (taken t stands known)
taken_goes client numbers standing before after (Err why) taken = tt

-- the command of a decision in the numbers that the user reads is that decision, if he types it
same_typed : (numbers : Numbers) (t : Talk) (decision : Option Decision) (d : DecisionValue) → ShownIsRead
    → DecisionsAreValid → option_map decision_of decision ≡ Some d
    → typed_by numbers t (command_of (way_now numbers t) d) ≡ typed_decision d
same_typed numbers t None d law valid is = absurd (none_is_some is)
same_typed numbers t (Some x) d law valid is =
    let same : decision_of x ≡ d = cc in
    law numbers t d (subst IsDecision same (valid x))

-- what is said of a line that is typed without `send`, in three pieces
pub says_without : (numbers : Numbers) (t : Talk) (line before one two after : List ℕ) (decision : Option Decision)
    (way : Direction) → ShownIsRead → DecisionsAreValid → way ≡ way_now numbers t
    → option_map decision_of decision ≡ decided (typed_now t line)
    → one ≡ before ++ codes "Type it without send: "
    → two ≡ one ++ spelled_in way line (option_map decision_of decision) → after ≡ two ++ codes "\n"
    → SaysWithout numbers t line before after
says_without numbers t line before one two after decision way law valid goes read first second third = record {
  said = third ∙ ap (λ (s : List ℕ). s ++ codes "\n") (second
      ∙ ap (λ (s : List ℕ). s ++ spelled_in way line (option_map decision_of decision)) first
      ∙ ap (λ (w : Direction). before ++ codes "Type it without send: "
      ++ spelled_in w line (option_map decision_of decision)) goes
      ∙ ap (λ (o : Option DecisionValue). before ++ codes "Type it without send: "
      ++ spelled_in (way_now numbers t) line o) read)
      ∙ append_assoc (before ++ codes "Type it without send: ")
      (spelled_in (way_now numbers t) line (decided (typed_now t line))) (codes "\n")
      ∙ append_assoc before (codes "Type it without send: ")
      (spelled_in (way_now numbers t) line (decided (typed_now t line)) ++ codes "\n");
  same = λ d is. ap (λ (o : Option DecisionValue). typed_by numbers t (spelled_in (way_now numbers t) line o)) is
      ∙ same_typed numbers t decision d law valid (read ∙ is);
}
