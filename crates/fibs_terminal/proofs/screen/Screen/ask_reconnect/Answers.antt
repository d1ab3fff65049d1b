use Rattle.std.proofs.Common.{◌≡◌, ◌++◌, ◌∙◌, ℕ, Bool, true, false, List, Some, None, Result, Ok, Err, codes, ap, sym}
use Rattle.std.specs.Prelude.{OnOk, cond}
use Rattle.fibs_position.specs.DecisionValue.{roll}
use Rattle.fibs_session.specs.Calls.Standing.{ClientValue, StandsAfter}
use Rattle.fibs_session.specs.History.Machine.{Talk, answer_now}
use Rattle.fibs_terminal.specs.Again.{after_asked, lacks_connection, next_wait, reconnect_words, try_words}
use Rattle.fibs_terminal.specs.declared.reconnecting.Reconnecting.{Reconnecting}
use Rattle.fibs_terminal.proofs.screen.Screen.ask_reconnect.Goals as goal

-- the time that is said is that of the first try
first_try : (n m : ℕ) → Some n ≡ Some m → n ≡ m
first_try n m same = cc

-- it is said only if there is no connection
asked_now : {E : Type 0} (r : Result (Unit {0}) E) (client : ClientValue) (is_out : Bool) (was : Reconnecting) (n : ℕ)
    (old new : List ℕ) → ((t : Talk) → StandsAfter client t → is_out ≡ lacks_connection (answer_now t roll))
    → Some n ≡ cond (after_asked is_out was).tries (Some (after_asked is_out was).wait) None
    → OnOk r (new ≡ old ++ try_words (codes "connecting in ") n)
    → OnOk r ((t : Talk) → StandsAfter client t
    → new ≡ old ++ reconnect_words (lacks_connection (answer_now t roll)))
asked_now (Err e) client is_out was n old new is some p = tt
asked_now (Ok u) client true was n old new is some p = λ t stands.
    p ∙ ap (λ k. old ++ try_words (codes "connecting in ") k) (first_try n (next_wait 0) some)
    ∙ ap (λ b. old ++ reconnect_words b) (is t stands)
asked_now (Ok u) client false was n old new is some p = absurd cc

pub returns-in-Some-clause-says : goal.returns-in-Some-clause-says
returns-in-Some-clause-says c =
    asked_now c.say_seconds.result c.args.client.now c.is_offline.result
    c.args.self.now.memory.program.reconnecting c.in-Some.seconds _ _ c.is_offline.ensures
    (sym c.in-Some.is ∙ c.seconds.ensures ∙ ap (λ (r : Reconnecting). cond r.tries (Some r.wait) None) c.ask.ensures)
    c.say_seconds.ensures
