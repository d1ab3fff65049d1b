-- From the fields to the history, for each call of a session.
use Rattle.std.proofs.Common.{◌≡◌, ℕ, Bool, true, false, List, [], ◌∷◌, Option, Some, None, is_some, if◌then◌else◌, refl, sym, ◌∙◌, ap, subst}
use Rattle.fibs_lines.specs.Lines.{ReadLine}
use Rattle.fibs_position.specs.DecisionValue.{DecisionValue}
use Rattle.fibs_position.specs.GamePart.{same_game}
use Rattle.fibs_commands.specs.PlainCommands.{PlainValue, plain_of}
use Rattle.fibs_game.specs.declared.refusal.Refusal.{Refusal}
use Rattle.fibs_game.specs.declared.refusal.Refusal.TheVariants.{AlreadyOpen}
use Rattle.fibs_session.specs.declared.histories.refusal.PlainRefusal.{PlainRefusal}
use Rattle.fibs_session.specs.History.Log.{Lost}
use Rattle.fibs_session.specs.History.Words.{Ask, IsLikeness, last, open_now, shown, unconfirmed}
use Rattle.fibs_session.specs.History.Hearing.{nothing_heard, line_reading}
use Rattle.fibs_session.specs.History.Machine.{Talk, Outcome, Open, Lose, Click, PlainInput, start, stays, does, is_online, opened, opens, open_refusal, loses, unconfirmed_now, clicks, plains, answer_now, plain_refusal, heard_by, line_heard, hears, shown_now, ordered_now, Order, Withdraw, order_refusal, withdraw_refusal, orders_on, withdraws}
use Rattle.fibs_session.specs.Calls.SessionValue.{SessionValue, IsNoToggle, At}
use Rattle.fibs_session.specs.Calls.FieldSteps.{fresh, lost, unheard, line_fields, heard_fields, answer_of, with_ask, open_fields, open_send, open_refusal_of, lose_fields, decide_fields, decide_send, command_for, plain_refusal_of, with_plain, plain_fields, plain_send, order_refusal_of, withdraw_refusal_of, with_order}
use Rattle.fibs_commands.specs.Logins.{login_text}
use Rattle.fibs_session.specs.Calls.Standing.{SessionStandsAfter}
use Rattle.fibs_session.specs.Calls.Doing.{SessionDoes, SessionHears}
use Rattle.fibs_session.proofs.History.Fields.{at_start, online_law, at_opened, at_lost, unheard_law, answer_law}
use Rattle.fibs_session.proofs.History.Steps.{HeardIs, heard_law, refused_law, sent_law, plain_law, plain_sent_law, plain_refused_law, ordered_law, order_refusal_law, withdraw_refusal_law, order_law, withdraw_law}

-- a choice of two sessions is at the same choice of two steps if each is
both : (b : Bool) (v w : SessionValue) (s u : Outcome)
    → (b ≡ true → At v s.talk) → (b ≡ false → At w u.talk) → At (if b then v else w) (if b then s else u).talk
both true v w s u f g = f refl
both false v w s u f g = g refl

-- a choice of two steps hands out what the chosen one does
send_if : (b : Bool) (s u : Outcome) → (if b then s.send else u.send) ≡ (if b then s else u).send
send_if true s u = refl
send_if false s u = refl

-- a login turns nothing off
login_no_toggle : (name password : List ℕ) → IsNoToggle (login_text name password)
unfolding login_text plain_of
login_no_toggle name password = record { no_automove = refl; no_greedy = refl }

-- a session that heard nothing is at no inputs
pub start_law : (name password : List ℕ) (v : SessionValue)
    → v ≡ fresh (login_text name password) false → SessionStandsAfter v (start (login_text name password))
unfolding SessionStandsAfter
start_law name password v e = subst (λ x. At x (start (login_text name password)))
    (sym e) (at_start (login_text name password) (login_no_toggle name password))

-- the fields after `open` are those of the machine's `Open`
pub open_does : (v v' : SessionValue) (send : List (List ℕ))
    → v' ≡ open_fields v → send ≡ open_send v → SessionDoes v v' Open send
unfolding SessionStandsAfter
open_does v v' send e f = record {
  stands = λ t at. subst (λ x. At x (opens t).talk) (sym e)
      (subst (λ b. At (open_fields v) (if b then stays t else record { talk = opened t; send = t.login ∷ [] }).talk)
      (online_law v t at)
      (both v.online v (fresh v.login true)
      (stays t) (record { talk = opened t; send = t.login ∷ [] }) (λ on. at) (λ off. at_opened v t at off)));
  hands = λ t at. f ∙ ap (λ b. if b then [] else v.login ∷ []) (online_law v t at)
      ∙ ap (λ l. if is_online t then [] else l ∷ []) at.logs_in
      ∙ send_if (is_online t) (stays t) (record { talk = opened t; send = t.login ∷ [] });
}

-- `open` is refused as the history says
pub open_refuses : (v : SessionValue) (a : Option Refusal)
    → a ≡ open_refusal_of v → (t : Talk) → SessionStandsAfter v t → a ≡ open_refusal t
unfolding SessionStandsAfter
open_refuses v a e t at = e ∙ ap (λ b. if b then Some AlreadyOpen else None) (online_law v t at)

-- the fields after `lose` are those of the machine's `Lose`
pub lose_does : (v v' : SessionValue) → v' ≡ lose_fields v → SessionDoes v v' Lose []
unfolding SessionStandsAfter
lose_does v v' e = record {
  stands = λ t at.
      let s : Outcome = does t (Lost (open_now t.log) (unconfirmed_now t) ∷ []) [] in
      subst (λ x. At x (loses t).talk) (sym e)
      (subst (λ b. At (lose_fields v) (if b then s else stays t).talk) (online_law v t at)
      (both v.online (lost v) v s (stays t) (λ on. at_lost v t at (unconfirmed_now t)) (λ off. at)));
  hands = λ t at. two (is_online t)
      ∙ send_if (is_online t) (does t (Lost (open_now t.log) (unconfirmed_now t) ∷ []) []) (stays t);
}
  where
    none : List (List ℕ)
    none = []

    two : (b : Bool) → none ≡ (if b then none else none)
    two true = refl
    two false = refl

-- the decision that waits is what is unconfirmed
pub waiting_law : (v : SessionValue) (t : Talk) → SessionStandsAfter v t → v.waiting ≡ unconfirmed_now t
unfolding SessionStandsAfter
waiting_law v t at = at.not_confirmed ∙ ap (λ n. unconfirmed n t.log) (sym at.is_open)

-- the board that is shown is the last of the open connection
pub shown_law : (v : SessionValue) (t : Talk) → SessionStandsAfter v t → v.shown ≡ shown_now t
unfolding SessionStandsAfter
shown_law v t at = at.on_board ∙ ap (λ n. last (shown n t.log)) (sym at.is_open)

-- the session is online exactly if a connection is open
pub online_is : (v : SessionValue) (t : Talk) → SessionStandsAfter v t → v.online ≡ is_online t
unfolding SessionStandsAfter
online_is v t at = online_law v t at

-- a decision is answered as the history says
pub answer_is : (v : SessionValue) (d : DecisionValue) (a : Option Refusal)
    → a ≡ answer_of v d → (t : Talk) → SessionStandsAfter v t → a ≡ answer_now t d
unfolding SessionStandsAfter
answer_is v d a e t at = e ∙ answer_law v t at d

-- the fields after a decision are those of the machine's `Click`
pub decide_does : (v v' : SessionValue) (d : DecisionValue) (send : List (List ℕ))
    → v' ≡ decide_fields v d → send ≡ decide_send v d → SessionDoes v v' (Click d) send
unfolding SessionStandsAfter
decide_does v v' d send e f = record {
  stands = λ t at. subst (λ x. At x (clicks t d).talk) (sym e) (go t at (answer_of v d) refl).0;
  hands = λ t at. f ∙ (go t at (answer_of v d) refl).1;
}
  where
    go : (t : Talk) (at : At v t) (a : Option Refusal) → answer_of v d ≡ a
        → At (if is_some a then v else with_ask v d v.shown) (clicks t d).talk
        × ((if is_some a then [] else command_for d v.shown) ≡ (clicks t d).send)
    go t at (Some why) h = let r = refused_law v t at d why h in (r.0, sym r.1)
    go t at None h = let r = sent_law v t at d h in (r.2, ap (command_for d) r.1 ∙ sym r.3)

-- a plain command is refused as the history says
pub plain_refuses : (v : SessionValue) (p : PlainValue) (a : Option PlainRefusal)
    → a ≡ plain_refusal_of v p → (t : Talk) → SessionStandsAfter v t → a ≡ plain_refusal t p
unfolding SessionStandsAfter
plain_refuses v p a e t at = e ∙ plain_law v t at p

-- the fields after a plain command are those of the machine's `PlainInput`
pub plain_does : (v v' : SessionValue) (p : PlainValue) (send : List (List ℕ))
    → v' ≡ plain_fields v p → send ≡ plain_send v p → SessionDoes v v' (PlainInput p) send
unfolding SessionStandsAfter
plain_does v v' p send e f = record {
  stands = λ t at. subst (λ x. At x (plains t p).talk) (sym e) (go t at (plain_refusal_of v p) refl).0;
  hands = λ t at. f ∙ (go t at (plain_refusal_of v p) refl).1;
}
  where
    go : (t : Talk) (at : At v t) (a : Option PlainRefusal) → plain_refusal_of v p ≡ a
        → At (if is_some a then v else with_plain v p) (plains t p).talk
        × ((if is_some a then [] else plain_of p ∷ []) ≡ (plains t p).send)
    go t at (Some why) h = let r = plain_refused_law v t at p why h in (r.0, sym r.1)
    go t at None h = let r = plain_sent_law v t at p h in (r.0, sym r.1)

-- a standing order

-- a standing order is refused as the history says
pub order_refuses : (v : SessionValue) (a : Option Refusal)
    → a ≡ order_refusal_of v → (t : Talk) → SessionStandsAfter v t → a ≡ order_refusal t.log
unfolding SessionStandsAfter
order_refuses v a e t at = e ∙ order_refusal_law v t at

-- the end of a standing order is refused as the history says
pub withdraw_refuses : (v : SessionValue) (a : Option Refusal)
    → a ≡ withdraw_refusal_of v → (t : Talk) → SessionStandsAfter v t → a ≡ withdraw_refusal t.log
unfolding SessionStandsAfter
withdraw_refuses v a e t at = e ∙ withdraw_refusal_law v t at

-- the fields after a standing order are those of the machine's `Order`
pub order_does : (v v' : SessionValue) → v' ≡ with_order v true (order_refusal_of v) → SessionDoes v v' Order []
unfolding SessionStandsAfter
order_does v v' e = record {
  stands = λ t at. subst (λ x. At x (orders_on t).talk) (sym e) (order_law v t at).0;
  hands = λ t at. sym (order_law v t at).1;
}

-- the fields after the end of an order are those of the machine's `Withdraw`
pub withdraw_does : (v v' : SessionValue)
    → v' ≡ with_order v false (withdraw_refusal_of v) → SessionDoes v v' Withdraw []
unfolding SessionStandsAfter
withdraw_does v v' e = record {
  stands = λ t at. subst (λ x. At x (withdraws t).talk) (sym e) (withdraw_law v t at).0;
  hands = λ t at. sym (withdraw_law v t at).1;
}

-- the session knows whether a standing order is in force
pub ordered_is : (v : SessionValue) (t : Talk) → SessionStandsAfter v t → v.ordered ≡ ordered_now t
unfolding SessionStandsAfter
ordered_is v t at = ordered_law v t at

module _ (likeness : IsLikeness same_game) (v : SessionValue) (l : ReadLine) where
  -- a line does to the fields what it does to the machine, and offline nothing
  is : (t : Talk) → At v t → HeardIs t (line_fields v (line_reading l)) (line_heard t l)
  is t at =
      subst (λ b. HeardIs t (line_fields v (line_reading l)) (if b then heard_by t (line_reading l) else nothing_heard))
      (online_law v t at)
      (go v.online refl)
    where
      go : (b : Bool) → v.online ≡ b → HeardIs t (if b then heard_fields v (line_reading l) else unheard v)
          (if b then heard_by t (line_reading l) else nothing_heard)
      go true on = heard_law v t at on likeness (line_reading l)
      go false off = record { after = unheard_law v t at; send = refl; confirmed = refl; rolled = refl }

  -- the session's answer to a line is that of the machine
  pub line_hears : (v' : SessionValue) (send : List (List ℕ)) (confirmed : Option Ask) (rolled : Bool)
      → v' ≡ (line_fields v (line_reading l)).session → send ≡ (line_fields v (line_reading l)).send
      → confirmed ≡ (line_fields v (line_reading l)).confirmed → rolled ≡ (line_fields v (line_reading l)).rolled
      → SessionHears v v' l send confirmed rolled
  unfolding SessionStandsAfter
  line_hears v' send confirmed rolled e f g h = record {
    stands = λ t at. subst (λ x. At x (hears t (line_heard t l)).talk) (sym e) (is t at).after;
    hands = λ t at. f ∙ (is t at).send;
    confirms = λ t at. g ∙ (is t at).confirmed;
    rolls = λ t at. h ∙ (is t at).rolled;
  }
