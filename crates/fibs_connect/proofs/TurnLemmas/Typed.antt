-- What a typed line leaves as it is.
use Rattle.std.proofs.Common.{◌≡◌, ℕ, not, nat_eq, List, [], ◌∷◌, Option, None, Some, refl, sym, ap, subst, ◌∙◌, append-nil}
use Rattle.std.specs.Io.KnownBytes.{Appends}
use Rattle.fibs_fields.specs.Board.{BoardFields}
use Rattle.fibs_position.specs.DecisionValue.{DecisionValue}
use Rattle.arrayvec.specs.ArrayString.{ArrayString as CommandText}
use Rattle.fibs_commands.specs.PlainCommands.{PlainValue}
use Rattle.fibs_game.specs.declared.refusal.Refusal.{Refusal}
use Rattle.fibs_session.specs.Fibs.{fibs}
use Rattle.fibs_session.specs.declared.histories.refusal.PlainRefusal.{PlainRefusal}
use Rattle.fibs_session.specs.History.Log.{Entry, Clicked, Sent, Ordered, Withdrawn}
use Rattle.fibs_session.specs.History.Words.{last, open_from, open_now, shown}
use Rattle.fibs_session.specs.History.Machine.{Talk, is_online, answer_now, plain_refusal, on_wire, clicks_by, decides_on, sends_plain, notes_if, order_refusal, withdraw_refusal}
use Rattle.fibs_messages.specs.Message.{MessageValue}
use Rattle.fibs_engine.specs.Writing.{Wrote, Whole, Broken}
use Rattle.fibs_connect.specs.Told.{SaidValue, Joins, sent_said}
use Rattle.fibs_connect.specs.Turns.Acts.{Act, answer_act}
use Rattle.fibs_connect.specs.Turns.Script.{Did, Notes, outside}
use Rattle.fibs_session.specs.Typing.{TypedValue, typed_decision, typed_plain, typed_order, typed_withdrawal, typed_none}
use Rattle.fibs_connect.specs.Turns.Typing.{typed_step, typed_act}
use Rattle.fibs_game.proofs.past.Past.{open_append}
use Rattle.fibs_connect.proofs.TurnLemmas.Scripts.{did_alone, did_part, notes_nothing}

-- it reads no byte, and neither opens nor loses
pub record Stays (t u : Talk) : Type 0 where
  pub stream : u.stream ≡ t.stream
  pub online : is_online u ≡ is_online t

-- a machine has its own stream and is online as it is
stays_itself : (t : Talk) → Stays t t
stays_itself t = record { stream = refl; online = refl }

-- a decision that is sent leaves the stream and the connection
decides : (t : Talk) (d : DecisionValue) (b : Option BoardFields) → Stays t (decides_on t d b).talk
decides t d None = stays_itself t
decides t d (Some b) = record {
  stream = refl;
  online = ap (λ n. not (nat_eq n 0))
      ((open_append fibs) 0 t.log (Clicked (open_now t.log) d None ∷ Sent (open_now t.log) b d ∷ []));
}

-- a decision that is answered leaves the stream and the connection
clicks : (t : Talk) (d : DecisionValue) (a : Option Refusal) → Stays t (clicks_by t d a).talk
clicks t d (Some why) = record {
  stream = refl;
  online = ap (λ n. not (nat_eq n 0)) ((open_append fibs) 0 t.log (Clicked (open_now t.log) d (Some why) ∷ []));
}
clicks t d None = decides t d (last (shown (open_now t.log) t.log))

-- a plain command leaves the stream and the connection
says : (t : Talk) (p : PlainValue) (a : Option PlainRefusal) → Stays t (sends_plain t p a).talk
says t p (Some why) = stays_itself t
says t p None = record { stream = refl; online = ap (λ n. not (nat_eq n 0)) (ap open_now (append-nil t.log)) }

-- an order that is noted leaves the stream and the connection, if its entry opens and ends none
orders : (t : Talk) (e : Entry) (why : Option Refusal) → ((o : ℕ) → open_from o (e ∷ []) ≡ o)
    → Stays t (notes_if t e why).talk
orders t e (Some why) same = stays_itself t
orders t e None same = record {
  stream = refl;
  online = ap (λ n. not (nat_eq n 0)) ((open_append fibs) 0 t.log (e ∷ []) ∙ same (open_now t.log));
}

-- whatever is typed leaves the stream and the connection
pub typed_stays : (t : Talk) (v : TypedValue) → Stays t (typed_step t v).talk
typed_stays t (typed_decision d) = clicks t d (answer_now t d)
typed_stays t (typed_plain p) = says t p (plain_refusal t p)
typed_stays t typed_order = orders t (Ordered (open_now t.log)) (order_refusal t.log) (λ o. refl)
typed_stays t typed_withdrawal = orders t (Withdrawn (open_now t.log)) (withdraw_refusal t.log) (λ o. refl)
typed_stays t typed_none = stays_itself t

-- it gives the directory no message

-- the answer to a typed command has no message for the directory
answer_notes : (why : Option SaidValue) (send : List (List ℕ)) → (answer_act why send).notes ≡ []
answer_notes None send = refl
answer_notes (Some said) send = refl

-- the act of a typed line has no message for the directory
pub typed_notes : (t : Talk) (v : TypedValue) → (typed_act t v).notes ≡ []
typed_notes t (typed_decision d) = answer_notes _ _
typed_notes t (typed_plain p) = answer_notes _ _
typed_notes t typed_order = refl
typed_notes t typed_withdrawal = refl
typed_notes t typed_none = refl

-- ---- the answer of a call

-- offline no command is handed out
pub no_command : {E : Type 0} (why : E) (command : CommandText) → None ≡ Some why → ⊥
no_command why command e = absurd cc

-- ---- what was done for it

module _ {F : Type 0} {Tells : F → List SaidValue → F → Type 0} (joins : Joins Tells) (t : Talk) (v : TypedValue) where
  -- the directory is after a typed line as before
  quiet : (players : List MessageValue) → Notes (Some players) (Some players) (typed_act t v).notes
  quiet players = subst (Notes (Some players) (Some players)) (sym (typed_notes t v)) (notes_nothing (Some players))

  -- it is answered by what is reported
  pub did_reply : (said : SaidValue) (wrote : Option (List ℕ)) (before after : F) (players : List MessageValue)
      → answer_act (Some said) [] ≡ typed_act t v
      → Appends wrote wrote [] → Tells before (said ∷ []) after
      → Did Tells (outside wrote before players) (outside wrote after players) (typed_act t v ∷ []) Whole
  did_reply said wrote before after players is nothing told =
      did_alone joins (outside wrote before players) (outside wrote after players) (typed_act t v)
      (subst (λ (a : Act). Appends wrote wrote a.writes) is nothing)
      (subst (λ (a : Act). Tells before a.tells after) is told) (quiet players)

  -- the command was written, and reported as sent
  pub did_sent : (text : List ℕ) (wrote now : Option (List ℕ)) (before after : F) (players : List MessageValue)
      → answer_act None (text ∷ []) ≡ typed_act t v
      → Appends wrote now (on_wire text) → Tells before (sent_said text ∷ []) after
      → Did Tells (outside wrote before players) (outside now after players) (typed_act t v ∷ []) Whole
  did_sent text wrote now before after players is written told =
      did_alone joins (outside wrote before players) (outside now after players) (typed_act t v)
      (subst (λ (a : Act). Appends wrote now a.writes) is
      (subst (Appends wrote now) (sym (append-nil (on_wire text))) written))
      (subst (λ (a : Act). Tells before a.tells after) is told) (quiet players)

  -- a write failed
  pub did_unsent : (text : List ℕ) (wrote now : Option (List ℕ)) (front : F) (players : List MessageValue)
      → answer_act None (text ∷ []) ≡ typed_act t v
      → Wrote Broken wrote now (on_wire text) → Did Tells (outside wrote front players) (outside now front players)
      (typed_act t v ∷ []) Broken
  did_unsent text wrote now front players is written =
      did_part joins (outside wrote front players) (outside now front players) (typed_act t v)
      (subst (λ (a : Act). Wrote Broken wrote now a.writes) is
      (subst (Wrote Broken wrote now) (sym (append-nil (on_wire text))) written)) refl refl
