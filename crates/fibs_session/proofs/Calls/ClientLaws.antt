-- From the session to the client, for each call.
use Rattle.std.proofs.Common.{◌≡◌, ℕ, Bool, true, false, List, [], ◌∷◌, Option, Some, None, if◌then◌else◌, refl, sym, ◌∙◌, ap, subst}
use Rattle.fibs_lines.specs.LinesValue.{LinesValue, StandsAfter as LinesStandAfter}
use Rattle.fibs_fields.specs.Board.{BoardFields}
use Rattle.fibs_position.specs.DecisionValue.{DecisionValue}
use Rattle.fibs_commands.specs.PlainCommands.{PlainValue}
use Rattle.fibs_game.specs.declared.refusal.Refusal.{Refusal}
use Rattle.fibs_game.specs.declared.refusal.Refusal.TheVariants.{AlreadyOpen}
use Rattle.fibs_session.specs.declared.histories.refusal.PlainRefusal.{PlainRefusal}
use Rattle.fibs_session.specs.History.Log.{Lost, Entry, Ordered, Withdrawn}
use Rattle.fibs_session.specs.History.Words.{last, open_now, shown}
use Rattle.fibs_session.specs.History.Machine.{Talk, InputValue, Open, Lose, Click, PlainInput, step, stays, does, is_online, opened, opens, open_refusal, unconfirmed_now, clicks_by, decides_on, answer_now, sends_plain, plain_refusal, Order, Withdraw, order_refusal, withdraw_refusal, notes_if}
use Rattle.fibs_session.specs.Calls.SessionValue.{SessionValue}
use Rattle.fibs_session.specs.Calls.Standing.{SessionStandsAfter, ClientValue, StandsAfter}
use Rattle.fibs_session.specs.Calls.Doing.{SessionDoes, Does}

-- a client that a history reaches has a session that it reaches
pub session_at : (c : ClientValue) (t : Talk) → StandsAfter c t → SessionStandsAfter c.session t
unfolding StandsAfter SessionStandsAfter
session_at c t at = at.1

-- a client that a history reaches keeps the lines of its stream
pub lines_at : (c : ClientValue) (t : Talk) → StandsAfter c t → LinesStandAfter c.lines t.stream
unfolding StandsAfter
lines_at c t at = at.0

-- a client is reached by a history if its lines and its session are
pub both_at : (c : ClientValue) (t : Talk)
    → LinesStandAfter c.lines t.stream → SessionStandsAfter c.session t → StandsAfter c t
unfolding StandsAfter SessionStandsAfter
both_at c t l s = (l, s)

-- if neither lines nor session changed
pub same_client : (old new : ClientValue) → new.lines ≡ old.lines → new.session ≡ old.session → new ≡ old
same_client old new e f = ap (λ l. with_both l new.session) e ∙ ap (λ s. with_both old.lines s) f
  where
    with_both : LinesValue → SessionValue → ClientValue
    with_both l s = record { lines = l; session = s }

-- the calls that read no byte
pub KeepsBytes : InputValue → Type 0
KeepsBytes i = (t : Talk) → (step t i).talk.stream ≡ t.stream

-- the end of a connection reads no byte
pub lose_keeps : KeepsBytes Lose
unfolding KeepsBytes
lose_keeps t = go (is_online t)
  where
    go : (b : Bool)
        → (if b then does t (Lost (open_now t.log) (unconfirmed_now t) ∷ []) [] else stays t).talk.stream ≡ t.stream
    go true = refl
    go false = refl

-- a click reads no byte
pub click_keeps : (d : DecisionValue) → KeepsBytes (Click d)
unfolding KeepsBytes
click_keeps d t = go (answer_now t d)
  where
    board : (o : Option BoardFields) → (decides_on t d o).talk.stream ≡ t.stream
    board None = refl
    board (Some b) = refl

    go : (a : Option Refusal) → (clicks_by t d a).talk.stream ≡ t.stream
    go (Some why) = refl
    go None = board (last (shown (open_now t.log) t.log))

-- a plain command reads no byte
pub plain_keeps : (p : PlainValue) → KeepsBytes (PlainInput p)
unfolding KeepsBytes
plain_keeps p t = go (plain_refusal t p)
  where
    go : (a : Option PlainRefusal) → (sends_plain t p a).talk.stream ≡ t.stream
    go (Some why) = refl
    go None = refl

-- an entry that is noted, or refused, leaves the bytes
notes_keep : (t : Talk) (e : Entry) (a : Option Refusal) → (notes_if t e a).talk.stream ≡ t.stream
notes_keep t e (Some why) = refl
notes_keep t e None = refl

-- a standing order reads no byte
pub order_keeps : KeepsBytes Order
unfolding KeepsBytes
order_keeps t = notes_keep t (Ordered (open_now t.log)) (order_refusal t.log)

-- the end of a standing order reads no byte
pub withdraw_keeps : KeepsBytes Withdraw
unfolding KeepsBytes
withdraw_keeps t = notes_keep t (Withdrawn (open_now t.log)) (withdraw_refusal t.log)

-- what a session does with an input that reads no byte, its client does
pub client_does : (i : InputValue) (old new : ClientValue) (send : List (List ℕ))
    → KeepsBytes i → new.lines ≡ old.lines → SessionDoes old.session new.session i send → Does old new i send
unfolding KeepsBytes
client_does i old new send keeps same d = record {
  stands = λ t at. both_at new _ (subst (λ l. LinesStandAfter l (step t i).talk.stream) (sym same)
      (subst (LinesStandAfter old.lines) (sym (keeps t)) (lines_at old t at))) (d.stands t (session_at old t at));
  hands = λ t at. d.hands t (session_at old t at);
}

-- Open

-- a connection that may be opened is not open yet
if_open : (t : Talk) (b : Bool) → (if b then Some AlreadyOpen else None) ≡ None → b ≡ false
if_open t true h = absurd cc
if_open t false h = refl

-- a connection that may not be opened is open
if_not_open : (t : Talk) (b : Bool) (why : Refusal) → (if b then Some AlreadyOpen else None) ≡ Some why → b ≡ true
if_not_open t true why h = refl
if_not_open t false why h = absurd cc

-- a client whose lines begin anew, and whose session opens a connection, opens it
pub opens_new : (old new : ClientValue) (send : List (List ℕ))
    → LinesStandAfter new.lines [] → ((t : Talk) → SessionStandsAfter old.session t → None ≡ open_refusal t)
    → SessionDoes old.session new.session Open send → Does old new Open send
opens_new old new send empty fits d = record {
  stands = λ t at.
      let s = session_at old t at in
      let off : is_online t ≡ false = if_open t (is_online t) (sym (fits t s)) in
      let e : (opens t).talk.stream ≡ [] =
      ap (λ b. (if b then stays t else record { talk = opened t; send = t.login ∷ [] }).talk.stream) off in
      both_at new _ (subst (LinesStandAfter new.lines) (sym e) empty) (d.stands t s);
  hands = λ t at. d.hands t (session_at old t at);
}

-- a client whose connection is open stays as it is
pub opens_not : (old new : ClientValue) (send : List (List ℕ)) (why : Refusal)
    → new.lines ≡ old.lines → ((t : Talk) → SessionStandsAfter old.session t → Some why ≡ open_refusal t)
    → SessionDoes old.session new.session Open send → Does old new Open send
opens_not old new send why same refuses d = record {
  stands = λ t at.
      let s = session_at old t at in
      let on : is_online t ≡ true = if_not_open t (is_online t) why (sym (refuses t s)) in
      let e : (opens t).talk.stream ≡ t.stream =
      ap (λ b. (if b then stays t else record { talk = opened t; send = t.login ∷ [] }).talk.stream) on in
      both_at new _ (subst (λ l. LinesStandAfter l (opens t).talk.stream)
      (sym same) (subst (LinesStandAfter old.lines) (sym e) (lines_at old t at))) (d.stands t s);
  hands = λ t at. d.hands t (session_at old t at);
}
