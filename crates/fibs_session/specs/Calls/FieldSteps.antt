-- What each call does to the fields of a session. No public contract rests on it: those speak of the history.
use Rattle.std.specs.Prelude.{ℕ, Bool, true, false, not, ◌&&◌, ◌||◌, List, [], ◌∷◌, Option, Some, None, option_map, if◌then◌else◌, is_some, is_none, nat_eq, pos}
use Rattle.std.specs.Ordering.{int_eq}
use Rattle.fibs_fields.specs.Board.{BoardFields, field_of}
use Rattle.fibs_messages.specs.Message.{MessageValue}
use Rattle.fibs_messages.specs.Line.{ReadingValue, numbered_line, board_line, text_line, malformed_line}
use Rattle.fibs_position.specs.DecisionValue.{DecisionValue, roll}
use Rattle.fibs_position.specs.DirectionOf.{direction_of}
use Rattle.fibs_commands.specs.Commands.{command_of}
use Rattle.fibs_position.specs.GoodBoard.{good}
use Rattle.fibs_position.specs.GamePart.{same_game}
use Rattle.fibs_position.specs.Phases.{phase_of}
use Rattle.fibs_commands.specs.FirstCommands.{style_text}
use Rattle.fibs_commands.specs.PlainCommands.{PlainValue, automove_off, greedy_off, plain_fault_of, plain_of}
use Rattle.fibs_game.specs.declared.refusal.Refusal.{Refusal}
use Rattle.fibs_game.specs.declared.refusal.Refusal.TheVariants.{AlreadyOpen, Offline, NotReady, ServerPlays, AlreadyOrdered, NotOrdered}
use Rattle.fibs_session.specs.declared.histories.refusal.PlainRefusal.{PlainRefusal}
use Rattle.fibs_session.specs.declared.histories.refusal.PlainRefusal.TheVariants as P
use Rattle.fibs_session.specs.History.Words.{Ask, one_if, if_board, plays_itself}
use Rattle.fibs_session.specs.History.Hearing.{flags_of, initial_commands}
use Rattle.fibs_session.specs.History.Orders.{is_to_roll}
use Rattle.fibs_session.specs.History.Machine.{flag_is_on}
use Rattle.fibs_session.specs.Calls.SessionValue.{SessionValue}

abbrev pub fresh : List ℕ → Bool → SessionValue
fresh login online = record {
  login = login;
  online = online;
  welcomed = false;
  flags = None;
  automove_sent = false;
  greedy_sent = false;
  shown = None;
  waiting = None;
  ordered = false;
}

-- the flags of what was sent stay until the next connection
abbrev pub lost : SessionValue → SessionValue
lost v = record {
  login = v.login;
  online = false;
  welcomed = false;
  flags = None;
  automove_sent = v.automove_sent;
  greedy_sent = v.greedy_sent;
  shown = None;
  waiting = None;
  ordered = false;
}

pub record HeardFields : Type 0 where
  pub session : SessionValue
  pub send : List (List ℕ)
  pub confirmed : Option Ask
  pub rolled : Bool

abbrev pub unheard : SessionValue → HeardFields
unheard v = record { session = v; send = []; confirmed = None; rolled = false }

abbrev pub message_fields : SessionValue → MessageValue → HeardFields
message_fields v m =
    if nat_eq m.number 1 then record {
      session = record v { welcomed = true };
      send = if v.welcomed then [] else style_text ∷ [];
      confirmed = None;
      rolled = false;
    }
    else (if nat_eq m.number 2 then record {
      session = record v { flags = Some (flags_of m) };
      send = if is_some v.flags then [] else initial_commands m;
      confirmed = None;
      rolled = false;
    }
    else unheard v)

-- a decision that waits does so no longer if the board is unlike the one before
abbrev pub still_waiting : Option BoardFields → BoardFields → Option Ask → Option Ask
still_waiting None b w = w
still_waiting (Some a) b w = if same_game a b then w else None

abbrev pub confirmed_of : SessionValue → BoardFields → Option Ask
confirmed_of v b = if is_some (still_waiting v.shown b v.waiting) then None else v.waiting

-- whether a board differs from the one that is shown
abbrev pub differs_from : Option BoardFields → BoardFields → Bool
differs_from None b = false
differs_from (Some a) b = not (same_game a b)

-- a board is shown, if it has a position
abbrev pub with_shown : SessionValue → BoardFields → SessionValue
with_shown v b = if good b then record v { shown = Some b } else v

-- a decision no longer waits, if the board that is shown differs from the one before
abbrev pub settled : SessionValue → Bool → SessionValue
settled v differs = record v { waiting = if differs then None else v.waiting }

abbrev pub with_board : SessionValue → BoardFields → SessionValue
with_board v b = record v { shown = Some b; waiting = still_waiting v.shown b v.waiting }

abbrev pub answer_of : SessionValue → DecisionValue → Option Refusal
answer_of v d =
    if not v.online then Some Offline
    else (if not v.welcomed || not (is_some v.flags) then Some NotReady
    else (if plays_itself v.flags then Some ServerPlays
    else if_board (is_some v.waiting) d v.shown))

-- whether a standing order is due for the session that shows the board
unfoldable pub due_of : SessionValue → BoardFields → Bool
due_of v b =
    v.ordered && (int_eq (field_of b 39) (pos 0) && (is_to_roll (phase_of b) && is_none (answer_of v roll)))

-- the same for the board that it shows
abbrev pub due_now : Option BoardFields → SessionValue → Bool
due_now None v = false
due_now (Some b) v = due_of v b

-- a roll is sent on the board that is shown
abbrev pub with_roll : SessionValue → BoardFields → Bool → SessionValue
with_roll v b rolls = if rolls then record v { waiting = Some (b, roll) } else v

abbrev pub board_shown : SessionValue → BoardFields → Option Ask → Bool → HeardFields
board_shown v b confirmed rolls = record {
  session = with_roll v b rolls;
  send = one_if rolls (command_of (direction_of b) roll);
  confirmed = confirmed;
  rolled = rolls;
}

abbrev pub board_fields : SessionValue → BoardFields → HeardFields
board_fields v b =
    if good b
    then board_shown (with_board v b) b (confirmed_of v b) (due_of (with_board v b) b)
    else unheard v

abbrev pub heard_fields : SessionValue → ReadingValue → HeardFields
heard_fields v (numbered_line m) = message_fields v m
heard_fields v (board_line b) = board_fields v b
heard_fields v (text_line text) = unheard v
heard_fields v (malformed_line number k f) = unheard v

abbrev pub line_fields : SessionValue → ReadingValue → HeardFields
line_fields v r = if v.online then heard_fields v r else unheard v

abbrev pub with_ask : SessionValue → DecisionValue → Option BoardFields → SessionValue
with_ask v d None = v
with_ask v d (Some b) = record v { waiting = Some (b, d) }

abbrev pub may_send_of : SessionValue → PlainValue → Bool
may_send_of v automove_off = flag_is_on (λ f. f.automove) v.flags && not v.automove_sent
may_send_of v greedy_off = flag_is_on (λ f. f.greedy) v.flags && not v.greedy_sent
may_send_of v p = true

abbrev pub plain_refusal_of : SessionValue → PlainValue → Option PlainRefusal
plain_refusal_of v p =
    if not v.online then Some P.Offline
    else (if not (may_send_of v p) then Some P.NotOn
    else option_map P.Fault (plain_fault_of p))

abbrev pub with_plain : SessionValue → PlainValue → SessionValue
with_plain v automove_off = record v { automove_sent = true }
with_plain v greedy_off = record v { greedy_sent = true }
with_plain v p = v

abbrev pub open_fields : SessionValue → SessionValue
open_fields v = if v.online then v else fresh v.login true

abbrev pub open_send : SessionValue → List (List ℕ)
open_send v = if v.online then [] else v.login ∷ []

abbrev pub open_refusal_of : SessionValue → Option Refusal
open_refusal_of v = if v.online then Some AlreadyOpen else None

abbrev pub lose_fields : SessionValue → SessionValue
lose_fields v = if v.online then lost v else v

abbrev pub decide_fields : SessionValue → DecisionValue → SessionValue
decide_fields v d = if is_some (answer_of v d) then v else with_ask v d v.shown

abbrev pub command_for : DecisionValue → Option BoardFields → List (List ℕ)
command_for d None = []
command_for d (Some b) = command_of (direction_of b) d ∷ []

abbrev pub decide_send : SessionValue → DecisionValue → List (List ℕ)
decide_send v d = if is_some (answer_of v d) then [] else command_for d v.shown

abbrev pub plain_fields : SessionValue → PlainValue → SessionValue
plain_fields v p = if is_some (plain_refusal_of v p) then v else with_plain v p

abbrev pub plain_send : SessionValue → PlainValue → List (List ℕ)
plain_send v p = if is_some (plain_refusal_of v p) then [] else plain_of p ∷ []

abbrev pub order_refusal_of : SessionValue → Option Refusal
order_refusal_of v = if not v.online then Some Offline else (if v.ordered then Some AlreadyOrdered else None)

abbrev pub withdraw_refusal_of : SessionValue → Option Refusal
withdraw_refusal_of v = if not v.online then Some Offline else (if v.ordered then None else Some NotOrdered)

-- a standing order is given, or withdrawn, if nothing refuses it
abbrev pub with_order : SessionValue → Bool → Option Refusal → SessionValue
with_order v given refusal = if is_some refusal then v else record v { ordered = given }
