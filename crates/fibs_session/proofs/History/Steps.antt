-- What each call does to the fields is what the machine does.
use Rattle.std.proofs.Common.{◌≡◌, ◌<◌, ℕ, Bool, true, false, not, ◌&&◌, List, [], ◌∷◌, ◌++◌, Option, Some, None, is_some, if◌then◌else◌, nat_eq, refl, sym, ◌∙◌, ap, subst, append-nil, arith, is_none}
use Rattle.std.specs.Prelude.{pos}
use Rattle.std.specs.Ordering.{int_eq}
use Rattle.fibs_fields.specs.Board.{BoardFields as Board, field_of}
use Rattle.fibs_messages.specs.Message.{MessageValue}
use Rattle.fibs_messages.specs.Line.{ReadingValue, numbered_line, board_line, text_line, malformed_line}
use Rattle.fibs_position.specs.DecisionValue.{DecisionValue as Decision, roll}
use Rattle.fibs_position.specs.DirectionOf.{direction_of}
use Rattle.fibs_commands.specs.Commands.{command_of}
use Rattle.fibs_position.specs.GoodBoard.{good}
use Rattle.fibs_position.specs.GamePart.{same_game}
use Rattle.fibs_position.specs.Phases.{phase_of}
use Rattle.fibs_commands.specs.PlainCommands.{PlainValue, automove_off, greedy_off, board_again, who, say, tell, shout, whisper, kibitz, leave_message, invite, invite_to, join, join_with, toggle_ready, bye, plain_of}
use Rattle.fibs_commands.specs.FirstCommands.{style_text}
use Rattle.fibs_game.specs.declared.refusal.Refusal.{Refusal}
use Rattle.fibs_game.specs.declared.refusal.Refusal.TheVariants.{Offline, AlreadyOrdered, NotOrdered}
use Rattle.fibs_session.specs.Fibs.{fibs}
use Rattle.fibs_session.specs.History.Log.{Entry, Shown, Ordered, Withdrawn}
use Rattle.fibs_session.specs.History.Words.{is_empty, last, open_now, shown, welcomed, informed, IsLikeness, answer, is_ordered, orders_by, is_given}
use Rattle.fibs_session.specs.History.Hearing.{Heard, heard, flags_of, initial_commands, shows_board}
use Rattle.fibs_session.specs.declared.histories.refusal.PlainRefusal.{PlainRefusal}
use Rattle.fibs_session.specs.History.Machine.{Talk, noted, answer_now, clicks, clicks_by, decides_on, flag_is_on, is_online, heard_by, may_send, plain_refusal, plains, sends_plain, ordered_now, order_refusal, withdraw_refusal, notes_if, orders_on, withdraws}
use Rattle.fibs_session.specs.History.Orders.{is_due, is_to_roll}
use Rattle.fibs_session.specs.Calls.SessionValue.{SessionValue, At}
use Rattle.fibs_session.specs.Calls.FieldSteps.{HeardFields, heard_fields, may_send_of, plain_refusal_of, with_plain, with_board, confirmed_of, answer_of, with_ask, due_of, board_shown, order_refusal_of, withdraw_refusal_of, with_order}
use Rattle.fibs_session.proofs.History.Joins.{message_heard}
use Rattle.fibs_game.proofs.past.Lists.{other_number, map_no_more}
use Rattle.fibs_session.proofs.History.Texts.{NoToggles, no_texts, if_texts, not_gone, gone_now, style_texts, initial_texts}
use Rattle.fibs_game.proofs.past.Words.{yes, some_last}
use Rattle.fibs_session.proofs.History.Fields.{online_law, at_silent, at_quiet, unheard_law, at_refused, answer_law, at_welcomed, at_informed, at_shown, confirmed_law, at_order, gives_order, withdraws_order, at_sent, at_rolled, silent, not_not}

-- a choice by a test is the opposite choice by the opposite test
flipped : {X : Type 0} (a b : Bool) (x y : X) → a ≡ not b → (if a then x else y) ≡ (if b then y else x)
flipped a true x y h = rw h refl
flipped a false x y h = rw h refl

-- a line is heard: the fields and the machine say the same
pub record HeardIs (t : Talk) (h : HeardFields) (g : Heard) : Type 0 where
  pub after : At h.session (noted t g.entries g.send)
  pub send : h.send ≡ g.send
  pub confirmed : h.confirmed ≡ g.confirmed
  pub rolled : h.rolled ≡ g.rolled

-- a choice of two answers is by the fields what it is by the history, if each of them is
choose : (t : Talk) (b : Bool) (h h' : HeardFields) (g g' : Heard)
    → (b ≡ true → HeardIs t h g) → (b ≡ false → HeardIs t h' g') → HeardIs t (if b then h else h') (if b then g else g')
choose t true h h' g g' f f' = f refl
choose t false h h' g g' f f' = f' refl

-- three tests in another grouping
regroup : (a b c : Bool) → (a && (b && c)) ≡ ((a && b) && c)
regroup true b c = refl
regroup false b c = refl

-- what an order waits for, with the answer to a click on Roll
abbrev due_without_order : Option Refusal → Board → Bool
due_without_order a b = int_eq (field_of b 39) (pos 0) && (is_to_roll (phase_of b) && is_none a)

module _ (v : SessionValue) (t : Talk) (at : At v t) (on : v.online ≡ true) (likeness : IsLikeness same_game) where
  -- the connection that the session speaks of
  abbrev c : ℕ
  c = at.conn

  -- a numbered message does to the fields what it does to the machine
  message_law : (m : MessageValue) → HeardIs t (heard_fields v (numbered_line m)) (heard c t.log (numbered_line m))
  message_law m =
      let s : (if v.welcomed then [] else style_text ∷ [])
      ≡ (if is_empty (welcomed c t.log) then style_text ∷ [] else []) =
      flipped v.welcomed (is_empty (welcomed c t.log)) [] (style_text ∷ []) at.has_welcome in
      let i : (if is_some v.flags then [] else initial_commands m)
      ≡ (if is_empty (informed c t.log) then initial_commands m else []) =
      flipped (is_some v.flags) (is_empty (informed c t.log))
      [] (initial_commands m) (ap is_some at.has_flags ∙ (some_last fibs) (informed c t.log)) in
      subst (HeardIs t (heard_fields v (numbered_line m))) (sym (message_heard c t.log m))
      (choose t (nat_eq m.number 1) _ _ _ _
      (λ _. record {
        after = at_welcomed v t at on _ (if_texts (is_empty (welcomed c t.log)) _ _ style_texts no_texts);
        send = s;
        confirmed = refl;
        rolled = refl;
      })
      (λ _. choose t (nat_eq m.number 2) _ _ _ _
      (λ _. record {
        after = at_informed v t at on (flags_of m) _ (if_texts (is_empty (informed c t.log))
            _ _ (initial_texts m) no_texts);
        send = i;
        confirmed = refl;
        rolled = refl;
      })
      (λ _. record { after = unheard_law v t at; send = refl; confirmed = refl; rolled = refl })))

  -- the order is due by the fields if it is by the history
  due_law : (b : Board) → due_of (with_board v b) b ≡ is_due c (t.log ++ Shown c b ∷ []) b
  unfolding due_of is_due
  due_law b =
      let es : List Entry = Shown c b ∷ [] in
      let o : v.ordered ≡ is_ordered c (t.log ++ es) =
      at.has_order ∙ ap (λ l. is_given (last l)) (sym (map_no_more (orders_by c) t.log es refl)) in
      let a : answer_of (with_board v b) roll ≡ answer (t.log ++ es) roll =
      answer_law (with_board v b) (noted t es []) (at_shown v t at on likeness b) roll in
      ap (λ x. x && due_without_order (answer_of (with_board v b) roll) b) o
      ∙ ap (λ x. is_ordered c (t.log ++ es) && due_without_order x b) a
      ∙ ap (λ x. is_ordered c (t.log ++ es) && x)
      (regroup (int_eq (field_of b 39) (pos 0)) (is_to_roll (phase_of b)) (is_none (answer (t.log ++ es) roll)))

  -- a board that is shown does to the fields what it does to the machine, with or without a roll
  shown_law : (b : Board) (rolls : Bool)
      → HeardIs t (board_shown (with_board v b) b (confirmed_of v b) rolls) (shows_board c t.log b rolls)
  shown_law b true = record {
    after = at_rolled v t at on likeness b;
    send = refl;
    confirmed = confirmed_law v t at on likeness b;
    rolled = refl;
  }
  shown_law b false = record {
    after = at_shown v t at on likeness b;
    send = refl;
    confirmed = confirmed_law v t at on likeness b;
    rolled = refl;
  }

  -- a board that is read does to the fields what it does to the machine
  board_law : (b : Board) → HeardIs t (heard_fields v (board_line b)) (heard c t.log (board_line b))
  board_law b = choose t (good b) _ _ _ _
      (λ _. subst (λ rolls. HeardIs t (board_shown (with_board v b) b (confirmed_of v b) (due_of (with_board v b) b))
      (shows_board c t.log b rolls)) (due_law b) (shown_law b (due_of (with_board v b) b)))
      (λ _. record { after = unheard_law v t at; send = refl; confirmed = refl; rolled = refl })

  -- any line does to the fields what it does to the machine, on the session's connection
  heard_at : (r : ReadingValue) → HeardIs t (heard_fields v r) (heard c t.log r)
  heard_at (numbered_line m) = message_law m
  heard_at (board_line b) = board_law b
  heard_at (text_line text) = record { after = unheard_law v t at; send = refl; confirmed = refl; rolled = refl }
  heard_at (malformed_line number k f) =
      record { after = unheard_law v t at; send = refl; confirmed = refl; rolled = refl }

  -- any line does to the fields what it does to the machine
  pub heard_law : (r : ReadingValue) → HeardIs t (heard_fields v r) (heard_by t r)
  heard_law r = subst (λ n. HeardIs t (heard_fields v r) (heard n t.log r)) (sym at.is_open) (heard_at r)

module _ (v : SessionValue) (t : Talk) (at : At v t) where
  -- a click that is refused is noted, changes no field and hands out nothing
  refused_by : (d : Decision) (a : Option Refusal) (why : Refusal)
      → a ≡ Some why → (At v (clicks_by t d a).talk) × ((clicks_by t d a).send ≡ [])
  refused_by d None why h = absurd cc
  refused_by d (Some x) why h = (at_refused v t at d (Some x), refl)

  -- the same if the fields refuse it
  pub refused_law : (d : Decision) (why : Refusal)
      → answer_of v d ≡ Some why → (At v (clicks t d).talk) × ((clicks t d).send ≡ [])
  refused_law d why h = refused_by d (answer_now t d) why (sym (answer_law v t at d) ∙ h)

  -- a click that the fields allow is on the board that is shown, waits from then on, and hands out its command
  pub sent_law : (d : Decision) → answer_of v d ≡ None
      → (b : Board) × (v.shown ≡ Some b)
      × At (with_ask v d v.shown) (clicks t d).talk × ((clicks t d).send ≡ command_of (direction_of b) d ∷ [])
  sent_law d h =
      let y = (yes fibs) t.log d (sym (answer_law v t at d) ∙ h) in
      let ob : v.shown ≡ Some y.on = at.on_board ∙ ap (λ n. last (shown n t.log)) (sym at.is_open) ∙ y.is_last in
      let on : v.online ≡ true = online_law v t at ∙ ap not (positive (open_now t.log) y.some) in
      let step : clicks t d ≡ decides_on t d (Some y.on) =
      ap (clicks_by t d) (sym (answer_law v t at d) ∙ h) ∙ ap (decides_on t d) y.is_last in
      let here : At (record v { waiting = Some (y.on, d) }) (decides_on t d (Some y.on)).talk =
      at_sent v t at y.on d on y.is_last in (
        y.on,
        ob,
        subst (λ o. At (with_ask v d o) (clicks t d).talk)
            (sym ob) (subst (λ z. At (record v { waiting = Some (y.on, d) }) z.talk) (sym step) here),
        ap (λ z. z.send) step,
      )
    where
      positive : (n : ℕ) → 0 < n → nat_eq n 0 ≡ false
      positive n l = other_number n 0 (λ e. absurd (omega (arith, e, l)))

  -- a plain command

  -- a command that turns something off may be sent by the fields if it may by the history
  may_law : (p : PlainValue) → may_send_of v p ≡ may_send t p
  may_law p = go p
    where
      f : v.flags ≡ last (informed (open_now t.log) t.log)
      f = at.has_flags ∙ ap (λ n. last (informed n t.log)) (sym at.is_open)

      go : (p : PlainValue) → may_send_of v p ≡ may_send t p
      go automove_off = ap (λ o. flag_is_on (λ f. f.automove) o && not v.automove_sent) f
          ∙ ap (λ b. flag_is_on (λ f. f.automove) (last (informed (open_now t.log) t.log)) && not b) at.automove_gone
      go greedy_off = ap (λ o. flag_is_on (λ f. f.greedy) o && not v.greedy_sent) f
          ∙ ap (λ b. flag_is_on (λ f. f.greedy) (last (informed (open_now t.log) t.log)) && not b) at.greedy_gone
      go p = refl

  -- a plain command is refused by the fields as it is by the history
  pub plain_law : (p : PlainValue) → plain_refusal_of v p ≡ plain_refusal t p
  plain_law p =
      let o : v.online ≡ is_online t = online_law v t at in
      let m : may_send_of v p ≡ may_send t p = may_law p in
      cc

  -- after a plain command is sent the fields know what it turned off
  plain_at : (p : PlainValue) → At (with_plain v p) (noted t [] (plain_of p ∷ []))
  unfolding plain_of
  plain_at p = go p
    where
      same : open_now (t.log ++ []) ≡ open_now t.log
      same = ap open_now (append-nil t.log)

      quiet : (texts : List (List ℕ)) → NoToggles texts → At v (noted t [] texts)
      quiet texts off = at_silent v t at [] texts off refl same silent

      go : (p : PlainValue) → At (with_plain v p) (noted t [] (plain_of p ∷ []))
      go automove_off = at_quiet v t at [] (plain_of automove_off ∷ []) true v.greedy_sent
          (sym (gone_now (plain_of automove_off) t.commands (plain_of automove_off ∷ []) refl)) (at.greedy_gone
          ∙ sym (not_gone (plain_of greedy_off) t.commands (plain_of automove_off ∷ []) refl)) refl same silent
      go greedy_off = at_quiet v t at [] (plain_of greedy_off ∷ []) v.automove_sent true
          (at.automove_gone ∙ sym (not_gone (plain_of automove_off) t.commands (plain_of greedy_off ∷ []) refl))
          (sym (gone_now (plain_of greedy_off) t.commands (plain_of greedy_off ∷ []) refl)) refl same silent
      go board_again = quiet (plain_of board_again ∷ []) (record { no_automove = refl; no_greedy = refl })
      go who = quiet (plain_of who ∷ []) (record { no_automove = refl; no_greedy = refl })
      go (say x) = quiet (plain_of (say x) ∷ []) (record { no_automove = refl; no_greedy = refl })
      go (tell n x) = quiet (plain_of (tell n x) ∷ []) (record { no_automove = refl; no_greedy = refl })
      go (shout x) = quiet (plain_of (shout x) ∷ []) (record { no_automove = refl; no_greedy = refl })
      go (whisper x) = quiet (plain_of (whisper x) ∷ []) (record { no_automove = refl; no_greedy = refl })
      go (kibitz x) = quiet (plain_of (kibitz x) ∷ []) (record { no_automove = refl; no_greedy = refl })
      go (leave_message n x) =
          quiet (plain_of (leave_message n x) ∷ []) (record { no_automove = refl; no_greedy = refl })
      go (invite n) = quiet (plain_of (invite n) ∷ []) (record { no_automove = refl; no_greedy = refl })
      go (invite_to n l) = quiet (plain_of (invite_to n l) ∷ []) (record { no_automove = refl; no_greedy = refl })
      go join = quiet (plain_of join ∷ []) (record { no_automove = refl; no_greedy = refl })
      go (join_with n) = quiet (plain_of (join_with n) ∷ []) (record { no_automove = refl; no_greedy = refl })
      go toggle_ready = quiet (plain_of toggle_ready ∷ []) (record { no_automove = refl; no_greedy = refl })
      go bye = quiet (plain_of bye ∷ []) (record { no_automove = refl; no_greedy = refl })

  -- a plain command that the fields allow is handed out
  pub plain_sent_law : (p : PlainValue)
      → plain_refusal_of v p ≡ None → At (with_plain v p) (plains t p).talk × ((plains t p).send ≡ plain_of p ∷ [])
  plain_sent_law p h = go (plain_refusal t p) (sym (plain_law p) ∙ h)
    where
      go : (o : Option PlainRefusal)
          → o ≡ None → At (with_plain v p) (sends_plain t p o).talk × ((sends_plain t p o).send ≡ plain_of p ∷ [])
      go None e = (plain_at p, refl)
      go (Some x) e = absurd cc

  -- a plain command that the fields refuse changes nothing
  pub plain_refused_law : (p : PlainValue) (why : PlainRefusal)
      → plain_refusal_of v p ≡ Some why → At v (plains t p).talk × ((plains t p).send ≡ [])
  plain_refused_law p why h = go (plain_refusal t p) (sym (plain_law p) ∙ h)
    where
      go : (o : Option PlainRefusal) → o ≡ Some why → At v (sends_plain t p o).talk × ((sends_plain t p o).send ≡ [])
      go None e = absurd cc
      go (Some x) e = (at, refl)

  -- a standing order

  -- the session knows whether a standing order is in force
  pub ordered_law : v.ordered ≡ ordered_now t
  ordered_law = at.has_order ∙ ap (λ n. is_ordered n t.log) (sym at.is_open)

  -- the session is offline exactly if no connection is open
  offline_law : not v.online ≡ nat_eq (open_now t.log) 0
  offline_law = not_not _ _ at.has_connection ∙ ap (λ n. nat_eq n 0) (sym at.is_open)

  -- a standing order is refused by the fields as it is by the history
  pub order_refusal_law : order_refusal_of v ≡ order_refusal t.log
  order_refusal_law =
      ap (λ b. if b then Some Offline else (if v.ordered then Some AlreadyOrdered else None)) offline_law
      ∙ ap (λ b. if nat_eq (open_now t.log) 0 then Some Offline else (if b then Some AlreadyOrdered else None))
      ordered_law

  -- the end of an order is refused by the fields as it is by the history
  pub withdraw_refusal_law : withdraw_refusal_of v ≡ withdraw_refusal t.log
  withdraw_refusal_law =
      ap (λ b. if b then Some Offline else (if v.ordered then None else Some NotOrdered)) offline_law
      ∙ ap (λ b. if nat_eq (open_now t.log) 0 then Some Offline else (if b then None else Some NotOrdered)) ordered_law

  -- what is not refused for being offline is online
  on_of_yes : (b : Bool) (x : Option Refusal) → (if not b then Some Offline else x) ≡ None → b ≡ true
  on_of_yes true x h = refl
  on_of_yes false x h = absurd cc

  -- an entry of an order is noted if nothing refuses it, and else nothing changes
  noted_if_yes : (given : Bool) (e : Entry) (a : Option Refusal)
      → (a ≡ None → At (record v { ordered = given }) (noted t (e ∷ []) []))
      → At (with_order v given a) (notes_if t e a).talk × ((notes_if t e a).send ≡ [])
  noted_if_yes given e None f = (f refl, refl)
  noted_if_yes given e (Some why) f = (at, refl)

  -- a standing order does to the fields what it does to the machine
  pub order_law : At (with_order v true (order_refusal_of v)) (orders_on t).talk × ((orders_on t).send ≡ [])
  order_law =
      let e : Entry = Ordered (open_now t.log) in
      subst (λ a. At (with_order v true (order_refusal_of v)) (notes_if t e a).talk × ((notes_if t e a).send ≡ []))
      order_refusal_law
      (noted_if_yes true e (order_refusal_of v)
      (λ ok. subst (λ n. At (record v { ordered = true }) (noted t (Ordered n ∷ []) [])) (sym at.is_open)
      (at_order v t at (on_of_yes v.online _ ok) true (Ordered at.conn ∷ []) (gives_order at.conn))))

  -- the end of an order does to the fields what it does to the machine
  pub withdraw_law : At (with_order v false (withdraw_refusal_of v)) (withdraws t).talk × ((withdraws t).send ≡ [])
  withdraw_law =
      let e : Entry = Withdrawn (open_now t.log) in
      subst (λ a. At (with_order v false (withdraw_refusal_of v)) (notes_if t e a).talk × ((notes_if t e a).send ≡ []))
      withdraw_refusal_law
      (noted_if_yes false e (withdraw_refusal_of v)
      (λ ok. subst (λ n. At (record v { ordered = false }) (noted t (Withdrawn n ∷ []) [])) (sym at.is_open)
      (at_order v t at (on_of_yes v.online _ ok) false (Withdrawn at.conn ∷ []) (withdraws_order at.conn))))
