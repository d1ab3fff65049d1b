-- The fields of a session are what its history says.
use Rattle.std.proofs.Common.{◌≡◌, ◌≤◌, ℕ, zero, suc, Bool, true, false, not, List, [], ◌∷◌, ◌++◌, Option, Some, None, is_some, if◌then◌else◌, nat_eq, flat_map, refl, sym, ◌∙◌, ap, subst, inl, inr, append_assoc, append-nil, arith, true≢false}
use Rattle.std.proofs.lemmas.Bool.{cases_Bool}
use Rattle.fibs_fields.specs.Board.{BoardFields as Board}
use Rattle.fibs_position.specs.DecisionValue.{DecisionValue as Decision, roll}
use Rattle.fibs_position.specs.DirectionOf.{direction_of}
use Rattle.fibs_commands.specs.Commands.{command_of}
use Rattle.fibs_position.specs.GamePart.{same_game}
use Rattle.fibs_commands.specs.PlainCommands.{automove_off, greedy_off, plain_of}
use Rattle.fibs_game.specs.declared.refusal.Refusal.{Refusal}
use Rattle.fibs_session.specs.Fibs.{fibs}
use Rattle.fibs_session.specs.History.Log.{Entry, Flags, Opened, Welcomed, Informed, Shown, Clicked, Sent, Lost, Ordered, Withdrawn}
use Rattle.fibs_session.specs.History.Words.{Ask, is_empty, last, open_now, opened_by, connections, shown, sent, welcomed, informed, welcomed_by, informed_by, shown_by, sent_by, is_spent, unconfirmed, IsLikeness, open_from, orders, orders_by, is_given}
use Rattle.fibs_session.specs.History.Hearing.{confirmed_by_board}
use Rattle.fibs_session.specs.History.Machine.{Talk, start, noted, opened, was_sent, answer_now, is_online}
use Rattle.fibs_session.specs.History.Numbering.{Quiet}
use Rattle.fibs_session.specs.Calls.SessionValue.{SessionValue, IsNoToggle, At}
use Rattle.fibs_session.specs.Calls.FieldSteps.{fresh, lost, with_board, still_waiting, confirmed_of, answer_of}
use Rattle.fibs_game.proofs.past.Lists.{other_number, last_snoc, before_last, map_more, map_no_more, snoc_not_empty}
use Rattle.fibs_game.proofs.past.Past.{open_append, shown_more, sent_more, spent_first, spent_same, spent_other, spent_sent}
use Rattle.fibs_session.proofs.History.Texts.{NoToggles, no_texts, one_text, not_gone, decision_no_toggle}
use Rattle.fibs_game.proofs.past.Words.{own, quiet_welcomed, quiet_informed, quiet_shown, quiet_sent, numbered_silent, numbered_own, numbered_opened, unconfirmed_quiet, unconfirmed_none, some_last, some_spent, none_last, quiet_ordered, quiet_withdrawn}

-- the empty history says nothing of any connection
pub silent : (c : ℕ) → Quiet c []
silent c = record { no_welcome = refl; no_flags = refl; no_board = refl; no_sent = refl; no_order = refl }

-- at first

-- a session that has heard nothing is at the machine's start
pub at_start : (login : List ℕ) → IsNoToggle login → At (fresh login false) (start login)
at_start login h = record {
  conn = 0;
  is_open = refl;
  logs_in = refl;
  no_toggle = h;
  has_connection = refl;
  has_welcome = refl;
  has_flags = refl;
  automove_gone = refl;
  greedy_gone = refl;
  on_board = refl;
  not_confirmed = refl;
  has_order = refl;
  numbered = record { below = omega arith; none = silent 0; fresh = λ c lt. silent c };
}

-- a successor is not found to be 0
suc_not_zero : (n : ℕ) → nat_eq (suc n) 0 ≡ false
suc_not_zero n = other_number (suc n) 0 (λ e. cc)

-- a number that is found not to be 0 is not 0
not_zero : (n : ℕ) → true ≡ not (nat_eq n 0) → n ≡ 0 → ⊥
not_zero zero h e = true≢false h
not_zero (suc n) h e = cc

-- a test that is the opposite of another has it as its opposite
pub not_not : (a b : Bool) → a ≡ not b → not a ≡ b
not_not a true h = rw h refl
not_not a false h = rw h refl

-- a list with an element at its end has some
snoc_some : {X : Type 0} (xs : List X) (x : X) → true ≡ not (is_empty (xs ++ x ∷ []))
snoc_some xs x = ap not (sym (snoc_not_empty xs x))

-- entries that change the standing order of a connection, and say nothing else
pub record ChangesOrder (c : ℕ) (given : Bool) (es : List Entry) : Type 0 where
  pub order : orders c es ≡ given ∷ []
  pub no_welcome : welcomed c es ≡ []
  pub no_flags : informed c es ≡ []
  pub no_board : shown c es ≡ []
  pub no_sent : sent c es ≡ []
  pub no_opening : flat_map opened_by es ≡ []
  pub still : open_from c es ≡ c
  pub others : (d : ℕ) → (c ≡ d → ⊥) → Quiet d es

-- the entry of a standing order changes the order alone
pub gives_order : (c : ℕ) → ChangesOrder c true (Ordered c ∷ [])
gives_order c = record {
  order = (own fibs) c true;
  no_welcome = refl;
  no_flags = refl;
  no_board = refl;
  no_sent = refl;
  no_opening = refl;
  still = refl;
  others = λ d. (quiet_ordered fibs) c d;
}

-- the entry of its end changes the order alone
pub withdraws_order : (c : ℕ) → ChangesOrder c false (Withdrawn c ∷ [])
withdraws_order c = record {
  order = (own fibs) c false;
  no_welcome = refl;
  no_flags = refl;
  no_board = refl;
  no_sent = refl;
  no_opening = refl;
  still = refl;
  others = λ d. (quiet_withdrawn fibs) c d;
}

module _ (v : SessionValue) (t : Talk) (at : At v t) where
  -- the connection that the session speaks of
  abbrev c : ℕ
  c = at.conn

  -- the session is online exactly if a connection is open
  pub online_law : v.online ≡ is_online t
  online_law = at.has_connection ∙ ap (λ n. not (nat_eq n 0)) (sym at.is_open)

  -- a connection is opened
  pub at_opened : v.online ≡ false → At (fresh v.login true) (opened t)
  at_opened off =
      let n : ℕ = suc (connections t.log) in
      let es : List Entry = Opened n ∷ [] in
      let q = at.numbered.fresh n (omega arith) in
      record {
        conn = n;
        is_open = (open_append fibs) 0 t.log es;
        logs_in = at.logs_in;
        no_toggle = at.no_toggle;
        has_connection = ap not (sym (suc_not_zero (connections t.log)));
        has_welcome = ap (λ l. not (is_empty l)) (sym (map_no_more (welcomed_by n) t.log es refl ∙ q.no_welcome));
        has_flags = ap last (sym (map_no_more (informed_by n) t.log es refl ∙ q.no_flags));
        automove_gone = sym (ap (λ x. was_sent (plain_of automove_off) (x ∷ [])) (sym at.logs_in)
            ∙ (one_text v.login at.no_toggle).no_automove);
        greedy_gone = sym (ap (λ x. was_sent (plain_of greedy_off) (x ∷ [])) (sym at.logs_in)
            ∙ (one_text v.login at.no_toggle).no_greedy);
        on_board = ap last (sym (map_no_more (shown_by n) t.log es refl ∙ q.no_board));
        not_confirmed =
            sym ((unconfirmed_none fibs) n (t.log ++ es) (map_no_more (shown_by n) t.log es refl ∙ q.no_board));
        has_order = ap (λ l. is_given (last l)) (sym (map_no_more (orders_by n) t.log es refl ∙ q.no_order));
        numbered = (numbered_opened fibs) t.log at.numbered;
      }

  -- it is lost
  pub at_lost : (u : Option Ask) → At (lost v) (noted t (Lost (open_now t.log) u ∷ []) [])
  at_lost u =
      let es : List Entry = Lost (open_now t.log) u ∷ [] in
      let none : (d : ℕ) → Quiet d es =
      λ d. record { no_welcome = refl; no_flags = refl; no_board = refl; no_sent = refl; no_order = refl } in
      let here : open_now (t.log ++ es) ≡ 0 = (open_append fibs) 0 t.log es in
      let q = at.numbered.none in
      record {
        conn = 0;
        is_open = here;
        logs_in = at.logs_in;
        no_toggle = at.no_toggle;
        has_connection = refl;
        has_welcome = ap (λ l. not (is_empty l)) (sym (map_no_more (welcomed_by 0) t.log es refl ∙ q.no_welcome));
        has_flags = ap last (sym (map_no_more (informed_by 0) t.log es refl ∙ q.no_flags));
        automove_gone = at.automove_gone ∙ ap (was_sent (plain_of automove_off)) (sym (append-nil t.commands));
        greedy_gone = at.greedy_gone ∙ ap (was_sent (plain_of greedy_off)) (sym (append-nil t.commands));
        on_board = ap last (sym (map_no_more (shown_by 0) t.log es refl ∙ q.no_board));
        not_confirmed =
            sym ((unconfirmed_none fibs) 0 (t.log ++ es) (map_no_more (shown_by 0) t.log es refl ∙ q.no_board));
        has_order = ap (λ l. is_given (last l)) (sym (map_no_more (orders_by 0) t.log es refl ∙ q.no_order));
        numbered = (numbered_silent fibs) t.log
            es at.numbered refl (subst (λ k. k ≤ connections t.log) (sym here) (omega arith)) none;
      }

  -- entries that say nothing of any connection: refused clicks, and what a server notes
  pub at_quiet : (es : List Entry) (texts : List (List ℕ)) (a g : Bool)
      → a ≡ was_sent (plain_of automove_off) (t.commands ++ texts)
      → g ≡ was_sent (plain_of greedy_off) (t.commands ++ texts)
      → flat_map opened_by es ≡ [] → open_now (t.log ++ es) ≡ open_now t.log
      → ((d : ℕ) → Quiet d es) → At (record v { automove_sent = a; greedy_sent = g }) (noted t es texts)
  at_quiet es texts a g ha hg h same quiet = record {
    conn = c;
    is_open = same ∙ at.is_open;
    logs_in = at.logs_in;
    no_toggle = at.no_toggle;
    has_connection = at.has_connection;
    has_welcome =
        at.has_welcome ∙ ap (λ l. not (is_empty l)) (sym (map_no_more (welcomed_by c) t.log es (quiet c).no_welcome));
    has_flags = at.has_flags ∙ ap last (sym (map_no_more (informed_by c) t.log es (quiet c).no_flags));
    automove_gone = ha;
    greedy_gone = hg;
    on_board = at.on_board ∙ ap last (sym (map_no_more (shown_by c) t.log es (quiet c).no_board));
    not_confirmed = at.not_confirmed ∙ sym ((unconfirmed_quiet fibs) c t.log es (quiet c).no_board (quiet c).no_sent);
    has_order =
        at.has_order ∙ ap (λ l. is_given (last l)) (sym (map_no_more (orders_by c) t.log es (quiet c).no_order));
    numbered =
        (numbered_silent fibs) t.log es at.numbered h
        (subst (λ k. k ≤ connections t.log) (sym same) at.numbered.below) quiet;
  }

  -- entries that say nothing of any connection, with commands that turn nothing off, leave the fields as they are
  pub at_silent : (es : List Entry) (texts : List (List ℕ)) → NoToggles texts → flat_map opened_by es ≡ []
      → open_now (t.log ++ es) ≡ open_now t.log → ((d : ℕ) → Quiet d es) → At v (noted t es texts)
  at_silent es texts off h same quiet =
      at_quiet es
      texts v.automove_sent v.greedy_sent (at.automove_gone ∙ sym (not_gone _ t.commands texts off.no_automove))
      (at.greedy_gone ∙ sym (not_gone _ t.commands texts off.no_greedy)) h same quiet

  -- nothing noted and nothing sent leaves the fields as they are
  pub unheard_law : At v (noted t [] [])
  unheard_law = at_silent [] [] no_texts refl (ap open_now (append-nil t.log)) silent

  -- a click that is refused
  pub at_refused : (d : Decision) (a : Option Refusal) → At v (noted t (Clicked (open_now t.log) d a ∷ []) [])
  at_refused d a = at_silent (Clicked (open_now t.log) d a ∷ []) []
      no_texts refl ((open_append fibs) 0 t.log (Clicked (open_now t.log) d a ∷ []))
      (λ d. record { no_welcome = refl; no_flags = refl; no_board = refl; no_sent = refl; no_order = refl })

  -- the answer to a click
  pub answer_law : (d : Decision) → answer_of v d ≡ answer_now t d
  answer_law d =
      let e = sym at.is_open in
      let o : not v.online ≡ nat_eq (open_now t.log) 0 = not_not _ _ at.has_connection ∙ ap (λ n. nat_eq n 0) e in
      let w : not v.welcomed ≡ is_empty (welcomed (open_now t.log) t.log) =
      not_not _ _ at.has_welcome ∙ ap (λ n. is_empty (welcomed n t.log)) e in
      let f : v.flags ≡ last (informed (open_now t.log) t.log) = at.has_flags ∙ ap (λ n. last (informed n t.log)) e in
      let i : not (is_some v.flags) ≡ is_empty (informed (open_now t.log) t.log) =
      not_not _ _ (ap is_some f ∙ (some_last fibs) (informed (open_now t.log) t.log)) in
      let b : v.shown ≡ last (shown (open_now t.log) t.log) = at.on_board ∙ ap (λ n. last (shown n t.log)) e in
      let k : is_some v.waiting ≡ is_spent (open_now t.log) t.log =
      ap is_some at.not_confirmed ∙ (some_spent fibs) c t.log ∙ ap (λ n. is_spent n t.log) e in
      cc

  -- a decision is sent, on the board that is shown
  asked_here : (b : Board) (d : Decision)
      → v.online ≡ true → last (shown c t.log) ≡ Some b → At (record v { waiting = Some (b, d) })
      (noted t (Sent c b d ∷ []) (command_of (direction_of b) d ∷ []))
  asked_here b d on lb =
      let es : List Entry = Sent c b d ∷ [] in
      let texts : List (List ℕ) = command_of (direction_of b) d ∷ [] in
      let off : NoToggles texts = one_text _ (decision_no_toggle (direction_of b) d) in
      let sp : is_spent c (t.log ++ es) ≡ true = (spent_sent fibs) c t.log b d (before_last _ b lb) in
      let ls : last (sent c (t.log ++ es)) ≡ Some (b, d) =
      ap last ((sent_more fibs) c t.log b d) ∙ last_snoc (sent c t.log) (b, d) in
      let un : unconfirmed c (t.log ++ es) ≡ Some (b, d) = rw (sp, ls) refl in
      let here : open_now (t.log ++ es) ≡ c = (open_append fibs) 0 t.log es ∙ at.is_open in
      record {
        conn = c;
        is_open = here;
        logs_in = at.logs_in;
        no_toggle = at.no_toggle;
        has_connection = at.has_connection;
        has_welcome = at.has_welcome ∙ ap (λ l. not (is_empty l)) (sym (map_no_more (welcomed_by c) t.log es refl));
        has_flags = at.has_flags ∙ ap last (sym (map_no_more (informed_by c) t.log es refl));
        automove_gone = at.automove_gone ∙ sym (not_gone _ t.commands texts off.no_automove);
        greedy_gone = at.greedy_gone ∙ sym (not_gone _ t.commands texts off.no_greedy);
        on_board = at.on_board ∙ ap last (sym (map_no_more (shown_by c) t.log es refl));
        not_confirmed = sym un;
        has_order = at.has_order ∙ ap (λ l. is_given (last l)) (sym (map_no_more (orders_by c) t.log es refl));
        numbered = (numbered_own fibs) t.log es
            c at.numbered refl at.is_open (not_zero c (sym on ∙ at.has_connection)) here
            (λ n. (quiet_sent fibs) c n b d);
      }

  -- the same, of the connection that is open now
  pub at_asked : (b : Board) (d : Decision)
      → v.online ≡ true → last (shown (open_now t.log) t.log) ≡ Some b → At (record v { waiting = Some (b, d) })
      (noted t (Sent (open_now t.log) b d ∷ []) (command_of (direction_of b) d ∷ []))
  at_asked b d on lb =
      subst (λ n. At (record v { waiting = Some (b, d) })
      (noted t (Sent n b d ∷ []) (command_of (direction_of b) d ∷ [])))
      (sym at.is_open) (asked_here b d on (ap (λ n. last (shown n t.log)) (sym at.is_open) ∙ lb))

  module _ (on : v.online ≡ true) where
    -- online the connection's number is not 0
    some : c ≡ 0 → ⊥
    some = not_zero c (sym on ∙ at.has_connection)

    -- message 1
    pub at_welcomed : (texts : List (List ℕ))
        → NoToggles texts → At (record v { welcomed = true }) (noted t (Welcomed c ∷ []) texts)
    at_welcomed texts off =
        let es : List Entry = Welcomed c ∷ [] in
        let here : open_now (t.log ++ es) ≡ c = (open_append fibs) 0 t.log es ∙ at.is_open in
        record {
          conn = c;
          is_open = here;
          logs_in = at.logs_in;
          no_toggle = at.no_toggle;
          has_connection = at.has_connection;
          has_welcome = snoc_some (welcomed c t.log) c
              ∙ ap (λ l. not (is_empty l)) (sym (map_more (welcomed_by c) t.log es (c ∷ []) ((own fibs) c c)));
          has_flags = at.has_flags ∙ ap last (sym (map_no_more (informed_by c) t.log es refl));
          automove_gone = at.automove_gone ∙ sym (not_gone _ t.commands texts off.no_automove);
          greedy_gone = at.greedy_gone ∙ sym (not_gone _ t.commands texts off.no_greedy);
          on_board = at.on_board ∙ ap last (sym (map_no_more (shown_by c) t.log es refl));
          not_confirmed = at.not_confirmed ∙ sym ((unconfirmed_quiet fibs) c t.log es refl refl);
          has_order = at.has_order ∙ ap (λ l. is_given (last l)) (sym (map_no_more (orders_by c) t.log es refl));
          numbered =
              (numbered_own fibs) t.log es c at.numbered refl at.is_open some here (λ d. (quiet_welcomed fibs) c d);
        }

    -- message 2
    pub at_informed : (f : Flags) (texts : List (List ℕ))
        → NoToggles texts → At (record v { flags = Some f }) (noted t (Informed c f ∷ []) texts)
    at_informed f texts off =
        let es : List Entry = Informed c f ∷ [] in
        let here : open_now (t.log ++ es) ≡ c = (open_append fibs) 0 t.log es ∙ at.is_open in
        record {
          conn = c;
          is_open = here;
          logs_in = at.logs_in;
          no_toggle = at.no_toggle;
          has_connection = at.has_connection;
          has_welcome = at.has_welcome ∙ ap (λ l. not (is_empty l)) (sym (map_no_more (welcomed_by c) t.log es refl));
          has_flags =
              sym (ap last (map_more (informed_by c) t.log es (f ∷ []) ((own fibs) c f))
              ∙ last_snoc (informed c t.log) f);
          automove_gone = at.automove_gone ∙ sym (not_gone _ t.commands texts off.no_automove);
          greedy_gone = at.greedy_gone ∙ sym (not_gone _ t.commands texts off.no_greedy);
          on_board = at.on_board ∙ ap last (sym (map_no_more (shown_by c) t.log es refl));
          not_confirmed = at.not_confirmed ∙ sym ((unconfirmed_quiet fibs) c t.log es refl refl);
          has_order = at.has_order ∙ ap (λ l. is_given (last l)) (sym (map_no_more (orders_by c) t.log es refl));
          numbered =
              (numbered_own fibs) t.log es c at.numbered refl at.is_open some here (λ d. (quiet_informed fibs) c d f);
        }

    -- a standing order is given or withdrawn
    pub at_order : (given : Bool) (es : List Entry) → ChangesOrder c given es
        → At (record v { ordered = given }) (noted t es [])
    at_order given es k =
        let here : open_now (t.log ++ es) ≡ c =
        (open_append fibs) 0 t.log es ∙ ap (λ n. open_from n es) at.is_open ∙ k.still in
        record {
          conn = c;
          is_open = here;
          logs_in = at.logs_in;
          no_toggle = at.no_toggle;
          has_connection = at.has_connection;
          has_welcome =
              at.has_welcome ∙ ap (λ l. not (is_empty l)) (sym (map_no_more (welcomed_by c) t.log es k.no_welcome));
          has_flags = at.has_flags ∙ ap last (sym (map_no_more (informed_by c) t.log es k.no_flags));
          automove_gone = at.automove_gone ∙ sym (not_gone _ t.commands [] refl);
          greedy_gone = at.greedy_gone ∙ sym (not_gone _ t.commands [] refl);
          on_board = at.on_board ∙ ap last (sym (map_no_more (shown_by c) t.log es k.no_board));
          not_confirmed = at.not_confirmed ∙ sym ((unconfirmed_quiet fibs) c t.log es k.no_board k.no_sent);
          has_order = sym (ap (λ l. is_given (last l)) (map_more (orders_by c) t.log es (given ∷ []) k.order)
              ∙ ap is_given (last_snoc (orders c t.log) given));
          numbered = (numbered_own fibs) t.log es c at.numbered k.no_opening at.is_open some here k.others;
        }

    module _ (likeness : IsLikeness same_game) where
      -- what still waits after a board
      waits : (b : Board) → still_waiting v.shown b v.waiting ≡ unconfirmed c (t.log ++ Shown c b ∷ [])
      waits b = go v.shown at.on_board
        where
          es : sent c (t.log ++ Shown c b ∷ []) ≡ sent c t.log
          es = map_no_more (sent_by c) t.log (Shown c b ∷ []) refl

          over : is_spent c (t.log ++ Shown c b ∷ []) ≡ false
              → None ≡ unconfirmed c (t.log ++ Shown c b ∷ [])
          over h = rw h refl

          go : (o : Option Board) → o ≡ last (shown c t.log)
              → still_waiting o b v.waiting ≡ unconfirmed c (t.log ++ Shown c b ∷ [])
          go None h =
              let n : shown c t.log ≡ [] = (none_last fibs) _ (sym h) in
              at.not_confirmed ∙ (unconfirmed_none fibs) c t.log n ∙ over ((spent_first fibs) likeness c t.log b n)
          go (Some a) h = elim (cases_Bool (same_game a b)) [
            | inl s ↦ rw s (at.not_confirmed
                ∙ ap (λ z. if z then last (sent c t.log) else None)
                (sym ((spent_same fibs) likeness c t.log a b (sym h) s))
                ∙ ap (λ l. if is_spent c (t.log ++ Shown c b ∷ []) then last l else None) (sym es))
            | inr f ↦ rw f (over ((spent_other fibs) likeness c t.log a b (sym h) f))
          ]

      -- a good board
      pub at_shown : (b : Board) → At (with_board v b) (noted t (Shown c b ∷ []) [])
      at_shown b =
          let es : List Entry = Shown c b ∷ [] in
          let here : open_now (t.log ++ es) ≡ c = (open_append fibs) 0 t.log es ∙ at.is_open in
          record {
            conn = c;
            is_open = here;
            logs_in = at.logs_in;
            no_toggle = at.no_toggle;
            has_connection = at.has_connection;
            has_welcome = at.has_welcome ∙ ap (λ l. not (is_empty l)) (sym (map_no_more (welcomed_by c) t.log es refl));
            has_flags = at.has_flags ∙ ap last (sym (map_no_more (informed_by c) t.log es refl));
            automove_gone = at.automove_gone ∙ sym (not_gone _ t.commands [] refl);
            greedy_gone = at.greedy_gone ∙ sym (not_gone _ t.commands [] refl);
            on_board = sym (ap last ((shown_more fibs) likeness c t.log b) ∙ last_snoc (shown c t.log) b);
            not_confirmed = waits b;
            has_order = at.has_order ∙ ap (λ l. is_given (last l)) (sym (map_no_more (orders_by c) t.log es refl));
            numbered =
                (numbered_own fibs) t.log es c at.numbered refl at.is_open some here (λ d. (quiet_shown fibs) c d b);
          }

      -- a board confirms by the fields what it confirms by the history
      pub confirmed_law : (b : Board) → confirmed_of v b ≡ confirmed_by_board c t.log b
      confirmed_law b =
          let e : is_some (still_waiting v.shown b v.waiting) ≡ is_spent c (t.log ++ Shown c b ∷ []) =
          ap is_some (waits b) ∙ (some_spent fibs) c (t.log ++ Shown c b ∷ []) in
          let w : v.waiting ≡ unconfirmed c t.log = at.not_confirmed in
          cc

-- two notings, one after the other
pub noted_twice : (t : Talk) (xs ys : List Entry) (ps qs : List (List ℕ))
    → noted (noted t xs ps) ys qs ≡ noted t (xs ++ ys) (ps ++ qs)
noted_twice t xs ys ps qs = ap (λ l. with_both l ((t.commands ++ ps) ++ qs)) (append_assoc t.log xs ys)
    ∙ ap (with_both (t.log ++ (xs ++ ys))) (append_assoc t.commands ps qs)
  where
    with_both : List Entry → List (List ℕ) → Talk
    with_both log texts = record { login = t.login; log = log; stream = t.stream; commands = texts }

-- a click with a yes, and the decision
pub at_sent : (v : SessionValue) (t : Talk) (at : At v t) (b : Board) (d : Decision)
    → v.online ≡ true → last (shown (open_now t.log) t.log) ≡ Some b → At (record v { waiting = Some (b, d) })
    (noted t (Clicked (open_now t.log) d None ∷ Sent (open_now t.log) b d ∷ []) (command_of (direction_of b) d ∷ []))
at_sent v t at b d on lb =
    let n = open_now t.log in
    let es : List Entry = Clicked n d None ∷ [] in
    let texts : List (List ℕ) = command_of (direction_of b) d ∷ [] in
    let t1 : Talk = noted t es [] in
    let same : open_now t1.log ≡ n = (open_append fibs) 0 t.log es in
    let lb1 : last (shown (open_now t1.log) t1.log) ≡ Some b =
    ap (λ m. last (shown m t1.log)) same ∙ ap last (map_no_more (shown_by n) t.log es refl) ∙ lb in
    subst (At (record v { waiting = Some (b, d) })) (noted_twice t es (Sent n b d ∷ []) [] texts)
    (subst (λ m. At (record v { waiting = Some (b, d) }) (noted t1 (Sent m b d ∷ []) texts))
    same (at_asked v t1 (at_refused v t at d None) b d on lb1))

-- a board, and a roll on it
pub at_rolled : (v : SessionValue) (t : Talk) (at : At v t)
    → v.online ≡ true → IsLikeness same_game → (b : Board) → At (record (with_board v b) { waiting = Some (b, roll) })
    (noted t (Shown at.conn b ∷ Sent at.conn b roll ∷ []) (command_of (direction_of b) roll ∷ []))
at_rolled v t at on likeness b =
    let n = at.conn in
    let w = with_board v b in
    let es : List Entry = Shown n b ∷ [] in
    let texts : List (List ℕ) = command_of (direction_of b) roll ∷ [] in
    let t1 : Talk = noted t es [] in
    let at1 : At w t1 = at_shown v t at on likeness b in
    let same : open_now t1.log ≡ n = (open_append fibs) 0 t.log es ∙ at.is_open in
    let lb : last (shown (open_now t1.log) t1.log) ≡ Some b =
    ap (λ m. last (shown m t1.log)) at1.is_open ∙ sym at1.on_board in
    subst (At (record w { waiting = Some (b, roll) })) (noted_twice t es (Sent n b roll ∷ []) [] texts)
    (subst (λ m. At (record w { waiting = Some (b, roll) }) (noted t1 (Sent m b roll ∷ []) texts))
    same (at_asked w t1 at1 b roll on lb))
